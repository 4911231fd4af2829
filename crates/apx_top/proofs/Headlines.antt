-- What the program promises of a run follows from how it ends.
use Rattle.std.proofs.Common.{◌≡◌, ℕ, ◌≤◌, ◌⊎◌, inl, inr, List, [], refl, sym, ap, ◌∙◌, subst, arith}
use Rattle.std.specs.Prelude.{Result, Ok, Err, Option, Some, None, IsSome, ⊤}
use Rattle.std.proofs.lemmas.List.{append-nil}
use Rattle.apx_cause.specs.Cause.{Rose}
use Rattle.apx_history.specs.declared.Entry.{Entry}
use Rattle.apx_device.specs.Folder.{AreTold}
use Rattle.apx_course.specs.declared.faults.CoreFault.{CoreFault}
use Rattle.apx_course.specs.declared.faults.CoreFault.TheVariants as fault
use Rattle.apx_course.specs.Faults.{status}
use Rattle.apx_script.specs.declared.settings.Settings.{Settings}
use Rattle.apx_pass.specs.Job.{Job}
use Rattle.apx_pass.specs.Pass.{windows}
use Rattle.apx_job.specs.Job.{plan_of}
use Rattle.apx_history.specs.Laws.{IsHistory}
use Rattle.apx_example.specs.Example.{example_job}
use Rattle.apx_cmd.specs.declared.commands.Command.{Command}
use Rattle.apx_cmd.specs.declared.commands.Command.TheVariants.{Check, Plan, Mean, Sim, Run, Gen, Group, Trace, Audit}
use Rattle.apx_cmd.specs.Commands.{command_of}
use Rattle.apx_load.specs.declared.stop.Stop.{Stop}
use Rattle.apx_load.specs.declared.stop.Stop.TheVariants.{Refused, CannotRead, VaultFailed, StoreFailed, SpoolFailed, StateDamaged, BlockDamaged, OutputFailed, Memory, Large}
use Rattle.apx_load.specs.First.{AreAccepted}
use Rattle.apx_load.specs.Jobs.{IsJob}
use Rattle.apx_load.specs.Refusals.{by_answers, by_files}
use Rattle.apx_load.specs.Stops.{IsCaused}
use Rattle.apx_load.proofs.Readings.{by-told, of-job}
use Rattle.apx_load.proofs.Stopping.{caused_weaker}
use Rattle.apx_load.proofs.Unique.{job-unique, accepted-or-refused}
use Rattle.apx_top.specs.declared.ended.History.{History}
use Rattle.apx_top.specs.declared.ended.History.TheVariants.{Nothing, Core}
use Rattle.apx_sim.specs.Headline.{EndsWhole, HasCheckpoints, left_by}
use Rattle.apx_top.specs.Changes.{DevicesChange, OutputChange, Call, held_tell}
use Rattle.apx_top.specs.Faults.{stop_of, shown_of, spool_of}
use Rattle.apx_top.specs.Headline.{RunsJob, IsRun, IsOneHistory, HasStored, HasKeptNeeded, text_of, IsAllPrinted, IsWholeRun, HasEndedWhole, HasLeftCheckpoints, running_causes, HasNamedCause}
use Rattle.apx_top.specs.Left.{Left, without_run, stopped_with, ran_to}
use Rattle.apx_top.specs.Lines.{status_of}
use Rattle.apx_load.proofs.Writing.{written-is-legal}
use Rattle.apx_top.specs.Trace.{HasTraced, IsTracedLegally, TracesLegally}
use Rattle.apx_top.specs.Plain.{RanAndPrinted, HasPrintedFiles, HasTracedFiles, stopped_reading, ran, HasMade, unmade, made, HasPerformed, HasEnded, no_command, unread, performed, IsSim}
use Rattle.apx_top.specs.Way.{Way, in_order, by_workers}
use Rattle.apx_top.specs.Run.{report_text, IsOfPass, GotText, IsUnprinted, HasRunAs, HasPrinted, HasReported, HasRun, unbegun, stopped, ended, printing_causes}
use Rattle.apx_top.proofs.Acting.{output_weaker}
use Rattle.apx_top.proofs.Running.{run_causes, HasRunCause, run_cause}

-- ---- small steps

same_command : (words : List (List ℕ)) (a b : Command) → command_of words ≡ Some a → command_of words ≡ Some b → a ≡ b
same_command words a b p q = cc

-- what isn't a run's is none
no_run : (journal : History) → ((es : List Entry) → journal ≡ Core es → ⊥) → journal ≡ Nothing
no_run Nothing none = refl
no_run (Core es) none = absurd (none es refl)

-- a run doesn't stop with a status of files
late : {F : Type 0} (job : Job) (devices : DevicesChange) (output : Type 0) (left : Left F) (stop : Stop) → IsCaused (run_causes job devices output left) stop → status_of stop ≤ 7 → ⊥
late job devices output left (Refused refusal) is few = is
late job devices output left (CannotRead name) is few = is
late job devices output left VaultFailed is few = omega (arith, few)
late job devices output left StoreFailed is few = omega (arith, few)
late job devices output left SpoolFailed is few = omega (arith, few)
late job devices output left StateDamaged is few = omega (arith, few)
late job devices output left BlockDamaged is few = omega (arith, few)
late job devices output left OutputFailed is few = omega (arith, few)
late job devices output left Memory is few = omega (arith, few)
late job devices output left Large is few = omega (arith, few)

-- a fault and its stop have one status
same_status : {F : Type 0} (met : CoreFault F) → status met ≡ status_of (stop_of met)
same_status fault.Vault = refl
same_status fault.Keeper = refl
same_status fault.Spools = refl
same_status (fault.Spool f) = refl
same_status (fault.State id bytes) = refl
same_status (fault.Block op part number window index last bytes) = refl
same_status fault.Memory = refl
same_status fault.Large = refl

-- an end with a stop
abbrev ends_with : Stop → Result ⊤ Stop
ends_with stop = Err stop

-- what a fault shows, it shows at its stop
shown_at : {F : Type 0} (met : CoreFault F) → IsSome (shown_of met) → (ends_with (stop_of met) ≡ Err StateDamaged) ⊎ (ends_with (stop_of met) ≡ Err BlockDamaged)
shown_at fault.Vault some = absurd cc
shown_at fault.Keeper some = absurd cc
shown_at fault.Spools some = absurd cc
shown_at (fault.Spool f) some = absurd cc
shown_at (fault.State id bytes) some = inl refl
shown_at (fault.Block op part number window index last bytes) some = inr refl
shown_at fault.Memory some = absurd cc
shown_at fault.Large some = absurd cc

-- and so with the fault of a spool
spool_at : {F : Type 0} (met : CoreFault F) → IsSome (spool_of met) → ends_with (stop_of met) ≡ Err SpoolFailed
spool_at fault.Vault some = absurd cc
spool_at fault.Keeper some = absurd cc
spool_at fault.Spools some = absurd cc
spool_at (fault.Spool f) some = refl
spool_at (fault.State id bytes) some = absurd cc
spool_at (fault.Block op part number window index last bytes) some = absurd cc
spool_at fault.Memory some = absurd cc
spool_at fault.Large some = absurd cc

-- where nothing is written a front of any text is
unwritten : (text : List ℕ) (output : OutputChange) → IsUnprinted output → GotText text output
unwritten text output same tells = record { front = []; rest = text; split = refl; got = same ∙ sym (append-nil output.before) }

-- what a command prints of a run that came to its end
abbrev pub PrintedBy : Command → Job → List Entry → DevicesChange → (output errors : OutputChange) → Result ⊤ Stop → Type 0
PrintedBy (Gen number size) job es devices output errors end = HasReported job es devices output end
PrintedBy (Trace app script settings order) job es devices output errors end = HasTraced job es devices output errors end
PrintedBy command job es devices output errors end = HasPrinted job es devices output errors end

-- ---- a run that happened

-- what a run with this journal has left: it stopped with a fault, or came to its end
pub data HasHappened {F : Type 0} (U : Type 0) (P : List Entry → Result ⊤ Stop → Type 0) (job : Job) (way : Way) (devices : DevicesChange) (left : Left F) (es : List Entry) : Type 0 where
  stopped_as : (met : CoreFault F) → left ≡ stopped_with es met → HasRunAs job way devices es (Some met) → U → HasHappened U P job way devices left es
  ended_as : (end : Result ⊤ Stop) → left ≡ ran_to es end → HasRunAs {F = F} job way devices es None → P es end → HasHappened U P job way devices left es

module _ {F : Type 0} (U : Type 0) (P : List Entry → Result ⊤ Stop → Type 0) (job : Job) (way : Way) (devices : DevicesChange) (left : Left F) (es : List Entry) where
  happened : HasRun U P job way devices left → left.journal ≡ Core es → HasHappened U P job way devices left es
  happened (unbegun stop is caused beyond same u) core = absurd (let e = ap (λ (l : Left F). l.journal) is in cc)
  happened (stopped other met is done u) core =
      let e : other ≡ es = (let j = ap (λ (l : Left F). l.journal) is in cc) in
      subst (λ (x : List Entry). HasHappened U P job way devices left x) e (stopped_as met is done u)
  happened (ended other end is done p) core =
      let e : other ≡ es = (let j = ap (λ (l : Left F). l.journal) is in cc) in
      subst (λ (x : List Entry). HasHappened U P job way devices left x) e (ended_as end is done p)

-- ---- the run that words and files ask for

module _ {F : Type 0} (words : List (List ℕ)) (call : Call) (left : Left F) (over : HasEnded words call left) (files : List ℕ → Option (List ℕ)) (told : AreTold files call.answers) where
  abbrev wanted : Job → Way → Type 0
  wanted job way = IsRun (by_files files) words job way

  -- how a command ran a job
  abbrev RanBy : Command → Job → Way → Type 0
  RanBy command job way =
      HasRun (IsUnprinted call.output) (λ es end. PrintedBy command job es call.devices call.output call.errors end) job way call.devices left

  -- nothing ran
  record IsUnrun : Type 0 where
    stop : Stop
    is : left ≡ without_run (Err stop)

  same_job : (app : List ℕ) (script : Option (List ℕ)) (settings : Settings) (job other : Job) → IsJob (by_answers call.answers) app script settings job → IsJob (by_files files) app script settings other → job ≡ other
  same_job app script settings job other is that = job-unique files app script settings job other (of-job (by_answers call.answers) (by_files files) (by-told files call.answers told) app script settings job is) that

  printed_files : (app : List ℕ) (script : Option (List ℕ)) (settings : Settings) (picked : Way) (job : Job) (way : Way) → IsJob (by_files files) app script settings job → way ≡ picked → HasPrintedFiles app script settings picked call left → RanAndPrinted job way call left ⊎ IsUnrun
  printed_files app script settings picked job way is same (stopped_reading stop read caused kept unprinted) = inr (record { stop = stop; is = read })
  printed_files app script settings picked job way is same (ran other read run) =
      inl (subst (λ (o : Way). RanAndPrinted job o call left) (sym same)
      (subst (λ (j : Job). RanAndPrinted j picked call left) (same_job app script settings other job read is) run))

  traced : (app : List ℕ) (script : Option (List ℕ)) (settings : Settings) (picked : ℕ) (job : Job) (way : Way) → IsJob (by_files files) app script settings job → way ≡ in_order picked → HasTracedFiles app script settings picked call left → RanBy (Trace app script settings picked) job way ⊎ IsUnrun
  traced app script settings picked job way is same (stopped_reading stop read caused kept unprinted) = inr (record { stop = stop; is = read })
  traced app script settings picked job way is same (ran other read run) =
      inl (subst (λ (o : Way). RanBy (Trace app script settings picked) job o) (sym same)
      (subst (λ (j : Job). RanBy (Trace app script settings picked) j (in_order picked)) (same_job app script settings other job read is) run))

  generated : (number size : ℕ) (job : Job) (way : Way) → job ≡ example_job number size → way ≡ in_order number → HasMade number size call.devices call.output left → RanBy (Gen number size) job way ⊎ IsUnrun
  generated number size job way is same (unmade none kept unprinted) = inr (record { stop = Memory; is = none })
  generated number size job way is same (made run) =
      inl (subst (λ (o : Way). RanBy (Gen number size) job o) (sym same)
      (subst (λ (j : Job). RanBy (Gen number size) j (in_order number)) (sym is) run))

  by_command : (command : Command) (job : Job) (way : Way) → RunsJob (by_files files) command job way → HasPerformed command call left → RanBy command job way ⊎ IsUnrun
  by_command (Sim app script settings order) job way runs done = printed_files app script settings (in_order order) job way runs.0 runs.1 done
  by_command (Run app script settings threads) job way runs done = printed_files app script settings (by_workers threads) job way runs.0 runs.1 done
  by_command (Gen number size) job way runs done = generated number size job way runs.0 runs.1 done.generated
  by_command (Trace app script settings picked) job way runs done = traced app script settings picked job way runs.0 runs.1 done
  by_command _ job way runs done = absurd runs

  -- how the run that was asked for went
  went : (job : Job) (way : Way) (run : wanted job way) → RanBy run.command job way ⊎ IsUnrun
  went job way run = by_end over
    where
      by_end : HasEnded words call left → RanBy run.command job way ⊎ IsUnrun
      by_end (no_command none stayed) = absurd (let some = run.words_are in cc)
      by_end (unread some stayed) = inr (record { stop = Memory; is = stayed.is })
      by_end (performed command is done) =
          by_command run.command job way run.runs (subst (λ (c : Command). HasPerformed c call left) (same_command words command run.command is run.words_are) done)

  abbrev HappenedBy : Command → Job → Way → List Entry → Type 0
  HappenedBy command job way es =
      HasHappened (IsUnprinted call.output) (λ xs end. PrintedBy command job xs call.devices call.output call.errors end) job way call.devices left es

  -- what the run that was asked for has left, where it happened
  of_run : (job : Job) (way : Way) (run : wanted job way) (es : List Entry) → left.journal ≡ Core es → HappenedBy run.command job way es
  of_run job way run es core = by_way (went job way run)
    where
      by_way : RanBy run.command job way ⊎ IsUnrun → HappenedBy run.command job way es
      by_way (inl ran_so) = happened (IsUnprinted call.output) (λ xs end. PrintedBy run.command job xs call.devices call.output call.errors end) job way call.devices left es ran_so core
      by_way (inr none) = absurd (let e = ap (λ (l : Left F). l.journal) none.is in cc)

  -- what it did, whether or not it stopped
  did : (command : Command) (job : Job) (way : Way) (es : List Entry) (P : Option (CoreFault F) → Type 0) → ((met : Option (CoreFault F)) → HasRunAs job way call.devices es met → P met) → HappenedBy command job way es → (met : Option (CoreFault F)) × P met
  did command job way es P get (stopped_as met is run u) = (Some met, get (Some met) run)
  did command job way es P get (ended_as end is run p) = (None, get None run)

  -- ---- one history

  module _ (es : List Entry) (core : left.journal ≡ Core es) where
    abbrev Asked : Type 0
    Asked = (job : Job) × (way : Way) × wanted job way × (call.devices.store.last_before ≤ windows job.flow)

    by_run : (U : Type 0) (P : List Entry → Result ⊤ Stop → Type 0) (job : Job) (way : Way) → wanted job way → HasRun U P job way call.devices left → Asked
    by_run U P job way run ran_so = few (happened U P job way call.devices left es ran_so core)
      where
        few : HasHappened U P job way call.devices left es → Asked
        few (stopped_as met is done u) = (job, way, run, done.few)
        few (ended_as end is done p) = (job, way, run, done.few)

    nothing : (end : Result ⊤ Stop) → left ≡ without_run end → Asked
    nothing end is = absurd (let e = ap (λ (l : Left F). l.journal) is in cc)

    by_made : (number size : ℕ) → command_of words ≡ Some (Gen number size) → HasMade number size call.devices call.output left → Asked
    by_made number size is (unmade none kept unprinted) = nothing (Err Memory) none
    by_made number size is (made run) = by_run _ _ (example_job number size) (in_order number) (record { command = Gen number size; words_are = is; runs = (refl, refl) }) run

    by_printed : (app : List ℕ) (script : Option (List ℕ)) (settings : Settings) (picked : Way) → ((job : Job) → IsJob (by_files files) app script settings job → wanted job picked) → HasPrintedFiles app script settings picked call left → Asked
    by_printed app script settings picked runs (stopped_reading stop none caused kept unprinted) = nothing (Err stop) none
    by_printed app script settings picked runs (ran job read run) =
        by_run _ _ job picked (runs job (of-job (by_answers call.answers) (by_files files) (by-told files call.answers told) app script settings job read)) run

    by_trace : (app : List ℕ) (script : Option (List ℕ)) (settings : Settings) (order : ℕ) → command_of words ≡ Some (Trace app script settings order) → HasTracedFiles app script settings order call left → Asked
    by_trace app script settings order is (stopped_reading stop none caused kept unprinted) = nothing (Err stop) none
    by_trace app script settings order is (ran job read run) =
        by_run _ _ job (in_order order) (record { command = Trace app script settings order; words_are = is; runs = (of-job (by_answers call.answers) (by_files files) (by-told files call.answers told) app script settings job read, refl) }) run

    asked_by : (command : Command) → command_of words ≡ Some command → HasPerformed command call left → Asked
    asked_by (Check app) is done = nothing done.judged.end done.judged.is
    asked_by (Plan app) is done = nothing done.judged.end done.judged.is
    asked_by (Mean app base) is done = nothing done.end done.is
    asked_by (Sim app script settings order) is done =
        by_printed app script settings (in_order order) (λ job read. record { command = Sim app script settings order; words_are = is; runs = (read, refl) }) done
    asked_by (Run app script settings threads) is done =
        by_printed app script settings (by_workers threads) (λ job read. record { command = Run app script settings threads; words_are = is; runs = (read, refl) }) done
    asked_by (Gen number size) is done = by_made number size is done.generated
    asked_by (Group app groups script settings) is done = nothing _ done.is
    asked_by (Trace app script settings order) is done = by_trace app script settings order is done
    asked_by (Audit app journal script settings) is done = nothing done.end done.is

    asked_of : HasEnded words call left → Asked
    asked_of (no_command none stayed) = nothing _ stayed.is
    asked_of (unread some stayed) = nothing _ stayed.is
    asked_of (performed command is done) = asked_by command is done

  module _ (none : left.journal ≡ Nothing) where
    same_run : (U : Type 0) (P : List Entry → Result ⊤ Stop → Type 0) (job : Job) (way : Way) → HasRun U P job way call.devices left → call.devices.stores_same
    same_run U P job way (unbegun stop is caused beyond same u) = same
    same_run U P job way (stopped es met is run u) = absurd (let e = ap (λ (l : Left F). l.journal) is in cc)
    same_run U P job way (ended es end is run p) = absurd (let e = ap (λ (l : Left F). l.journal) is in cc)

    same_printed : (app : List ℕ) (script : Option (List ℕ)) (settings : Settings) (way : Way) → HasPrintedFiles app script settings way call left → call.devices.stores_same
    same_printed app script settings way (stopped_reading stop is caused kept unprinted) = kept.0
    same_printed app script settings way (ran job read run) = same_run _ _ job way run

    same_trace : (app : List ℕ) (script : Option (List ℕ)) (settings : Settings) (order : ℕ) → HasTracedFiles app script settings order call left → call.devices.stores_same
    same_trace app script settings order (stopped_reading stop is caused kept unprinted) = kept.0
    same_trace app script settings order (ran job read run) = same_run _ _ job (in_order order) run

    same_made : (number size : ℕ) → HasMade number size call.devices call.output left → call.devices.stores_same
    same_made number size (unmade is kept unprinted) = kept.0
    same_made number size (made run) = same_run _ _ (example_job number size) (in_order number) run

    same_by : (command : Command) → HasPerformed command call left → call.devices.stores_same
    same_by (Check app) done = done.judged.same.0
    same_by (Plan app) done = done.judged.same.0
    same_by (Mean app base) done = done.same.0
    same_by (Sim app script settings order) done = same_printed app script settings (in_order order) done
    same_by (Run app script settings threads) done = same_printed app script settings (by_workers threads) done
    same_by (Gen number size) done = same_made number size done.generated
    same_by (Group app groups script settings) done = done.same.0
    same_by (Trace app script settings order) done = same_trace app script settings order done
    same_by (Audit app journal script settings) done = done.same.0

    same_of : HasEnded words call left → call.devices.stores_same
    same_of (no_command unknown stayed) = stayed.same.0
    same_of (unread some stayed) = stayed.same.0
    same_of (performed command is done) = same_by command done

  -- what runs is accepted
  accepted_by : (command : Command) (job : Job) (way : Way) → command_of words ≡ Some command → RunsJob (by_files files) command job way → AreAccepted (by_files files) words
  accepted_by (Sim app script settings order) job way is runs = record { command = Sim app script settings order; words_are = is; files = (job, runs.0) }
  accepted_by (Run app script settings threads) job way is runs = record { command = Run app script settings threads; words_are = is; files = (job, runs.0) }
  accepted_by (Gen number size) job way is runs = record { command = Gen number size; words_are = is; files = tt }
  accepted_by (Trace app script settings picked) job way is runs = record { command = Trace app script settings picked; words_are = is; files = (job, runs.0) }
  accepted_by _ job way is runs = absurd runs

  -- what stops printing
  stop_of_printing : (command : Command) (job : Job) (es : List Entry) (stop : Stop) → PrintedBy command job es call.devices call.output call.errors (Err stop) → IsCaused (printing_causes (Rose call.devices.before.keeper call.devices.now.keeper) (call.output.rose ⊎ call.errors.rose)) stop
  stop_of_printing (Gen number size) job es stop printed = output_weaker _ _ _ stop (printed.cause stop refl)
  stop_of_printing (Check app) job es stop printed = printed.cause stop refl
  stop_of_printing (Plan app) job es stop printed = printed.cause stop refl
  stop_of_printing (Mean app base) job es stop printed = printed.cause stop refl
  stop_of_printing (Sim app script settings order) job es stop printed = printed.cause stop refl
  stop_of_printing (Run app script settings threads) job es stop printed = printed.cause stop refl
  stop_of_printing (Group app groups script settings) job es stop printed = printed.cause stop refl
  stop_of_printing (Trace app script settings order) job es stop printed = printed.cause stop refl
  stop_of_printing (Audit app journal script settings) job es stop printed = printed.cause stop refl

  -- a run has a cause where it stopped
  stop_cause : (job : Job) (way : Way) (run : wanted job way) (stop : Stop) → left.end ≡ Err stop → (es : List Entry) → left.journal ≡ Core es → IsCaused (run_causes job call.devices (call.output.rose ⊎ call.errors.rose) left) stop
  stop_cause job way run stop stops es core =
      subst (HasRunCause job call.devices (call.output.rose ⊎ call.errors.rose) left) stops (by_way (went job way run))
    where
      by_way : RanBy run.command job way ⊎ IsUnrun → HasRunCause job call.devices (call.output.rose ⊎ call.errors.rose) left left.end
      by_way (inl ran_so) = run_cause _ _ job way call.devices (call.output.rose ⊎ call.errors.rose) left (λ xs at printed. stop_of_printing run.command job xs at printed) ran_so
      by_way (inr none) = absurd (let e = ap (λ (l : Left F). l.journal) none.is in cc)

  pub one-history : IsOneHistory (by_files files) words left call.devices
  one-history = record {
    history = λ job way es run core. (did run.command job way es (λ met. HasRunAs job way call.devices es met) (λ met done. done) (of_run job way run es core)).1.history;
    asked = λ es core. asked_of es core over;
    refused = λ refusal is. no_run left.journal (λ es core.
        let asked = asked_of es core over in
        accepted-or-refused files words refusal (accepted_by asked.2.command asked.0 asked.1 asked.2.words_are asked.2.runs) is);
    unread = λ stop stops few. no_run left.journal (λ es core.
        let asked = asked_of es core over in
        late asked.0 call.devices (call.output.rose ⊎ call.errors.rose) left stop (stop_cause asked.0 asked.1 asked.2 stop stops es core) few);
    same = λ none. same_of none over;
  }

  -- ---- the store, purging, the checkpoints

  pub has-stored : HasStored (by_files files) words left.journal call.devices
  has-stored job way es run core = (did run.command job way es (λ met. HasRunAs job way call.devices es met) (λ met done. done) (of_run job way run es core)).1.store

  pub has-kept-needed : HasKeptNeeded (by_files files) words left.journal call.devices
  has-kept-needed job way es run core = (did run.command job way es (λ met. HasRunAs job way call.devices es met) (λ met done. done) (of_run job way run es core)).1.needed

  pub has-left-checkpoints : HasLeftCheckpoints (by_files files) words left call.devices
  has-left-checkpoints done job way es run core = by_way (of_run job way run es core)
    where
      by_way : HappenedBy run.command job way es → HasCheckpoints {F = F} job (held_tell call.devices) call.devices.vault.tells None call.devices.vault.before call.devices.vault.after
      by_way (stopped_as met is run u) = absurd (let e = ap (λ (l : Left F). l.end) is in cc)
      by_way (ended_as end is run p) = run.checkpoints

  -- ---- the end

  all_printed : (command : Command) (job : Job) (es : List Entry) → PrintedBy command job es call.devices call.output call.errors (Ok tt) → IsOfPass job call.devices → IsAllPrinted command job es call.output call.errors
  all_printed (Gen number size) job es printed pass = printed.whole refl pass
  all_printed (Check app) job es printed pass = printed.whole refl pass
  all_printed (Plan app) job es printed pass = printed.whole refl pass
  all_printed (Mean app base) job es printed pass = printed.whole refl pass
  all_printed (Sim app script settings order) job es printed pass = printed.whole refl pass
  all_printed (Run app script settings threads) job es printed pass = printed.whole refl pass
  all_printed (Group app groups script settings) job es printed pass = printed.whole refl pass
  all_printed (Trace app script settings order) job es printed pass = (printed.journal refl, printed.report refl pass)
  all_printed (Audit app journal script settings) job es printed pass = printed.whole refl pass

  pub has-ended-whole : HasEndedWhole (by_files files) words left call.devices call.output call.errors
  has-ended-whole finished job way run = by_way (went job way run)
    where
      Whole : Type 0
      Whole = (es : List Entry) × (left.journal ≡ Core es) × IsWholeRun F run.command job es call.devices call.output call.errors

      by_run : RanBy run.command job way → Whole
      by_run (unbegun stop is caused beyond same u) = absurd (let e = ap (λ (l : Left F). l.end) is in cc)
      by_run (stopped es met is done u) = absurd (let e = ap (λ (l : Left F). l.end) is in cc)
      by_run (ended es end is done p) =
          let e : end ≡ Ok tt = (let e = ap (λ (l : Left F). l.end) is in cc) in
          let printed = subst (PrintedBy run.command job es call.devices call.output call.errors) e p in
          (es, ap (λ (l : Left F). l.journal) is, record { ended = done.whole; printed = all_printed run.command job es printed })

      by_way : RanBy run.command job way ⊎ IsUnrun → Whole
      by_way (inl ran_so) = by_run ran_so
      by_way (inr none) = absurd (let e = ap (λ (l : Left F). l.end) none.is in cc)

  trace_legal : (app : List ℕ) (script : Option (List ℕ)) (settings : Settings) (order : ℕ) (job : Job) → command_of words ≡ Some (Trace app script settings order) → IsJob (by_files files) app script settings job → left.end ≡ Ok tt → call.devices.store.last_before ≡ 0 → IsTracedLegally app script settings job left call.output
  trace_legal app script settings order job is read done none = by_way (went job (in_order order) asked)
    where
      asked : wanted job (in_order order)
      asked = record { command = Trace app script settings order; words_are = is; runs = (read, refl) }

      by_run : RanBy (Trace app script settings order) job (in_order order) → IsTracedLegally app script settings job left call.output
      by_run (unbegun stop is caused beyond same u) = absurd (let e = ap (λ (l : Left F). l.end) is in cc)
      by_run (stopped es met is facts u) = absurd (let e = ap (λ (l : Left F). l.end) is in cc)
      by_run (ended es end is facts p) =
          let e : end ≡ Ok tt = (let e = ap (λ (l : Left F). l.end) is in cc) in
          let printed : HasTraced job es call.devices call.output call.errors (Ok tt) = subst (HasTraced job es call.devices call.output call.errors) e p in
          record {
            es = es;
            happened = ap (λ (l : Left F). l.journal) is;
            printed = printed.journal refl;
            legal = written-is-legal job app script settings es (printed.entries refl)
                (subst (λ (s : ℕ). IsHistory (plan_of job) s 0 es) none facts.history.history);
          }

      by_way : RanBy (Trace app script settings order) job (in_order order) ⊎ IsUnrun → IsTracedLegally app script settings job left call.output
      by_way (inl ran_so) = by_run ran_so
      by_way (inr unrun) = absurd (let e = ap (λ (l : Left F). l.end) unrun.is in cc)

  trace_unprinted : (app : List ℕ) (script : Option (List ℕ)) (settings : Settings) (order : ℕ) → command_of words ≡ Some (Trace app script settings order) → left.end ≡ Err StoreFailed → IsUnprinted call.output
  trace_unprinted app script settings order is failed = by_end over
    where
      by_run : (job : Job) → HasRun (IsUnprinted call.output) (λ es end. HasTraced job es call.devices call.output call.errors end) job (in_order order) call.devices left → IsUnprinted call.output
      by_run job (unbegun stop left_is caused beyond same u) = u
      by_run job (stopped es met left_is facts u) = u
      by_run job (ended es end left_is facts p) = p.unprinted (let e = ap (λ (l : Left F). l.end) left_is in cc)

      by_job : HasTracedFiles app script settings order call left → IsUnprinted call.output
      by_job (stopped_reading stop left_is caused kept unprinted) = unprinted
      by_job (ran job read run) = by_run job run

      by_end : HasEnded words call left → IsUnprinted call.output
      by_end (no_command none stayed) = stayed.unprinted
      by_end (unread some stayed) = stayed.unprinted
      by_end (performed command words_are done) =
          by_job (subst (λ (c : Command). HasPerformed c call left) (same_command words command (Trace app script settings order) words_are is) done)

  pub traces-legally : TracesLegally (by_files files) words left call.devices call.output
  traces-legally = record { legal = trace_legal; unprinted = trace_unprinted }

  -- ---- the causes

  front_by : (command : Command) (job : Job) (es : List Entry) (stop : Stop) → PrintedBy command job es call.devices call.output call.errors (Err stop) → IsOfPass job call.devices → GotText (text_of command job es) call.output
  front_by (Gen number size) job es stop printed pass = printed.front stop refl pass
  front_by (Check app) job es stop printed pass = printed.front stop refl pass
  front_by (Plan app) job es stop printed pass = printed.front stop refl pass
  front_by (Mean app base) job es stop printed pass = printed.front stop refl pass
  front_by (Sim app script settings order) job es stop printed pass = printed.front stop refl pass
  front_by (Run app script settings threads) job es stop printed pass = printed.front stop refl pass
  front_by (Group app groups script settings) job es stop printed pass = printed.front stop refl pass
  front_by (Trace app script settings order) job es stop printed pass = printed.front stop refl
  front_by (Audit app journal script settings) job es stop printed pass = printed.front stop refl pass

  report_by : (command : Command) (job : Job) (es : List Entry) → IsSim (Some command) → PrintedBy command job es call.devices call.output call.errors (Err OutputFailed) → IsOfPass job call.devices → GotText (report_text job es) call.errors
  report_by (Sim app script settings order) job es is printed pass = printed.report_front refl pass
  report_by (Run app script settings threads) job es is printed pass = printed.report_front refl pass
  report_by (Trace app script settings order) job es is printed pass = printed.report_front refl pass
  report_by _ job es is printed pass = absurd is

  -- what it left has no bytes that a run without a fault shows, nor a fault of a spool
  abbrev IsLeft : Left F → Type 0
  IsLeft l = (IsSome l.shown → (l.end ≡ Err StateDamaged) ⊎ (l.end ≡ Err BlockDamaged)) × (IsSome l.spool → l.end ≡ Err SpoolFailed)

  left_none : (end : Result ⊤ Stop) → left ≡ without_run end → IsLeft left
  left_none end is = subst IsLeft (sym is) ((λ some. absurd cc), (λ some. absurd cc))

  left_run : (U : Type 0) (P : List Entry → Result ⊤ Stop → Type 0) (job : Job) (way : Way) → HasRun U P job way call.devices left → IsLeft left
  left_run U P job way (unbegun stop is caused beyond same u) = left_none (Err stop) is
  left_run U P job way (stopped es met is done u) = subst IsLeft (sym is) (shown_at met, spool_at met)
  left_run U P job way (ended es end is done p) = subst IsLeft (sym is) ((λ some. absurd cc), (λ some. absurd cc))

  left_printed : (app : List ℕ) (script : Option (List ℕ)) (settings : Settings) (way : Way) → HasPrintedFiles app script settings way call left → IsLeft left
  left_printed app script settings way (stopped_reading stop is caused kept unprinted) = left_none (Err stop) is
  left_printed app script settings way (ran job read run) = left_run _ _ job way run

  left_trace : (app : List ℕ) (script : Option (List ℕ)) (settings : Settings) (order : ℕ) → HasTracedFiles app script settings order call left → IsLeft left
  left_trace app script settings order (stopped_reading stop is caused kept unprinted) = left_none (Err stop) is
  left_trace app script settings order (ran job read run) = left_run _ _ job (in_order order) run

  left_made : (number size : ℕ) → HasMade number size call.devices call.output left → IsLeft left
  left_made number size (unmade is kept unprinted) = left_none (Err Memory) is
  left_made number size (made run) = left_run _ _ (example_job number size) (in_order number) run

  left_by_command : (command : Command) → HasPerformed command call left → IsLeft left
  left_by_command (Check app) done = left_none done.judged.end done.judged.is
  left_by_command (Plan app) done = left_none done.judged.end done.judged.is
  left_by_command (Mean app base) done = left_none done.end done.is
  left_by_command (Sim app script settings order) done = left_printed app script settings (in_order order) done
  left_by_command (Run app script settings threads) done = left_printed app script settings (by_workers threads) done
  left_by_command (Gen number size) done = left_made number size done.generated
  left_by_command (Group app groups script settings) done = left_none _ done.is
  left_by_command (Trace app script settings order) done = left_trace app script settings order done
  left_by_command (Audit app journal script settings) done = left_none done.end done.is

  is_left : HasEnded words call left → IsLeft left
  is_left (no_command none stayed) = left_none _ stayed.is
  is_left (unread some stayed) = left_none _ stayed.is
  is_left (performed command is done) = left_by_command command done

  module _ (stop : Stop) (stops : left.end ≡ Err stop) (job : Job) (way : Way) (run : wanted job way) (es : List Entry) (core : left.journal ≡ Core es) where
    named : IsCaused (running_causes (by_files files) words left call.devices (call.output.rose ⊎ call.errors.rose)) stop
    named =
        caused_weaker (run_causes job call.devices (call.output.rose ⊎ call.errors.rose) left) (running_causes (by_files files) words left call.devices (call.output.rose ⊎ call.errors.rose)) stop
        (record {
          refuses = λ refusal none. none;
          unread = λ name none. none;
          vault = λ rose. rose;
          store = λ rose. rose;
          spool = λ rose. rose;
          state = λ shown. shown;
          block = λ shown. record { job = job; way = way; run = run; block = shown };
          output = λ rose. rose;
          large = λ large. record { job = job; way = way; run = run; large = large };
        }) (stop_cause job way run stop stops es core)

    abbrev Told : Type 0
    Told =
        ((left_by job call.devices.store.last_before es).fault ≡ Some (status_of stop)) × IsUnprinted call.output
        ⊎ EndsWhole {F = F} job call.devices.store.last_before es None
        × IsCaused (printing_causes (Rose call.devices.before.keeper call.devices.now.keeper) (call.output.rose ⊎ call.errors.rose)) stop

    ended_stop : (end : Result ⊤ Stop) → left ≡ ran_to es end → end ≡ Err stop
    ended_stop end is = let e = ap (λ (l : Left F). l.end) is in cc

    told_by : HappenedBy run.command job way es → Told
    told_by (stopped_as met is done u) =
        let e : stop_of met ≡ stop = (let e = ap (λ (l : Left F). l.end) is in cc) in
        inl (done.stopped.status ∙ ap Some (same_status met ∙ ap status_of e), u)
    told_by (ended_as end is done p) =
        inr (done.whole, stop_of_printing run.command job es stop (subst (PrintedBy run.command job es call.devices call.output call.errors) (ended_stop end is) p))

    printed_front : IsOfPass job call.devices → HappenedBy run.command job way es → GotText (text_of run.command job es) call.output
    printed_front pass (stopped_as met is done u) = unwritten (text_of run.command job es) call.output u
    printed_front pass (ended_as end is done p) =
        front_by run.command job es stop (subst (PrintedBy run.command job es call.devices call.output call.errors) (ended_stop end is) p) pass

  no_output : {F : Type 0} (met : CoreFault F) → stop_of met ≡ OutputFailed → ⊥
  no_output fault.Vault is = cc
  no_output fault.Keeper is = cc
  no_output fault.Spools is = cc
  no_output (fault.Spool f) is = cc
  no_output (fault.State id bytes) is = cc
  no_output (fault.Block op part number window index last bytes) is = cc
  no_output fault.Memory is = cc
  no_output fault.Large is = cc

  report_front : left.end ≡ Err OutputFailed → (job : Job) (way : Way) (run : wanted job way) (es : List Entry) → left.journal ≡ Core es → IsSim (Some run.command) → IsOfPass job call.devices → GotText (report_text job es) call.errors
  report_front failed job way run es core sim pass = by_way (of_run job way run es core)
    where
      by_way : HappenedBy run.command job way es → GotText (report_text job es) call.errors
      by_way (stopped_as met is done u) = absurd (no_output met (let e = ap (λ (l : Left F). l.end) is in cc))
      by_way (ended_as end is done p) =
          report_by run.command job es sim (subst (PrintedBy run.command job es call.devices call.output call.errors) (ended_stop OutputFailed failed job way run es core end is) p) pass

  pub has-named-cause : HasNamedCause (by_files files) words left call.devices call.output call.errors
  has-named-cause = record {
    cause = λ stop stops job way es run core. named stop stops job way run es core;
    status = λ stop stops job way es run core. told_by stop stops job way run es core (of_run job way run es core);
    front = λ stop stops job way run es core pass. printed_front stop stops job way run es core pass (of_run job way run es core);
    report = report_front;
    shown = (is_left over).0;
    spool = (is_left over).1;
  }
