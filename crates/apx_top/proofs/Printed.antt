-- How the run of a job ends, by what its parts ensure.
use Rattle.std.proofs.Common.{◌≡◌, ℕ, ◌≤◌, ◌<◌, ◌⊎◌, inl, inr, List, [], ◌∷◌, ◌++◌, take, length, Bool, true, false, refl, sym, ap, ◌∙◌, subst, arith, IsTrue, IfErr}
use Rattle.std.specs.Prelude.{Result, Ok, Err, IsErr, IfOk, OnOk, MatchResult, Option, None, ◌&&◌, ⊤}
use Rattle.apx_cause.specs.Cause.{Rose, HasCause}
use Rattle.apx_tuple.specs.declared.tuple.Tuple.{Tuple}
use Rattle.apx_device.specs.Out.{GotFront}
use Rattle.apx_history.specs.declared.Entry.{Entry}
use Rattle.apx_core.specs.declared.closing.Closed.{Closed}
use Rattle.apx_core.specs.declared.opening.StartFault.{StartFault}
use Rattle.apx_core.specs.declared.opening.StartFault.TheVariants as start
use Rattle.apx_course.specs.declared.faults.CoreFault.{CoreFault}
use Rattle.apx_pass.specs.Job.{Job}
use Rattle.apx_pass.specs.Pass.{windows, mean, mean_up_to}
use Rattle.apx_pass.specs.Texts.{windows_text}
use Rattle.apx_stores.specs.declared.devices.Devices.{Devices}
use Rattle.apx_stores.specs.Whole.{FitsKeeper}
use Rattle.apx_sim.specs.Headline.{left_by}
use Rattle.std.specs.List.{AllByRecursion}
use Rattle.apx_audit.specs.Text.{journal_text, IsEntry}
use Rattle.apx_tally.specs.Report as tally
use Rattle.apx_load.specs.declared.stop.Stop.{Stop}
use Rattle.apx_load.specs.declared.stop.Stop.TheVariants.{StoreFailed, Memory}
use Rattle.apx_load.specs.Stops.{IsCaused, no_causes}
use Rattle.apx_load.proofs.Stopping.{caused_weaker}
use Rattle.apx_top.specs.declared.ended.Finished.{Finished}
use Rattle.apx_top.specs.declared.ended.Outcome.{Outcome}
use Rattle.apx_top.specs.Changes.{KeeperMeaning, VaultMeaning, SpoolsMeaning, DevicesChange, OutputChange, devices_change, held_tell}
use Rattle.apx_top.specs.Faults.{stop_of_start}
use Rattle.apx_top.specs.Left.{Left, left_of, without_run, ran_to, HasStoppedWith}
use Rattle.apx_top.specs.Way.{Way}
use Rattle.apx_top.specs.Run.{run_text, report_text, row_count, HasRunAs, IsOfPass, printing_causes, HasPrinted, HasReported, HasRun, unbegun, stopped, ended}
use Rattle.apx_top.specs.Sent.{HasWritten}
use Rattle.apx_top.specs.Trace.{HasTraced}

-- of two that hold the first does
first : (a b : Bool) → IsTrue (a && b) → IsTrue a
first true b h = refl
first false b h = absurd (cc h)

-- and so does the second
second : (a b : Bool) → IsTrue (a && b) → IsTrue b
second true b h = h
second false b h = absurd (cc h)

-- where all devices tell, the checkpoint store does
pub vault-tells : (keeper vault spools : Bool) → IsTrue (keeper && (vault && spools)) → IsTrue vault
vault-tells keeper vault spools all = first vault spools (second keeper (vault && spools) all)

-- and the spools do
pub spools-tell : (keeper vault spools : Bool) → IsTrue (keeper && (vault && spools)) → IsTrue spools
spools-tell keeper vault spools all = second vault spools (second keeper (vault && spools) all)

-- a list with all of its members
pub take-length : {X : Type 0} (xs : List X) (n : ℕ) → n ≡ length xs → take n xs ≡ xs
take-length xs n is = ap (λ k. take k xs) is ∙ all xs
  where
    all : {X : Type 0} (xs : List X) → take (length xs) xs ≡ xs
    all [] = refl
    all (x ∷ xs) = ap (λ l. x ∷ l) (all xs)

-- a stop while printing, where the store's count rose in a part of the time
longer_cause : (part store output : Type 0) (stop : Stop) → (part → store) → IsCaused (printing_causes part output) stop → IsCaused (printing_causes store output) stop
longer_cause part store output stop longer is =
    caused_weaker _ _ stop (record { refuses = λ refusal none. none; unread = λ name none. none; vault = λ none. none; store = longer; spool = λ none. none; state = λ none. none; block = λ none. none; output = λ rose. rose; large = λ none. none }) is

-- a count that rose in a part of the time rose
pub Rose-later : (before mid now : ℕ) → before ≤ mid → Rose mid now → Rose before now
Rose-later before mid now later rose = omega (arith, rose)

-- why no run began
pub start_stop : (before now : ℕ) (met : StartFault) → HasCause before now (met ≡ start.Spools) → IsCaused (record no_causes { spool = Rose before now }) (stop_of_start met)
start_stop before now start.Spools has = has.rose refl
start_stop before now start.Memory has = tt

-- ---- a run that is closed

module _ {K V P F : Type 0} (keeper : KeeperMeaning K) (vault : VaultMeaning V) (spools : SpoolsMeaning P) (devices : Devices K V P) (job : Job) (way : Way) where
  -- no run began
  pub unbegun_run : (U : Type 0) (Q : List Entry → Result ⊤ Stop → Type 0) (back now : Devices K V P) (left : Left F) (stop : Stop) → now ≡ back → left ≡ without_run (Err stop) → IsCaused (record no_causes { spool = Rose (spools.faults devices.spools) (spools.faults back.spools) }) stop → (windows job.flow < keeper.last devices.keeper → stop ≡ Memory) → back.keeper ≡ devices.keeper → back.vault ≡ devices.vault → U → HasRun U Q job way (devices_change keeper vault spools devices now) left
  unbegun_run U Q back now left stop same is caused beyond same_keeper same_vault u =
      subst (λ (d : Devices K V P). HasRun U Q job way (devices_change keeper vault spools devices d) left) (sym same) (unbegun stop is caused beyond (same_keeper, same_vault) u)

  module _ (closed : Closed K V P F) (ran : HasRunAs job way (devices_change keeper vault spools devices closed.devices) closed.journal closed.fault) where
    abbrev Settles : Result (Finished K V P) (Outcome K V P F) → Type 0
    Settles settled = MatchResult settled
        (λ run. (closed.fault ≡ None) × (run.devices ≡ closed.devices) × (run.journal ≡ closed.journal))
        (λ outcome. (outcome.devices ≡ closed.devices) × HasStoppedWith closed.journal closed.fault (left_of outcome))

    finished : (now : Devices K V P) (es : List Entry) → closed.fault ≡ None → now ≡ closed.devices → es ≡ closed.journal → HasRunAs {F = F} job way (devices_change keeper vault spools devices now) es None
    finished now es none same_devices same_journal =
        subst (λ (d : Devices K V P). HasRunAs {F = F} job way (devices_change keeper vault spools devices d) es None) (sym same_devices)
        (subst (λ (x : List Entry). HasRunAs {F = F} job way (devices_change keeper vault spools devices closed.devices) x None) (sym same_journal)
        (subst (λ (f : Option (CoreFault F)). HasRunAs job way (devices_change keeper vault spools devices closed.devices) closed.journal f) none ran))

    stopped_run : (now : Devices K V P) (left : Left F) → now ≡ closed.devices → HasStoppedWith closed.journal closed.fault left → HasRun ⊤ (λ es end. ⊥) job way (devices_change keeper vault spools devices now) left
    stopped_run now left same is =
        subst (λ (d : Devices K V P). HasRun ⊤ (λ es end. ⊥) job way (devices_change keeper vault spools devices d) left) (sym same)
        (stopped closed.journal is.met is.left_is (subst (λ (f : Option (CoreFault F)). HasRunAs job way (devices_change keeper vault spools devices closed.devices) closed.journal f) is.is ran) tt)

    -- how it ended
    pub settled_run : (settled : Result (Finished K V P) (Outcome K V P F)) → Settles settled → MatchResult settled
        (λ run. HasRunAs {F = F} job way (devices_change keeper vault spools devices run.devices) run.journal None)
        (λ outcome. HasRun ⊤ (λ es end. ⊥) job way (devices_change keeper vault spools devices outcome.devices) (left_of outcome))
    settled_run (Ok run) is = finished run.devices run.journal is.0 is.1 is.2
    settled_run (Err outcome) is = stopped_run outcome.devices (left_of outcome) is.0 is.1

    -- what is so of the devices of a run without a fault
    pub settled_so : (Q : Devices K V P → Type 0) (settled : Result (Finished K V P) (Outcome K V P F)) → Settles settled → (closed.fault ≡ None → Q closed.devices) → IfOk settled (λ run. Q run.devices)
    settled_so Q (Ok run) is so = subst Q (sym is.1) (so is.0)
    settled_so Q (Err outcome) is so = tt

-- ---- a run of which something is printed

module _ {K V P F : Type 0} (keeper : KeeperMeaning K) (vault : VaultMeaning V) (spools : SpoolsMeaning P) (devices : Devices K V P) (job : Job) (way : Way) (es : List Entry) where
  -- reading the sink's store changes no more than its count of faults
  pub read_behind : (mid : Devices K V P) (read : K) → keeper.stored read ≡ keeper.stored mid.keeper → keeper.last read ≡ keeper.last mid.keeper → keeper.faults mid.keeper ≤ keeper.faults read → HasRunAs {F = F} job way (devices_change keeper vault spools devices mid) es None →
      HasRunAs {F = F} job way (devices_change keeper vault spools devices (record { keeper = read; vault = mid.vault; spools = mid.spools })) es None
  read_behind mid read same last later ran = record {
    few = ran.few;
    history = ran.history;
    store = λ begun. record { fits = λ tell. subst (λ rows. Fits rows) (sym same) ((ran.store begun).fits tell) };
    needed = ran.needed;
    whole = ran.whole;
    checkpoints = ran.checkpoints;
    stopped = record {
      status = ran.stopped.status;
      cause = tt;
      later = record { keeper = (let l = ran.stopped.later.keeper in omega (arith, l, later)); vault = ran.stopped.later.vault; spools = ran.stopped.later.spools };
    };
  }
    where
      Fits : List (List Tuple) → Type 0
      Fits rows = FitsKeeper job.flow (left_by job (keeper.last devices.keeper) es).fault (left_by job (keeper.last devices.keeper) es).stored rows

module _ {F : Type 0} (job : Job) (way : Way) (es : List Entry) (devices : DevicesChange) (ran : HasRunAs {F = F} job way devices es None) where
  -- it has stored all rows of the one pass
  pub all_stored : IsOfPass job devices → devices.store.after ≡ mean job.flow
  all_stored pass = by_fit ((ran.store pass.1).fits pass.0)
    where
      by_fit : FitsKeeper job.flow (left_by job devices.store.last_before es).fault (left_by job devices.store.last_before es).stored devices.store.after → devices.store.after ≡ mean job.flow
      by_fit (inl is) = is ∙ ap (mean_up_to job.flow) (ran.whole.stored refl)
      by_fit (inr is) = absurd (let none = ran.stopped.status in let some = is.0 in cc)

  tells : IsOfPass job devices → IsTrue devices.store.tells
  tells pass = first devices.store.tells (held_tell devices) pass.0

  module _ (stored : List (List Tuple)) (same : stored ≡ devices.store.after) where
    abbrev rows : List ℕ
    rows = windows_text job.settings.base 1 stored

    abbrev report : List ℕ
    report = tally.report_text (windows job.flow) (row_count stored) es

    rows_are : IsOfPass job devices → rows ≡ run_text job
    rows_are pass = ap (windows_text job.settings.base 1) (same ∙ all_stored pass)

    report_is : IsOfPass job devices → report ≡ report_text job es
    report_is pass = ap (λ s. tally.report_text (windows job.flow) (row_count s) es) (same ∙ all_stored pass)

    -- what is printed of both
    pub has_printed : (output errors : OutputChange) (part : Type 0) (end : Result ⊤ Stop) → (part → Rose devices.before.keeper devices.now.keeper) →
        OnOk end (IsTrue devices.store.tells → IsTrue output.tells → output.after ≡ output.before ++ rows) →
        OnOk end (IsTrue devices.store.tells → IsTrue errors.tells → errors.after ≡ errors.before ++ report) →
        (IsErr end → IsTrue devices.store.tells → IsTrue output.tells → GotFront rows output.before output.after) →
        (IsErr end → IsTrue devices.store.tells → IsTrue errors.tells → GotFront report errors.before errors.after) →
        IfErr end (IsCaused (printing_causes part (output.rose ⊎ errors.rose))) → HasPrinted job es devices output errors end
    has_printed output errors part (Ok v) longer out err out_front err_front caused = record {
      whole = λ is pass. ((λ t. out (tells pass) t ∙ ap (λ x. output.before ++ x) (rows_are pass)), (λ t. err (tells pass) t ∙ ap (λ x. errors.before ++ x) (report_is pass)));
      front = λ stop is. absurd cc;
      report_front = λ is. absurd cc;
      cause = λ stop is. absurd cc;
    }
    has_printed output errors part (Err e) longer out err out_front err_front caused = record {
      whole = λ is. absurd cc;
      front = λ stop is pass t. subst (λ x. GotFront x output.before output.after) (rows_are pass) (out_front refl (tells pass) t);
      report_front = λ is pass t. subst (λ x. GotFront x errors.before errors.after) (report_is pass) (err_front refl (tells pass) t);
      cause = λ stop is. subst (IsCaused (printing_causes (Rose devices.before.keeper devices.now.keeper) (output.rose ⊎ errors.rose))) (let s : e ≡ stop = cc in s) (longer_cause _ _ _ e longer caused);
    }

    -- what is printed of the report alone
    pub has_reported : (output : OutputChange) (part : Type 0) (end : Result ⊤ Stop) → (part → Rose devices.before.keeper devices.now.keeper) →
        (IsTrue devices.store.tells → HasWritten output.tells report end output.before output.after) →
        IfErr end (IsCaused (printing_causes part output.rose)) → HasReported job es devices output end
    has_reported output part (Ok v) longer out caused = record {
      whole = λ is pass t. out (tells pass) t ∙ ap (λ x. output.before ++ x) (report_is pass);
      front = λ stop is. absurd cc;
      cause = λ stop is. absurd cc;
    }
    has_reported output part (Err e) longer out caused = record {
      whole = λ is. absurd cc;
      front = λ stop is pass t. subst (λ x. GotFront x output.before output.after) (report_is pass) (out (tells pass) t);
      cause = λ stop is. subst (IsCaused (printing_causes (Rose devices.before.keeper devices.now.keeper) output.rose)) (let s : e ≡ stop = cc in s) (longer_cause _ _ _ e longer caused);
    }

    -- what is printed of the journal and of the report
    pub has_traced : (output errors : OutputChange) (part : Type 0) (end : Result ⊤ Stop) → (part → Rose devices.before.keeper devices.now.keeper) →
        OnOk end (IsTrue output.tells → output.after ≡ output.before ++ journal_text es) → OnOk end (AllByRecursion IsEntry es) →
        OnOk end (IsTrue devices.store.tells → IsTrue errors.tells → errors.after ≡ errors.before ++ report) →
        (IsErr end → IsTrue output.tells → GotFront (journal_text es) output.before output.after) →
        (end ≡ Err StoreFailed → output.after ≡ output.before) →
        (IsErr end → IsTrue devices.store.tells → IsTrue errors.tells → GotFront report errors.before errors.after) →
        IfErr end (IsCaused (printing_causes part (output.rose ⊎ errors.rose))) → HasTraced job es devices output errors end
    has_traced output errors part (Ok v) longer out numbers err out_front none err_front caused = record {
      journal = λ is. out;
      entries = λ is. numbers;
      report = λ is pass t. err (tells pass) t ∙ ap (λ x. errors.before ++ x) (report_is pass);
      front = λ stop is. absurd cc;
      unprinted = none;
      report_front = λ is. absurd cc;
      cause = λ stop is. absurd cc;
    }
    has_traced output errors part (Err e) longer out numbers err out_front none err_front caused = record {
      journal = λ is. absurd cc;
      entries = λ is. absurd cc;
      report = λ is. absurd cc;
      front = λ stop is t. out_front refl t;
      unprinted = none;
      report_front = λ is pass t. subst (λ x. GotFront x errors.before errors.after) (report_is pass) (err_front refl (tells pass) t);
      cause = λ stop is. subst (IsCaused (printing_causes (Rose devices.before.keeper devices.now.keeper) (output.rose ⊎ errors.rose))) (let s : e ≡ stop = cc in s) (longer_cause _ _ _ e longer caused);
    }

-- ---- printing a run that came to its end

-- what printing both of a job's texts ensures, over the rows that the sink's store has
pub record PrintsBoth (tells : Bool) (stored : List (List Tuple)) (es : List Entry) (output errors : OutputChange) (part : Type 0) (end : Result ⊤ Stop) (job : Job) : Type 0 where
  pub rows : OnOk end (IsTrue tells → IsTrue output.tells → output.after ≡ output.before ++ windows_text job.settings.base 1 stored)
  pub report : OnOk end (IsTrue tells → IsTrue errors.tells → errors.after ≡ errors.before ++ tally.report_text (windows job.flow) (row_count stored) es)
  pub rows_front : IsErr end → IsTrue tells → IsTrue output.tells → GotFront (windows_text job.settings.base 1 stored) output.before output.after
  pub report_front : IsErr end → IsTrue tells → IsTrue errors.tells → GotFront (tally.report_text (windows job.flow) (row_count stored) es) errors.before errors.after
  pub stop : IfErr end (IsCaused (printing_causes part (output.rose ⊎ errors.rose)))

-- what printing a journal and the report ensures
pub record PrintsJournal (tells : Bool) (stored : List (List Tuple)) (es : List Entry) (output errors : OutputChange) (part : Type 0) (end : Result ⊤ Stop) (job : Job) : Type 0 where
  pub journal : OnOk end (IsTrue output.tells → output.after ≡ output.before ++ journal_text es)
  pub entries : OnOk end (AllByRecursion IsEntry es)
  pub report : OnOk end (IsTrue tells → IsTrue errors.tells → errors.after ≡ errors.before ++ tally.report_text (windows job.flow) (row_count stored) es)
  pub front : IsErr end → IsTrue output.tells → GotFront (journal_text es) output.before output.after
  pub unprinted : end ≡ Err StoreFailed → output.after ≡ output.before
  pub report_front : IsErr end → IsTrue tells → IsTrue errors.tells → GotFront (tally.report_text (windows job.flow) (row_count stored) es) errors.before errors.after
  pub stop : IfErr end (IsCaused (printing_causes part (output.rose ⊎ errors.rose)))

-- what printing the report alone ensures
pub record PrintsReport (tells : Bool) (stored : List (List Tuple)) (es : List Entry) (output : OutputChange) (part : Type 0) (end : Result ⊤ Stop) (job : Job) : Type 0 where
  pub written : IsTrue tells → HasWritten output.tells (tally.report_text (windows job.flow) (row_count stored) es) end output.before output.after
  pub stop : IfErr end (IsCaused (printing_causes part output.rose))

module _ {K V P F : Type 0} (keeper : KeeperMeaning K) (vault : VaultMeaning V) (spools : SpoolsMeaning P) (devices : Devices K V P) (job : Job) (way : Way) (es : List Entry) (mid : Devices K V P) (ran : HasRunAs {F = F} job way (devices_change keeper vault spools devices mid) es None) where
  abbrev after_read : K → Devices K V P
  after_read read = record { keeper = read; vault = mid.vault; spools = mid.spools }

  abbrev part_of : K → Type 0
  part_of read = Rose (keeper.faults mid.keeper) (keeper.faults read)

  longer : (read : K) → part_of read → Rose (keeper.faults devices.keeper) (keeper.faults read)
  longer read rose = Rose-later (keeper.faults devices.keeper) (keeper.faults mid.keeper) (keeper.faults read) ran.stopped.later.keeper rose

  module _ (read : K) (same : keeper.stored read ≡ keeper.stored mid.keeper) (last : keeper.last read ≡ keeper.last mid.keeper) (later : keeper.faults mid.keeper ≤ keeper.faults read) (lent : Job) (lent_is : lent ≡ job) where
    abbrev change_to : Devices K V P → DevicesChange
    change_to now = devices_change keeper vault spools devices now

    behind : HasRunAs {F = F} job way (change_to (after_read read)) es None
    behind = read_behind keeper vault spools devices job way es mid read same last later ran

    -- both of its texts are printed
    pub printed_run : (U : Type 0) (output errors : OutputChange) (end : Result ⊤ Stop) (now : Devices K V P) (left : Left F) → now ≡ after_read read → left ≡ ran_to es end →
        PrintsBoth keeper.tells (keeper.stored mid.keeper) es output errors (part_of read) end lent →
        HasRun U (λ xs e. HasPrinted job xs (change_to now) output errors e) job way (change_to now) left
    printed_run U output errors end now left now_is left_is prints =
        let p = subst (λ (j : Job). PrintsBoth keeper.tells (keeper.stored mid.keeper) es output errors (part_of read) end j) lent_is prints in
        subst (λ (d : Devices K V P). HasRun U (λ xs e. HasPrinted job xs (change_to d) output errors e) job way (change_to d) left) (sym now_is)
        (ended es end left_is behind
        (has_printed job way es (change_to (after_read read)) behind (keeper.stored mid.keeper) (sym same) output errors (part_of read) end (longer read) p.rows p.report p.rows_front p.report_front p.stop))

    -- its journal and its report are printed
    pub traced_run : (U : Type 0) (output errors : OutputChange) (end : Result ⊤ Stop) (now : Devices K V P) (left : Left F) → now ≡ after_read read → left ≡ ran_to es end →
        PrintsJournal keeper.tells (keeper.stored mid.keeper) es output errors (part_of read) end lent →
        HasRun U (λ xs e. HasTraced job xs (change_to now) output errors e) job way (change_to now) left
    traced_run U output errors end now left now_is left_is prints =
        let p = subst (λ (j : Job). PrintsJournal keeper.tells (keeper.stored mid.keeper) es output errors (part_of read) end j) lent_is prints in
        subst (λ (d : Devices K V P). HasRun U (λ xs e. HasTraced job xs (change_to d) output errors e) job way (change_to d) left) (sym now_is)
        (ended es end left_is behind
        (has_traced job way es (change_to (after_read read)) behind (keeper.stored mid.keeper) (sym same) output errors (part_of read) end (longer read) p.journal p.entries p.report p.front p.unprinted p.report_front p.stop))

    -- its report is printed
    pub reported_run : (U : Type 0) (output : OutputChange) (end : Result ⊤ Stop) (now : Devices K V P) (left : Left F) → now ≡ after_read read → left ≡ ran_to es end →
        PrintsReport keeper.tells (keeper.stored mid.keeper) es output (part_of read) end lent →
        HasRun U (λ xs e. HasReported job xs (change_to now) output e) job way (change_to now) left
    reported_run U output end now left now_is left_is prints =
        let p = subst (λ (j : Job). PrintsReport keeper.tells (keeper.stored mid.keeper) es output (part_of read) end j) lent_is prints in
        subst (λ (d : Devices K V P). HasRun U (λ xs e. HasReported job xs (change_to d) output e) job way (change_to d) left) (sym now_is)
        (ended es end left_is behind
        (has_reported job way es (change_to (after_read read)) behind (keeper.stored mid.keeper) (sym same) output (part_of read) end (longer read) p.written p.stop))

-- a run that didn't come to its end
pub unended : {F : Type 0} (U : Type 0) (P : List Entry → Result ⊤ Stop → Type 0) (job : Job) (way : Way) (devices : DevicesChange) (left : Left F) → U → HasRun ⊤ (λ es end. ⊥) job way devices left → HasRun U P job way devices left
unended U P job way devices left u (unbegun stop is caused beyond same none) = unbegun stop is caused beyond same u
unended U P job way devices left u (stopped es met is ran none) = stopped es met is ran u
unended U P job way devices left u (ended es end is ran none) = absurd none
