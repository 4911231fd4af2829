-- Why the run of a job stops.
use Rattle.std.proofs.Common.{◌⊎◌, inl, inr, List, refl, sym, subst}
use Rattle.std.specs.Prelude.{Result, Ok, Err, IsSome, ⊤}
use Rattle.apx_cause.specs.Cause.{Rose}
use Rattle.apx_history.specs.declared.Entry.{Entry}
use Rattle.apx_course.specs.declared.faults.CoreFault.{CoreFault}
use Rattle.apx_course.specs.declared.faults.CoreFault.TheVariants as fault
use Rattle.apx_stores.specs.Caused as caused
use Rattle.apx_stores.specs.Caused.{IsTooLarge}
use Rattle.apx_pass.specs.Job.{Job}
use Rattle.apx_load.specs.declared.stop.Stop.{Stop}
use Rattle.apx_load.specs.Stops.{Causes, IsCaused, no_causes}
use Rattle.apx_load.proofs.Stopping.{caused_weaker}
use Rattle.apx_top.specs.Changes.{DevicesChange, held_tell}
use Rattle.apx_top.specs.Faults.{stop_of}
use Rattle.apx_top.specs.Headline.{IsStateShown, IsBlockShown}
use Rattle.apx_top.specs.Left.{Left, without_run, stopped_with, ran_to}
use Rattle.apx_top.specs.Way.{Way}
use Rattle.apx_top.specs.Run.{printing_causes, start_causes, HasRun, unbegun, stopped, ended}

-- when a run may stop
abbrev pub run_causes : {F : Type 0} → Job → DevicesChange → Type 0 → Left F → Causes
run_causes job devices output left = record no_causes {
  vault = Rose devices.before.vault devices.now.vault;
  store = Rose devices.before.keeper devices.now.keeper;
  spool = IsSome left.spool ⊎ Rose devices.before.spools devices.now.spools;
  state = IsStateShown devices.vault.tells left.shown;
  block = IsBlockShown job devices.spools_tell left.shown;
  output = output;
  large = IsTooLarge job.flow (held_tell devices);
}

-- an end with a stop has its cause
abbrev pub HasRunCause : {F : Type 0} → Job → DevicesChange → Type 0 → Left F → Result ⊤ Stop → Type 0
HasRunCause job devices output left (Ok _) = ⊤
HasRunCause job devices output left (Err stop) = IsCaused (run_causes job devices output left) stop

module _ (F : Type 0) (job : Job) (devices : DevicesChange) (output : Type 0) where
  -- a fault has the cause that its stop names
  pub fault_cause : (es : List Entry) (met : CoreFault F) → caused.IsCaused job (held_tell devices) devices.vault.tells devices.spools_tell devices.before devices.now met → IsCaused (run_causes job devices output (stopped_with es met)) (stop_of met)
  fault_cause es fault.Vault is = is
  fault_cause es fault.Keeper is = is
  fault_cause es fault.Spools is = inr is
  fault_cause es (fault.Spool f) is = inl refl
  fault_cause es (fault.State id bytes) is = is
  fault_cause es (fault.Block op part number window index last bytes) is = is
  fault_cause es fault.Memory is = tt
  fault_cause es fault.Large is = is

  start_cause : (stop : Stop) → IsCaused (start_causes devices) stop → IsCaused (run_causes job devices output (without_run {F = F} (Err stop))) stop
  start_cause stop is =
      caused_weaker _ _ stop (record { refuses = λ refusal none. none; unread = λ name none. none; vault = λ none. absurd none; store = λ none. absurd none; spool = λ rose. inr rose; state = λ none. absurd none; block = λ none. absurd none; output = λ none. absurd none; large = λ none. absurd none }) is

  printing_cause : (es : List Entry) (stop : Stop) → IsCaused (printing_causes (Rose devices.before.keeper devices.now.keeper) output) stop → IsCaused (run_causes job devices output (ran_to {F = F} es (Err stop))) stop
  printing_cause es stop is =
      caused_weaker _ _ stop (record { refuses = λ refusal none. none; unread = λ name none. none; vault = λ none. absurd none; store = λ rose. rose; spool = λ none. absurd none; state = λ none. absurd none; block = λ none. absurd none; output = λ rose. rose; large = λ none. absurd none }) is

-- a run has a cause where it stopped
pub run_cause : {F : Type 0} (U : Type 0) (P : List Entry → Result ⊤ Stop → Type 0) (job : Job) (way : Way) (devices : DevicesChange) (output : Type 0) (left : Left F) → ((es : List Entry) (stop : Stop) → P es (Err stop) → IsCaused (printing_causes (Rose devices.before.keeper devices.now.keeper) output) stop) → HasRun U P job way devices left → HasRunCause job devices output left left.end
run_cause {F} U P job way devices output left printing (unbegun stop is caused beyond same u) = subst (λ (l : Left F). HasRunCause job devices output l l.end) (sym is) (start_cause F job devices output stop caused)
run_cause {F} U P job way devices output left printing (stopped es met is ran u) = subst (λ (l : Left F). HasRunCause job devices output l l.end) (sym is) (fault_cause F job devices output es met ran.stopped.cause)
run_cause {F} U P job way devices output left printing (ended es end is ran p) = subst (λ (l : Left F). HasRunCause job devices output l l.end) (sym is) (at_end end p)
  where
    at_end : (end : Result ⊤ Stop) → P es end → HasRunCause job devices output (ran_to {F = F} es end) end
    at_end (Ok v) p = tt
    at_end (Err stop) p = printing_cause F job devices output es stop (printing es stop p)
