-- What workers see of the calls of a core.
use Rattle.std.proofs.Common.{◌≡◌, ℕ, Result, Ok, Err, OnOk, OnErr, IfOk, IfErr, refl, ap, ◌∙◌}
use Rattle.apx_tuple.specs.declared.refusal.Short.{Short}
use Rattle.apx_tuple.specs.declared.refusal.Short.TheVariants.{Memory, Large}
use Rattle.apx_history.specs.declared.Event.{Event}
use Rattle.apx_history.specs.Plan.{Plan}
use Rattle.apx_course.specs.Faults.{status}
use Rattle.apx_course.specs.Course.{Standing, Did, Stops as StopsCourse}
use Rattle.apx_course.specs.Run.{Run}
use Rattle.apx_stores.specs.Caused.{IsTooLarge}
use Rattle.apx_core.specs.Claim.{Claimed}
use Rattle.apx_work.specs.Claims.{open_window}
use Rattle.apx_work.specs.Turns.{Adds, Stops}
use Rattle.apx_crew.specs.Crew.{claimed, MayStop}

-- a core did an event: there is its entry more
pub adds_ok : {A E F : Type 0} (plan : Plan) (old new : Standing F) (u : ℕ) (e : Event) (r : Result A E) → OnOk r (Did plan old new u e) → OnOk r (Adds u e old.journal new.journal)
adds_ok plan old new u e (Ok a) did = did.journal
adds_ok plan old new u e (Err x) did = did

-- a core stopped: there is a fault more
pub stops_err : {A E F : Type 0} (plan : Plan) (old new : Standing F) (u : ℕ) (r : Result A E) → OnErr r (StopsCourse plan old new u) → OnErr r (Stops u old.journal new.journal)
stops_err plan old new u (Ok a) stops = stops
stops_err plan old new u (Err x) stops = (status stops.0, stops.1.journal)

-- a claim that a core gives is on the window that was begun
pub claim_is : {E : Type 0} (r : Result Claimed E) (o i w u : ℕ) → IfOk r (λ c. c.op ≡ o) → IfOk r (λ c. c.part ≡ i) → IfOk r (λ c. c.window ≡ w) → IfOk r (λ c. c.worker ≡ u) →
    IfOk r (λ c. claimed c ≡ open_window o i w u)
claim_is (Ok c) o i w u op part window worker =
    ap (λ (k : ℕ). open_window k c.part c.window c.worker) op
    ∙ ap (λ (k : ℕ). open_window o k c.window c.worker) part
    ∙ ap (λ (k : ℕ). open_window o i k c.worker) window
    ∙ ap (λ (k : ℕ). open_window o i w k) worker
claim_is (Err x) o i w u op part window worker = op

-- a claim's work that is refused is refused for what a run may stop with
pub may_stop : {A : Type 0} (run : Run) (r : Result A Short) → (r ≡ Err Large → IsTooLarge run.job.flow run.told) → IfErr r (MayStop run)
may_stop run (Ok a) cause = tt
may_stop run (Err Memory) cause = tt
may_stop run (Err Large) cause = cause refl
