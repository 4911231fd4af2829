-- A stop of a run that stood as it did before.
use Rattle.std.proofs.Common.{◌≡◌, ℕ, Result, Ok, Err, subst}
use Rattle.std.specs.Prelude.{OnErr}
use Rattle.apx_history.specs.Plan.{Plan}
use Rattle.apx_course.specs.Course.{Standing, Stops}

-- a refusal is a stop from where the run stood
pub stopped_from : {T E F : Type 0} (r : Result T E) (plan : Plan) (old mid new : Standing F) (u : ℕ) → mid ≡ old → Stops plan mid new u → OnErr r (Stops plan old new u)
stopped_from (Ok x) plan old mid new u same stops = tt
stopped_from {F = F} (Err e) plan old mid new u same stops = subst (λ (s : Standing F). Stops plan s new u) same stops
