-- What an event leaves keeps what every state keeps, whether it wanted memory or not.
use Rattle.std.proofs.Common.{◌≡◌, ℕ, Result, Ok, Err, OnOk, OnErr, sym, subst}
use Rattle.apx_history.specs.declared.Event.{Event}
use Rattle.apx_history.specs.Plan.{Plan}
use Rattle.apx_history.specs.State.{State}
use Rattle.apx_history.specs.Effects.{next}
use Rattle.apx_history.specs.Conditions.{Enabled}
use Rattle.apx_history.specs.Kept.{IsPlan, Kept}
use Rattle.apx_history.proofs.Legal.{keeps_event}
use Rattle.apx_machine.specs.Machine.{Running}
use Rattle.apx_machine.specs.Small.{IsSmall}

pub kept_result : {A E : Type 0} (plan : Plan) (m : State) (u : ℕ) (e : Event) → IsPlan plan → IsSmall plan → Kept plan m → Enabled plan m e → (r : Result A E) (n : Running) →
    n.plan ≡ plan → OnOk r (n.state ≡ next plan m u e) → OnErr r (n.state ≡ m) → IsPlan n.plan × IsSmall n.plan × Kept n.plan n.state
kept_result plan m u e is small kept can (Ok x) n p ok err =
    (subst (λ (q : Plan). IsPlan q) (sym p) is, subst (λ (q : Plan). IsSmall q) (sym p) small, subst (λ (q : Plan). Kept q n.state) (sym p) (subst (λ (s : State). Kept plan s) (sym ok) (keeps_event plan is m kept u e can)))
kept_result plan m u e is small kept can (Err x) n p ok err =
    (subst (λ (q : Plan). IsPlan q) (sym p) is, subst (λ (q : Plan). IsSmall q) (sym p) small, subst (λ (q : Plan). Kept q n.state) (sym p) (subst (λ (s : State). Kept plan s) (sym err) kept))
