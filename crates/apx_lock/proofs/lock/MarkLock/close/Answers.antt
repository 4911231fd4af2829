use Rattle.std.proofs.Common.{◌≡◌, ℕ, ◌<◌, Some, is_some, sym, ap, ◌∙◌, subst}
use mathlib.Core.Option.{some-injective}
use Rattle.apx_lock.specs.Views.{HasNumber}
use Rattle.apx_lock.specs.Steps.{Ends}
use Rattle.apx_lock.proofs.Opening.{closes}
use Rattle.apx_lock.proofs.lock.MarkLock.close.Goals as goal

pub unwrap-value-requires : goal.unwrap-value-requires
unwrap-value-requires g c =
    let k = g.V.Kept in let terms = c.args.self.table.shared.key in let view = ap (λ s. s.view) c.seat.view_is in
    let t = closes k.stands k.seat k.bound terms.name terms.marks c.seat.inside.place.id c.seat.inside.place.me.0 (ap (λ v. v.name) view ∙ c.requires.seat.1) (ap (λ v. v.holds) view ∙ c.requires.idle)
    (subst (λ v. 0 < v.given) (sym view) c.requires.deals) (subst (λ v. (n : ℕ) → n < v.given → HasNumber v n) (sym view) c.requires.all) _ _ c.close_with-closed.ensures.values.2 in
    ap is_some (some-injective _ _ (sym c.take.ensures.value ∙ t.1))

pub returns : goal.returns
returns g c =
    let k = g.V.Kept in let terms = c.args.self.table.shared.key in let view = ap (λ s. s.view) c.seat.view_is in
    let t = closes k.stands k.seat k.bound terms.name terms.marks c.seat.inside.place.id c.seat.inside.place.me.0 (ap (λ v. v.name) view ∙ c.requires.seat.1) (ap (λ v. v.holds) view ∙ c.requires.idle)
    (subst (λ v. 0 < v.given) (sym view) c.requires.deals) (subst (λ v. (n : ℕ) → n < v.given → HasNumber v n) (sym view) c.requires.all) _ _ c.close_with-closed.ensures.values.2 in
    let same : Some t.0 ≡ Some c.unwrap-value.result = some-injective _ _ (sym t.1 ∙ c.take.ensures.value) ∙ c.unwrap-value.ensures in
    let value : t.0 ≡ c.unwrap-value.result = cc in
    subst (λ v. Ends k.stands k.seat k.bound terms.name c.unwrap-value.result v) view (subst (λ x. Ends k.stands k.seat k.bound terms.name x c.seat.inside.place.me.0) value t.2)
