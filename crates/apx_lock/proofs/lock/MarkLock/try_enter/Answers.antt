use Rattle.std.proofs.Common.{rules, ◌∷◌, Some, sym, ap, ◌∙◌}
use Rattle.atomic_table.specs.Table.{rest}
use Rattle.apx_lock.proofs.Turning.{tries, looks}
use Rattle.apx_lock.proofs.Telling.{entered}
use Rattle.apx_lock.proofs.lock.MarkLock.try_enter.Goals as goal

pub compare_exchange-requires : goal.compare_exchange-requires
compare_exchange-requires g c =
    let k = g.V.Kept in let terms = c.args.self.now.table.shared.key in
    let is = ap (λ v. v.view.name) c.seat.view_is ∙ c.requires.seat.1 in
    (search rules, search rules, tries k.stands k.seat k.bound terms.name terms.marks _ _ _ is)

pub exchange-requires : goal.exchange-requires
exchange-requires g c = let t = c.compare_exchange.ensures.2.0 c.if-compare_exchange-ne0.false in
    (search rules, (Some t.value, t.slot ∙ ap (λ l. (0, Some t.value) ∷ rest l) (sym t.slot)))

pub load-base-requires : goal.load-base-requires
load-base-requires g c =
    let k = g.V.Kept in let terms = c.args.self.now.table.shared.key in
    let t = c.compare_exchange.ensures.2.0 c.if-compare_exchange-ne0.false in
    let view = ap (λ m. m.0) c.exchange.ensures.3 ∙ t.view in
    let is = ap (λ v. v.name) view ∙ (ap (λ v. v.view.name) c.seat.view_is ∙ c.requires.seat.1) in
    let holds = ap (λ v. v.holds) view in
    (search rules, search rules, looks k.stands k.seat k.bound terms.name terms.marks _ _ _ is holds)

pub returns-clause-entered : goal.returns-clause-entered
returns-clause-entered g c =
    let k = g.V.Kept in
    let t = c.compare_exchange.ensures.2.0 c.if-compare_exchange-ne0.false in
    let same = ap (λ m. m.0) c.exchange.ensures.3 in
    let look = ap (λ m. m.0) c.load-base.ensures.2.1 ∙ ap Rattle.apx_lock.specs.Views.after_look same in
    rw (← ap (λ v. v.view) c.seat.view_is) (entered k.seat k.bound c.seat.inside.place.me.0 c.compare_exchange.new.seat.me.0 c.load-base.new.seat.me.0 t.view t.seen t.whole look)
