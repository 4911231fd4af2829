use Rattle.std.proofs.Common.{rules, ◌≡◌, [], ◌∷◌, ◌++◌, length, sym, ap, ◌∙◌, subst, arith, length-append}
use Rattle.apx_lock.specs.Steps.{MayLeave, MayAdd}
use Rattle.apx_lock.proofs.Turning.{counts, gives_back}
use Rattle.apx_lock.proofs.Telling.{one_added, none_added, placed, ready, ready_counted, IsReady}
use Rattle.apx_lock.proofs.turn.Turn+V.leave.Goals as goal
use Rattle.apx_lock.proofs.turn.Turn+V.leave.Goals.{then-longer, else-longer}

pub fetch_add-requires : goal.fetch_add-requires
fetch_add-requires g c =
    let k = g.V.Kept in let terms = c.args.self.lock.now.table.shared.key in let value = c.args.self.value in
    let view = ap (λ s. s.view) c.seat.view_is in
    let holds = ap (λ v. v.holds) view ∙ c.requires.holds in
    let put = placed k.stands k.seat k.bound c.seat.inside.place.me c.exchange.new.seat.me value c.seat.invariant.2 holds c.exchange.ensures.3 in
    let same = ap (λ v. length v.seen) view in
    let base = c.requires.turn.1 in
    let longer = c.if-longer.true in
    let words = c.args.self.lock.now.counts in
    let one = one_added k.stands k.seat k.bound terms.name value c.seat.inside.place.me.0 c.count.result c.count.ensures (subst (λ v. MayLeave k.stands k.seat k.bound terms.name value v) (sym view) c.requires.value) (λ e. longer (e ∙ (same ∙ sym base))) in
    let seen = c.exchange.new.seat.me.0.seen in
    let longer_by_one = ap (λ m. length m.0.seen) put in
    let counted = c.count.ensures terms.name (c.seat.inside.place.me.0.seen ++ one.0 ∷ []) one.1 in (
      search rules,
      omega arith,
      counts k.stands k.seat k.bound terms.name terms.marks _ _ c.exchange.new.seat.me value one.0
          (ap (λ m. m.0.name) put ∙ (ap (λ v. v.name) view ∙ c.requires.turn.0.1))
          (ap (λ m. m.0.holds) put ∙ holds)
          (ap (λ m. m.1) put)
          (subst (λ m. k.stands value terms.name (m.0.seen ++ one.0 ∷ [])) (sym put) one.1)
          (subst (λ m. MayAdd k.seat k.bound m.0 one.0) (sym put) one.2)
          (omega (arith, length-append c.seat.inside.place.me.0.seen (one.0 ∷ []))),
    )

pub swap-requires : goal.swap-requires
swap-requires g c =
    let k = g.V.Kept in let terms = c.args.self.lock.now.table.shared.key in let value = c.args.self.value in
    let view = ap (λ s. s.view) c.seat.view_is in
    let holds = ap (λ v. v.holds) view ∙ c.requires.holds in
    let is = ap (λ v. v.name) view ∙ c.requires.turn.0.1 in
    let table = ap (λ s. s.table) c.seat.view_is ∙ c.requires.turn.0.0 in
    let put = placed k.stands k.seat k.bound c.seat.inside.place.me c.exchange.new.seat.me value c.seat.invariant.2 holds c.exchange.ensures.3 in
    let may = subst (λ v. MayLeave k.stands k.seat k.bound terms.name value v) (sym view) c.requires.value in
    let r : (c.if-longer.seat-inside.place.table_id ≡ c.args.self.lock.now.table.shared.table_id) × IsReady k.stands k.seat k.bound terms.name value c.if-longer.seat-inside.place.me = elim c.if-longer.branch [
      | then-longer w ↦ subst (λ i. (i.place.table_id ≡ c.args.self.lock.now.table.shared.table_id) × IsReady k.stands k.seat k.bound terms.name value i.place.me) (sym w.seat-inside-is) (
        w.fetch_add.ensures.0 ∙ (c.exchange.ensures.0 ∙ table),
        ready_counted k.stands k.seat k.bound terms.name value c.exchange.new.seat.me w.fetch_add.new.seat.me (ap (λ m. m.0.name) put ∙ is) (ap (λ m. m.0.holds) put ∙ holds) (ap (λ m. m.1) put) w.fetch_add.ensures.2,
      )
      | else-longer w ↦ subst (λ i. (i.place.table_id ≡ c.args.self.lock.now.table.shared.table_id) × IsReady k.stands k.seat k.bound terms.name value i.place.me) (sym w.seat-inside-is) (
        c.exchange.ensures.0 ∙ table,
        ready k.stands k.seat k.bound terms.name value c.seat.inside.place.me.0 c.exchange.new.seat.me put is holds
            (none_added k.stands k.seat k.bound terms.name value c.seat.inside.place.me.0 c.count.result c.count.ensures may (w.if-longer.false ∙ (c.requires.turn.1 ∙ sym (ap (λ v. length v.seen) view)))),
      )
    ] in
    let words = c.args.self.lock.now.counts in
    (r.0, omega arith, gives_back k.stands k.seat k.bound terms.name terms.marks _ _ c.if-longer.seat-inside.place.me value r.1.named r.1.holds r.1.slot r.1.stand)
