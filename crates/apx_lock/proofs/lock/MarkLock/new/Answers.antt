use Rattle.std.proofs.Common.{◌∷◌, [], ◌++◌, ℕ, Some, sym, ap, ◌∙◌, subst}
use Rattle.atomic_table.specs.Table.{opening}
use Rattle.apx_lock.specs.Views.{zeros, first_view}
use Rattle.apx_lock.specs.Keeps.{Keeps}
use Rattle.apx_lock.proofs.Opening.{opens}
use Rattle.apx_lock.proofs.lock.MarkLock.new.Goals as goal

pub new-requires : goal.new-requires
new-requires g c =
    let k = g.V.Kept in let n = c.from.result in
    let words = c.first_words.ensures ∙ ap (λ (m : ℕ). 0 ∷ 0 ∷ zeros m) (sym c.from.ensures) in
    let items = c.push_reserved.ensures.items ∙ ap (λ l. l ++ Some c.args.value ∷ []) c.in-Ok.ensures.items in
    subst (λ ws. Keeps k.stands k.seat k.bound c.args.name n (opening ws c.push_reserved.new.self.items (first_view c.args.name n))) (sym words)
    (subst (λ xs. Keeps k.stands k.seat k.bound c.args.name n (opening (0 ∷ 0 ∷ zeros n) xs (first_view c.args.name n))) (sym items)
    (opens k.stands k.seat k.bound c.args.name n c.args.value c.requires.value))
