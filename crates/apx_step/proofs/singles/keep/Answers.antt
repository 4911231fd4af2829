use Rattle.std.proofs.Common.{◌≡◌, ◌∙◌, ◌&&◌, Bool, IfOk, filter, int_le, subst, sym, ap, rules}
use Rattle.std.proofs.lemmas.Fn.{filter_same}
use Rattle.apx_order.specs.Sorted.{IsAscending}
use Rattle.apx_order.proofs.Once.{filter-ascends}
use Rattle.apx_tuple.specs.declared.tuple.Tuple.{Tuple}
use Rattle.apx_tuple.specs.Size.{IsLarge}
use Rattle.apx_tuple.specs.Tuple.{tuple_key, tuple_order}
use Rattle.apx_tuple.proofs.Orders.{tuple_order-exact}
use Rattle.apx_step.proofs.singles.keep.Goals as goal

pub from_ascending-requires : goal.from_ascending-requires
from_ascending-requires c =
    let p : Tuple → Bool = λ t. int_le c.args.min t.value && int_le t.value c.args.max in
    let kept : c.retain.new.self.items ≡ filter p c.into_tuples-tuples.result.items = filter_same _ p _ (λ x b f' k. search rules) _ _ c.retain.ensures.filtered in
    subst (IsAscending tuple_order) (sym (kept ∙ ap (filter p) c.into_tuples-tuples.ensures.tuples)) (filter-ascends tuple_order-exact p c.args.bag c.into_tuples-tuples.ensures.bag.ascends)

pub returns-clause-ok : goal.returns-clause-ok
returns-clause-ok c =
    let p : Tuple → Bool = λ t. int_le c.args.min t.value && int_le t.value c.args.max in
    let kept : c.retain.new.self.items ≡ filter p c.into_tuples-tuples.result.items = filter_same _ p _ (λ x b f' k. search rules) _ _ c.retain.ensures.filtered in
    subst (λ rows. IfOk c.from_ascending.result (λ bag. bag ≡ rows)) (kept ∙ ap (filter p) c.into_tuples-tuples.ensures.tuples) c.from_ascending.ensures.ok

pub returns-clause-large : goal.returns-clause-large
returns-clause-large c = λ h.
    let p : Tuple → Bool = λ t. int_le c.args.min t.value && int_le t.value c.args.max in
    let kept : c.retain.new.self.items ≡ filter p c.into_tuples-tuples.result.items = filter_same _ p _ (λ x b f' k. search rules) _ _ c.retain.ensures.filtered in
    let large : IsLarge tuple_key c.retain.new.self.items = (rw h at c.from_ascending.ensures.large).1 in
    subst (IsLarge tuple_key) (kept ∙ ap (filter p) c.into_tuples-tuples.ensures.tuples) large
