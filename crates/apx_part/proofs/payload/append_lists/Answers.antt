use Rattle.std.proofs.Common.{refl, ap, arith, List}
use Rattle.std.specs.List.{flat_map}
use Rattle.apx_tuple.specs.declared.tuple.Tuple.{Tuple}
use Rattle.apx_part.proofs.Spelling.{next-list, no-list, appended-more, appended-all}
use Rattle.apx_part.proofs.payload.append_lists.Goals as goal

pub loop-list-init : goal.loop-list-init
loop-list-init c = λ plan bags listed. (bags, listed, refl)

pub append_blocks-requires-clause-spelled : goal.append_blocks-requires-clause-spelled
append_blocks-requires-clause-spelled c =
    let is = c.requires.listed in
    let left = c.loop-list.invariant is.0 is.1 is.2 in
    let next = next-list is.0 c.args.lists.now c.loop-list.list-index c.list-item.result (omega arith) c.list-item.is left.0 left.1 in
    (is.0, next.0, rw c.deref.ensures.value next.3)

pub loop-list-preserved : goal.loop-list-preserved
loop-list-preserved c = λ plan bags listed.
    let left = c.loop-list.invariant plan bags listed in
    let next = next-list plan c.args.lists.now c.loop-list.list-index c.list-item.result (omega arith) c.list-item.is left.0 left.1 in (
      next.1,
      next.4,
      appended-more c.args.n c.args.i c.loop-list.into.items c.append_blocks.new.into.items next.0 (flat_map (λ bag. bag) next.1) (flat_map (λ bag. bag) left.0) _
          (c.in_ok-append_blocks.ensures plan next.0 (rw c.deref.ensures.value next.3)) (ap (λ (bs : List (List Tuple)). flat_map (λ bag. bag) bs) next.2) left.2,
    )

pub returns : goal.returns
returns c = λ plan bags listed.
    let left = c.loop-list.invariant plan bags listed in
    appended-all c.args.n c.args.i c.loop-list.into.items (flat_map (λ bag. bag) left.0) _ (no-list plan c.args.lists.now c.loop-list.list-index left.0 (omega arith) left.1) left.2
