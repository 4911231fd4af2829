use Rattle.std.proofs.Common.{◌-◌, ◌∙◌, sym, ap, arith}
use Rattle.std.specs.Ordering.{is_gt}
use Rattle.std.proofs.lemmas.List.Sorted.{all_adjacent_more}
use Rattle.apx_tuple.proofs.Orders.{IsStep, steps-ascend, same-step}
use Rattle.apx_tuple.proofs.bag.ascends.Goals as goal

pub loop-place-preserved : goal.loop-place-preserved
loop-place-preserved c =
    all_adjacent_more c.args.tuples.now IsStep c.loop-place.place (omega arith) c.loop-place.invariant
    (λ d. same-step c.args.tuples.now (c.loop-place.place - 1) c.loop-place.place c.index-tuples-place.result c.index-tuples-place-in-loop-place.result d (omega arith) (omega arith) c.index-tuples-place.is c.index-tuples-place-in-loop-place.is
    (ap is_gt (sym c.cmp.ensures) ∙ sym c.is_gt.ensures ∙ c.if-is_gt.false))

pub returns : goal.returns
returns c = steps-ascend c.args.tuples.now (λ k d l. c.loop-place.invariant k d (omega arith))
