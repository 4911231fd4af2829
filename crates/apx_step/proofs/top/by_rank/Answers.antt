use Rattle.std.proofs.Common.{◌≡◌, arith}
use Rattle.std.proofs.lemmas.Grind.{common_steps}
use Rattle.apx_order.proofs.Mapped.{sorted-by-part}
use Rattle.apx_step.specs.declared.top.Ranked.{Ranked}
use Rattle.apx_step.specs.Places.{tuples_ranked}
use Rattle.apx_rules.proofs.Ranks.{rank_order-exact}
use Rattle.apx_step.proofs.top.by_rank.Goals as goal

pub returns : goal.returns
returns c =
    let all : tuples_ranked c.loop-tuple.ranked.items ≡ c.args.bag.now = grind (arith, common_steps) in
    sorted-by-part rank_order-exact (λ (place : Ranked). place.0.now) _ _ _ all c.in_ok-sort.ensures.permutation c.in_ok-sort.ensures.sorted
