use Rattle.std.proofs.Common.{◌≡◌, List, ◌++◌, drop}
use Rattle.apx_list.specs.declared.plan.CutPlan.{CutPlan}
use Rattle.apx_rules.specs.Parts.{cut_bag}
use Rattle.apx_tuple.specs.declared.tuple.Tuple.{Tuple}
use Rattle.apx_part.specs.Spelled.{AreSpelled}
use Rattle.apx_part.proofs.payload.append_blocks.Given as goal

abbrev pub invariant-loop-block : goal.invariant-loop-block
invariant-loop-block l = (plan : CutPlan) (tuples : List Tuple) → AreSpelled plan l.blocks tuples →
    (rest : List Tuple) × AreSpelled plan (drop l.block-index l.blocks) rest × (l.into.items ++ cut_bag l.n l.i rest ≡ l.fn.into.items ++ cut_bag l.n l.i tuples)
