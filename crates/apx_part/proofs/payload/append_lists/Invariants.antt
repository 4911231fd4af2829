use Rattle.std.proofs.Common.{◌≡◌, List, ◌++◌, drop}
use Rattle.std.specs.List.{flat_map}
use Rattle.apx_list.specs.declared.plan.CutPlan.{CutPlan}
use Rattle.apx_rules.specs.Parts.{cut_bag}
use Rattle.apx_tuple.specs.declared.tuple.Tuple.{Tuple}
use Rattle.apx_part.specs.Spelled.{AreListed}
use Rattle.apx_part.proofs.Spelling.{blocks_in}
use Rattle.apx_part.proofs.payload.append_lists.Given as goal

abbrev pub invariant-loop-list : goal.invariant-loop-list
invariant-loop-list l = (plan : CutPlan) (bags : List (List Tuple)) → AreListed plan (blocks_in l.lists) bags →
    (rest : List (List Tuple)) × AreListed plan (blocks_in (drop l.list-index l.lists)) rest
    × (l.into.items ++ cut_bag l.n l.i (flat_map (λ bag. bag) rest) ≡ l.fn.into.items ++ cut_bag l.n l.i (flat_map (λ bag. bag) bags))
