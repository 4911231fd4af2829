use Rattle.std.proofs.Common.{◌≡◌, drop}
use Rattle.serde_json.specs.View.{items_view}
use Rattle.apx_json.specs.Shape.{operator_at, each_at}
use Rattle.apx_json.proofs.Lists.{with_front}
use Rattle.apx_json.proofs.operator.operators.Given as goal

abbrev pub invariant-loop-i : goal.invariant-loop-i
invariant-loop-i l = with_front l.operators.items (each_at (operator_at) l.i (items_view (drop l.i l.list.items))) ≡ each_at (operator_at) 0 (items_view l.list.items)
