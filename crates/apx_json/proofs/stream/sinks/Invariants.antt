use Rattle.std.proofs.Common.{◌≡◌, drop}
use Rattle.serde_json.specs.View.{items_view}
use Rattle.apx_json.specs.Shape.{sink_at, each_at}
use Rattle.apx_json.proofs.Lists.{with_front}
use Rattle.apx_json.proofs.stream.sinks.Given as goal

abbrev pub invariant-loop-j : goal.invariant-loop-j
invariant-loop-j l = with_front l.sinks.items (each_at (sink_at l.i) l.j (items_view (drop l.j l.list.items))) ≡ each_at (sink_at l.i) 0 (items_view l.list.items)
