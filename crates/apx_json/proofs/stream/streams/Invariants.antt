use Rattle.std.proofs.Common.{◌≡◌, drop}
use Rattle.serde_json.specs.View.{items_view}
use Rattle.apx_json.specs.Shape.{stream_at, each_at}
use Rattle.apx_json.proofs.Lists.{with_front}
use Rattle.apx_json.proofs.stream.streams.Given as goal

abbrev pub invariant-loop-i : goal.invariant-loop-i
invariant-loop-i l = with_front l.streams.items (each_at (stream_at) l.i (items_view (drop l.i l.list.items))) ≡ each_at (stream_at) 0 (items_view l.list.items)
