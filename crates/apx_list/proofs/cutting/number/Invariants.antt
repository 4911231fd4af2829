use Rattle.std.proofs.Common.{◌≡◌, map}
use Rattle.apx_list.specs.Cut.{numbered}
use Rattle.apx_list.proofs.cutting.number.Given as goal

abbrev pub invariant-loop-piece : goal.invariant-loop-piece
invariant-loop-piece l = l.blocks.items ≡ numbered l.window l.count 0 (map (λ (piece : _). piece.items) l.yielded)
