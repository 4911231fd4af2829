use Rattle.std.proofs.Common.{◌≡◌, take}
use Rattle.apx_tuple.specs.Size.{size_by}
use Rattle.apx_tuple.specs.Tuple.{tuple_key}
use Rattle.apx_device.proofs.rows.bytes_len.Given as goal

abbrev pub invariant-loop-row : goal.invariant-loop-row
invariant-loop-row l = l.len ≡ size_by tuple_key (take l.row-index l.rows)
