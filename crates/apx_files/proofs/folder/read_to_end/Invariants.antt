-- What holds of the bytes that were read so far.
use Rattle.std.proofs.Common.{◌≤◌, length}
use Rattle.std.specs.Io.KnownBytes.{Consumes}
use Rattle.apx_files.proofs.folder.read_to_end.Given as goal

-- they are no more than the limit, and they are what the reader gave
abbrev pub invariant-loop : goal.invariant-loop
invariant-loop g l = (length l.bytes.items ≤ l.limit) × Consumes (g.S.Read.remaining l.initial.source) (g.S.Read.remaining l.source) l.bytes.items
