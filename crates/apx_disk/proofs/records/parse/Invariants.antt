use Rattle.std.proofs.Common.{◌≡◌, ◌+◌, length, map}
use Rattle.apx_disk.specs.Log.{read_from, read_log}
use Rattle.apx_disk.specs.Entries.{entry_of}
use Rattle.apx_disk.proofs.Reading.{onto}
use Rattle.apx_disk.proofs.records.parse.Given as goal

abbrev pub invariant-loop-rest : goal.invariant-loop-rest
invariant-loop-rest l = record {
  read : read_log l.bytes ≡ onto (map entry_of l.records.items) (read_from (length l.rest) l.place l.rest);
  place : l.place + length l.rest ≡ length l.bytes;
}

abbrev pub decreases-loop-rest : goal.decreases-loop-rest
decreases-loop-rest l = length l.rest
