use Rattle.std.proofs.Common.{◌≡◌, drop}
use Rattle.apx_codec.specs.KeyNumber.{hash_from, hash_of}
use Rattle.apx_codec.proofs.hash.Given as goal

abbrev pub invariant-loop-byte : goal.invariant-loop-byte
invariant-loop-byte l = hash_from l.number (drop l.byte-index l.key) ≡ hash_of l.key
