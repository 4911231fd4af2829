use Rattle.std.proofs.Common.{◌≡◌}
use Rattle.apx_pass.specs.Order.{reads}
use Rattle.apx_recovery.specs.Sets.{set_of}
use Rattle.apx_recovery.proofs.operators.readers.Given as goal

abbrev pub invariant-loop-reader : goal.invariant-loop-reader
invariant-loop-reader l = l.set ≡ set_of l.reader (λ o. reads l.dag o l.op)
