use Rattle.apx_fold.proofs.Puts.{IsPutting}
use Rattle.apx_fold.proofs.putting.put_numbers.Given as goal

abbrev pub invariant-loop-key : goal.invariant-loop-key
invariant-loop-key l = IsPutting l.kind l.fn.state l.numbers l.kept l.rows.items l.key-iterator
