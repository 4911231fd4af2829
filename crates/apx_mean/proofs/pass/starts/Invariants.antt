use Rattle.std.proofs.Common.{◌≡◌, map, take}
use Rattle.apx_pass.specs.Pass.{at_start}
use Rattle.apx_mean.proofs.pass.starts.Given as goal

abbrev pub invariant-loop-operator : goal.invariant-loop-operator
invariant-loop-operator l = l.progress.items ≡ map (λ _. at_start) (take l._operator-index l.order)
