use Rattle.std.proofs.Common.{◌≡◌, ◌++◌, map, take, drop}
use Rattle.apx_step.specs.Singles.{scaled}
use Rattle.apx_step.proofs.singles.multiplied.Given as goal

abbrev pub invariant-loop-place : goal.invariant-loop-place
invariant-loop-place l = l.tuples.items ≡ map (scaled l.factor) (take l.place l.initial.tuples.items) ++ drop l.place l.initial.tuples.items
