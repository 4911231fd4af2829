use Rattle.std.proofs.Common.{◌≡◌, map, take}
use Rattle.apx_pass.specs.Job.{Job}
use Rattle.apx_blocks.specs.Carried.{parts_after}
use Rattle.apx_blocks.proofs.run.starts.Given as goal

abbrev pub invariant-loop-operator : goal.invariant-loop-operator
invariant-loop-operator l = (job : Job) → l.all.items ≡ map (parts_after job 0) (take l._operator-index l.order)
