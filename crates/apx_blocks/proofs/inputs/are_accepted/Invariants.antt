use Rattle.std.proofs.Common.{take}
use Rattle.std.specs.List.{AllByRecursion}
use Rattle.apx_pass.specs.Groups.{IsInput}
use Rattle.apx_blocks.proofs.inputs.are_accepted.Given as goal

abbrev pub invariant-loop-input : goal.invariant-loop-input
invariant-loop-input l = AllByRecursion IsInput (take l.input-index l.inputs)
