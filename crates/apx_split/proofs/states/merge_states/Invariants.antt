use Rattle.std.proofs.Common.{◌≡◌, take}
use Rattle.apx_rules.specs.Parts.{merge_states}
use Rattle.apx_split.proofs.states.merge_states.Given as goal

abbrev pub invariant-loop-part : goal.invariant-loop-part
invariant-loop-part l = l.merged ≡ merge_states (take l.part-index l.part-items)
