use Rattle.std.proofs.Common.{◌≡◌, take}
use Rattle.apx_rules.specs.Parts.{cut_bag}
use Rattle.apx_split.proofs.bags.owned.Given as goal

abbrev pub invariant-loop-tuple : goal.invariant-loop-tuple
invariant-loop-tuple l = l.owned.items ≡ cut_bag l.n l.i (take l.tuple-index l.tuple-items)
