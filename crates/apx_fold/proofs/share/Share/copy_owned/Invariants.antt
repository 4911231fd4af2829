use Rattle.std.proofs.Common.{◌≡◌, ◌++◌, take}
use Rattle.apx_rules.specs.Parts.{cut_bag}
use Rattle.apx_fold.proofs.share.Share.copy_owned.Given as goal

abbrev pub invariant-loop-tuple : goal.invariant-loop-tuple
invariant-loop-tuple l = l.into.items ≡ l.fn.into.items ++ cut_bag l.self.n l.self.i (take l.tuple-index l.tuples)
