use Rattle.std.proofs.Common.{◌++◌, List, take}
use Rattle.apx_tuple.specs.declared.tuple.Tuple.{Tuple}
use Rattle.apx_rules.specs.Parts.{cut_bag}
use Rattle.apx_fold.specs.Digests.{AreDigests}
use Rattle.apx_fold.proofs.digest.digest_owned.Given as goal

abbrev pub invariant-loop-tuple : goal.invariant-loop-tuple
invariant-loop-tuple l =
    (before : List Tuple) → AreDigests l.kind l.fn.numbers before → AreDigests l.kind l.numbers (before ++ cut_bag l.share.n l.share.i (take l.tuple-index l.tuples))
