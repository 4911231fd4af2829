use Rattle.std.proofs.Common.{◌≡◌, ◌++◌}
use Rattle.std.specs.List.{flat_map}
use Rattle.apx_rules.specs.Parts.{cut_bag}
use Rattle.apx_fold.specs.Telling.{told_of}
use Rattle.apx_fold.proofs.told.tell_moved.Given as goal

abbrev pub invariant-loop-tuple : goal.invariant-loop-tuple
invariant-loop-tuple l = l.told.items ≡ l.fn.told.items ++ flat_map (told_of l.kind) (cut_bag l.share.n l.share.i l.yielded)
