use Rattle.std.proofs.Common.{◌≡◌, arith, ap, length, List}
use Rattle.apx_tuple.specs.declared.tuple.Tuple.{Tuple}
use Rattle.apx_fold.proofs.Bests.{ranked-nothing}
use Rattle.apx_fold.proofs.best.Best.new.Goals as goal

pub invariant_of-result : goal.invariant_of-result
invariant_of-result c =
    let none : length c.new.result.items ≡ 0 = ap (λ (l : List Tuple). length l) c.new.ensures.items in
    record { ranked = ranked-nothing c.new.result.items c.new.ensures.items; few = omega (arith, none) }
