use Rattle.std.proofs.Common.{◌≡◌, arith, to_z, of_z, w64}
use Rattle.std.proofs.lemmas.Int.{to_z-of_z}
use Rattle.std.proofs.lemmas.List.Edits.{map_over_more}
use Rattle.apx_step.specs.Singles.{scaled}
use Rattle.apx_step.proofs.singles.multiplied.Goals as goal

pub loop-place-preserved : goal.loop-place-preserved
loop-place-preserved c =
    let same : to_z w64 (of_z w64 c.args.factor) ≡ c.args.factor = to_z-of_z w64 c.args.factor c.ranges.factor in
    simp same (map_over_more (scaled c.args.factor) c.args.tuples.items c.loop-place.tuples.items c.loop-place.place c.index_mut-tuple.result.now (omega arith) (simp same at c.loop-place.invariant) c.index_mut-tuple.ensures.value)
