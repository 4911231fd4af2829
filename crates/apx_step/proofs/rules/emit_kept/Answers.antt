use Rattle.std.proofs.Common.{◌≡◌, arith, rules, to_z, of_z, w64, Bool, ℤ, ◌&&◌, int_le, sym}
use mir.Val.{SFits}
use Rattle.std.proofs.lemmas.Grind.{common_steps}
use Rattle.std.proofs.lemmas.Int.{to_z-of_z}
use Rattle.apx_step.proofs.Fronts.{passed-more}
use Rattle.apx_step.proofs.rules.emit_kept.Goals as goal
use Rattle.apx_step.proofs.rules.emit_kept.Goals.{then-is_within+in_ok-emit, else-is_within}

pub loop-tuple-preserved : goal.loop-tuple-preserved
loop-tuple-preserved c =
    let min : to_z w64 (of_z w64 c.args.min) ≡ c.args.min = to_z-of_z w64 c.args.min c.ranges.min in
    let max : to_z w64 (of_z w64 c.args.max) ≡ c.args.max = to_z-of_z w64 c.args.max c.ranges.max in
    let fits : SFits w64 c.tuple-item.result.value = search rules in
    let value : to_z w64 (of_z w64 c.tuple-item.result.value) ≡ c.tuple-item.result.value = to_z-of_z w64 c.tuple-item.result.value fits in
    let test : ℤ → Bool = λ v. int_le c.args.min v && int_le v c.args.max in
    let pass : test c.tuple-item.result.value ≡ c.is_within.result = sym (simp (min, max, value) at c.is_within.ensures) in
    let more = passed-more test c.args.key.now c.args.tuples.now c.loop-tuple.tuple-index c.tuple-item.result c.is_within.result c.loop-tuple-test.true c.tuple-item.is pass in
    simp (min, max) (elim c.if-is_within.branch [
      | then-is_within+in_ok-emit w ↦ grind (arith, common_steps, more, simp (min, max) at c.loop-tuple.invariant, value)
      | else-is_within w ↦ grind (arith, common_steps, more, simp (min, max) at c.loop-tuple.invariant)
    ])

pub returns : goal.returns
returns c =
    let min : to_z w64 (of_z w64 c.args.min) ≡ c.args.min = to_z-of_z w64 c.args.min c.ranges.min in
    let max : to_z w64 (of_z w64 c.args.max) ≡ c.args.max = to_z-of_z w64 c.args.max c.ranges.max in
    grind (arith, common_steps, simp (min, max) at c.loop-tuple.invariant)
