use Rattle.std.proofs.Common.{arith, rules, w64}
use mir.Val.{SFits}
use Rattle.std.proofs.lemmas.Int.{to_z-of_z}
use Rattle.apx_step.proofs.Fronts.{greatest-more}
use Rattle.apx_step.proofs.rules.greatest.Goals as goal

pub loop-tuple-preserved : goal.loop-tuple-preserved
loop-tuple-preserved c =
    let most : SFits w64 c.max.result = search rules in
    let peak : SFits w64 c.unwrap_or.result = search rules in
    let value : SFits w64 c.tuple-item.result.value = search rules in
    let step = greatest-more c.args.old c.args.tuples.now c.loop-tuple.tuple-index c.tuple-item.result c.loop-tuple-test.true c.tuple-item.is in
    grind (arith, to_z-of_z, step)
