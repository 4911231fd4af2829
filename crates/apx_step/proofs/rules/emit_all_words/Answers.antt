use Rattle.std.proofs.Common.{◌≡◌, ◌++◌, to_z, of_z, w64, rules, ap, ◌∙◌}
use mir.Val.{SFits}
use Rattle.std.proofs.lemmas.Int.{to_z-of_z}
use Rattle.apx_rules.specs.Rule.{words_of}
use Rattle.apx_step.specs.Words.{with_value}
use Rattle.apx_step.proofs.Fronts.{made-more}
use Rattle.apx_step.proofs.rules.emit_all_words.Goals as goal

pub loop-tuple-preserved : goal.loop-tuple-preserved
loop-tuple-preserved c =
    let fits : SFits w64 c.tuple-item.result.value = search rules in
    let same : to_z w64 (of_z w64 c.tuple-item.result.value) ≡ c.tuple-item.result.value = to_z-of_z w64 c.tuple-item.result.value fits in
    made-more (λ value. with_value value (words_of c.args.key.now)) c.args.emitted.now.items c.loop-tuple.emitted.items _ c.args.tuples.now c.loop-tuple.tuple-index c.tuple-item.result c.loop-tuple-test.true c.tuple-item.is c.loop-tuple.invariant
    (c.in_ok-emit_words.ensures ∙ ap (λ value. c.loop-tuple.emitted.items ++ with_value value (words_of c.args.key.now)) same)
