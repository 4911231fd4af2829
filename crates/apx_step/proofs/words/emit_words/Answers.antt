use Rattle.std.proofs.Common.{◌≡◌, ◌<◌, ◌++◌, arith, to_z, of_z, w64, length, ap, ◌∙◌}
use Rattle.std.proofs.lemmas.Bool.Decides.{nat_tests}
use Rattle.std.proofs.lemmas.Int.{to_z-of_z}
use Rattle.apx_rules.specs.Rule.{words_of}
use Rattle.apx_step.specs.Words.{with_value}
use Rattle.apx_step.proofs.Splits.{emitted-next, emitted-end, first_word-short, past_word-shorter}
use Rattle.apx_step.proofs.words.emit_words.Goals as goal

pub emit_word-requires : goal.emit_word-requires
emit_word-requires c = omega (arith, first_word-short c.loop-rest.rest.now, ap length c.split_word.ensures.word)

pub loop-rest-smaller : goal.loop-rest-smaller
loop-rest-smaller c =
    let some : 0 < length c.loop-rest.rest.now = grind (arith, nat_tests) in
    omega (arith, past_word-shorter c.loop-rest.rest.now some, ap length c.split_word.ensures.rest)

pub loop-rest-preserved : goal.loop-rest-preserved
loop-rest-preserved c = record {
  short = let some : 0 < length c.loop-rest.rest.now = grind (arith, nat_tests) in omega (arith, past_word-shorter c.loop-rest.rest.now some, ap length c.split_word.ensures.rest, c.loop-rest.invariant.short);
  emitted = emitted-next (to_z w64 (of_z w64 c.args.value)) _ _ _ _ _ _ c.in_ok-emit_word.ensures c.split_word.ensures.word c.split_word.ensures.rest c.loop-rest.invariant.emitted;
}

pub returns : goal.returns
returns c =
    let same : to_z w64 (of_z w64 c.args.value) ≡ c.args.value = to_z-of_z w64 c.args.value c.ranges.value in
    let empty : length c.loop-rest.rest.now ≡ 0 = grind (arith, nat_tests) in
    emitted-end c.args.value _ _ _ empty (simp same at c.loop-rest.invariant.emitted) ∙ ap (λ k. c.args.emitted.now.items ++ with_value c.args.value (words_of k)) c.bytes-rest.ensures.bytes
