use Rattle.std.proofs.Common.{◌≡◌, ◌∙◌, ◌++◌, ◌∷◌, [], ℕ, List, length, map, sym, ap, rules, to_z, of_z, w64}
use Rattle.std.specs.Slice.Iter as slice
use Rattle.std.proofs.lemmas.Int.{to_z-of_z}
use Rattle.std.proofs.lemmas.Iterator.Consumers.{YieldsList-turn, YieldsList-end}
use Rattle.std.proofs.lemmas.Iterator.Splits.{YieldsList-from_slice_split}
use Rattle.std.proofs.lemmas.List.{map-append}
use Rattle.apx_step.specs.Words.{is_blank, with_value}
use Rattle.apx_fold.proofs.Splitting.{nonempty, short-word, words-next, words-all}
use Rattle.apx_fold.proofs.told.tell_words.Goals as goal

pub tell_word-requires : goal.tell_word-requires
tell_word-requires c =
    let gives = c.into_iter-word-iterator.ensures.into_iter_gives in
    let split = c.split-word-items.ensures in
    let t =
    YieldsList-turn
    (YieldsList-from_slice_split _ is_blank c.args.key.now (ap slice.split_rest gives ∙ split.rest ∙ c.bytes.ensures.bytes) (ap slice.split_done gives ∙ split.done) (ap slice.split_callee gives ∙ split.closure) (λ x b q k. search rules))
    c.loop-word.yielded _ c.loop-word.yielded_by _ _ c.in-Some.word c.in-Some.is c.next.ensures.steps in
    short-word c.args.key.now c.in-Some.word.now (length c.loop-word.yielded) t.0 t.1 c.bytes.ensures.short

pub loop-word-preserved : goal.loop-word-preserved
loop-word-preserved c =
    let value = to_z w64 (of_z w64 c.args.value) in
    words-next value c.args.told.now.items c.loop-word.told.items c.tell_word.new.told.items (map (λ w. w.now) c.loop-word.yielded) c.in-Some.word.now c.loop-word.invariant c.in_ok-tell_word.ensures
    ∙ ap (λ (ws : List (List ℕ)). c.args.told.now.items ++ with_value value (nonempty ws)) (sym (map-append (λ w. w.now) c.loop-word.yielded (c.in-Some.word ∷ [])))

pub returns : goal.returns
returns c =
    let gives = c.into_iter-word-iterator.ensures.into_iter_gives in
    let split = c.split-word-items.ensures in
    let value : to_z w64 (of_z w64 c.args.value) ≡ c.args.value = to_z-of_z w64 c.args.value c.ranges.value in
    let t =
    YieldsList-end
    (YieldsList-from_slice_split _ is_blank c.args.key.now (ap slice.split_rest gives ∙ split.rest ∙ c.bytes.ensures.bytes) (ap slice.split_done gives ∙ split.done) (ap slice.split_callee gives ∙ split.closure) (λ x b q k. search rules))
    c.loop-word.yielded _ c.loop-word.yielded_by _ _ c.in-None.is c.next.ensures.steps in
    words-all c.args.value c.args.told.now.items c.loop-word.told.items (map (λ w. w.now) c.loop-word.yielded) c.args.key.now (simp value at c.loop-word.invariant) t.0
