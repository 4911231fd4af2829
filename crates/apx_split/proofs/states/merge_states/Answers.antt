use Rattle.std.proofs.Common.{List, arith, subst, sym, ap, ◌∙◌}
use Rattle.std.proofs.lemmas.Result.{err_from_is_err_and}
use Rattle.apx_tuple.specs.Size.{IsLarge}
use Rattle.apx_tuple.specs.State.{Pair, pair_key}
use Rattle.apx_rules.specs.Parts.{merge_states}
use Rattle.apx_shares.proofs.Merging.{states-merge}
use Rattle.apx_split.specs.Kept.{AreOnce}
use Rattle.apx_split.proofs.Merged.{merged-once, merged-ordered, merged-more, merged-large, merged-all, none-merged}
use Rattle.apx_split.proofs.states.merge_states.Goals as goal

pub add_state-requires-clause-once : goal.add_state-requires-clause-once
add_state-requires-clause-once c =
    merged-once c.deref-part-items.result.now c.loop-part.part-index c.part-item.result c.loop-part.merged (omega arith) c.part-item.is c.loop-part.invariant
    (subst (λ (ps : List (List Pair)). AreOnce (merge_states ps)) (sym c.deref-part-items.ensures.value) c.requires)

pub add_state-requires-clause-ordered : goal.add_state-requires-clause-ordered
add_state-requires-clause-ordered c = merged-ordered c.deref-part-items.result.now c.loop-part.part-index c.part-item.result c.loop-part.merged (omega arith) c.part-item.is c.loop-part.invariant

pub loop-part-preserved : goal.loop-part-preserved
loop-part-preserved c = c.in_ok-add_state.ensures.ok ∙ merged-more c.deref-part-items.result.now c.loop-part.part-index c.part-item.result c.loop-part.merged (omega arith) c.part-item.is c.loop-part.invariant

pub loop-part-init : goal.loop-part-init
loop-part-init c = c.new-merged.ensures ∙ sym none-merged

pub returns-in_err-add_state-clause-large : goal.returns-in_err-add_state-clause-large
returns-in_err-add_state-clause-large c = λ h.
    let p = err_from_is_err_and c.from_residual.result c.from_residual.ensures.1 in
    subst (λ (ps : List (List Pair)). IsLarge pair_key (merge_states ps)) c.deref-part-items.ensures.value
    (merged-large c.deref-part-items.result.now c.loop-part.part-index c.part-item.result c.loop-part.merged (omega arith) c.part-item.is c.loop-part.invariant
    (c.in_err-add_state.ensures.large (let is = p.1 in let gives = p.2 in cc)))

pub returns-clause-ok : goal.returns-clause-ok
returns-clause-ok c = merged-all c.deref-part-items.result.now c.loop-part.part-index c.loop-part.merged c.loop-part-test.false c.loop-part.invariant ∙ ap merge_states c.deref-part-items.ensures.value

pub returns-clause-whole : goal.returns-clause-whole
returns-clause-whole c = λ n state h a e.
    merged-all c.deref-part-items.result.now c.loop-part.part-index c.loop-part.merged c.loop-part-test.false c.loop-part.invariant
    ∙ (ap merge_states c.deref-part-items.ensures.value ∙ (ap merge_states e ∙ states-merge n h state a))
