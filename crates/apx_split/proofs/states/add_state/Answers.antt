use Rattle.std.proofs.Common.{◌≡◌, ℤ, [], rules, subst, to_z, of_z, w64}
use mir.Val.{SFits}
use Rattle.std.proofs.lemmas.Int.{to_z-of_z}
use Rattle.std.proofs.lemmas.Result.{err_from_is_err_and}
use Rattle.apx_order.specs.Sorted.{with_member}
use Rattle.apx_rules.specs.Parts.{pair_order}
use Rattle.apx_tuple.specs.Size.{IsLarge}
use Rattle.apx_tuple.specs.State.{Pair, pair_key}
use Rattle.apx_split.proofs.Joining.{taken-absent, taken-once, taken-sorted, taken-ascends, taken-large, all-taken}
use Rattle.apx_split.proofs.states.add_state.Goals as goal

pub add_pair-requires : goal.add_pair-requires
add_pair-requires c = taken-absent c.loop-key.into [] c.loop-key.key-iterator c.next.new.self [] (c.in-Some.key.now, c.in-Some.value) c.in-Some.ensures.steps c.loop-key.invariant.once

pub loop-key-preserved : goal.loop-key-preserved
loop-key-preserved c =
    let x : Pair = (c.in-Some.key.now, c.in-Some.value) in
    let is : c.add_pair.new.into ≡ with_member pair_order x c.loop-key.into = search (rules, c.in_ok-add_pair.ensures.ok) in
    record {
      once = taken-once c.loop-key.into c.add_pair.new.into c.loop-key.key-iterator c.next.new.self [] x c.in-Some.ensures.steps is c.loop-key.invariant.once;
      same = taken-sorted c.loop-key.into c.add_pair.new.into c.loop-key.key-iterator c.next.new.self _ x c.in-Some.ensures.steps is c.loop-key.invariant.same;
      ordered = taken-ascends c.loop-key.into c.add_pair.new.into c.loop-key.key-iterator c.next.new.self [] x c.in-Some.ensures.steps is c.loop-key.invariant.ordered;
    }

pub returns-in_err-add_pair-clause-large : goal.returns-in_err-add_pair-clause-large
returns-in_err-add_pair-clause-large c = λ h.
    let p = err_from_is_err_and c.from_residual.result c.from_residual.ensures.1 in
    let fits : SFits w64 c.in-Some.value = search rules in
    let value : to_z w64 (of_z w64 c.in-Some.value) ≡ c.in-Some.value = to_z-of_z w64 c.in-Some.value fits in
    let large = c.in_err-add_pair.ensures.large (let is = p.1 in let gives = p.2 in cc) in
    taken-large c.loop-key.into [] c.loop-key.key-iterator c.next.new.self _ (c.in-Some.key.now, c.in-Some.value) c.in-Some.ensures.steps c.loop-key.invariant.ordered c.loop-key.invariant.same
    (subst (λ (v : ℤ). IsLarge pair_key (with_member pair_order (c.in-Some.key.now, v) c.loop-key.into)) value large)

pub returns-clause-ok : goal.returns-clause-ok
returns-clause-ok c = all-taken c.loop-key.into c.loop-key.key-iterator _ c.in-None.ensures.steps.0 c.loop-key.invariant.ordered c.loop-key.invariant.same
