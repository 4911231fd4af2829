use Rattle.std.proofs.Common.{◌≡◌, ◌==◌, ℤ, [], cond, rules, ap, subst, ◌∙◌, to_z, of_z, w64}
use mir.Val.{SFits}
use Rattle.std.proofs.lemmas.Int.{to_z-of_z}
use Rattle.std.proofs.lemmas.Result.{err_from_is_err_and}
use Rattle.apx_tuple.specs.Size.{IsLarge}
use Rattle.apx_codec.specs.KeyNumber.{owner_of}
use Rattle.apx_order.specs.Sorted.{with_member}
use Rattle.apx_rules.specs.Parts.{pair_order, cut_state}
use Rattle.apx_tuple.specs.State.{Pair, pair_key}
use Rattle.apx_split.proofs.Joining.{all-taken, cut-begins, cut-is-small, cut-absent, cut-large, cut-next-once, cut-next-sorted, cut-next-ascends}
use Rattle.apx_split.proofs.states.split_state.Goals as goal

pub add_owned-requires-clause-absent : goal.add_owned-requires-clause-absent
add_owned-requires-clause-absent c = cut-absent c.args.n c.args.i c.loop-key.owned [] c.loop-key.key-iterator c.next.new.self [] (c.in-Some.key.now, c.in-Some.value) c.in-Some.ensures.steps c.loop-key.invariant.once

pub loop-key-preserved : goal.loop-key-preserved
loop-key-preserved c =
    let x : Pair = (c.in-Some.key.now, c.in-Some.value) in
    let is : c.add_owned.new.into ≡ cond (owner_of c.args.n x.0 == c.args.i) (with_member pair_order x c.loop-key.owned) c.loop-key.owned = search (rules, c.in_ok-add_owned.ensures.ok) in
    record {
      once = cut-next-once c.args.n c.args.i c.loop-key.owned c.add_owned.new.into c.loop-key.key-iterator c.next.new.self [] x c.in-Some.ensures.steps is c.loop-key.invariant.once;
      same = cut-next-sorted c.args.n c.args.i c.loop-key.owned c.add_owned.new.into c.loop-key.key-iterator c.next.new.self _ x c.in-Some.ensures.steps is c.loop-key.invariant.same;
      ordered = cut-next-ascends c.args.n c.args.i c.loop-key.owned c.add_owned.new.into c.loop-key.key-iterator c.next.new.self [] x c.in-Some.ensures.steps is c.loop-key.invariant.ordered;
    }

pub loop-key-init : goal.loop-key-init
loop-key-init c =
    let all : c.into_iter-key-iterator.result ≡ c.args.state.now = c.into_iter-key-iterator.ensures.into_iter_gives ∙ c.pairs-key-items.ensures.pairs in
    let begins = cut-begins c.args.n c.args.i c.new-owned.result c.into_iter-key-iterator.result c.args.state.now c.new-owned.ensures all c.pairs-key-items.ensures.state.ascends in
    record { once = begins.0; same = begins.1; ordered = begins.2 }

pub returns-in_err-add_owned-clause-never : goal.returns-in_err-add_owned-clause-never
returns-in_err-add_owned-clause-never c = λ h.
    let p = err_from_is_err_and c.from_residual.result c.from_residual.ensures.1 in
    let fits : SFits w64 c.in-Some.value = search rules in
    let value : to_z w64 (of_z w64 c.in-Some.value) ≡ c.in-Some.value = to_z-of_z w64 c.in-Some.value fits in
    let large = c.in_err-add_owned.ensures.large (let is = p.1 in let gives = p.2 in cc) in
    cut-is-small c.args.n c.args.i c.args.state.now c.pairs-key-items.ensures.state
    (cut-large c.args.n c.args.i c.loop-key.owned [] c.loop-key.key-iterator c.next.new.self _ (c.in-Some.key.now, c.in-Some.value) c.in-Some.ensures.steps c.loop-key.invariant.ordered c.loop-key.invariant.same
    large.0 (subst (λ (v : ℤ). IsLarge pair_key (with_member pair_order (c.in-Some.key.now, v) c.loop-key.owned)) value large.1))

pub returns-clause-cut : goal.returns-clause-cut
returns-clause-cut c = all-taken c.loop-key.owned (cut_state c.args.n c.args.i c.loop-key.key-iterator) _ (ap (cut_state c.args.n c.args.i) c.in-None.ensures.steps.0) c.loop-key.invariant.ordered c.loop-key.invariant.same
