use Rattle.std.proofs.Common.{◌≡◌, ◌≤◌, ◌++◌, [], ◌∷◌, Err, ap, arith, sym, subst, rules, List}
use Rattle.std.specs.List.Sorted.{IsStrictlySortedBy}
use Rattle.std.specs.Map.{keys_of}
use Rattle.apx_rules.specs.Parts.{cut_state}
use Rattle.apx_tuple.specs.Size.{size_by}
use Rattle.apx_tuple.specs.State.{Pair, pair_key}
use Rattle.apx_tuple.specs.Tuple.{key_order}
use Rattle.apx_fold.proofs.Cuts.{pair_next, pairs_end, cut-state}
use Rattle.apx_fold.proofs.share.Share.cut.Goals as goal

pub loop-key-preserved : goal.loop-key-preserved
loop-key-preserved c =
    let pair : Pair = (c.in-Some.key.now, c.in-Some.value) in
    let added : c.add_pair.new.into.items ≡ c.loop-key.pairs.items ++ cut_state c.args.self.now.n c.args.self.now.i (pair ∷ []) = search (rules, c.in_ok-add_pair.ensures) in
    pair_next c.args.self.now.n c.args.self.now.i c.loop-key.pairs.items c.add_pair.new.into.items c.next.new.self c.loop-key.key-iterator _ pair c.in-Some.ensures.steps added c.loop-key.invariant

pub from_ascending-requires : goal.from_ascending-requires
from_ascending-requires c =
    let n = c.args.self.now.n in
    let i = c.args.self.now.i in
    let all : c.loop-key.pairs.items ≡ cut_state n i c.args.state.now = pairs_end n i c.loop-key.pairs.items c.loop-key.key-iterator _ c.in-None.ensures.steps.0 c.loop-key.invariant in
    subst (λ (ps : List Pair). IsStrictlySortedBy key_order (keys_of ps)) (sym all) (cut-state n i c.args.state.now c.pairs-key-items.ensures.state).ascends

pub unreachable-requires : goal.unreachable-requires
unreachable-requires c =
    let n = c.args.self.now.n in
    let i = c.args.self.now.i in
    let all : c.loop-key.pairs.items ≡ cut_state n i c.args.state.now = pairs_end n i c.loop-key.pairs.items c.loop-key.key-iterator _ c.in-None.ensures.steps.0 c.loop-key.invariant in
    let large : 4294967232 ≤ size_by pair_key c.loop-key.pairs.items = c.in-Err-Large.ensures.large (ap Err c.in-Err-Large.field-0-is) in
    let small = (cut-state n i c.args.state.now c.pairs-key-items.ensures.state).small in
    let same : size_by pair_key c.loop-key.pairs.items ≡ size_by pair_key (cut_state n i c.args.state.now) = ap (size_by pair_key) all in
    absurd (omega (arith, large, small, same))
