use Rattle.std.proofs.Common.{length, arith, ap, subst, sym, List}
use Rattle.std.proofs.lemmas.Result.{err_from_is_err_and}
use Rattle.apx_tuple.specs.declared.tuple.Tuple.{Tuple}
use Rattle.apx_step.proofs.Groups.{keys-ascend}
use Rattle.apx_step.proofs.Walks.{IsWalking, walking-start, walking-next, walking-fewer, walking-large, walking-end}
use Rattle.apx_step.proofs.walk.walk.Goals as goal

pub loop-key-init : goal.loop-key-init
loop-key-init c =
    let start = walking-start c.args.kind.now c.args.start c.args.left.now c.args.right.now c.requires (keys-ascend _ c.tuples-lefts.ensures.bag.ascends) (keys-ascend _ c.tuples-rights.ensures.bag.ascends) in
    subst (λ (x : List Tuple × List Tuple × List Tuple). IsWalking c.args.kind.now c.args.start c.args.left.now c.args.right.now c.args.start x.0 x.1 x.2)
    (λ i. (sym c.new-emitted.ensures.items i, sym c.tuples-lefts.ensures.tuples i, sym c.tuples-rights.ensures.tuples i)) start

pub returns-in_err-keep_entry-clause-large : goal.returns-in_err-keep_entry-clause-large
returns-in_err-keep_entry-clause-large c = λ h.
    walking-large _ _ _ _ _ _ _ _ c.loop-key.invariant c.in-Some.key.now c.in-Some.ensures c.in_ok-entry.entry _ _ _
    c.split_group.ensures.group c.split_group-in-Some.ensures.group c.get-old.ensures c.in_ok-entry.ensures.entry
    (let p = err_from_is_err_and c.from_residual-in_err-keep_entry.result c.from_residual-in_err-keep_entry.ensures.1 in c.in_err-keep_entry.ensures.large (let is = p.1 in let gives = p.2 in cc))

pub loop-key-smaller : goal.loop-key-smaller
loop-key-smaller c =
    let fewer = walking-fewer _ _ _ _ _ _ _ _ c.loop-key.invariant c.in-Some.key.now c.in-Some.ensures in
    omega (arith, fewer, ap length c.split_group.ensures.rest, ap length c.split_group-in-Some.ensures.rest)

pub loop-key-preserved : goal.loop-key-preserved
loop-key-preserved c =
    walking-next _ _ _ _ _ _ _ _ c.loop-key.invariant c.in-Some.key.now c.in-Some.ensures c.in_ok-entry.entry _ _ _ _ _ _ _
    c.split_group.ensures.group c.split_group-in-Some.ensures.group c.split_group.ensures.rest c.split_group-in-Some.ensures.rest c.get-old.ensures
    c.in_ok-entry.ensures.entry c.in_ok-entry.ensures.emitted c.in_ok-keep_entry.ensures.ok

pub returns-clause-state : goal.returns-clause-state
returns-clause-state c = (walking-end _ _ _ _ _ _ _ _ c.loop-key.invariant c.in_default.ensures).0

pub returns-clause-emitted : goal.returns-clause-emitted
returns-clause-emitted c = (walking-end _ _ _ _ _ _ _ _ c.loop-key.invariant c.in_default.ensures).1
