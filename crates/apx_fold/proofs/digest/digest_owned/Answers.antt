use Rattle.std.proofs.Common.{◌+◌, ◌++◌, take, subst, List}
use Rattle.std.proofs.lemmas.Result.{err_from_is_err_and}
use Rattle.apx_tuple.specs.declared.tuple.Tuple.{Tuple}
use Rattle.apx_tuple.specs.Size.{IsLarge}
use Rattle.apx_tuple.specs.Tuple.{tuple_key}
use Rattle.apx_rules.specs.Parts.{cut_bag}
use Rattle.apx_fold.specs.Digests.{AreDigests}
use Rattle.apx_fold.proofs.Cuts.{cut_onto, cut_all, first-large}
use Rattle.apx_fold.proofs.digest.digest_owned.Goals as goal

pub loop-tuple-preserved : goal.loop-tuple-preserved
loop-tuple-preserved c = λ before are.
    let n = c.args.share.now.n in
    let i = c.args.share.now.i in
    subst (λ (ts : List Tuple). AreDigests c.args.kind.now c.digest_if_owned.new.numbers ts)
    (cut_onto n i before c.args.tuples.now c.loop-tuple.tuple-index c.tuple-item.result c.loop-tuple-test.true c.tuple-item.is)
    (c.in_ok-digest_if_owned.ensures.taken (before ++ cut_bag n i (take c.loop-tuple.tuple-index c.args.tuples.now)) (c.loop-tuple.invariant before are))

pub returns-in_err-digest_if_owned-clause-large : goal.returns-in_err-digest_if_owned-clause-large
returns-in_err-digest_if_owned-clause-large c = λ h before are.
    let n = c.args.share.now.n in
    let i = c.args.share.now.i in
    let p = err_from_is_err_and c.from_residual.result c.from_residual.ensures.1 in
    first-large n i before c.args.tuples.now (c.loop-tuple.tuple-index + 1)
    (subst (λ (ts : List Tuple). IsLarge tuple_key ts)
    (cut_onto n i before c.args.tuples.now c.loop-tuple.tuple-index c.tuple-item.result c.loop-tuple-test.true c.tuple-item.is)
    (c.in_err-digest_if_owned.ensures.large (let is = p.1 in let gives = p.2 in cc) (before ++ cut_bag n i (take c.loop-tuple.tuple-index c.args.tuples.now)) (c.loop-tuple.invariant before are)))

pub returns-clause-taken : goal.returns-clause-taken
returns-clause-taken c = λ before are.
    subst (λ (ts : List Tuple). AreDigests c.args.kind.now c.loop-tuple.numbers (before ++ ts))
    (cut_all c.args.share.now.n c.args.share.now.i c.args.tuples.now c.loop-tuple.tuple-index c.loop-tuple-test.false)
    (c.loop-tuple.invariant before are)
