use Rattle.std.proofs.Common.{◌⊎◌, List, subst}
use Rattle.std.proofs.lemmas.Result.{err_from_is_err_and}
use Rattle.apx_tuple.specs.declared.tuple.Tuple.{Tuple}
use Rattle.apx_tuple.specs.Size.{IsLarge}
use Rattle.apx_tuple.specs.Tuple.{tuple_key, bag_of}
use Rattle.apx_fold.specs.Folding.{owned, left_after, right_after}
use Rattle.apx_fold.specs.Folds.{digest_part}
use Rattle.apx_fold.proofs.Ends.{taken-too-large}
use Rattle.apx_fold.proofs.digest.DigestFolding.take_all.Goals as goal

pub returns-in_err-digest_owned-clause-large : goal.returns-in_err-digest_owned-clause-large
returns-in_err-digest_owned-clause-large c = λ h lefts rights stands.
    let fold = c.args.self.now in
    let p = err_from_is_err_and c.from_residual.result c.from_residual.ensures.1 in
    subst (λ (ts : List Tuple). IsLarge tuple_key (bag_of (left_after c.args.port lefts ts)) ⊎ IsLarge tuple_key (bag_of (right_after c.args.port rights ts))) c.deref.ensures.value
    (taken-too-large (digest_part fold) c.args.port lefts rights c.deref.result.now c.if-port-eq0.true
    (c.in_err-digest_owned.ensures.large (let is = p.1 in let gives = p.2 in cc) (owned (digest_part fold) lefts) stands))
