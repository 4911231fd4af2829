use Rattle.std.proofs.Common.{subst}
use Rattle.apx_fold.specs.declared.fold.Fold.{Fold}
use Rattle.apx_fold.specs.Folds.{fold_stands}
use Rattle.apx_fold.proofs.Cuts.{on_ok}
use Rattle.apx_fold.proofs.fold.FoldFolding.take.Goals as goal

pub returns-in-Gathered-clause-taken : goal.returns-in-Gathered-clause-taken
returns-in-Gathered-clause-taken c =
    on_ok c.take.result _ _ (λ taken lefts rights stands. taken lefts rights (subst (λ (f : Fold). fold_stands f lefts rights) c.in-Gathered.is stands)) c.take.ensures.taken
