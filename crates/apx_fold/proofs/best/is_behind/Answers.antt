use Rattle.std.proofs.Common.{◌-◌, ◌∙◌, sym, ap, arith, length}
use Rattle.std.specs.Ordering.{is_gt}
use Rattle.std.proofs.lemmas.Bool.{OnTrue_from}
use Rattle.apx_fold.proofs.Bests.{ranks-behind, ascends-ranked}
use Rattle.apx_fold.proofs.best.is_behind.Goals as goal

pub returns-then-first-k : goal.returns-then-first-k
returns-then-first-k c =
    OnTrue_from _ _ (λ h. ranks-behind c.args.k (length c.args.first.now - 1) c.args.tuple.now c.args.first.now c.last-item.result (ascends-ranked c.args.first.now c.requires) (omega arith) c.last-item.is
    (omega arith) (ap is_gt (sym c.rank.ensures) ∙ sym c.is_gt.ensures ∙ h))
