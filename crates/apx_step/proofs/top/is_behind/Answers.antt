use Rattle.std.proofs.Common.{◌-◌, ◌∙◌, sym, ap, arith, length}
use Rattle.std.specs.Ordering.{is_gt}
use Rattle.std.proofs.lemmas.Bool.{OnTrue_from}
use Rattle.apx_step.proofs.Ranking.{ranked-behind}
use Rattle.apx_step.proofs.top.is_behind.Goals as goal

pub returns-then-first-k : goal.returns-then-first-k
returns-then-first-k c =
    OnTrue_from _ _ (λ h. ranked-behind c.args.k (length c.args.first.now - 1) c.args.tuple.now c.args.first.now c.last-item.result c.requires.ascends (omega arith) c.last-item.is
    (omega arith) (ap is_gt (sym c.rank.ensures) ∙ sym c.is_gt.ensures ∙ h))
