use Rattle.std.proofs.Common.{◌≡◌, ◌++◌, ◌∷◌, [], Bool, cond, take, subst}
use Rattle.apx_order.specs.Sorted.{sorted}
use Rattle.apx_rules.specs.Step.{rank_order}
use Rattle.apx_fold.proofs.Bests.{first-more}
use Rattle.apx_fold.proofs.Cuts.{on_ok}
use Rattle.apx_fold.proofs.best.consider_if_owned.Goals as goal

pub returns-clause-first : goal.returns-clause-first
returns-clause-first c =
    let t = c.args.tuple.now in
    on_ok c.consider.result _ _
    (λ is before was.
    subst (λ (b : Bool). c.consider.new.first.items ≡ take c.args.k (sorted rank_order (before ++ cond b (t ∷ []) []))) c.if-not-owns.ensures
    (first-more c.args.k t before c.args.first.now.items c.consider.new.first.items was is))
    c.consider.ensures.first
