use Rattle.std.proofs.Common.{ℕ, ap, ◌∙◌, arith}
use Rattle.apx_rules.specs.Parts.{of_parts}
use Rattle.apx_shares.specs.Carried.{cut_progress}
use Rattle.apx_tuple.specs.declared.progress.Progress.{Progress}
use Rattle.apx_renew.proofs.Splitting.{parts_more}
use Rattle.apx_renew.proofs.splits.all_cuts.Goals as goal

pub loop-part-preserved : goal.loop-part-preserved
loop-part-preserved c =
    let cut : ℕ → Progress = λ i. cut_progress c.args.count i c.args.whole.now in
    record { cut = c.in_ok-push.ensures.items ∙ parts_more cut c.loop-part.cuts.items c.loop-part.part c.in_ok-cut.cut c.loop-part.invariant.cut c.in_ok-cut.ensures.cut }

pub returns : goal.returns
returns c =
    let cut : ℕ → Progress = λ i. cut_progress c.args.count i c.args.whole.now in
    c.loop-part.invariant.cut ∙ ap (λ (k : ℕ). of_parts k cut) (omega arith)
