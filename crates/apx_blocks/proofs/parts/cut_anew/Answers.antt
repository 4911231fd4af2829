use Rattle.std.proofs.Common.{◌≡◌, List, length, sym, ap, subst, ◌∙◌}
use Rattle.std.specs.Prelude.{Err, IfOk}
use Rattle.apx_rules.specs.Parts.{of_parts}
use Rattle.apx_shares.specs.Carried.{cut_progress, merge_progress}
use Rattle.apx_shares.proofs.Merging.{cuts-merge}
use Rattle.apx_split.specs.Kept.{AreOnce}
use Rattle.apx_tuple.specs.declared.progress.Progress.{Progress}
use Rattle.apx_tuple.specs.declared.refusal.Short.{Short}
use Rattle.apx_tuple.specs.Progress.{IsLargeProgress}
use Rattle.apx_blocks.proofs.Cutting.{cuts-once}
use Rattle.apx_blocks.proofs.parts.cut_anew.Goals as goal

pub merge_progress-requires : goal.merge_progress-requires
merge_progress-requires c =
    subst (λ (ps : List Progress). AreOnce (merge_progress ps).state) (sym c.parts.view_is) (cuts-once c.args.parts c.requires.cuts.0 c.requires.cuts.1 c.requires.cuts.2)

pub returns-in_err-whole-clause-large : goal.returns-in_err-whole-clause-large
returns-in_err-whole-clause-large c = λ whole o cuts refused.
    let q = rw refused at c.from_residual.ensures.1 in
    let is = ap (λ (e : Short). Err e) (sym q) in
    let merged : merge_progress c.parts.inside.parts.items ≡ whole = ap merge_progress (c.parts.view_is ∙ cuts.are) ∙ cuts-merge (length c.args.parts) cuts.some whole o in
    subst (λ (g : Progress). IsLargeProgress g) merged (c.in_err-whole.ensures.large is)

pub returns-clause-ok : goal.returns-clause-ok
returns-clause-ok c = λ whole o cuts.
    let same = c.in_ok-whole.ensures.whole (length c.args.parts) whole cuts.some o (c.parts.view_is ∙ cuts.are) in
    subst (λ (g : Progress). IfOk c.cuts_of.result (λ made. made.items ≡ of_parts c.args.n (λ i. cut_progress c.args.n i g))) same c.cuts_of.ensures.cuts
