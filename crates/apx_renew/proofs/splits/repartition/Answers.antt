use Rattle.std.proofs.Common.{◌≡◌, List, Err, length, map, sym, ap, subst, ◌∙◌}
use Rattle.std.proofs.lemmas.Result.{err_from_is_err_and}
use Rattle.apx_rules.specs.Parts.{of_parts}
use Rattle.apx_shares.specs.Carried.{cut_progress, merge_progress}
use Rattle.apx_tuple.specs.declared.progress.Progress.{Progress}
use Rattle.apx_tuple.specs.declared.refusal.Short.TheVariants.{Large}
use Rattle.apx_tuple.specs.Progress.{IsLargeProgress}
use Rattle.apx_renew.specs.Owned.{owned_of}
use Rattle.apx_renew.proofs.Owning.{own_once}
use Rattle.apx_renew.proofs.Splitting.{cuts_small, repartitioned_cuts}
use Rattle.apx_renew.proofs.splits.repartition.Goals as goal

pub merge_progress-requires : goal.merge_progress-requires
merge_progress-requires c = own_once (length c.as_slice.result.now) (map (λ (g : Progress). g.state) c.in_ok-own.own.items) c.in_ok-own.ensures.own

pub returns-clause-ok : goal.returns-clause-ok
returns-clause-ok c =
    c.in_ok-cuts.ensures ∙ ap (λ (g : Progress). of_parts c.args.count (λ i. cut_progress c.args.count i g)) (c.in_ok-whole.ensures.ok ∙ ap merge_progress (c.in_ok-own.ensures.cut ∙ ap owned_of c.as_slice.ensures.value))

pub returns-clause-small : goal.returns-clause-small
returns-clause-small c = cuts_small c.args.count c.in_ok-whole.whole c.in_ok-cuts.cuts.items c.in_ok-whole.ensures.small c.in_ok-cuts.ensures

pub returns-clause-whole : goal.returns-clause-whole
returns-clause-whole c = λ g ordered is.
    c.in_ok-cuts.ensures ∙ ap (λ (x : Progress). of_parts c.args.count (λ i. cut_progress c.args.count i x)) (c.in_ok-whole.ensures.ok ∙ ap merge_progress (c.in_ok-own.ensures.cut ∙ ap owned_of c.as_slice.ensures.value))
    ∙ repartitioned_cuts c.args.parts.items c.args.count g c.requires.some ordered is

pub returns-in_err-whole-clause-large : goal.returns-in_err-whole-clause-large
returns-in_err-whole-clause-large c = λ e.
    (let p = err_from_is_err_and c.from_residual-in_err-whole.result c.from_residual-in_err-whole.ensures.1 in
    let h = sym (p.1 ∙ ap Err p.2) ∙ e in
    let same : c.in_err-whole.field-0.0 ≡ Large = (cc h) in
    subst (λ (gs : List Progress). IsLargeProgress (merge_progress gs)) (c.in_ok-own.ensures.cut ∙ ap owned_of c.as_slice.ensures.value) (c.in_err-whole.ensures.large (ap Err same)))
