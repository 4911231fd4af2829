use Rattle.std.proofs.Common.{ℕ, ap, subst, ◌∙◌, refl, arith}
use Rattle.apx_history.specs.Plan.{Plan}
use Rattle.apx_history.specs.Journals.{beginning}
use Rattle.apx_history.specs.Kept.{IsPlan, IsStart}
use Rattle.apx_machine.specs.Machine.{Running}
use Rattle.apx_course.proofs.Journals.{runs_new}
use Rattle.apx_course.proofs.course.Course.new.Goals as goal

pub invariant_of-result : goal.invariant_of-result
invariant_of-result g c =
    let run = g.J.Naming.run in
    let p = c.requires.plan in (
      ap (λ (r : Running). r.plan) c.in_ok-resumed.ensures ∙ p,
      runs_new run _ (subst (λ (q : Plan). IsPlan q) p c.requires.is)
          (subst (λ (q : Plan). IsStart q run.stored run.from) p
          (subst (λ (k : ℕ). IsStart c.args.plan k run.from) c.requires.stored
          (subst (λ (k : ℕ). IsStart c.args.plan c.args.stored k) c.requires.from c.requires.start)))
          (ap (λ (r : Running). r.state) c.in_ok-resumed.ensures ∙ (ap (λ (q : Plan). beginning q c.args.stored c.args.from) p
          ∙ (ap (λ (k : ℕ). beginning run.plan k c.args.from) c.requires.stored ∙ ap (λ (k : ℕ). beginning run.plan run.stored k) c.requires.from)))
          (c.in_ok-reserve.ensures.items ∙ c.new-entries.ensures.items)
          (omega (arith, c.in_ok-reserve.ensures.ok)) refl,
    )
