use Rattle.std.proofs.Common.{◌≡◌, ℕ, List, length, true, sym, ap, subst, ◌∙◌}
use Rattle.apx_device.specs.Vault.{entry_at}
use Rattle.apx_device.specs.VaultsInMemory.{entries_of}
use Rattle.apx_history.specs.State.{State}
use Rattle.apx_history.specs.Journals.{beginning}
use Rattle.apx_list.specs.declared.plan.CutPlan.{CutPlan}
use Rattle.apx_machine.specs.Machine.{Running}
use Rattle.apx_part.specs.Fed.{plan_in}
use Rattle.apx_pass.specs.Job.{Job}
use Rattle.apx_tuple.specs.declared.tuple.Tuple.{Tuple}
use Rattle.apx_held.specs.Begun.{AreFirst}
use Rattle.apx_held.specs.Fits.{Fits}
use Rattle.apx_held.proofs.Begun.{fits_begin}
use Rattle.apx_reset.proofs.tests.begun.Goals as goal

pub new-stores-requires-clause-last : goal.new-stores-requires-clause-last
unfolding beginning
new-stores-requires-clause-last g c =
    ap (λ (windows : List (List Tuple)). length windows) c.new-2.ensures
    ∙ (c.requires.stored ∙ sym (ap (λ (m : State). m.stored) c.in_ok-course.ensures.machine))

pub returns-clause-fits : goal.returns-clause-fits
returns-clause-fits g c =
    let run = g.J.Naming.run in
    let contents = c.in_ok-contents.contents in
    let start : c.in_ok-course.course.machine ≡ beginning run.plan run.stored 0 = c.in_ok-course.ensures.machine ∙ ap (λ (k : ℕ). beginning run.plan run.stored k) (sym c.requires.from) in
    let now : c.new-stores.result.course.machine ≡ beginning run.plan run.stored 0 = ap (λ s. s.course.machine) c.new-stores.ensures ∙ start in
    let cuts : c.plan_of-2.result ≡ plan_in run.job = c.plan_of-2.ensures.plan ∙ ap (λ (job : Job). plan_in job) c.requires.job in
    let first : AreFirst (plan_in run.job) (beginning run.plan run.stored 0) contents =
    subst (λ (plan : CutPlan). AreFirst plan (beginning run.plan run.stored 0) contents) cuts
    (subst (λ (m : State). AreFirst c.plan_of-2.result m contents) (ap (λ (r : Running). r.state) c.machine.ensures ∙ start) c.in_ok-contents.ensures.first) in
    subst (λ (m : State). Fits run.job (record { all = run.told; vault = true }) (entry_at (entries_of c.new-stores.result.vault)) m contents) (sym now)
    (fits_begin run.job (record { all = run.told; vault = true }) (entry_at (entries_of c.new-stores.result.vault)) run.plan run.stored contents first)
