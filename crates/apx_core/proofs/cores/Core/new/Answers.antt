use Rattle.std.proofs.Common.{◌≡◌, ℕ, sym, ap, subst, ◌∙◌}
use Rattle.apx_history.specs.State.{State}
use Rattle.apx_history.specs.Journals.{beginning}
use Rattle.apx_device.specs.Vault.{entry_at}
use Rattle.apx_machine.specs.Machine.{Running}
use Rattle.apx_list.specs.declared.plan.CutPlan.{CutPlan}
use Rattle.apx_pass.specs.Pass.{mean_up_to}
use Rattle.apx_part.specs.Fed.{plan_in}
use Rattle.apx_held.specs.Begun.{AreFirst}
use Rattle.apx_held.specs.Fits.{Fits}
use Rattle.apx_held.proofs.Begun.{fits_begin}
use Rattle.apx_core.specs.Core.{telling, HasRunSaves, IsCore}
use Rattle.apx_core.proofs.Checkpoints.{saves_first}
use Rattle.apx_core.proofs.cores.Core.new.Goals as goal

pub new-requires-clause-last : goal.new-requires-clause-last
unfolding beginning
new-requires-clause-last g c = c.requires.stored ∙ sym (ap (λ (m : State). m.stored) c.in-Ok.ensures.machine)

pub new-requires-clause-rows : goal.new-requires-clause-rows
unfolding beginning
new-requires-clause-rows g c begins =
    sym (c.requires.rows begins.keeper_tells)
    ∙ (begins.rows ∙ ap (λ (k : ℕ). mean_up_to g.J.Naming.run.job.flow k) (sym (ap (λ (m : State). m.stored) c.in-Ok.ensures.machine)))

pub invariant_of-result : goal.invariant_of-result
invariant_of-result g c =
    let run = g.J.Naming.run in
    let tells = telling run g.V.Vault.tells in
    let hs = c.in-Ok-begin.contents in
    let start = beginning run.plan run.stored 0 in
    let machine : c.in-Ok.course.machine ≡ start = c.in-Ok.ensures.machine in
    let state : c.machine.result.now.state ≡ start = ap (λ (r : Running). r.state) c.machine.ensures ∙ machine in
    let first : AreFirst (plan_in run.job) start hs = subst (λ (m : State). AreFirst (plan_in run.job) m hs) state
    (subst (λ (p : CutPlan). AreFirst p c.machine.result.now.state hs) c.cuts_of-cuts.ensures.plan c.in-Ok-begin.ensures.first) in
    let core : IsCore run g.V.Vault.tells (g.V.Vault.held c.args.devices.vault) c.in-Ok.course hs = record {
      planned = c.requires.planned;
      fits = λ _. subst (λ (m : State). Fits run.job tells (entry_at (g.V.Vault.held c.args.devices.vault)) m hs) (sym machine)
          (fits_begin run.job tells _ run.plan run.stored hs first);
      saves = λ _ told. subst (λ (m : State). HasRunSaves run m (entry_at (g.V.Vault.held c.args.devices.vault))) (sym machine)
          (saves_first run run.stored (g.V.Vault.held c.args.devices.vault) (c.requires.entries told));
    } in
    (c.requires.job, subst (λ s. IsCore run g.V.Vault.tells (g.V.Vault.held s.vault) s.course hs) (sym c.new.ensures) core)
