use Rattle.std.proofs.Common.{◌≡◌, ℕ, true, false, refl, sym, ap, ◌∙◌, arith}
use Rattle.apx_history.specs.State.{oper, slot}
use Rattle.apx_history.specs.Enabled.{in_tree}
use Rattle.apx_list.specs.declared.plan.CutPlan.{CutPlan}
use Rattle.apx_machine.specs.Machine.{Running}
use Rattle.apx_held.specs.Partition.{progress_at}
use Rattle.apx_held.proofs.Mapping.{partly_skip}
use Rattle.apx_held.proofs.Recovering.{rc_within}
use Rattle.apx_stores.specs.Crashes.{NoPut}
use Rattle.apx_stores.proofs.Crashing.{entries_stay, entries_end}
use Rattle.apx_reset.proofs.Killing.{reset_here}
use Rattle.apx_reset.proofs.Planned.{windows_are}
use Rattle.apx_reset.proofs.kills.reset_part.Goals as goal

pub returns-then-not-in_tree-clause-partly : goal.returns-then-not-in_tree-clause-partly
returns-then-not-in_tree-clause-partly g c =
    let run = g.J.Naming.run in
    let o = c.args.id.op in
    let i = c.args.id.part in
    let out : in_tree run.plan c.args.line o i ≡ false = ap (λ (r : Running). in_tree r.plan c.args.line o i) (sym c.machine.ensures) ∙ (sym c.in_tree.ensures ∙ c.if-not-in_tree.true) in
    partly_skip run.job (record { all = run.told; vault = run.told }) run.plan c.args.stores.now.course.machine c.args.line o i c.args.contents.now c.requires.partly out

pub new-held-requires-clause-from : goal.new-held-requires-clause-from
new-held-requires-clause-from g c =
    let run = g.J.Naming.run in
    let m = c.args.stores.now.course.machine in
    let o = c.args.id.op in
    let i = c.args.id.part in
    let at : c.rc-window.result ≡ (slot m o i).rc = c.rc-window.ensures ∙ ap (λ (r : Running). (slot r.state o i).rc) c.machine-2.ensures in
    omega (
      arith,
      at,
      rc_within run.plan m o i c.facts.ensures.kept c.requires.there,
      windows_are run.plan run.job c.requires.planned,
      ap (λ (p : CutPlan). p.windows) c.requires.cuts,
    )

pub returns-clause-partly : goal.returns-clause-partly
returns-clause-partly g c =
    let run = g.J.Naming.run in
    let m = c.args.stores.now.course.machine in
    let o = c.args.id.op in
    let i = c.args.id.part in
    let w = c.rc-window.result in
    let inside : in_tree run.plan c.args.line o i ≡ true = ap (λ (r : Running). in_tree r.plan c.args.line o i) (sym c.machine.ensures) ∙ (sym c.in_tree.ensures ∙ c.if-not-in_tree.false) in
    let at : w ≡ (slot m o i).rc = c.rc-window.ensures ∙ ap (λ (r : Running). (slot r.state o i).rc) c.machine-2.ensures in
    let boundary : c.boundary.result ≡ (oper m o).boundary = c.boundary.ensures ∙ ap (λ (r : Running). (oper r.state o).boundary) c.machine-3.ensures in
    reset_here run.job run.told run.plan m c.args.line o i w c.args.contents.now c.put.new.self c.in_ok-progress.progress c.new-held.result c.args.cuts c.requires.partly c.requires.there inside at c.requires.cuts
    c.new-held.ensures c.put.ensures (λ t. c.in_ok-progress.ensures.carried t ∙ ap (λ (b : ℕ). progress_at run.job o b i w) boundary)

pub returns-then-not-in_tree-clause-crash : goal.returns-then-not-in_tree-clause-crash
returns-then-not-in_tree-clause-crash g c = λ t.
    entries_stay g.V.Vault.time g.V.Vault.left g.V.Vault.held NoPut c.args.stores.now.vault c.args.stores.now.vault refl (c.facts.ensures.settled c.requires.runs t)

pub returns-in_err-spool-clause-crash : goal.returns-in_err-spool-clause-crash
returns-in_err-spool-clause-crash g c = λ t.
    entries_end g.V.Vault.time g.V.Vault.left g.V.Vault.held NoPut c.args.stores.now.vault c.restored.new.stores.vault c.fresh.new.self.vault c.fresh.ensures.vault (c.restored.ensures.crash t)

pub returns-clause-crash : goal.returns-clause-crash
returns-clause-crash g c = λ t.
    entries_end g.V.Vault.time g.V.Vault.left g.V.Vault.held NoPut c.args.stores.now.vault c.restored.new.stores.vault c.fresh.new.self.vault c.fresh.ensures.vault (c.restored.ensures.crash t)
