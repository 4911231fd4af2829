use Rattle.std.proofs.Common.{◌≡◌, ◌+◌, length, subst, ◌∙◌, arith}
use Rattle.apx_course.specs.Course.{Standing}
use Rattle.apx_held.specs.Partly.{Partly}
use Rattle.apx_stores.specs.Crashes.{NoPut}
use Rattle.apx_stores.proofs.Crashing.{entries_go_on}
use Rattle.apx_reset.proofs.Killing.{tree_back}
use Rattle.apx_reset.proofs.kills.reset_tree.Goals as goal

pub returns-clause-fits : goal.returns-clause-fits
returns-clause-fits g c =
    let run = g.J.Naming.run in
    let m = c.args.stores.now.course.machine in
    let all : c.loop-op.op ≡ length m.ops = omega (arith, c.operators-op-end.ensures) in
    tree_back run g.V.Vault.tells (g.V.Vault.held c.args.stores.now.vault) (g.V.Vault.held c.loop-op.stores.vault) m c.args.contents.now c.loop-op.contents c.args.worker c.args.line c.loop-op.op
    c.requires.fits c.loop-op.invariant.partly all c.loop-op.invariant.held

pub loop-op-preserved : goal.loop-op-preserved
loop-op-preserved g c =
    let run = g.J.Naming.run in
    record {
      partly = subst (λ (s : Standing _). Partly run.job run.told run.plan s.machine c.args.line (c.loop-op.op + 1) 0 c.reset_group.new.contents) c.loop-op.invariant.course
          c.in_ok-reset_group.ensures.partly;
      course = c.in_ok-reset_group.ensures.course ∙ c.loop-op.invariant.course;
      held = λ t. c.reset_group.ensures.held t ∙ c.loop-op.invariant.held t;
      keeper = c.reset_group.ensures.keeper ∙ c.loop-op.invariant.keeper;
      crash = λ t. entries_go_on g.V.Vault.time g.V.Vault.left g.V.Vault.held NoPut c.args.stores.now.vault c.loop-op.stores.vault c.reset_group.new.stores.vault (c.loop-op.invariant.crash t) (c.reset_group.ensures.crash t);
    }

pub returns-in_err-reset_group-clause-crash : goal.returns-in_err-reset_group-clause-crash
returns-in_err-reset_group-clause-crash g c = λ t.
    entries_go_on g.V.Vault.time g.V.Vault.left g.V.Vault.held NoPut c.args.stores.now.vault c.loop-op.stores.vault c.reset_group.new.stores.vault (c.loop-op.invariant.crash t) (c.reset_group.ensures.crash t)
