use Rattle.std.proofs.Common.{◌≡◌, ◌+◌, length, subst, ◌∙◌, arith}
use Rattle.apx_history.specs.State.{oper}
use Rattle.apx_held.proofs.Mapping.{partly_next}
use Rattle.apx_course.specs.Course.{Standing}
use Rattle.apx_held.specs.Partly.{Partly}
use Rattle.apx_stores.specs.Crashes.{NoPut}
use Rattle.apx_stores.proofs.Crashing.{entries_go_on}
use Rattle.apx_reset.proofs.kills.reset_group.Goals as goal

pub returns-clause-partly : goal.returns-clause-partly
returns-clause-partly g c =
    let run = g.J.Naming.run in
    let m = c.args.stores.now.course.machine in
    let all : c.loop-part.part ≡ length (oper m c.args.op).parts = omega (arith, c.partitions-part-end.ensures) in
    partly_next run.job (record { all = run.told; vault = run.told }) run.plan m c.args.line c.args.op c.loop-part.part c.loop-part.contents c.loop-part.invariant.partly all

pub loop-part-preserved : goal.loop-part-preserved
loop-part-preserved g c =
    let run = g.J.Naming.run in
    record {
      partly = subst (λ (s : Standing _). Partly run.job run.told run.plan s.machine c.args.line c.args.op (c.loop-part.part + 1) c.reset_part.new.contents) c.loop-part.invariant.course
          c.in_ok-reset_part.ensures.partly;
      course = c.in_ok-reset_part.ensures.course ∙ c.loop-part.invariant.course;
      held = λ t. c.reset_part.ensures.held t ∙ c.loop-part.invariant.held t;
      keeper = c.reset_part.ensures.keeper ∙ c.loop-part.invariant.keeper;
      crash = λ t. entries_go_on g.V.Vault.time g.V.Vault.left g.V.Vault.held NoPut c.args.stores.now.vault c.loop-part.stores.vault c.reset_part.new.stores.vault (c.loop-part.invariant.crash t) (c.reset_part.ensures.crash t);
    }

pub returns-in_err-reset_part-clause-crash : goal.returns-in_err-reset_part-clause-crash
returns-in_err-reset_part-clause-crash g c = λ t.
    entries_go_on g.V.Vault.time g.V.Vault.left g.V.Vault.held NoPut c.args.stores.now.vault c.loop-part.stores.vault c.reset_part.new.stores.vault (c.loop-part.invariant.crash t) (c.reset_part.ensures.crash t)
