use Rattle.std.proofs.Common.{ℕ, [], ◌∷◌, length, length-append, ap, ◌∙◌, arith}
use Rattle.apx_held.specs.Partition.{progress_at}
use Rattle.apx_renew.proofs.Splitting.{parts_more}
use Rattle.apx_stores.specs.Crashes.{NoPut}
use Rattle.apx_stores.proofs.Crashing.{entries_go_on, entries_end}
use Rattle.apx_reset.proofs.Stopping.{stopped_from}
use Rattle.apx_reset.proofs.splits.all_restored.Goals as goal

pub returns-in_err-progress-clause-stops : goal.returns-in_err-progress-clause-stops
returns-in_err-progress-clause-stops g c =
    stopped_from c.from_residual.result g.J.Naming.run.plan c.args.stores.now.course c.loop-part.stores.course c.restored.new.stores.course c.args.worker c.loop-part.invariant.course c.in_err-progress.ensures.stops

pub returns-in_err-add-clause-stops : goal.returns-in_err-add-clause-stops
returns-in_err-add-clause-stops g c =
    stopped_from c.from_residual-in_err-add.result g.J.Naming.run.plan c.args.stores.now.course c.restored.new.stores.course c.add.new.stores.course c.args.worker
    (c.in_ok-progress.ensures.course ∙ c.loop-part.invariant.course) c.in_err-add.ensures.stops

pub loop-part-preserved : goal.loop-part-preserved
loop-part-preserved g c =
    let run = g.J.Naming.run in
    let first = c.args.first in
    let xs = c.loop-part.parts.items in
    let x = c.in_ok-progress.progress in
    record {
      count = omega (arith, length-append xs (x ∷ []), ap (λ ys. length ys) c.in_ok-add.ensures.items, c.loop-part.invariant.count);
      carried = λ t. c.in_ok-add.ensures.items
          ∙ parts_more (λ (i : ℕ). progress_at run.job first.op first.boundary i first.window) xs c.loop-part.part x (c.loop-part.invariant.carried t) (c.in_ok-progress.ensures.carried t);
      course = ap (λ s. s.course) c.in_ok-add.ensures.same ∙ (c.in_ok-progress.ensures.course ∙ c.loop-part.invariant.course);
      held = λ t. ap (λ v. g.V.Vault.held v) c.add.ensures.vault ∙ (c.restored.ensures.held t ∙ c.loop-part.invariant.held t);
      keeper = c.add.ensures.keeper ∙ (c.restored.ensures.keeper ∙ c.loop-part.invariant.keeper);
      crash = λ t. entries_end g.V.Vault.time g.V.Vault.left g.V.Vault.held NoPut c.args.stores.now.vault c.restored.new.stores.vault c.add.new.stores.vault c.add.ensures.vault
          (entries_go_on g.V.Vault.time g.V.Vault.left g.V.Vault.held NoPut c.args.stores.now.vault c.loop-part.stores.vault c.restored.new.stores.vault (c.loop-part.invariant.crash t) (c.restored.ensures.crash t));
    }

pub returns-in_err-progress-clause-crash : goal.returns-in_err-progress-clause-crash
returns-in_err-progress-clause-crash g c = λ t.
    entries_go_on g.V.Vault.time g.V.Vault.left g.V.Vault.held NoPut c.args.stores.now.vault c.loop-part.stores.vault c.restored.new.stores.vault (c.loop-part.invariant.crash t) (c.restored.ensures.crash t)

pub returns-in_err-add-clause-crash : goal.returns-in_err-add-clause-crash
returns-in_err-add-clause-crash g c = λ t.
    entries_end g.V.Vault.time g.V.Vault.left g.V.Vault.held NoPut c.args.stores.now.vault c.restored.new.stores.vault c.add.new.stores.vault c.add.ensures.vault
    (entries_go_on g.V.Vault.time g.V.Vault.left g.V.Vault.held NoPut c.args.stores.now.vault c.loop-part.stores.vault c.restored.new.stores.vault (c.loop-part.invariant.crash t) (c.restored.ensures.crash t))
