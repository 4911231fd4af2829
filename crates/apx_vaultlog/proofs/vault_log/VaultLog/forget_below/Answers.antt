use Rattle.std.proofs.Common.{List, ℕ, Ok, sym, ap, ◌∙◌}
use Rattle.apx_device.specs.Vault.{entries_from}
use Rattle.apx_device.specs.MemoryVault.{entries_in}
use Rattle.apx_vaultlog.specs.Changes.{changed}
use Rattle.apx_vaultlog.proofs.Pushed.{vault_push, change_crash}
use Rattle.apx_vaultlog.proofs.vault_log.VaultLog.forget_below.Goals as goal

pub invariant_of-self : goal.invariant_of-self
invariant_of-self g c =
    let old = c.args.self.now in
    let entries = entries_in old.entries.entries in
    record {
      ordered = c.drop_below.ensures.ordered;
      spelled = λ sound told.
          vault_push (g.D.Disk.seen old.records.disk) (g.D.Disk.seen c.add.new.self.disk) c.deref.result.now entries
          (entries_from entries c.args.window) (old.spelled c.requires told)
          (ap (λ (body : List ℕ). changed body entries) c.deref.ensures.value ∙ c.in-Ok.ensures.change entries)
          (c.in-Ok-add.ensures.added told)
          ∙ ap Ok (sym c.drop_below.ensures.dropped);
    }

pub returns-in-Err-Memory-clause-crash : goal.returns-in-Err-Memory-clause-crash
returns-in-Err-Memory-clause-crash g c = λ told.
    let old = c.args.self.now in
    let entries = entries_in old.entries.entries in
    change_crash (g.D.Disk.seen old.records.disk) c.deref.result.now entries (entries_from entries c.args.window) (old.spelled c.requires told)
    (ap (λ (body : List ℕ). changed body entries) c.deref.ensures.value ∙ c.in-Ok.ensures.change entries) (c.add.ensures.crash told)

pub returns-clause-crash : goal.returns-clause-crash
returns-clause-crash g c = λ told.
    let old = c.args.self.now in
    let entries = entries_in old.entries.entries in
    change_crash (g.D.Disk.seen old.records.disk) c.deref.result.now entries (entries_from entries c.args.window) (old.spelled c.requires told)
    (ap (λ (body : List ℕ). changed body entries) c.deref.ensures.value ∙ c.in-Ok.ensures.change entries) (c.add.ensures.crash told)
