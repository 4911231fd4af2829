use Rattle.std.proofs.Common.{Ok, sym, ap, ◌∙◌}
use Rattle.apx_device.specs.Vault.{with_entry}
use Rattle.apx_device.specs.MemoryVault.{entries_in}
use Rattle.apx_vaultlog.proofs.Pushed.{vault_push, change_crash}
use Rattle.apx_vaultlog.proofs.vault_log.VaultLog.replace.Goals as goal

pub invariant_of-self : goal.invariant_of-self
invariant_of-self g c =
    let old = c.args.self.now in
    record {
      ordered = c.overwrite.ensures.ordered;
      spelled = λ sound told.
          vault_push (g.D.Disk.seen old.records.disk) (g.D.Disk.seen c.add.new.self.disk) c.args.body.now (entries_in old.entries.entries)
          (with_entry (entries_in old.entries.entries) c.args.id c.args.bytes.items) (old.spelled c.requires.sound told)
          (c.requires.change (entries_in old.entries.entries)) (c.in-Ok.ensures.added told)
          ∙ ap Ok (sym c.overwrite.ensures.put);
    }

pub returns-in-Ok-clause-crash : goal.returns-in-Ok-clause-crash
returns-in-Ok-clause-crash g c = λ told.
    let old = c.args.self.now in
    change_crash (g.D.Disk.seen old.records.disk) c.args.body.now (entries_in old.entries.entries)
    (with_entry (entries_in old.entries.entries) c.args.id c.args.bytes.items) (old.spelled c.requires.sound told)
    (c.requires.change (entries_in old.entries.entries)) (c.add.ensures.crash told)

pub returns-in-Err-Memory-clause-crash : goal.returns-in-Err-Memory-clause-crash
returns-in-Err-Memory-clause-crash g c = λ told.
    let old = c.args.self.now in
    change_crash (g.D.Disk.seen old.records.disk) c.args.body.now (entries_in old.entries.entries)
    (with_entry (entries_in old.entries.entries) c.args.id c.args.bytes.items) (old.spelled c.requires.sound told)
    (c.requires.change (entries_in old.entries.entries)) (c.add.ensures.crash told)

pub returns-clause-crash : goal.returns-clause-crash
returns-clause-crash g c = λ told.
    let old = c.args.self.now in
    change_crash (g.D.Disk.seen old.records.disk) c.args.body.now (entries_in old.entries.entries)
    (with_entry (entries_in old.entries.entries) c.args.id c.args.bytes.items) (old.spelled c.requires.sound told)
    (c.requires.change (entries_in old.entries.entries)) (c.add.ensures.crash told)
