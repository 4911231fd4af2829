use Rattle.std.proofs.Common.{inl, Ok, sym, ap, ◌∙◌}
use Rattle.std.specs.BTreeMap.{is_at}
use Rattle.std.specs.Map.{remove_entry}
use Rattle.apx_device.specs.Vault.{save_order, with_entry}
use Rattle.apx_device.specs.MemoryVault.{entries_in}
use Rattle.apx_device.proofs.Saves.{entries-insert}
use Rattle.apx_vaultlog.specs.Changes.{entries_of_log}
use Rattle.apx_vaultlog.proofs.Pushed.{vault_push, change_crash}
use Rattle.apx_vaultlog.proofs.Undone.{undone}
use Rattle.apx_vaultlog.proofs.vault_log.VaultLog.join.Goals as goal

pub invariant_of-self-in-Ok-add : goal.invariant_of-self-in-Ok-add
invariant_of-self-in-Ok-add g c =
    let old = c.args.self.now in
    record {
      ordered = c.insert.ensures.ordered;
      spelled = λ sound told.
          vault_push (g.D.Disk.seen old.records.disk) (g.D.Disk.seen c.add.new.self.disk) c.args.body.now (entries_in old.entries.entries)
          (with_entry (entries_in old.entries.entries) c.args.id c.args.bytes.items) (old.spelled c.requires.sound told)
          (c.requires.change (entries_in old.entries.entries)) (c.in-Ok-add.ensures.added told)
          ∙ ap Ok (sym (ap entries_in c.in-Ok.ensures.entries ∙ entries-insert old.entries.entries c.args.id c.args.bytes));
    }

pub invariant_of-self-in-Err-Memory : goal.invariant_of-self-in-Err-Memory
invariant_of-self-in-Err-Memory g c =
    let old = c.args.self.now in
    record {
      ordered = c.remove.ensures.ordered;
      spelled = λ sound told.
          ap entries_of_log (c.in-Err-Memory.ensures.err told sound) ∙ old.spelled c.requires.sound told
          ∙ ap Ok (sym (ap entries_in (c.remove.ensures.entries ∙ ap (remove_entry (is_at (save_order c.args.id))) c.in-Ok.ensures.entries
          ∙ undone old.entries.entries c.args.id c.args.bytes c.requires.absent)));
    }

pub invariant_of-self-in-Err-Failed : goal.invariant_of-self-in-Err-Failed
invariant_of-self-in-Err-Failed g c =
    let old = c.args.self.now in
    record {
      ordered = c.remove-in-Err-Failed.ensures.ordered;
      spelled = λ sound told.
          ap entries_of_log (c.in-Err-Failed.ensures.err told sound) ∙ old.spelled c.requires.sound told
          ∙ ap Ok (sym (ap entries_in (c.remove-in-Err-Failed.ensures.entries ∙ ap (remove_entry (is_at (save_order c.args.id))) c.in-Ok.ensures.entries
          ∙ undone old.entries.entries c.args.id c.args.bytes c.requires.absent)));
    }

pub returns-in-Ok-add-clause-held : goal.returns-in-Ok-add-clause-held
returns-in-Ok-add-clause-held g c =
    ap entries_in c.in-Ok.ensures.entries ∙ entries-insert c.args.self.now.entries.entries c.args.id c.args.bytes

pub returns-in-Ok-add-clause-crash : goal.returns-in-Ok-add-clause-crash
returns-in-Ok-add-clause-crash g c = λ told.
    let old = c.args.self.now in
    change_crash (g.D.Disk.seen old.records.disk) c.args.body.now (entries_in old.entries.entries)
    (with_entry (entries_in old.entries.entries) c.args.id c.args.bytes.items) (old.spelled c.requires.sound told)
    (c.requires.change (entries_in old.entries.entries)) (c.add.ensures.crash told)

pub returns-in-Err-Memory-clause-crash : goal.returns-in-Err-Memory-clause-crash
returns-in-Err-Memory-clause-crash g c = λ told.
    let old = c.args.self.now in
    change_crash (g.D.Disk.seen old.records.disk) c.args.body.now (entries_in old.entries.entries)
    (with_entry (entries_in old.entries.entries) c.args.id c.args.bytes.items) (old.spelled c.requires.sound told)
    (c.requires.change (entries_in old.entries.entries)) (c.add.ensures.crash told)

pub returns-in-Err-Failed-clause-crash : goal.returns-in-Err-Failed-clause-crash
returns-in-Err-Failed-clause-crash g c = λ told.
    let old = c.args.self.now in
    change_crash (g.D.Disk.seen old.records.disk) c.args.body.now (entries_in old.entries.entries)
    (with_entry (entries_in old.entries.entries) c.args.id c.args.bytes.items) (old.spelled c.requires.sound told)
    (c.requires.change (entries_in old.entries.entries)) (c.add.ensures.crash told)

pub returns-in-Err-Memory-clause-held : goal.returns-in-Err-Memory-clause-held
returns-in-Err-Memory-clause-held g c =
    ap entries_in (c.remove.ensures.entries ∙ ap (remove_entry (is_at (save_order c.args.id))) c.in-Ok.ensures.entries
    ∙ undone c.args.self.now.entries.entries c.args.id c.args.bytes c.requires.absent)

pub returns-in-Err-Memory-clause-err : goal.returns-in-Err-Memory-clause-err
returns-in-Err-Memory-clause-err g c =
    ap entries_in (c.remove.ensures.entries ∙ ap (remove_entry (is_at (save_order c.args.id))) c.in-Ok.ensures.entries
    ∙ undone c.args.self.now.entries.entries c.args.id c.args.bytes c.requires.absent)

pub returns-in-Err-Failed-clause-err : goal.returns-in-Err-Failed-clause-err
returns-in-Err-Failed-clause-err g c =
    ap entries_in (c.remove-in-Err-Failed.ensures.entries ∙ ap (remove_entry (is_at (save_order c.args.id))) c.in-Ok.ensures.entries
    ∙ undone c.args.self.now.entries.entries c.args.id c.args.bytes c.requires.absent)

pub returns-in-Err-Failed-clause-held : goal.returns-in-Err-Failed-clause-held
returns-in-Err-Failed-clause-held g c =
    inl (ap entries_in (c.remove-in-Err-Failed.ensures.entries ∙ ap (remove_entry (is_at (save_order c.args.id))) c.in-Ok.ensures.entries
    ∙ undone c.args.self.now.entries.entries c.args.id c.args.bytes c.requires.absent))
