use Rattle.std.proofs.Common.{◌≡◌, ◌≤◌, IsTrue, take}
use Rattle.std.specs.Map.{keys_of}
use Rattle.apx_cause.specs.Steps.{Steps}
use Rattle.apx_device.specs.MemoryVault.{entries_in}
use Rattle.apx_vaultlog.specs.Upgrading.{upgraded_up_to, in_spelling_1, SpellsPartUpgraded}
use Rattle.apx_vaultlog.proofs.vault_log.VaultLog.upgrade.Given as goal

abbrev pub invariant-loop-id : goal.invariant-loop-id
invariant-loop-id g l = record {
  ids : l.id-items ≡ keys_of (entries_in l.fn.self.entries.entries);
  held : entries_in l.self.entries.entries ≡ upgraded_up_to l.id-index (entries_in l.fn.self.entries.entries);
  count : l.count ≡ in_spelling_1 (take l.id-index (entries_in l.fn.self.entries.entries));
  sound : IsTrue l.self.records.sound;
  crash : IsTrue g.D.Disk.tells → Steps (g.D.Disk.time l.fn.self.records.disk) (g.D.Disk.time l.self.records.disk)
      (g.D.Disk.left l.fn.self.records.disk) (g.D.Disk.left l.self.records.disk) (SpellsPartUpgraded (entries_in l.fn.self.entries.entries));
  faults : g.D.Disk.faults l.fn.self.records.disk ≤ g.D.Disk.faults l.self.records.disk;
}
