use Rattle.std.proofs.Common.{◌≡◌, [], map, drop, Ok}
use Rattle.std.specs.BTreeMap.{keys}
use Rattle.std.specs.List.Sorted.{IsStrictlySortedBy}
use Rattle.apx_device.specs.Vault.{save_order}
use Rattle.apx_device.specs.MemoryVault.{entries_in}
use Rattle.apx_disk.specs.Entries.{entry_of}
use Rattle.apx_vaultlog.specs.Changes.{entries_after}
use Rattle.apx_vaultlog.proofs.vault_log.entries_of.Given as goal

abbrev pub invariant-loop-record : goal.invariant-loop-record
invariant-loop-record l = record {
  read : entries_after (Ok []) (map entry_of l.read) ≡ entries_after (Ok (entries_in l.entries.entries)) (map entry_of (drop l.record-index l.read));
  ordered : IsStrictlySortedBy save_order (keys l.entries);
}
