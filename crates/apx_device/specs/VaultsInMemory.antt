-- The entries of vaults in memory.
use Rattle.std.specs.Prelude.{List}
use Rattle.apx_device.specs.Vault.{Entry}
use Rattle.apx_device.specs.MemoryVault.{entries_in}
use Rattle.apx_device.specs.declared.memory_vault.MemoryVault.{MemoryVault}
use Rattle.apx_device.specs.declared.memory_vault.FailingVault.{FailingVault}

-- the entries, in the order of their ids
abbrev pub entries_of : MemoryVault → List Entry
entries_of vault = entries_in vault.entries.entries

-- the same of a vault whose calls may fail
abbrev pub failing_entries_of : FailingVault → List Entry
failing_entries_of vault = entries_of vault.vault
