-- What a disk in memory shows.
use Rattle.std.specs.Prelude.{ℕ, List}
use Rattle.apx_disk.specs.declared.memory_disk.MemoryDisk.{MemoryDisk}

-- what a read gives
abbrev pub bytes_of : MemoryDisk → List ℕ
bytes_of disk = disk.bytes.items
