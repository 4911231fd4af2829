use Rattle.apx_disk.proofs.Pushing.{synced, synced_only}
use Rattle.apx_disk.proofs.memory_disk.MemoryDiskDisk.sync.Goals as goal

pub returns-in-Ok-clause-synced : goal.returns-in-Ok-clause-synced
returns-in-Ok-clause-synced c = λ told. synced_only c.args.self.now.changes.items c.note_sync.new.changes.items c.args.self.now.bytes.items c.in-Ok.ensures.kept

pub returns-in-Ok-clause-crash : goal.returns-in-Ok-clause-crash
returns-in-Ok-clause-crash c = λ told. synced c.args.self.now.changes.items c.note_sync.new.changes.items c.args.self.now.bytes.items c.in-Ok.ensures.kept
