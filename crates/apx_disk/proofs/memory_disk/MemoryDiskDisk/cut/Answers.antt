use Rattle.apx_disk.proofs.Pushing.{cut_off, cut_done}
use Rattle.apx_disk.proofs.memory_disk.MemoryDiskDisk.cut.Goals as goal

pub returns-in-Ok-clause-crash : goal.returns-in-Ok-clause-crash
returns-in-Ok-clause-crash c = λ told.
    let kept = c.in-Ok.ensures.kept in
    cut_off c.args.self.now.changes.items c.shorten.new.changes.items kept.0 c.args.len c.args.self.now.bytes.items c.shorten.new.bytes.items kept.1 (cut_done c.args.len c.args.self.now.bytes.items c.shorten.new.bytes.items (c.requires told) c.in-Ok.ensures.ok) kept.2
