use Rattle.std.proofs.Common.{◌≡◌, ◌-◌, ◌≤◌, IsTrue, take}
use Rattle.apx_cause.specs.Steps.{Steps}
use Rattle.apx_disk.proofs.records.read_all.Given as goal

abbrev pub invariant-loop-at : goal.invariant-loop-at
invariant-loop-at g l = record {
  bytes : IsTrue g.D.Disk.tells → l.bytes.items ≡ take l.at (g.D.Disk.seen l.fn.disk);
  within : l.at ≤ l.len;
  seen : IsTrue g.D.Disk.tells → g.D.Disk.seen l.disk ≡ g.D.Disk.seen l.fn.disk;
  crash : IsTrue g.D.Disk.tells → Steps (g.D.Disk.time l.fn.disk) (g.D.Disk.time l.disk) (g.D.Disk.left l.fn.disk) (g.D.Disk.left l.disk) (g.D.Disk.left l.fn.disk (g.D.Disk.time l.fn.disk));
  faults : g.D.Disk.faults l.fn.disk ≤ g.D.Disk.faults l.disk;
}

abbrev pub decreases-loop-at : goal.decreases-loop-at
decreases-loop-at g l = l.len - l.at
