use Rattle.std.proofs.Common.{◌≡◌, ℕ, List, ap, sym, subst}
use Rattle.apx_disk.specs.Disk.{Holds}
use Rattle.apx_disk.proofs.Pushing.{wrote, holds_torn}
use Rattle.apx_disk.proofs.memory_disk.MemoryDiskDisk.write_at.Goals as goal

pub returns-in-Ok-replace-clause-crash : goal.returns-in-Ok-replace-clause-crash
returns-in-Ok-replace-clause-crash c = λ told.
    let kept = c.in-Ok-replace.ensures.kept in
    let old = c.args.self.now.bytes.items in
    let now : c.in-Ok.new.items ≡ c.replace.new.bytes.items = ap (λ v. v.items) (sym c.in-Ok-replace.ensures.ok) in
    let holds : Holds old c.args.at c.args.bytes.now c.replace.new.bytes.items =
    subst (λ (b : List ℕ). Holds old c.args.at c.args.bytes.now b) now (subst (λ (b : List ℕ). Holds b c.args.at c.args.bytes.now c.in-Ok.new.items) c.deref.ensures.value c.in-Ok.ensures) in
    wrote c.args.self.now.changes.items c.replace.new.changes.items kept.0 c.args.at _ old c.replace.new.bytes.items kept.1 (holds_torn c.args.at old c.args.bytes.now c.replace.new.bytes.items (c.requires told) holds) kept.2
