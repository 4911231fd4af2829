use mir.Val.{bool_byte}
use Rattle.std.proofs.Common.{true, false, ◌≡◌, ◌∙◌, ◌+◌, sym, ap, refl, arith, ℕ, Bool, cond}
use Rattle.apx_cause.proofs.Going.{stay}
use Rattle.apx_device.specs.MemoryVault.{entries_in, keys-entries_in, in_order}
use Rattle.apx_vaultlog.specs.Changes.{vault_of}
use Rattle.apx_vaultlog.specs.Upgrading.{SpellsPartUpgraded}
use Rattle.apx_vaultlog.proofs.Upgraded.{held_at, count_at, crash_at}
use Rattle.apx_vaultlog.proofs.vault_log.VaultLog.upgrade.Goals as goal

one_or_none : (b : Bool) → bool_byte b ≡ cond b 1 0
one_or_none true = refl
one_or_none false = refl

pub loop-id-init : goal.loop-id-init
loop-id-init g c =
    let old = c.args.self.now in
    record {
      ids = c.deref-id-items.ensures.value ∙ c.in-Ok.ensures ∙ sym (keys-entries_in old.entries.entries);
      held = refl;
      count = refl;
      sound = c.requires;
      crash = λ told.
          stay (g.D.Disk.time old.records.disk) (g.D.Disk.left old.records.disk) (SpellsPartUpgraded (entries_in old.entries.entries))
          (λ image here. (0, ap vault_of ((old.records.ready c.requires told).only image here) ∙ old.spelled c.requires told));
      faults = omega arith;
    }

pub returns-in-Err-clause-crash : goal.returns-in-Err-clause-crash
returns-in-Err-clause-crash g c = λ told.
    let old = c.args.self.now in
    let so_far = c.loop-id.invariant in
    crash_at (entries_in old.entries.entries) (entries_in c.loop-id.self.entries.entries) c.deref-id-items.result.now c.loop-id.id-index _
    c.loop-id-test.true so_far.ids (in_order old.entries.entries old.ordered) so_far.held (so_far.crash told) (c.upgrade_entry.ensures.crash told)

pub loop-id-preserved : goal.loop-id-preserved
loop-id-preserved g c =
    let old = c.args.self.now in
    let so_far = c.loop-id.invariant in
    let ordered = in_order old.entries.entries old.ordered in
    let before = entries_in c.loop-id.self.entries.entries in
    let done = c.in-Ok-upgrade_entry.ensures in
    let counted =
    count_at (entries_in old.entries.entries) before c.deref-id-items.result.now c.loop-id.id-index _ c.loop-id-test.true so_far.ids ordered so_far.held
    c.loop-id.count c.in-Ok-upgrade_entry.done so_far.count done.done in
    let earlier = so_far.faults in
    let later = c.upgrade_entry.ensures.cause.later in
    record {
      ids = so_far.ids;
      held = held_at (entries_in old.entries.entries) before c.deref-id-items.result.now c.loop-id.id-index _ c.loop-id-test.true so_far.ids ordered
          so_far.held (entries_in c.upgrade_entry.new.self.entries.entries) done.held;
      count = ap (λ (n : ℕ). c.loop-id.count + n) (c.from-count.ensures ∙ one_or_none c.in-Ok-upgrade_entry.done) ∙ counted;
      sound = done.sound;
      crash = λ told.
          crash_at (entries_in old.entries.entries) before c.deref-id-items.result.now c.loop-id.id-index _ c.loop-id-test.true so_far.ids ordered
          so_far.held (so_far.crash told) (c.upgrade_entry.ensures.crash told);
      faults = omega (arith, earlier, later);
    }
