use Rattle.std.proofs.Common.{◌≡◌, length, IsTrue}
use Rattle.apx_device.specs.Vault.{entry_at}
use Rattle.apx_renew.specs.Renewed.{AreRenewed, KeepRenewed}
use Rattle.apx_stores.specs.Crashes.{EntriesFollow}
use Rattle.apx_reset.specs.Put.{IsRenewal}
use Rattle.apx_reset.proofs.renewing.renew_parts.Given as goal

abbrev pub invariant-loop-progress : goal.invariant-loop-progress
invariant-loop-progress g l = record {
  renewed : AreRenewed g.J.Naming.run.job g.J.Naming.run.told l.first.op l.first.boundary (length l.yielded) l.group.items;
  kept : IsTrue g.V.Vault.tells → KeepRenewed g.J.Naming.run.job g.J.Naming.run.told l.first.op l.first.boundary (length l.yielded)
      (entry_at (g.V.Vault.held l.fn.stores.vault)) (entry_at (g.V.Vault.held l.stores.vault));
  course : l.stores.course ≡ l.fn.stores.course;
  keeper : l.stores.keeper ≡ l.fn.stores.keeper;
  crash : IsTrue g.V.Vault.tells → EntriesFollow (IsRenewal g.J.Naming.run l.first.op l.first.boundary (length l.fn.parts.items)) g.V.Vault.time g.V.Vault.left g.V.Vault.held l.fn.stores.vault l.stores.vault;
}
