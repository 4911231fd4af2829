use Rattle.std.proofs.Common.{◌≡◌, length, IsTrue}
use Rattle.apx_rules.specs.Parts.{of_parts}
use Rattle.apx_held.specs.Partition.{progress_at}
use Rattle.apx_stores.specs.Crashes.{EntriesFollow, NoPut}
use Rattle.apx_reset.proofs.splits.all_restored.Given as goal

abbrev pub invariant-loop-part : goal.invariant-loop-part
invariant-loop-part g l = record {
  count : length l.parts.items ≡ l.part;
  carried : IsTrue g.J.Naming.run.told → l.parts.items ≡ of_parts l.part (λ i. progress_at g.J.Naming.run.job l.first.op l.first.boundary i l.first.window);
  course : l.stores.course ≡ l.fn.stores.course;
  held : IsTrue g.V.Vault.tells → g.V.Vault.held l.stores.vault ≡ g.V.Vault.held l.fn.stores.vault;
  keeper : l.stores.keeper ≡ l.fn.stores.keeper;
  crash : IsTrue g.V.Vault.tells → EntriesFollow NoPut g.V.Vault.time g.V.Vault.left g.V.Vault.held l.fn.stores.vault l.stores.vault;
}
