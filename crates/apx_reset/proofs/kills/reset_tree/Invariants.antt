use Rattle.std.proofs.Common.{◌≡◌, IsTrue}
use Rattle.apx_held.specs.Partly.{Partly}
use Rattle.apx_stores.specs.Crashes.{EntriesFollow, NoPut}
use Rattle.apx_reset.proofs.kills.reset_tree.Given as goal

abbrev pub invariant-loop-op : goal.invariant-loop-op
invariant-loop-op g l = record {
  partly : Partly g.J.Naming.run.job g.J.Naming.run.told g.J.Naming.run.plan l.fn.stores.course.machine l.line l.op 0 l.contents;
  course : l.stores.course ≡ l.fn.stores.course;
  held : IsTrue g.V.Vault.tells → g.V.Vault.held l.stores.vault ≡ g.V.Vault.held l.fn.stores.vault;
  keeper : l.stores.keeper ≡ l.fn.stores.keeper;
  crash : IsTrue g.V.Vault.tells → EntriesFollow NoPut g.V.Vault.time g.V.Vault.left g.V.Vault.held l.fn.stores.vault l.stores.vault;
}
