use Rattle.std.proofs.Common.{◌≡◌, ◌≤◌, IsTrue, take, length}
use Rattle.apx_top.specs.Run.{row_count}
use Rattle.apx_top.proofs.print.count_all.Given as goal

abbrev pub invariant-loop-done : goal.invariant-loop-done
invariant-loop-done g l = record {
  sound : IsTrue (g.K.Keeper.sound l.keeper);
  last : g.K.Keeper.last l.keeper ≡ g.K.Keeper.last l.initial.keeper;
  stored : g.K.Keeper.stored l.keeper ≡ g.K.Keeper.stored l.initial.keeper;
  later : g.K.Keeper.faults l.initial.keeper ≤ g.K.Keeper.faults l.keeper;
  count : IsTrue g.K.Keeper.tells → l.windows ≤ length (g.K.Keeper.stored l.initial.keeper) → l.count ≡ row_count (take l.done (g.K.Keeper.stored l.initial.keeper));
}
