use Rattle.std.proofs.Common.{◌≡◌, ◌≤◌, ◌++◌, IsTrue, take, length}
use Rattle.apx_pass.specs.Texts.{windows_text}
use Rattle.apx_top.specs.Run.{row_count}
use Rattle.apx_top.proofs.print.print_all.Given as goal

abbrev pub invariant-loop-done : goal.invariant-loop-done
invariant-loop-done g l = record {
  sound : IsTrue (g.K.Keeper.sound l.keeper);
  last : g.K.Keeper.last l.keeper ≡ g.K.Keeper.last l.initial.keeper;
  stored : g.K.Keeper.stored l.keeper ≡ g.K.Keeper.stored l.initial.keeper;
  store_later : g.K.Keeper.faults l.initial.keeper ≤ g.K.Keeper.faults l.keeper;
  count : IsTrue g.K.Keeper.tells → l.windows ≤ length (g.K.Keeper.stored l.initial.keeper) → l.count ≡ row_count (take l.done (g.K.Keeper.stored l.initial.keeper));
  later : g.O.Out.faults l.initial.out ≤ g.O.Out.faults l.out;
  written : IsTrue g.K.Keeper.tells → l.windows ≤ length (g.K.Keeper.stored l.initial.keeper) → IsTrue g.O.Out.tells →
      g.O.Out.written l.out ≡ g.O.Out.written l.initial.out ++ windows_text l.base 1 (take l.done (g.K.Keeper.stored l.initial.keeper));
}
