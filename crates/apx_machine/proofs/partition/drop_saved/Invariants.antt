use Rattle.std.proofs.lemmas.List.Filters.{FiltersInPlace}
use Rattle.apx_machine.specs.Stays.{stays_by}
use Rattle.apx_machine.proofs.partition.drop_saved.Given as goal

abbrev pub invariant-loop-i : goal.invariant-loop-i
invariant-loop-i l = FiltersInPlace (stays_by l.side) l.initial.saved.items l.saved.items l.kept l.i
