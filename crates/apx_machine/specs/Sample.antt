-- A plan to try the machine with.
use Rattle.std.specs.Prelude.{[], ◌∷◌}
use Rattle.apx_history.specs.Plan.{Plan}

-- a chain of three operators, of which the middle one has two partitions: four windows, and a checkpoint after each second
abbrev pub sample : Plan
sample = record {
  windows = 4;
  every = 2;
  sink = 2;
  operators =
      record { sources = []; under = 1 ∷ 2 ∷ []; first = 1 }
      ∷ record { sources = 0 ∷ []; under = 2 ∷ []; first = 2 }
      ∷ record { sources = 1 ∷ []; under = []; first = 1 } ∷ [];
  lines = [];
}
