-- A table with a place for each partition that a job can have: at most 16 operators, each with at most 8 partitions. Operators
-- and partitions count from 0.
--     cell t o i         what stands for partition i of operator o, if anything
--     put_cell t o i x   the table with x there
use Rattle.std.specs.Prelude.{◌≡◌, ℕ, ◌<◌, List, [], length, get_or, set, replicate, Option, None}

-- an empty table
abbrev pub empty : {T : Type 0} → List (List (Option T))
empty = replicate 16 (replicate 8 None)

-- what stands for partition i of operator o, if anything
abbrev pub cell : {T : Type 0} → List (List (Option T)) → ℕ → ℕ → Option T
cell t o i = get_or (get_or t o []) i None

-- the table with x there
abbrev pub put_cell : {T : Type 0} → List (List (Option T)) → ℕ → ℕ → Option T → List (List (Option T))
put_cell t o i x = set t o (set (get_or t o []) i x)

-- the table has all its places
pub record IsTable {T : Type 0} (t : List (List (Option T))) : Type 0 where
  -- those of each operator
  pub rows : length t ≡ 16
  -- one for each of its partitions
  pub cells : (o : ℕ) → o < 16 → length (get_or t o []) ≡ 8
