-- How far checkpoints may come.
use Rattle.std.specs.Prelude.{◌≡◌, ℕ, ◌<◌, ◌≤◌, Bool, true, List, length, get_or, nat_le}
use Rattle.std.specs.List.{list_all}

-- window w is at most each of some
abbrev pub reaches : List ℕ → ℕ → Bool
reaches downstream w = list_all (λ other. nat_le w other) downstream

-- window w is the greatest of some that are saved and is at most each of some
pub record IsGreatest (windows downstream : List ℕ) (w : ℕ) : Type 0 where
  -- it is saved
  pub saved : (k : ℕ) × (k < length windows) × (get_or windows k 0 ≡ w)
  -- it is at most each of those
  pub within : reaches downstream w ≡ true
  -- no other such is greater
  pub greatest : (k : ℕ) → k < length windows → reaches downstream (get_or windows k 0) ≡ true → get_or windows k 0 ≤ w

-- window w is the least of some
pub record IsLeast (windows : List ℕ) (w : ℕ) : Type 0 where
  -- it is one of them
  pub one : (k : ℕ) × (k < length windows) × (get_or windows k 0 ≡ w)
  -- none is less
  pub least : (k : ℕ) → k < length windows → w ≤ get_or windows k 0
