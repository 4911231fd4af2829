-- A kill in progress: partitions go back one after the other.
use Rattle.std.specs.Prelude.{◌≡◌, ℕ, ◌<◌, ◌⊎◌, Bool, true, List, [], length, get_or}
use Rattle.apx_history.specs.Plan.{Plan}
use Rattle.apx_history.specs.State.{State, oper, slot, IsPart}
use Rattle.apx_history.specs.Enabled.{in_tree}
use Rattle.apx_history.specs.Effects.{back}
use Rattle.apx_pass.specs.Job.{Job}
use Rattle.apx_held.specs.Holding.{Holding, holding}
use Rattle.apx_held.specs.Fits.{FitsPart}

-- partition j of operator p comes before partition i of operator o
abbrev pub IsBefore : ℕ → ℕ → ℕ → ℕ → Type 0
IsBefore o i p j = (p < o) ⊎ ((p ≡ o) × (j < i))

-- Of the partitions before partition i of operator o those in the tree of line l are back at their recovery checkpoints. What
-- is kept for all others fits as before.
pub record Partly (job : Job) (told : Bool) (plan : Plan) (m : State) (l o i : ℕ) (hs : List (List Holding)) : Type 0 where
  -- the operators are the machine's
  pub ops : length hs ≡ length m.ops
  -- each has its partitions
  pub sizes : (p : ℕ) → p < length m.ops → length (get_or hs p []) ≡ length (oper m p).parts
  -- these are back
  pub done : (p j : ℕ) → IsPart m p j → IsBefore o i p j → in_tree plan l p j ≡ true →
      FitsPart job told p (oper m p).boundary j (back (slot m p j)) (holding hs p j)
  -- and those are as they were
  pub rest : (p j : ℕ) → IsPart m p j → (IsBefore o i p j → in_tree plan l p j ≡ true → ⊥) →
      FitsPart job told p (oper m p).boundary j (slot m p j) (holding hs p j)
