-- What an operator carries, from the partitions that it had to those with which it goes on. Partitions count from 0.
--     owned_of parts              what each of the partitions owns of what it has
--     repartitioned parts n       what n partitions carry, of what these carried
use Rattle.std.specs.Prelude.{◌≡◌, ℕ, ◌≤◌, ◌<◌, List, [], length, get_or}
use Rattle.std.specs.Map.{keys_of}
use Rattle.apx_codec.specs.KeyNumber.{owner_of}
use Rattle.apx_order.specs.Sorted.{times}
use Rattle.apx_pass.specs.Pass.{at_start}
use Rattle.apx_rules.specs.Parts.{of_parts}
use Rattle.apx_shares.specs.Carried.{cut_progress, merge_progress}
use Rattle.apx_tuple.specs.declared.progress.Progress.{Progress}
use Rattle.apx_tuple.specs.State.{Pair}
use Rattle.apx_tuple.specs.Tuple.{key_order}

-- each key of a state stands once, and is one that partition i of n owns
pub record IsOwn (n i : ℕ) (state : List Pair) : Type 0 where
  -- each stands once at most
  pub once : (key : List ℕ) → times key_order key (keys_of state) ≤ 1
  -- and is the partition's own
  pub own : (key : List ℕ) → 0 < times key_order key (keys_of state) → owner_of n key ≡ i

-- the states of partitions, by their numbers, are their own
abbrev pub AreOwn : ℕ → List (List Pair) → Type 0
AreOwn n states = (i : ℕ) → i < length states → IsOwn n i (get_or states i [])

-- what each of the partitions owns of what it has
abbrev pub owned_of : List Progress → List Progress
owned_of parts = of_parts (length parts) (λ i. cut_progress (length parts) i (get_or parts i at_start))

-- what n partitions carry, of what these carried: each its own of all that they own, put together
abbrev pub repartitioned : List Progress → ℕ → List Progress
repartitioned parts n = of_parts n (λ i. cut_progress n i (merge_progress (owned_of parts)))
