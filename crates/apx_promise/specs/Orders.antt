-- The history that the numbers of an order pick.
use Rattle.std.specs.Prelude.{◌≡◌, ℕ, true, List}
use Rattle.std.specs.List.{AllByRecursion}
use Rattle.apx_history.specs.declared.Entry.{Entry}
use Rattle.apx_history.specs.Plan.{Plan}
use Rattle.apx_history.specs.Journals.{beginning}
use Rattle.apx_history.specs.Choices.{IsPicked}
use Rattle.apx_promise.specs.Histories.{state_after}

-- the entries are those that the numbers pick, to the end of the run
pub record IsPickedToEnd (plan : Plan) (word : ℕ → ℕ) (s c : ℕ) (es : List Entry) : Type 0 where
  -- they are those that the numbers pick
  pub picked : IsPicked plan word 0 (beginning plan s c) es
  -- the run has ended
  pub ended : (state_after plan s c es).ended ≡ true

-- the worker of each entry is this one
abbrev pub AllAreBy : ℕ → List Entry → Type 0
AllAreBy worker es = AllByRecursion (λ e. e.worker ≡ worker) es
