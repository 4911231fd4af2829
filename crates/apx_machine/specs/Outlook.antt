-- What is looked up once of a state, for all events that may come next.
use Rattle.std.specs.Prelude.{◌≡◌, ℕ, ◌+◌, ◌*◌, ◌<◌, Bool, false, cond, not, ◌&&◌, List, length, get_or}
use Rattle.apx_history.specs.Plan.{Plan, line, reads, below, kills}
use Rattle.apx_history.specs.State.{Slot, State, slot, all_below, lowest_slot}
use Rattle.apx_history.specs.Enabled.{limit, due}
use Rattle.apx_history.specs.Kept.{IsPlan, Kept}
use Rattle.apx_machine.specs.Small.{IsSmall}
use Rattle.apx_machine.specs.declared.outlook.Toward.{Toward}
use Rattle.apx_machine.specs.declared.outlook.Toward.TheVariants.{Sources, Readers}
use Rattle.apx_machine.specs.declared.outlook.Calm.{Calm}
use Rattle.apx_machine.specs.declared.outlook.Outlook.{Outlook}

-- operator t is a neighbour of operator o
abbrev pub joined : Plan → Toward → ℕ → ℕ → Bool
joined plan Sources o t = reads plan o t
joined plan Readers o t = reads plan t o

-- what is asked of a partition of a neighbour
abbrev pub measure : Toward → Slot → ℕ
measure Sources x = x.at
measure Readers x = x.rc

-- what is asked of partition j of operator t where it is a neighbour of operator o, else n
abbrev pub asked : Plan → State → Toward → ℕ → ℕ → ℕ → ℕ → ℕ
asked plan m toward o n t j = cond (joined plan toward o t) (measure toward (slot m t j)) n

-- the least of n and what is asked of the partitions of the neighbours of operator o
abbrev pub least_of : Plan → State → Toward → ℕ → ℕ → ℕ
least_of plan m toward o n = lowest_slot m (asked plan m toward o n) n

-- the same for each operator, with n no less than any window
abbrev pub AreLeast : Plan → State → Toward → List ℕ → Type 0
AreLeast plan m toward xs = (o : ℕ) → o < 16 → get_or xs o 0 ≡ least_of plan m toward o 4294967295

-- the limit of each operator
abbrev pub AreLimits : Plan → State → List ℕ → Type 0
AreLimits plan m xs = (o : ℕ) → o < 16 → get_or xs o 0 ≡ limit plan m o

-- no kill among the first n lines is due for partition i of operator o
abbrev pub calm_to : Plan → State → ℕ → ℕ → ℕ → Bool
calm_to plan m n o i = all_below n (λ l. not (due plan m l && kills o i (line plan l)))

-- nor for an operator that has operator o downstream
abbrev pub clear_to : Plan → State → ℕ → ℕ → Bool
clear_to plan m n o = all_below n (λ l. not (due plan m l && below plan (line plan l).op o))

-- for which partitions no kill among the first n lines is due
pub record IsCalmTo (plan : Plan) (m : State) (n : ℕ) (calm : Calm) : Type 0 where
  -- for each partition
  pub parts : (o i : ℕ) → o < 16 → i < 8 → get_or calm.parts (8 * o + i) false ≡ calm_to plan m n o i
  -- for those above each operator
  pub clear : (o : ℕ) → o < 16 → get_or calm.clear o false ≡ clear_to plan m n o

-- what is looked up of a state that keeps what every state keeps
pub record IsOutlook (plan : Plan) (m : State) (look : Outlook) : Type 0 where
  -- the plan is one of a job
  pub job : IsPlan plan
  -- within the limits of a job
  pub small : IsSmall plan
  -- the state keeps what every state keeps
  pub kept : Kept plan m
  -- how far operators may come
  pub limits : AreLimits plan m look.limits
  -- how far those are that they read
  pub sources : AreLeast plan m Sources look.sources
  -- how far those may go back that read them
  pub readers : AreLeast plan m Readers look.readers
  -- for which partitions no kill is due
  pub calm : IsCalmTo plan m (length plan.lines) look.calm
