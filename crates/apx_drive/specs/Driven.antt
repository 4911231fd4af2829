-- What a driver does, in an order that a number picks.
use Rattle.std.specs.Prelude.{◌≡◌, ℕ, zero, suc, false, ◌⊎◌, List, ◌∷◌, ◌++◌, []}
use Rattle.rand_pcg.specs.Lcg.{Lcg, started, increment_of}
use Rattle.rand_pcg.specs.Pcg.{pcg32, multiplier_64}
use Rattle.apx_history.specs.declared.Entry.{Entry}
use Rattle.apx_history.specs.declared.Event.{Event}
use Rattle.apx_history.specs.declared.Event.TheVariants.{Fault}
use Rattle.apx_history.specs.Plan.{Plan}
use Rattle.apx_history.specs.State.{State, running}
use Rattle.apx_history.specs.Effects.{next}
use Rattle.apx_history.specs.Choices.{IsPicked}
use Rattle.apx_course.specs.Course.{entry}

-- the generator of an order: PCG32 from the order on stream 0
abbrev pub generator_of : ℕ → Lcg
generator_of order = started 64 multiplier_64 order (increment_of 64 0)

-- the next number of a generator
unfoldable pub drawn : Lcg → ℕ
drawn generator = (pcg32 generator).0

-- the generator behind it
unfoldable pub behind : Lcg → Lcg
behind generator = (pcg32 generator).1

-- the generator behind so many numbers
unfoldable pub behind_all : ℕ → Lcg → Lcg
behind_all zero generator = generator
behind_all (suc k) generator = behind (behind_all k generator)

-- number k of an order, from 0 on
abbrev pub word_of : ℕ → ℕ → ℕ
word_of order k = drawn (behind_all k (generator_of order))

-- where a run stands: the state of its machine, and what happened so far
pub record Place : Type 0 where
  -- the state of its machine
  pub machine : State
  -- what happened so far
  pub journal : List Entry

-- worker 0 did an event
pub record Goes (plan : Plan) (old new : Place) (e : Event) : Type 0 where
  -- the state that the event leaves
  pub machine : new.machine ≡ next plan old.machine 0 e
  -- one entry more
  pub journal : new.journal ≡ old.journal ++ entry 0 e ∷ []

-- the run stopped with a status
abbrev pub Stops : Plan → Place → Place → Type 0
Stops plan old new = (status : ℕ) × Goes plan old new (Fault status)

-- the entries are those that an order picks from a start, or such ones and one fault behind them
abbrev pub IsOrdered : Plan → ℕ → State → List Entry → Type 0
IsOrdered plan order start es =
    IsPicked plan (word_of order) 0 start es
    ⊎ ((front : List Entry) × (status : ℕ) × IsPicked plan (word_of order) 0 start front × (es ≡ front ++ entry 0 (Fault status) ∷ []))

-- a run was driven in an order from its start until it goes on no more
pub record IsDriven (plan : Plan) (order : ℕ) (start : State) (now : Place) : Type 0 where
  -- it goes on no more
  pub stands : running now.machine ≡ false
  -- what happened is what the order picks
  pub ordered : IsOrdered plan order start now.journal
