-- Marks of operators, and what is known of them while they are set.
use Rattle.std.specs.Prelude.{◌≡◌, ℕ, ◌<◌, ◌⊎◌, Bool, true, false, List, length, slice_index_or, Option, Some}
use Rattle.apx_dag.specs.declared.link.Link.{Link}
use Rattle.apx_dag.specs.Order.{IsSource, Feeds, link_at, Reaches}

-- the mark of an operator
abbrev pub mark_at : List Bool → ℕ → Bool
mark_at marks i = slice_index_or marks i false

-- each source of the operator is marked
abbrev pub AreMarked : List Bool → Link → Type 0
AreMarked marks link = (a : ℕ) → IsSource link a → mark_at marks a ≡ true

-- a source of the operator that isn't marked
abbrev pub IsUnmarked : List Bool → Link → ℕ → Type 0
IsUnmarked marks link a = IsSource link a × (mark_at marks a ≡ false)

-- the same of one source
abbrev pub IsMarkedIf : List Bool → Option ℕ → Type 0
IsMarkedIf marks source = (a : ℕ) → source ≡ Some a → mark_at marks a ≡ true

-- a source is there and is not marked
abbrev pub IsOpen : List Bool → Option ℕ → ℕ → Type 0
IsOpen marks source a = (source ≡ Some a) × (mark_at marks a ≡ false)

-- a source of the operator, or of a marked one, that isn't marked
pub record IsUpstreamNext (links : List Link) (of : ℕ) (marks : List Bool) (a : ℕ) : Type 0 where
  -- the source isn't marked
  pub unmarked : mark_at marks a ≡ false
  -- the operator, or a marked one, reads it
  pub feeds : Feeds links a of ⊎ ((b : ℕ) × (mark_at marks b ≡ true) × Feeds links a b)

-- there is none
pub record IsUpstreamDone (links : List Link) (of : ℕ) (marks : List Bool) : Type 0 where
  -- each of the operator's own sources is marked
  pub first : AreMarked marks (link_at links of)
  -- and each source of a marked one
  pub others : (b : ℕ) → mark_at marks b ≡ true → AreMarked marks (link_at links b)

-- the marks are those operators from which one is reached
pub record IsUpstream (links : List Link) (of : ℕ) (marks : List Bool) : Type 0 where
  -- each operator has a mark
  pub size : length marks ≡ length links
  -- from a marked operator the given one is reached
  pub sound : (a : ℕ) → mark_at marks a ≡ true → Reaches links a of
  -- each operator from which it is reached is marked
  pub whole : (a : ℕ) → Reaches links a of → mark_at marks a ≡ true

-- the first operator that is reached from itself
pub record IsFirstLoop (links : List Link) (i : ℕ) : Type 0 where
  -- the operator is there
  pub here : i < length links
  -- it is reached from itself
  pub loops : Reaches links i i
  -- none before it is reached from itself
  pub first : (j : ℕ) → j < i → ¬ Reaches links j j

-- ---- the same marks for operators that are placed

-- an operator that isn't placed, with each of its sources placed
pub record IsReadyMark (links : List Link) (placed : List Bool) (i : ℕ) : Type 0 where
  -- the operator isn't placed
  pub unmarked : mark_at placed i ≡ false
  -- its sources are placed
  pub fed : AreMarked placed (link_at links i)

-- the earliest of these
pub record IsNextMark (links : List Link) (placed : List Bool) (i : ℕ) : Type 0 where
  -- the operator is there
  pub here : i < length links
  -- it is ready
  pub ready : IsReadyMark links placed i
  -- none before it is ready
  pub earliest : (j : ℕ) → j < i → ¬ IsReadyMark links placed j

-- each operator that isn't placed has a source that isn't
abbrev pub IsStuck : List Link → List Bool → Type 0
IsStuck links placed = (i : ℕ) → i < length links → mark_at placed i ≡ false → (a : ℕ) × IsUnmarked placed (link_at links i) a
