-- Who feeds whom, and in which order operators can step.
use Rattle.std.specs.Prelude.{◌≡◌, ℕ, ◌<◌, ◌⊎◌, List, length, take, slice_index, slice_index_or, Contains, Some, None}
use Rattle.apx_dag.specs.declared.link.Link.{Link}

-- the sources of an operator, by its number
abbrev pub link_at : List Link → ℕ → Link
link_at links i = slice_index_or links i (record { left = None; right = None })

-- an operator is one of the two that a link names
abbrev pub IsSource : Link → ℕ → Type 0
IsSource link a = (link.left ≡ Some a) ⊎ (link.right ≡ Some a)

-- operator b reads operator a
abbrev pub Feeds : List Link → ℕ → ℕ → Type 0
Feeds links a b = IsSource (link_at links b) a

-- each source is there
abbrev pub IsWithin : List Link → Type 0
IsWithin links = (a b : ℕ) → Feeds links a b → a < length links

-- operator c is reached from operator a, over one stream or more
pub data Reaches (links : List Link) : ℕ → ℕ → Type 0 where
  at_once : {a b : ℕ} → Feeds links a b → Reaches links a b
  through : {a b c : ℕ} → Feeds links a b → Reaches links b c → Reaches links a c

-- no operator is reached from itself
abbrev pub IsAcyclic : List Link → Type 0
IsAcyclic links = (i : ℕ) → i < length links → ¬ Reaches links i i

-- an operator that isn't placed, with each of its sources placed
pub record IsReady (links : List Link) (placed : List ℕ) (i : ℕ) : Type 0 where
  -- the operator is there
  pub here : i < length links
  -- it isn't placed
  pub unplaced : ¬ Contains placed i
  -- its sources are placed
  pub fed : (a : ℕ) → Feeds links a i → Contains placed a

-- the earliest operator that is ready
pub record IsNext (links : List Link) (placed : List ℕ) (i : ℕ) : Type 0 where
  -- the operator is ready
  pub ready : IsReady links placed i
  -- none before it is ready
  pub earliest : (j : ℕ) → j < i → ¬ IsReady links placed j

-- At each step comes the earliest operator whose sources are placed, and each operator comes. So each
-- comes once, after its sources.
pub record IsLinkOrder (links : List Link) (order : List ℕ) : Type 0 where
  -- at each place stands the earliest that is ready after those before it
  pub next : (k : ℕ) → k < length order → IsNext links (take k order) (slice_index order k)
  -- each operator stands in the order
  pub each : (i : ℕ) → i < length links → Contains order i
  -- it has as many places as there are operators
  pub size : length order ≡ length links
