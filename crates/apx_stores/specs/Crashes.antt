-- What a crash may leave of the stores of a run. Windows count from 1. What a store's type means is handed in as functions:
-- its time, what a crash since a time might have left of it, and for the checkpoint store what it has.
--     IsFirst          the first windows of the one pass
--     IsDurable        what a crash now may leave of the sink's store
--     RowsFollow       what calls leave of the sink's store
--     IsSettled        what a crash now leaves of a checkpoint store that is sound
--     Derives          a map whose entries were there before, or are good
--     EntriesFollow    what calls leave of the checkpoint store
use Rattle.std.specs.Prelude.{◌≡◌, ◌⊎◌, ℕ, ◌≤◌, Bool, List, length, Some, IsTrue}
use Rattle.apx_cause.specs.Steps.{Steps}
use Rattle.apx_tuple.specs.declared.tuple.Tuple.{Tuple}
use Rattle.apx_device.specs.declared.vault.SaveId.{SaveId}
use Rattle.apx_device.specs.Vault.{Entry, entry_at}
use Rattle.apx_pass.specs.Pass.{Dataflow, mean_up_to}
use Rattle.apx_course.specs.Run.{Run}
use Rattle.apx_stores.specs.Whole.{BeginsRight}

-- ---- the sink's store

-- the first windows of the one pass, at least so many and at most so many
pub record IsFirst (flow : Dataflow) (least most : ℕ) (windows : List (List Tuple)) : Type 0 where
  -- they have the rows of the one pass
  pub is : windows ≡ mean_up_to flow (length windows)
  -- there are no fewer
  pub enough : least ≤ length windows
  -- nor more
  pub few : length windows ≤ most

-- A crash now leaves of the sink's store the first windows of the one pass, with all that are counted as stored.
abbrev pub IsDurable : Run → Bool → ℕ → (List (List Tuple) → Type 0) → Type 0
IsDurable run keeper s left =
    BeginsRight run keeper → (windows : List (List Tuple)) → left windows → IsFirst run.job.flow s run.plan.windows windows

-- Calls before which so many windows were counted as stored: since each earlier time a crash might have left of the sink's store
-- what it might have left before them, or the first windows of the one pass with all that were counted.
abbrev pub RowsFollow : {K : Type 0} → Run → Bool → ℕ → (time : K → ℕ) → (left : K → ℕ → List (List Tuple) → Type 0) →
    (old new : K) → Type 0
RowsFollow run keeper s time left old new =
    BeginsRight run keeper → Steps (time old) (time new) (left old) (left new) (IsFirst run.job.flow s run.plan.windows)

-- ---- the checkpoint store

-- where it tells its entries, a crash now leaves what it has
abbrev pub IsSettled : {V : Type 0} → Bool → (time : V → ℕ) → (left : V → ℕ → List Entry → Type 0) → (held : V → List Entry) → V → Type 0
IsSettled tells time left held vault = IsTrue tells → (entries : List Entry) → left vault (time vault) entries → entries ≡ held vault

-- each entry of the new map is one of the old map, or what is kept under its id is good
abbrev pub Derives : (SaveId → List ℕ → Type 0) → (old new : List Entry) → Type 0
Derives good old new =
    (id : SaveId) (bytes : List ℕ) → entry_at new id ≡ Some bytes → (entry_at old id ≡ Some bytes) ⊎ good id bytes

-- Calls that put nothing but what is good: each entry that the checkpoint store has behind them is one of those from before them
-- or is good, and so is each entry of what a crash since an earlier time leaves and might not have left before them.
pub record EntriesFollow {V : Type 0} (good : SaveId → List ℕ → Type 0) (time : V → ℕ) (left : V → ℕ → List Entry → Type 0)
    (held : V → List Entry) (old new : V) : Type 0 where
  -- what it has behind them
  pub derived : Derives good (held old) (held new)
  -- what a crash leaves
  pub crash : Steps (time old) (time new) (left old) (left new) (Derives good (held old))

-- what one put makes good
abbrev pub IsPut : SaveId → List ℕ → SaveId → List ℕ → Type 0
IsPut id bytes other found = (other ≡ id) × (found ≡ bytes)

-- nothing is, where nothing is put
abbrev pub NoPut : SaveId → List ℕ → Type 0
NoPut id bytes = ⊥
