-- The entries of a vault, in the order of their ids, and what its calls leave of them.
use Rattle.std.specs.Prelude.{◌≡◌, ◌⊎◌, ℕ, ◌<◌, ◌≤◌, Bool, true, List, Option, None, Some, Result, Ok, Err, filter, nat_le, unwrap_or, []}
use Rattle.std.specs.declared.cmp.Ordering.{Ordering}
use Rattle.std.specs.Ordering.{nat_cmp, ordering_then, is_eq}
use Rattle.std.specs.BTreeMap.{insert_entry, is_at}
use Rattle.std.specs.Map.{keys_of, lookup, remove_entry}
use Rattle.std.specs.List.Sorted.{IsStrictlySortedBy}
use Rattle.apx_device.specs.declared.vault.SaveId.{SaveId}
use Rattle.apx_device.specs.declared.vault.VaultRefusal.{VaultRefusal}
use Rattle.apx_device.specs.declared.vault.VaultRefusal.TheVariants.{Failed, Memory}

-- an id and the bytes that are kept under it
abbrev pub Entry : Type 0
Entry = SaveId × List ℕ

-- by operator, boundary, partition and window
abbrev pub save_order : SaveId → SaveId → Ordering
save_order x y =
    ordering_then (nat_cmp x.op y.op)
    (ordering_then (nat_cmp x.boundary y.boundary) (ordering_then (nat_cmp x.part y.part) (nat_cmp x.window y.window)))

-- what is kept under an id, if anything
abbrev pub entry_at : List Entry → SaveId → Option (List ℕ)
entry_at entries id = lookup (is_at (save_order id)) entries

-- the bytes under an id, none for an absent one
abbrev pub bytes_at : List Entry → SaveId → List ℕ
bytes_at entries id = unwrap_or (entry_at entries id) []

-- the entries with these bytes under the id, in place of what was there
abbrev pub with_entry : List Entry → SaveId → List ℕ → List Entry
with_entry entries id bytes = insert_entry save_order entries id bytes

-- the entries without the one under the id
abbrev pub without_entry : List Entry → SaveId → List Entry
without_entry entries id = remove_entry (is_at (save_order id)) entries

-- the entries whose window isn't below this one
abbrev pub entries_from : List Entry → ℕ → List Entry
entries_from entries window = filter (λ e. nat_le window e.0.window) entries

-- the ids ascend, each once
abbrev pub IsInOrder : List Entry → Type 0
IsInOrder entries = IsStrictlySortedBy save_order (keys_of entries)

-- some entries whose window is below this one may be gone, and all others stay
pub record LosesBelow (window : ℕ) (old new : List Entry) : Type 0 where
  -- an entry of this window or a later one stays
  pub stays : (id : SaveId) → window ≤ id.window → entry_at new id ≡ entry_at old id
  -- an entry of an earlier window stays or is gone
  pub goes : (id : SaveId) → id.window < window → (entry_at new id ≡ entry_at old id) ⊎ (entry_at new id ≡ None)

-- Ok leaves the bytes under the id, Memory all as it was, and Failed either, or nothing under the id
abbrev pub PutBy : Result (Unit {0}) VaultRefusal → SaveId → List ℕ → (old new : List Entry) → Type 0
PutBy (Ok _) id bytes old new = new ≡ with_entry old id bytes
PutBy (Err Memory) id bytes old new = new ≡ old
PutBy (Err Failed) id bytes old new = (new ≡ old) ⊎ (new ≡ with_entry old id bytes) ⊎ (new ≡ without_entry old id)

-- Ok leaves exactly the entries from the window on, Memory all as it was, and Failed some of the others
abbrev pub DroppedBy : Result (Unit {0}) VaultRefusal → ℕ → (old new : List Entry) → Type 0
DroppedBy (Ok _) window old new = new ≡ entries_from old window
DroppedBy (Err Memory) window old new = new ≡ old
DroppedBy (Err Failed) window old new = LosesBelow window old new

-- the vault is sound unless the answer is Failed
abbrev pub StaysSound : {T : Type 0} → Result T VaultRefusal → Bool → Type 0
StaysSound (Ok _) sound = sound ≡ true
StaysSound (Err Memory) sound = sound ≡ true
StaysSound (Err Failed) sound = Unit {0}
