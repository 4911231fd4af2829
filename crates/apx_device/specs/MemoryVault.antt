-- The entries of a vault in memory.
use Rattle.std.specs.Prelude.{◌≡◌, ℕ, List, [], ◌∷◌, map, Vec, refl}
use Rattle.std.proofs.Common.{ap, subst, sym}
use Rattle.std.specs.declared.alloc.Global.{Global}
use Rattle.std.specs.Map.{keys_of}
use Rattle.std.specs.List.Sorted.{IsStrictlySortedBy}
use Rattle.apx_device.specs.declared.vault.SaveId.{SaveId}
use Rattle.apx_device.specs.Vault.{Entry, save_order, IsInOrder}

-- an id with the bytes that it is kept with
abbrev pub Kept : Type 0
Kept = SaveId × Vec ℕ Global

-- the entries, in the order of their ids
abbrev pub entries_in : List Kept → List Entry
entries_in kept = map (λ e. (e.0, e.1.items)) kept

-- the entries have the same ids
pub keys-entries_in : (kept : List Kept) → keys_of (entries_in kept) ≡ keys_of kept
keys-entries_in [] = refl
keys-entries_in (e ∷ kept) = ap (λ ids. e.0 ∷ ids) (keys-entries_in kept)

-- a map's entries are in order
pub in_order : (kept : List Kept) → IsStrictlySortedBy save_order (keys_of kept) → IsInOrder (entries_in kept)
in_order kept ascends = subst (IsStrictlySortedBy save_order) (sym (keys-entries_in kept)) ascends
