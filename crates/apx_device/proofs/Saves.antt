-- The entries of a vault in memory after each of its calls.
use Rattle.std.proofs.Common.{◌≡◌, ℕ, ◌≤◌, Bool, true, false, cond, List, [], ◌∷◌, map, filter, Option, Some, None, Vec, refl, sym, ap, ◌∙◌, nat_le, unwrap_or}
use Rattle.std.specs.declared.alloc.Global.{Global}
use Rattle.std.specs.declared.cmp.Ordering.{Ordering}
use Rattle.std.specs.declared.cmp.Ordering.TheVariants.{Less, Equal, Greater}
use Rattle.std.specs.Ordering.{match_ordering}
use Rattle.std.specs.Option.{option_map}
use Rattle.std.specs.BTreeMap.{insert_entry, is_at}
use Rattle.std.specs.Map.{lookup}
use Rattle.apx_device.specs.declared.vault.SaveId.{SaveId}
use Rattle.apx_device.specs.Vault.{Entry, with_entry, entries_from, save_order, bytes_at}
use Rattle.apx_device.specs.MemoryVault.{Kept, entries_in}

-- an entry joins, or takes another's place
pub entries-insert : (kept : List Kept) (id : SaveId) (bytes : Vec ℕ Global) → entries_in (insert_entry save_order kept id bytes) ≡ with_entry (entries_in kept) id bytes.items
entries-insert [] id bytes = refl
entries-insert (e ∷ kept) id bytes = by (save_order id e.0) (ap (λ es. (e.0, e.1.items) ∷ es) (entries-insert kept id bytes))
  where
    by : (r : Ordering) → (e.0, e.1.items) ∷ entries_in (insert_entry save_order kept id bytes) ≡ (e.0, e.1.items) ∷ with_entry (entries_in kept) id bytes.items
        → entries_in (match_ordering r ((id, bytes) ∷ e ∷ kept) ((e.0, bytes) ∷ kept) (e ∷ insert_entry save_order kept id bytes)) ≡ match_ordering r ((id, bytes.items) ∷ (e.0, e.1.items) ∷ entries_in kept) ((e.0, bytes.items) ∷ entries_in kept) ((e.0, e.1.items) ∷ with_entry (entries_in kept) id bytes.items)
    by Less rest = refl
    by Equal rest = refl
    by Greater rest = rest

-- what is found among them
pub entries-lookup : (test : SaveId → Bool) (kept : List Kept) → lookup test (entries_in kept) ≡ option_map (λ v. v.items) (lookup test kept)
entries-lookup test [] = refl
entries-lookup test (e ∷ kept) = by (test e.0) (entries-lookup test kept)
  where
    by : (b : Bool) → lookup test (entries_in kept) ≡ option_map (λ v. v.items) (lookup test kept) → cond b (Some e.1.items) (lookup test (entries_in kept)) ≡ option_map (λ v. v.items) (cond b (Some e.1) (lookup test kept))
    by true rest = refl
    by false rest = rest

-- what stays of them
pub entries-from : (window : ℕ) (kept : List Kept) → entries_in (filter (λ e. nat_le window e.0.window) kept) ≡ entries_from (entries_in kept) window
entries-from window [] = refl
entries-from window (e ∷ kept) = by (nat_le window e.0.window) (entries-from window kept)
  where
    by : (b : Bool) → entries_in (filter (λ d. nat_le window d.0.window) kept) ≡ entries_from (entries_in kept) window → entries_in (cond b (e ∷ filter (λ d. nat_le window d.0.window) kept) (filter (λ d. nat_le window d.0.window) kept)) ≡ cond b ((e.0, e.1.items) ∷ entries_from (entries_in kept) window) (entries_from (entries_in kept) window)
    by true rest = ap (λ es. (e.0, e.1.items) ∷ es) rest
    by false rest = rest

-- the bytes that were found under an id
pub bytes-found : (kept : List Kept) (id : SaveId) (bytes : Vec ℕ Global) → Some bytes ≡ lookup (is_at (save_order id)) kept → bytes.items ≡ bytes_at (entries_in kept) id
bytes-found kept id bytes found = ap (λ o. unwrap_or (option_map (λ v. v.items) o) []) found ∙ ap (λ o. unwrap_or o []) (sym (entries-lookup (is_at (save_order id)) kept))

-- there are none
pub bytes-absent : (kept : List Kept) (id : SaveId) → None ≡ lookup (is_at (save_order id)) kept → [] ≡ bytes_at (entries_in kept) id
bytes-absent kept id found = ap (λ o. unwrap_or (option_map (λ v. v.items) o) []) found ∙ ap (λ o. unwrap_or o []) (sym (entries-lookup (is_at (save_order id)) kept))
