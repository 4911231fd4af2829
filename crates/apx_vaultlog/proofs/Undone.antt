-- An entry that joined and was taken away again leaves the others.
use Rattle.std.proofs.Common.{◌≡◌, ℕ, Bool, true, cond, List, [], ◌∷◌, Some, None, Vec, refl, sym, ap, ◌∙◌}
use Rattle.std.specs.declared.alloc.Global.{Global}
use Rattle.std.specs.declared.cmp.Ordering.{Ordering}
use Rattle.std.specs.declared.cmp.Ordering.TheVariants.{Less, Equal, Greater}
use Rattle.std.specs.Ordering.{is_eq, match_ordering}
use Rattle.std.specs.BTreeMap.{insert_entry, is_at}
use Rattle.std.specs.Map.{lookup, remove_entry}
use Rattle.std.proofs.lemmas.Cmp.{tied_itself}
use Rattle.apx_device.specs.declared.vault.SaveId.{SaveId}
use Rattle.apx_device.specs.Vault.{save_order}
use Rattle.apx_device.specs.MemoryVault.{Kept}
use Rattle.apx_device.proofs.Lookups.{save_order-exact}

same : (id : SaveId) → is_eq (save_order id id) ≡ true
same id = ap is_eq (tied_itself save_order-exact.total id)

-- a new entry, and it is gone
pub undone : (kept : List Kept) (id : SaveId) (bytes : Vec ℕ Global) → lookup (is_at (save_order id)) kept ≡ None
    → remove_entry (is_at (save_order id)) (insert_entry save_order kept id bytes) ≡ kept
undone [] id bytes none = ap (λ (b : Bool). cond b [] ((id, bytes) ∷ [])) (same id)
undone (e ∷ kept) id bytes none = by (save_order id e.0) refl (undone kept id bytes)
  where
    test : SaveId → Bool
    test = is_at (save_order id)

    by : (r : Ordering) → save_order id e.0 ≡ r → (lookup test kept ≡ None → remove_entry test (insert_entry save_order kept id bytes) ≡ kept)
        → remove_entry test (match_ordering r ((id, bytes) ∷ e ∷ kept) ((e.0, bytes) ∷ kept) (e ∷ insert_entry save_order kept id bytes)) ≡ e ∷ kept
    by Less is gone = ap (λ (b : Bool). cond b (e ∷ kept) ((id, bytes) ∷ remove_entry test (e ∷ kept))) (same id)
    by Equal is gone =
        let found : Some e.1 ≡ None = sym (ap (λ (r : Ordering). cond (is_eq r) (Some e.1) (lookup test kept)) is) ∙ none in
        absurd (cc found)
    by Greater is gone =
        let rest : lookup test kept ≡ None = sym (ap (λ (r : Ordering). cond (is_eq r) (Some e.1) (lookup test kept)) is) ∙ none in
        ap (λ (r : Ordering). cond (is_eq r) (insert_entry save_order kept id bytes) (e ∷ remove_entry test (insert_entry save_order kept id bytes))) is
        ∙ ap (λ (es : List Kept). e ∷ es) (gone rest)
