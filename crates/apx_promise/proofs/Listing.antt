-- A checkpoint store that has the last checkpoints and no other has them in their order.
use Rattle.std.proofs.Common.{◌≡◌, ℕ, zero, suc, ◌<◌, ◌⊎◌, inl, inr, Bool, true, false, cond, ◌&&◌, T, List, [], ◌∷◌, length, map, Option, Some, None, refl, sym, ap, subst, ◌∙◌, arith}
use Rattle.std.specs.List.{Contains, AllByRecursion}
use Rattle.std.specs.List.Sorted.{IsStrictlySortedBy}
use Rattle.std.specs.Map.{keys_of}
use Rattle.std.specs.declared.cmp.Ordering.{Ordering}
use Rattle.std.specs.declared.cmp.Ordering.TheVariants.{Less, Equal, Greater}
use Rattle.std.specs.Ordering.{is_lt, is_eq}
use Rattle.std.specs.Cmp.{tied_itself}
use Rattle.std.specs.FinMap.Entries.{is_sorted, below_all, find, same_entries}
use Rattle.apx_device.specs.declared.vault.SaveId.{SaveId}
use Rattle.apx_device.specs.Vault.{Entry, save_order, entry_at, IsInOrder}
use Rattle.apx_device.proofs.Lookups.{save_order-exact}
use Rattle.apx_history.specs.Plan.{Plan}
use Rattle.apx_history.specs.Kept.{IsPlan}
use Rattle.apx_promise.specs.Checkpoints.{IsLastSave, last_saves}
use Rattle.apx_promise.specs.Contents.{HasLastSaves}
use Rattle.apx_promise.specs.Laws.{LastIsTheList}
use Rattle.apx_promise.proofs.Saving.{last-saves-are-exact}
use Rattle.apx_promise.proofs.Ascending.{last-saves-ascend}

-- ---- entries in order

both : (a b : Bool) → T a → T b → T (a && b)
both true b p q = q
both false b p q = p

is_less : (r : Ordering) → r ≡ Less → T (is_lt r)
is_less r e = subst (λ (x : Ordering). T (is_lt x)) (sym e) tt

below : (x : SaveId) (es : List Entry) → AllByRecursion (λ y. save_order x y ≡ Less) (keys_of es) → T (below_all save_order x es)
below x [] h = tt
below x (e ∷ es) h = both (is_lt (save_order x e.0)) (below_all save_order x es) (is_less (save_order x e.0) h.0) (below x es h.1)

in_order : (es : List Entry) → IsInOrder es → T (is_sorted save_order es)
unfolding IsStrictlySortedBy
in_order [] h = tt
in_order (e ∷ es) h = both (below_all save_order e.0 es) (is_sorted save_order es) (below e.0 es h.0) (in_order es h.1)

found_by : (q : SaveId) (es : List Entry) → find save_order q es ≡ entry_at es q
found_by q [] = refl
found_by q (e ∷ es) = ap (λ (o : Option (List ℕ)). cond (is_eq (save_order q e.0)) (Some e.1) o) (found_by q es)

-- entries in order with the same look-ups are the same
same_lookups : (es fs : List Entry) → IsInOrder es → IsInOrder fs → ((q : SaveId) → entry_at es q ≡ entry_at fs q) → es ≡ fs
same_lookups es fs a b same =
    same_entries save_order save_order-exact.total save_order-exact.tight es fs (in_order es a) (in_order fs b) (λ q. found_by q es ∙ same q ∙ sym (found_by q fs))

-- ---- a list of ids, each with its bytes

module _ (bytes : SaveId → List ℕ) where
  abbrev listed : List SaveId → List Entry
  listed ids = map (λ (id : SaveId). (id, bytes id)) ids

  pub listed_keys : (ids : List SaveId) → keys_of (listed ids) ≡ ids
  listed_keys [] = refl
  listed_keys (id ∷ ids) = ap (λ (xs : List SaveId). id ∷ xs) (listed_keys ids)

  -- what is found there is the bytes of an id of the list
  looked_up : (ids : List SaveId) (q : SaveId) → (Contains ids q × (entry_at (listed ids) q ≡ Some (bytes q))) ⊎ ((Contains ids q → ⊥) × (entry_at (listed ids) q ≡ None))
  looked_up [] q = inr ((λ h. (let a = h.1 in omega arith)), refl)
  looked_up (id ∷ ids) q = by (save_order q id) refl (looked_up ids q)
    where
      later : (Contains ids q) → Contains (id ∷ ids) q
      later h = (suc h.0, (let a = h.1 in omega arith), h.2)

      front : (q ≡ id → ⊥) → Contains (id ∷ ids) q → Contains ids q
      front other (zero, low, is) = absurd (other (sym is))
      front other (suc k, low, is) = (k, omega (arith, low), is)

      apart : (r : Ordering) → save_order q id ≡ r → is_eq r ≡ false → q ≡ id → ⊥
      apart r e f same = (let g : true ≡ false = sym (ap is_eq (ap (λ (x : SaveId). save_order x id) same ∙ tied_itself save_order-exact.total id)) ∙ (ap is_eq e ∙ f) in cc)

      by : (r : Ordering) → save_order q id ≡ r → (Contains ids q × (entry_at (listed ids) q ≡ Some (bytes q))) ⊎ ((Contains ids q → ⊥) × (entry_at (listed ids) q ≡ None))
          → (Contains (id ∷ ids) q × (entry_at (listed (id ∷ ids)) q ≡ Some (bytes q))) ⊎ ((Contains (id ∷ ids) q → ⊥) × (entry_at (listed (id ∷ ids)) q ≡ None))
      by Equal e rest =
          let same = save_order-exact.tight q id e in
          inl ((0, omega arith, sym same), ap (λ (r : Ordering). cond (is_eq r) (Some (bytes id)) (entry_at (listed ids) q)) e ∙ ap (λ (x : SaveId). Some (bytes x)) (sym same))
      by Less e (inl rest) = inl (later rest.0, ap (λ (r : Ordering). cond (is_eq r) (Some (bytes id)) (entry_at (listed ids) q)) e ∙ rest.1)
      by Less e (inr rest) = inr ((λ h. rest.0 (front (apart Less e refl) h)), ap (λ (r : Ordering). cond (is_eq r) (Some (bytes id)) (entry_at (listed ids) q)) e ∙ rest.1)
      by Greater e (inl rest) = inl (later rest.0, ap (λ (r : Ordering). cond (is_eq r) (Some (bytes id)) (entry_at (listed ids) q)) e ∙ rest.1)
      by Greater e (inr rest) = inr ((λ h. rest.0 (front (apart Greater e refl) h)), ap (λ (r : Ordering). cond (is_eq r) (Some (bytes id)) (entry_at (listed ids) q)) e ∙ rest.1)

-- ---- the store

module _ (plan : Plan) (is : IsPlan plan) (bytes : SaveId → List ℕ) (entries : List Entry) (last : HasLastSaves (λ id found. found ≡ bytes id) plan (entry_at entries)) where
  -- what is found under an id
  same_at : (q : SaveId) → entry_at entries q ≡ entry_at (map (λ (id : SaveId). (id, bytes id)) (last_saves plan)) q
  same_at q = elim (looked_up bytes (last_saves plan) q) [
    | inl here ↦ (let there = last.each q ((last-saves-are-exact plan q is).0 here.0) in there.1 ∙ ap Some there.2 ∙ sym here.1)
    | inr none ↦ absent none.0 (entry_at entries q) refl ∙ sym none.1
  ]
    where
      absent : (Contains (last_saves plan) q → ⊥) → (found : Option (List ℕ)) → entry_at entries q ≡ found → entry_at entries q ≡ None
      absent none None e = e
      absent none (Some x) e = absurd (none ((last-saves-are-exact plan q is).1 (last.only q x e).0))

pub last-is-the-list : LastIsTheList
last-is-the-list plan bytes entries is ordered last = same_lookups entries (map (λ (id : SaveId). (id, bytes id)) (last_saves plan)) ordered
    (subst (λ (ids : List SaveId). IsStrictlySortedBy save_order ids) (sym (listed_keys bytes (last_saves plan))) (last-saves-ascend plan))
    (same_at plan is bytes entries last)
