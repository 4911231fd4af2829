-- Pairs by what they keep for each key.
use Rattle.std.proofs.Common.{◌≡◌, ℕ, ℤ, ◌<◌, ◌&&◌, Bool, true, false, cond, T, List, [], ◌∷◌, refl, sym, ap, subst, ◌∙◌, arith, zero, suc, Option, Some, None}
use Rattle.std.specs.declared.cmp.Ordering.{Ordering}
use Rattle.std.specs.declared.cmp.Ordering.TheVariants.{Less, Equal, Greater}
use Rattle.std.specs.Ordering.{is_eq, is_lt, match_ordering, ordering_reverse}
use Rattle.std.specs.Map.{keys_of}
use Rattle.std.specs.List.{AllByRecursion}
use Rattle.std.specs.List.Sorted.{IsStrictlySortedBy}
use Rattle.std.specs.FinMap.Entries.{find, below_all, is_sorted, same_entries}
use Rattle.apx_order.specs.Sorted.{times}
use Rattle.apx_tuple.specs.State.{Pair, value_at, with_entry}
use Rattle.apx_tuple.specs.Tuple.{key_order}
use Rattle.apx_tuple.proofs.Orders.{key_order-exact}
use Rattle.apx_rules.specs.Step.{entries_at}

equal : (r : Ordering) → is_eq r ≡ true → r ≡ Equal
equal Less h = cc
equal Equal h = refl
equal Greater h = cc

pub same_key : (k q : List ℕ) → is_eq (key_order k q) ≡ true → k ≡ q
same_key k q h = key_order-exact.tight k q (equal (key_order k q) h)

-- keys that are one key compare alike
pub alike : (q k l : List ℕ) → is_eq (key_order q k) ≡ true → key_order q l ≡ key_order k l
alike q k l h = key_order-exact.total.congr q k l (equal (key_order q k) h)

-- ---- a pair put in its place

-- what is kept for each key, with an entry
pub value_at-with_entry : (pairs : List Pair) (k : List ℕ) (v : ℤ) (q : List ℕ) → value_at (with_entry pairs k v) q ≡ cond (is_eq (key_order q k)) (Some v) (value_at pairs q)
value_at-with_entry [] k v q = refl
value_at-with_entry (p ∷ pairs) k v q = by (key_order k p.0) refl (is_eq (key_order q k)) refl (value_at-with_entry pairs k v q)
  where
    by : (r : Ordering) → key_order k p.0 ≡ r → (b : Bool) → is_eq (key_order q k) ≡ b → value_at (with_entry pairs k v) q ≡ cond (is_eq (key_order q k)) (Some v) (value_at pairs q) →
        value_at (match_ordering r ((k, v) ∷ p ∷ pairs) ((p.0, v) ∷ pairs) (p ∷ with_entry pairs k v)) q ≡ cond b (Some v) (cond (is_eq (key_order q p.0)) (Some p.1) (value_at pairs q))
    by Less e true h rest = ap (λ b. cond b (Some v) (cond (is_eq (key_order q p.0)) (Some p.1) (value_at pairs q))) h
    by Less e false h rest = ap (λ b. cond b (Some v) (cond (is_eq (key_order q p.0)) (Some p.1) (value_at pairs q))) h
    by Equal e true h rest = ap (λ r. cond (is_eq r) (Some v) (value_at pairs q)) (alike q k p.0 h ∙ e)
    by Equal e false h rest =
        let other : is_eq (key_order q p.0) ≡ false = ap (λ l. is_eq (key_order q l)) (sym (key_order-exact.tight k p.0 e)) ∙ h in
        ap (λ b. cond b (Some v) (value_at pairs q)) other ∙ sym (ap (λ b. cond b (Some p.1) (value_at pairs q)) other)
    by Greater e true h rest =
        let other : is_eq (key_order q p.0) ≡ false = ap is_eq (alike q k p.0 h ∙ e) in
        ap (λ b. cond b (Some p.1) (value_at (with_entry pairs k v) q)) other ∙ rest ∙ ap (λ b. cond b (Some v) (value_at pairs q)) h
    by Greater e false h rest = ap (cond (is_eq (key_order q p.0)) (Some p.1)) (rest ∙ ap (λ b. cond b (Some v) (value_at pairs q)) h)

above-with_entry : (x k : List ℕ) (v : ℤ) (pairs : List Pair) → key_order x k ≡ Less → AllByRecursion (λ y. key_order x y ≡ Less) (keys_of pairs) → AllByRecursion (λ y. key_order x y ≡ Less) (keys_of (with_entry pairs k v))
above-with_entry x k v [] e a = (e, tt)
above-with_entry x k v (p ∷ pairs) e a = by (key_order k p.0) (above-with_entry x k v pairs e a.1)
  where
    by : (r : Ordering) → AllByRecursion (λ y. key_order x y ≡ Less) (keys_of (with_entry pairs k v)) →
        AllByRecursion (λ y. key_order x y ≡ Less) (keys_of (match_ordering r ((k, v) ∷ p ∷ pairs) ((p.0, v) ∷ pairs) (p ∷ with_entry pairs k v)))
    by Less rest = (e, a)
    by Equal rest = a
    by Greater rest = (a.0, rest)

above-down : (x y : List ℕ) (ks : List (List ℕ)) → key_order x y ≡ Less → AllByRecursion (λ z. key_order y z ≡ Less) ks → AllByRecursion (λ z. key_order x z ≡ Less) ks
above-down x y [] e a = tt
above-down x y (k ∷ ks) e a = (key_order-exact.total.trans x y k e a.0, above-down x y ks e a.1)

-- pairs in their keys' order stay so with an entry
pub with_entry-ascends : (pairs : List Pair) (k : List ℕ) (v : ℤ) → IsStrictlySortedBy key_order (keys_of pairs) → IsStrictlySortedBy key_order (keys_of (with_entry pairs k v))
unfolding IsStrictlySortedBy
with_entry-ascends [] k v a = (tt, tt)
with_entry-ascends (p ∷ pairs) k v a = by (key_order k p.0) refl (with_entry-ascends pairs k v a.1)
  where
    by : (r : Ordering) → key_order k p.0 ≡ r → IsStrictlySortedBy key_order (keys_of (with_entry pairs k v)) →
        IsStrictlySortedBy key_order (keys_of (match_ordering r ((k, v) ∷ p ∷ pairs) ((p.0, v) ∷ pairs) (p ∷ with_entry pairs k v)))
    by Less e rest = ((e, above-down k p.0 (keys_of pairs) e a.0), a)
    by Equal e rest = a
    by Greater e rest = (above-with_entry p.0 k v pairs (key_order-exact.total.antisymm p.0 k ∙ ap ordering_reverse e) a.0, rest)

-- ---- pairs made of the keys

abbrev number : Bool → ℕ
number b = cond b 1 0

-- nothing is kept for a key that isn't among them
pub value_at-elsewhere : (entry : List ℕ → Option ℤ) (keys : List (List ℕ)) (q : List ℕ) → times key_order q keys ≡ 0 → value_at (entries_at entry keys) q ≡ None
unfolding entries_at times
value_at-elsewhere entry [] q h = refl
value_at-elsewhere entry (k ∷ keys) q h = by (entry k) refl (is_eq (key_order q k)) refl (value_at-elsewhere entry keys q (omega arith))
  where
    by : (o : Option ℤ) → entry k ≡ o → (b : Bool) → is_eq (key_order q k) ≡ b → value_at (entries_at entry keys) q ≡ None → value_at (entries_at entry (k ∷ keys)) q ≡ None
    by None e b t rest = rw e rest
    by (Some v) e true t rest = absurd (omega (arith, ap number t))
    by (Some v) e false t rest = rw e (rw t rest)

-- and for a key among them its entry
pub value_at-among : (entry : List ℕ → Option ℤ) (keys : List (List ℕ)) (q : List ℕ) → 0 < times key_order q keys → value_at (entries_at entry keys) q ≡ entry q
unfolding entries_at times
value_at-among entry [] q h = absurd (omega arith)
value_at-among entry (k ∷ keys) q h = by (entry k) refl (is_eq (key_order q k)) refl (value_at-among entry keys q) (value_at-elsewhere entry keys q)
  where
    here : (n : ℕ) → (0 < n → value_at (entries_at entry keys) q ≡ entry q) → (n ≡ 0 → value_at (entries_at entry keys) q ≡ None) → entry q ≡ None → value_at (entries_at entry keys) q ≡ None
    here zero more none e = none refl
    here (suc n) more none e = more (omega arith) ∙ e

    by : (o : Option ℤ) → entry k ≡ o → (b : Bool) → is_eq (key_order q k) ≡ b → (0 < times key_order q keys → value_at (entries_at entry keys) q ≡ entry q) → (times key_order q keys ≡ 0 → value_at (entries_at entry keys) q ≡ None) →
        value_at (entries_at entry (k ∷ keys)) q ≡ entry q
    by None e true t more none = let gone : entry q ≡ None = ap entry (same_key q k t) ∙ e in rw e (here (times key_order q keys) more none gone ∙ sym gone)
    by None e false t more none = rw e (more (omega (arith, ap number t)))
    by (Some v) e true t more none = rw e (rw t (sym (ap entry (same_key q k t) ∙ e)))
    by (Some v) e false t more none = rw e (rw t (more (omega (arith, ap number t))))

above-entries_at : (entry : List ℕ → Option ℤ) (x : List ℕ) (keys : List (List ℕ)) → AllByRecursion (λ y. key_order x y ≡ Less) keys → AllByRecursion (λ y. key_order x y ≡ Less) (keys_of (entries_at entry keys))
unfolding entries_at
above-entries_at entry x [] a = tt
above-entries_at entry x (k ∷ keys) a = by (entry k) refl (above-entries_at entry x keys a.1)
  where
    by : (o : Option ℤ) → entry k ≡ o → AllByRecursion (λ y. key_order x y ≡ Less) (keys_of (entries_at entry keys)) → AllByRecursion (λ y. key_order x y ≡ Less) (keys_of (entries_at entry (k ∷ keys)))
    by None e rest = rw e rest
    by (Some v) e rest = rw e (a.0, rest)

-- the pairs made of keys that ascend
pub entries_at-ascends : (entry : List ℕ → Option ℤ) (keys : List (List ℕ)) → IsStrictlySortedBy key_order keys → IsStrictlySortedBy key_order (keys_of (entries_at entry keys))
unfolding entries_at IsStrictlySortedBy
entries_at-ascends entry [] a = tt
entries_at-ascends entry (k ∷ keys) a = by (entry k) refl (entries_at-ascends entry keys a.1)
  where
    by : (o : Option ℤ) → entry k ≡ o → IsStrictlySortedBy key_order (keys_of (entries_at entry keys)) → IsStrictlySortedBy key_order (keys_of (entries_at entry (k ∷ keys)))
    by None e rest = rw e rest
    by (Some v) e rest = rw e (above-entries_at entry k keys a.0, rest)

-- nothing is kept for what isn't a key of the pairs
pub value_at-none : (pairs : List Pair) (q : List ℕ) → times key_order q (keys_of pairs) ≡ 0 → value_at pairs q ≡ None
unfolding times
value_at-none [] q h = refl
value_at-none (p ∷ pairs) q h = by (is_eq (key_order q p.0)) refl (value_at-none pairs q (omega arith))
  where
    by : (b : Bool) → is_eq (key_order q p.0) ≡ b → value_at pairs q ≡ None → cond b (Some p.1) (value_at pairs q) ≡ None
    by true t rest = absurd (omega (arith, ap number t))
    by false t rest = rest

-- ---- pairs that keep the same

both : (a b : Bool) → T a → T b → T (a && b)
both true b p q = q
both false b p q = p

below_from : (x : List ℕ) (pairs : List Pair) → AllByRecursion (λ y. key_order x y ≡ Less) (keys_of pairs) → T (below_all key_order x pairs)
below_from x [] a = tt
below_from x (p ∷ pairs) a = both (is_lt (key_order x p.0)) (below_all key_order x pairs) (subst (λ r. T (is_lt r)) (sym a.0) tt) (below_from x pairs a.1)

sorted_from : (pairs : List Pair) → IsStrictlySortedBy key_order (keys_of pairs) → T (is_sorted key_order pairs)
unfolding IsStrictlySortedBy
sorted_from [] a = tt
sorted_from (p ∷ pairs) a = both (below_all key_order p.0 pairs) (is_sorted key_order pairs) (below_from p.0 pairs a.0) (sorted_from pairs a.1)

find-value_at : (q : List ℕ) (pairs : List Pair) → find key_order q pairs ≡ value_at pairs q
find-value_at q [] = refl
find-value_at q (p ∷ pairs) = ap (cond (is_eq (key_order q p.0)) (Some p.1)) (find-value_at q pairs)

-- pairs in their keys' order that keep the same for each key are the same
pub same-pairs : (ps qs : List Pair) → IsStrictlySortedBy key_order (keys_of ps) → IsStrictlySortedBy key_order (keys_of qs) → ((q : List ℕ) → value_at ps q ≡ value_at qs q) → ps ≡ qs
same-pairs ps qs a b h =
    same_entries key_order key_order-exact.total key_order-exact.tight ps qs (sorted_from ps a) (sorted_from qs b) (λ q. find-value_at q ps ∙ h q ∙ sym (find-value_at q qs))

-- an entry that is kept already changes nothing
pub with_entry-same : (pairs : List Pair) (k : List ℕ) (v : ℤ) → IsStrictlySortedBy key_order (keys_of pairs) → value_at pairs k ≡ Some v → with_entry pairs k v ≡ pairs
with_entry-same pairs k v a h = same-pairs (with_entry pairs k v) pairs (with_entry-ascends pairs k v a) a (λ q. value_at-with_entry pairs k v q ∙ by q (is_eq (key_order q k)) refl)
  where
    by : (q : List ℕ) (b : Bool) → is_eq (key_order q k) ≡ b → cond b (Some v) (value_at pairs q) ≡ value_at pairs q
    by q true e = sym h ∙ ap (value_at pairs) (sym (same_key q k e))
    by q false e = refl
