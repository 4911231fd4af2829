-- Pairs that are put together one after the other, where no key stands twice.
use Rattle.std.proofs.Common.{◌≡◌, ℕ, ℤ, ◌+◌, ◌≤◌, ◌<◌, ◌==◌, Bool, true, false, cond, List, [], ◌∷◌, ◌++◌, length, Option, None, refl, sym, ap, subst, ◌∙◌, arith, min}
use Rattle.std.specs.declared.cmp.Ordering.{Ordering}
use Rattle.std.specs.declared.cmp.Ordering.TheVariants.{Less, Equal, Greater}
use Rattle.std.specs.Ordering.{is_eq, is_gt, int_cmp, ordering_then, match_ordering}
use Rattle.std.specs.Cmp.{tied_itself}
use Rattle.std.specs.List.{filter}
use Rattle.std.specs.List.Sorted.{IsStrictlySortedBy}
use Rattle.std.specs.Map.{keys_of}
use Rattle.apx_order.specs.Sorted.{times, sorted, with_member, each_once, IsAscending}
use Rattle.apx_order.proofs.Sorting.{sorted-times, sorted-ascends, sorted-of-ascending, same-by-times}
use Rattle.apx_order.proofs.Once.{filter-ascends}
use Rattle.apx_tuple.specs.Size.{size_by, IsLarge}
use Rattle.apx_tuple.specs.State.{Pair, pair_key, value_at, with_entry, IsState}
use Rattle.apx_tuple.specs.Tuple.{key_order}
use Rattle.apx_tuple.proofs.Orders.{key_order-exact}
use Rattle.apx_tuple.proofs.Sizes.{size_by-sorted}
use Rattle.apx_rules.specs.Parts.{pair_order, cut_state}
use Rattle.apx_rules.proofs.Pairs.{value_at-none}
use Rattle.apx_codec.specs.KeyNumber.{owner_of}
use Rattle.apx_shares.proofs.Merging.{pairs-ascend}
use Rattle.apx_shares.proofs.Ordered.{strictly-once}
use Rattle.apx_shares.proofs.Sums.{count, times-count, count-append, count-with_member}
use Rattle.apx_shares.proofs.Tops.{pair_order-exact}
use Rattle.apx_split.specs.Kept.{AreOnce}

-- a key's place among the pairs, where it has none yet
pub with_entry_member : (ps : List Pair) (k : List ℕ) (v : ℤ) → value_at ps k ≡ None → with_entry ps k v ≡ with_member pair_order (k, v) ps
unfolding with_member
with_entry_member [] k v h = refl
with_entry_member (p ∷ ps) k v h = by (key_order k p.0) refl (with_entry_member ps k v)
  where
    by : (r : Ordering) → key_order k p.0 ≡ r → (value_at ps k ≡ None → with_entry ps k v ≡ with_member pair_order (k, v) ps) →
        match_ordering r ((k, v) ∷ p ∷ ps) ((p.0, v) ∷ ps) (p ∷ with_entry ps k v) ≡ cond (is_gt (ordering_then r (int_cmp v p.1))) (p ∷ with_member pair_order (k, v) ps) ((k, v) ∷ p ∷ ps)
    by Less e rest = refl
    by Equal e rest = let no = rw e at h in cc
    by Greater e rest = ap (λ l. p ∷ l) (rest (let below = rw e at h in below))

-- how often a key stands among the pairs
pub keys-count : (q : List ℕ) (ps : List Pair) → times key_order q (keys_of ps) ≡ count (λ (p : Pair). is_eq (key_order q p.0)) ps
unfolding times
keys-count q [] = refl
keys-count q (p ∷ ps) = ap (λ n. cond (is_eq (key_order q p.0)) 1 0 + n) (keys-count q ps)

sorted-cons : (x : Pair) (xs : List Pair) → with_member pair_order x (sorted pair_order xs) ≡ sorted pair_order (x ∷ xs)
unfolding sorted
sorted-cons x xs = refl

abbrev number : Bool → ℕ
number b = cond b 1 0

module _ (x : Pair) (xs ys : List Pair) where
  -- a pair that comes next may be kept already
  moved : (p : Pair → Bool) → count p (with_member pair_order x xs ++ ys) ≡ count p (xs ++ x ∷ ys)
  moved p = omega (arith, count-append p (with_member pair_order x xs) ys, count-with_member pair_order p x xs, count-append p xs (x ∷ ys))

  pub sorted-moved : sorted pair_order (with_member pair_order x xs ++ ys) ≡ sorted pair_order (xs ++ x ∷ ys)
  sorted-moved =
      same-by-times pair_order-exact (sorted pair_order (with_member pair_order x xs ++ ys)) (sorted pair_order (xs ++ x ∷ ys))
      (sorted-ascends pair_order-exact (with_member pair_order x xs ++ ys)) (sorted-ascends pair_order-exact (xs ++ x ∷ ys))
      (λ p. sorted-times pair_order p (with_member pair_order x xs ++ ys) ∙ times-count pair_order p (with_member pair_order x xs ++ ys)
      ∙ moved (λ q. is_eq (pair_order p q)) ∙ sym (times-count pair_order p (xs ++ x ∷ ys)) ∙ sym (sorted-times pair_order p (xs ++ x ∷ ys)))

  pub once-moved : AreOnce (xs ++ x ∷ ys) → AreOnce (with_member pair_order x xs ++ ys)
  once-moved once q = omega (arith, once q, keys-count q (xs ++ x ∷ ys), keys-count q (with_member pair_order x xs ++ ys), moved (λ (p : Pair). is_eq (key_order q p.0)))

  -- nothing is kept for its key
  pub absent : AreOnce (xs ++ x ∷ ys) → value_at xs x.0 ≡ None
  absent once =
      value_at-none xs x.0
      (let here : number (is_eq (key_order x.0 x.0)) ≡ 1 = ap (λ (r : Ordering). number (is_eq r)) (tied_itself key_order-exact.total x.0) in
      omega (arith, here, once x.0, keys-count x.0 (xs ++ x ∷ ys), keys-count x.0 xs, count-append (λ (p : Pair). is_eq (key_order x.0 p.0)) xs (x ∷ ys)))

  size-append : (zs : List Pair) → size_by pair_key (zs ++ x ∷ ys) ≡ size_by pair_key zs + (length x.0 + 10 + size_by pair_key ys)
  size-append [] = omega arith
  size-append (z ∷ zs) = omega (arith, size-append zs)

  -- with it they are no larger than all
  pub large-moved : IsAscending pair_order xs → IsLarge pair_key (with_member pair_order x xs) → IsLarge pair_key (sorted pair_order (xs ++ x ∷ ys))
  large-moved a large =
      let alone : with_member pair_order x xs ≡ sorted pair_order (x ∷ xs) = member a in
      omega (arith, large, ap (size_by pair_key) alone, size_by-sorted pair_key pair_order (x ∷ xs), size_by-sorted pair_key pair_order (xs ++ x ∷ ys), size-append xs)
    where
      member : IsAscending pair_order xs → with_member pair_order x xs ≡ sorted pair_order (x ∷ xs)
      member a = ap (with_member pair_order x) (sym (sorted-of-ascending pair_order-exact xs a)) ∙ sorted-cons x xs

-- with a pair that comes they stay in order
pub ascends-moved : (x : Pair) (xs : List Pair) → IsAscending pair_order xs → IsAscending pair_order (with_member pair_order x xs)
ascends-moved x xs a =
    subst (λ (zs : List Pair). IsAscending pair_order zs) (sym (sorted-cons x xs) ∙ ap (with_member pair_order x) (sorted-of-ascending pair_order-exact xs a)) (sorted-ascends pair_order-exact (x ∷ xs))

-- none is left: what is kept is in order
pub none-left : (xs : List Pair) → IsAscending pair_order xs → sorted pair_order (xs ++ []) ≡ xs
none-left xs a = ap (sorted pair_order) (nil xs) ∙ sorted-of-ascending pair_order-exact xs a
  where
    nil : (zs : List Pair) → zs ++ [] ≡ zs
    nil [] = refl
    nil (z ∷ zs) = ap (λ l. z ∷ l) (nil zs)

-- ---- one pair further, where it is the first of those that are left

module _ (xs new ys rest all : List Pair) (x : Pair) (taken : ys ≡ x ∷ rest) where
  pub taken-absent : AreOnce (xs ++ ys) → value_at xs x.0 ≡ None
  taken-absent once = absent x xs rest (subst (λ (zs : List Pair). AreOnce (xs ++ zs)) taken once)

  pub taken-once : new ≡ with_member pair_order x xs → AreOnce (xs ++ ys) → AreOnce (new ++ rest)
  taken-once e once = subst (λ (zs : List Pair). AreOnce (zs ++ rest)) (sym e) (once-moved x xs rest (subst (λ (zs : List Pair). AreOnce (xs ++ zs)) taken once))

  pub taken-sorted : new ≡ with_member pair_order x xs → sorted pair_order (xs ++ ys) ≡ all → sorted pair_order (new ++ rest) ≡ all
  taken-sorted e h = ap (λ (zs : List Pair). sorted pair_order (zs ++ rest)) e ∙ sorted-moved x xs rest ∙ ap (λ (zs : List Pair). sorted pair_order (xs ++ zs)) (sym taken) ∙ h

  pub taken-ascends : new ≡ with_member pair_order x xs → IsAscending pair_order xs → IsAscending pair_order new
  taken-ascends e a = subst (λ (zs : List Pair). IsAscending pair_order zs) (sym e) (ascends-moved x xs a)

  pub taken-large : IsAscending pair_order xs → sorted pair_order (xs ++ ys) ≡ all → IsLarge pair_key (with_member pair_order x xs) → IsLarge pair_key all
  taken-large a h large =
      let big = large-moved x xs rest a large in
      let same : sorted pair_order (xs ++ x ∷ rest) ≡ all = ap (λ (zs : List Pair). sorted pair_order (xs ++ zs)) (sym taken) ∙ h in
      subst (λ (zs : List Pair). IsLarge pair_key zs) same big

pub all-taken : (xs ys all : List Pair) → ys ≡ [] → IsAscending pair_order xs → sorted pair_order (xs ++ ys) ≡ all → xs ≡ all
all-taken xs ys all e a h = sym (none-left xs a) ∙ ap (λ (zs : List Pair). sorted pair_order (xs ++ zs)) (sym e) ∙ h

-- ---- a cut

-- a part of pairs is no larger than all of them
pub size-filter : {X : Type 0} (key : X → List ℕ) (p : X → Bool) (xs : List X) → size_by key (filter p xs) ≤ size_by key xs
size-filter key p [] = omega arith
size-filter key p (x ∷ xs) = by (p x) (size-filter key p xs)
  where
    by : (b : Bool) → size_by key (filter p xs) ≤ size_by key xs → size_by key (cond b (x ∷ filter p xs) (filter p xs)) ≤ size_by key (x ∷ xs)
    by true h = omega (arith, h)
    by false h = omega (arith, h)

pub cut-ascends : (n i : ℕ) (state : List Pair) → IsStrictlySortedBy key_order (keys_of state) → IsAscending pair_order (cut_state n i state)
cut-ascends n i state a = filter-ascends pair_order-exact (λ (p : Pair). owner_of n p.0 == i) state (pairs-ascend state a)

-- ---- one pair further, which is kept where the partition owns it

module _ (n i : ℕ) (xs new ys rest all : List Pair) (x : Pair) (taken : ys ≡ x ∷ rest) where
  cut-taken : (b : Bool) → (owner_of n x.0 == i) ≡ b → cut_state n i ys ≡ cond b (x ∷ cut_state n i rest) (cut_state n i rest)
  cut-taken b e = ap (cut_state n i) taken ∙ ap (λ (t : Bool). cond t (x ∷ cut_state n i rest) (cut_state n i rest)) e

  pub cut-absent : AreOnce (xs ++ cut_state n i ys) → (owner_of n x.0 == i) ≡ true → value_at xs x.0 ≡ None
  cut-absent once e = taken-absent xs [] (cut_state n i ys) (cut_state n i rest) [] x (cut-taken true e) once

  pub cut-large : IsAscending pair_order xs → sorted pair_order (xs ++ cut_state n i ys) ≡ all → (owner_of n x.0 == i) ≡ true → IsLarge pair_key (with_member pair_order x xs) → IsLarge pair_key all
  cut-large a h e large = taken-large xs [] (cut_state n i ys) (cut_state n i rest) all x (cut-taken true e) a h large

  module _ (is : new ≡ cond (owner_of n x.0 == i) (with_member pair_order x xs) xs) where
    kept : (b : Bool) → (owner_of n x.0 == i) ≡ b → new ≡ cond b (with_member pair_order x xs) xs
    kept b e = is ∙ ap (λ (t : Bool). cond t (with_member pair_order x xs) xs) e

    pub cut-next-once : AreOnce (xs ++ cut_state n i ys) → AreOnce (new ++ cut_state n i rest)
    cut-next-once once = by (owner_of n x.0 == i) refl
      where
        by : (b : Bool) → (owner_of n x.0 == i) ≡ b → AreOnce (new ++ cut_state n i rest)
        by true e = taken-once xs new (cut_state n i ys) (cut_state n i rest) [] x (cut-taken true e) (kept true e) once
        by false e = subst (λ (zs : List Pair). AreOnce (zs ++ cut_state n i rest)) (sym (kept false e)) (subst (λ (zs : List Pair). AreOnce (xs ++ zs)) (cut-taken false e) once)

    pub cut-next-sorted : sorted pair_order (xs ++ cut_state n i ys) ≡ all → sorted pair_order (new ++ cut_state n i rest) ≡ all
    cut-next-sorted h = by (owner_of n x.0 == i) refl
      where
        by : (b : Bool) → (owner_of n x.0 == i) ≡ b → sorted pair_order (new ++ cut_state n i rest) ≡ all
        by true e = taken-sorted xs new (cut_state n i ys) (cut_state n i rest) all x (cut-taken true e) (kept true e) h
        by false e = ap (λ (zs : List Pair). sorted pair_order (zs ++ cut_state n i rest)) (kept false e) ∙ ap (λ (zs : List Pair). sorted pair_order (xs ++ zs)) (sym (cut-taken false e)) ∙ h

    pub cut-next-ascends : IsAscending pair_order xs → IsAscending pair_order new
    cut-next-ascends a = by (owner_of n x.0 == i) refl
      where
        by : (b : Bool) → (owner_of n x.0 == i) ≡ b → IsAscending pair_order new
        by true e = taken-ascends xs new (cut_state n i ys) (cut_state n i rest) [] x (cut-taken true e) (kept true e) a
        by false e = subst (λ (zs : List Pair). IsAscending pair_order zs) (sym (kept false e)) a

count-filter : {X : Type 0} (p q : X → Bool) (xs : List X) → count p (filter q xs) ≤ count p xs
count-filter p q [] = omega arith
count-filter p q (x ∷ xs) = by (q x) (count-filter p q xs)
  where
    by : (b : Bool) → count p (filter q xs) ≤ count p xs → count p (cond b (x ∷ filter q xs) (filter q xs)) ≤ count p (x ∷ xs)
    by true h = omega (arith, h)
    by false h = omega (arith, h)

-- a cut of what stands once does too
pub cut-once : (n i : ℕ) (state : List Pair) → IsStrictlySortedBy key_order (keys_of state) → AreOnce (cut_state n i state)
cut-once n i state a q = omega (arith, strictly-once q (keys_of state) a, keys-count q state, keys-count q (cut_state n i state), count-filter (λ (p : Pair). is_eq (key_order q p.0)) (λ (p : Pair). owner_of n p.0 == i) state)

-- nothing is kept at first
pub cut-begins : (n i : ℕ) (owned left state : List Pair) → owned ≡ [] → left ≡ state → IsStrictlySortedBy key_order (keys_of state) →
    AreOnce (owned ++ cut_state n i left) × (sorted pair_order (owned ++ cut_state n i left) ≡ cut_state n i state) × IsAscending pair_order owned
cut-begins n i owned left state none all a = (
  subst (λ (ps : List Pair). AreOnce (ps ++ cut_state n i left)) (sym none) (subst (λ (ps : List Pair). AreOnce (cut_state n i ps)) (sym all) (cut-once n i state a)),
  ap (λ (ps : List Pair). sorted pair_order (ps ++ cut_state n i left)) none ∙ ap (λ (ps : List Pair). sorted pair_order (cut_state n i ps)) all ∙ sorted-of-ascending pair_order-exact (cut_state n i state) (cut-ascends n i state a),
  subst (λ (ps : List Pair). IsAscending pair_order ps) (sym none) tt,
)

-- a cut of a state is never too large
pub cut-is-small : (n i : ℕ) (state : List Pair) → IsState state → IsLarge pair_key (cut_state n i state) → ⊥
cut-is-small n i state s large = let small : size_by pair_key state < 4294967232 = s.small in omega (arith, small, large, size-filter pair_key (λ (p : Pair). owner_of n p.0 == i) state)
