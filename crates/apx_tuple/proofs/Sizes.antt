-- How a size changes: along a list, under an exchange, and with an entry more or less.
use Rattle.std.proofs.Common.{◌≡◌, ℕ, ℤ, ◌+◌, ◌<◌, ◌≤◌, Bool, true, false, cond, List, [], ◌∷◌, length, take, get_or, refl, sym, ap, ◌∙◌, arith, Option, Some, None}
use Rattle.std.specs.declared.cmp.Ordering.{Ordering}
use Rattle.std.specs.declared.cmp.Ordering.TheVariants.{Less, Equal, Greater}
use Rattle.std.specs.Ordering.{is_eq, is_gt, match_ordering}
use Rattle.std.specs.Option.{is_some}
use Rattle.std.specs.Cmp.{IsTotalOrder}
use Rattle.std.specs.BTreeMap.{insert_entry, is_at}
use Rattle.std.specs.List.{sum_by}
use Rattle.std.specs.List.Sorted.{IsPermutation, IsStrictlySortedBy}
use Rattle.std.specs.Map.{keys_of, lookup, remove_entry, set_value}
use Rattle.std.proofs.lemmas.List.Sums.{sum_by-cons, sum_by_more, sum_by-take-le}
use Rattle.std.proofs.lemmas.List.Sorted.{sum_by-IsPermutation}
use Rattle.std.proofs.lemmas.Map.{lookup-none}
use Rattle.std.proofs.lemmas.Map.Entries.{none_below_head}
use Rattle.apx_tuple.specs.Size.{size_by}
use Rattle.apx_tuple.specs.State.{Pair, pair_key, value_at, with_entry, without_entry}
use Rattle.apx_order.specs.Sorted.{with_member, sorted}
use Rattle.apx_tuple.specs.declared.tuple.Tuple.{Tuple}
use Rattle.apx_tuple.specs.Tuple.{key_order, tuple_key, tuple_order, bag_of}
use Rattle.apx_tuple.proofs.Orders.{key_order-exact, same-length}

module _ {X : Type 0} (key : X → List ℕ) where
  -- the size as a sum over the members
  pub size_by-sum : (xs : List X) → size_by key xs ≡ sum_by (λ x. length (key x) + 10) xs
  size_by-sum [] = refl
  size_by-sum (x ∷ xs) = ap (λ n. length (key x) + 10 + n) (size_by-sum xs) ∙ sym (sum_by-cons (λ y. length (key y) + 10) x xs)

  pub size_by-permutation : (xs ys : List X) → IsPermutation xs ys → size_by key ys ≡ size_by key xs
  size_by-permutation xs ys p = size_by-sum ys ∙ sum_by-IsPermutation (λ x. length (key x) + 10) xs ys p ∙ sym (size_by-sum xs)

  -- one member more of a front
  pub size_by-more : (xs : List X) (i : ℕ) (d : X) → i < length xs → size_by key (take (i + 1) xs) ≡ size_by key (take i xs) + length (key (get_or xs i d)) + 10
  size_by-more xs i d h = size_by-sum (take (i + 1) xs) ∙ sum_by_more (λ x. length (key x) + 10) xs i d h ∙ (let e = size_by-sum (take i xs) in omega arith)

  -- a front is no larger than the whole
  pub size_by-take-le : (xs : List X) (i : ℕ) → size_by key (take i xs) ≤ size_by key xs
  size_by-take-le xs i = omega (arith, size_by-sum xs, size_by-sum (take i xs), sum_by-take-le (λ x. length (key x) + 10) xs i)

module _ {K X : Type 0} {R : K → K → Ordering} (o : IsTotalOrder R) (bytes : K → List ℕ) where
  -- a new entry adds its key's length and 10, and an entry that was there adds nothing
  pub size_by-insert_entry : (es : List (K × X)) (k : K) (v : X) → IsStrictlySortedBy R (keys_of es) → ((q : K) → R k q ≡ Equal → length (bytes q) ≡ length (bytes k)) →
      size_by (λ e. bytes e.0) (insert_entry R es k v) ≡ size_by (λ e. bytes e.0) es + cond (is_some (lookup (is_at (R k)) es)) 0 (length (bytes k) + 10)
  unfolding IsStrictlySortedBy
  size_by-insert_entry [] k v s t = omega arith
  size_by-insert_entry (e ∷ es) k v s t = by (R k e.0) refl (size_by-insert_entry es k v s.1 t)
    where
      by : (r : Ordering) → R k e.0 ≡ r →
          size_by (λ f. bytes f.0) (insert_entry R es k v) ≡ size_by (λ f. bytes f.0) es + cond (is_some (lookup (is_at (R k)) es)) 0 (length (bytes k) + 10) →
          size_by (λ f. bytes f.0) (match_ordering r ((k, v) ∷ e ∷ es) ((e.0, v) ∷ es) (e ∷ insert_entry R es k v))
          ≡ length (bytes e.0) + 10 + size_by (λ f. bytes f.0) es + cond (is_some (cond (is_eq r) (Some e.1) (lookup (is_at (R k)) es))) 0 (length (bytes k) + 10)
      by Less h rest = rw (lookup-none (is_at (R k)) es (none_below_head o k e es s h).1) (omega arith)
      by Equal h rest = omega arith
      by Greater h rest = omega (arith, rest)

  -- an entry that is taken out takes its key's length and 10 with it
  pub size_by-remove_entry : (es : List (K × X)) (k : K) → ((q : K) → R k q ≡ Equal → length (bytes q) ≡ length (bytes k)) →
      size_by (λ e. bytes e.0) (remove_entry (is_at (R k)) es) + cond (is_some (lookup (is_at (R k)) es)) (length (bytes k) + 10) 0 ≡ size_by (λ e. bytes e.0) es
  size_by-remove_entry [] k t = refl
  size_by-remove_entry (e ∷ es) k t = by (R k e.0) refl (size_by-remove_entry es k t)
    where
      by : (r : Ordering) → R k e.0 ≡ r →
          size_by (λ f. bytes f.0) (remove_entry (is_at (R k)) es) + cond (is_some (lookup (is_at (R k)) es)) (length (bytes k) + 10) 0 ≡ size_by (λ f. bytes f.0) es →
          size_by (λ f. bytes f.0) (cond (is_eq r) es (e ∷ remove_entry (is_at (R k)) es)) + cond (is_some (cond (is_eq r) (Some e.1) (lookup (is_at (R k)) es))) (length (bytes k) + 10) 0
          ≡ length (bytes e.0) + 10 + size_by (λ f. bytes f.0) es
      by Less h rest = omega (arith, rest)
      by Equal h rest = omega (arith, t e.0 h)
      by Greater h rest = omega (arith, rest)

-- the same, of a state's pairs, where the look-up found something or nothing
pub size_by-without_entry : (es : List Pair) (k : List ℕ) (old : Option ℤ) → old ≡ value_at es k → is_some old ≡ true →
    size_by pair_key (without_entry es k) + (length k + 10) ≡ size_by pair_key es
size_by-without_entry es k old e h =
    let found : is_some (value_at es k) ≡ true = ap is_some (sym e) ∙ h in
    rw found at (size_by-remove_entry key_order-exact.total (λ q. q) es k (same-length k))

pub size_by-with_entry-old : (es : List Pair) (k : List ℕ) (v : ℤ) (old : Option ℤ) → IsStrictlySortedBy key_order (keys_of es) → old ≡ value_at es k → is_some old ≡ true →
    size_by pair_key (with_entry es k v) ≡ size_by pair_key es
size_by-with_entry-old es k v old s e h =
    let found : is_some (value_at es k) ≡ true = ap is_some (sym e) ∙ h in
    omega (arith, rw found at (size_by-insert_entry key_order-exact.total (λ q. q) es k v s (same-length k)))

pub size_by-with_entry-new : (es : List Pair) (k : List ℕ) (v : ℤ) (old : Option ℤ) → IsStrictlySortedBy key_order (keys_of es) → old ≡ value_at es k → is_some old ≡ false →
    size_by pair_key (with_entry es k v) ≡ size_by pair_key es + (length k + 10)
size_by-with_entry-new es k v old s e h =
    let found : is_some (value_at es k) ≡ false = ap is_some (sym e) ∙ h in
    rw found at (size_by-insert_entry key_order-exact.total (λ q. q) es k v s (same-length k))

-- a new entry never makes the pairs smaller, nor larger than by its key's length and 10
pub size_by-with_entry-le : (es : List Pair) (k : List ℕ) (v : ℤ) → IsStrictlySortedBy key_order (keys_of es) →
    (size_by pair_key es ≤ size_by pair_key (with_entry es k v)) × (size_by pair_key (with_entry es k v) ≤ size_by pair_key es + (length k + 10))
size_by-with_entry-le es k v s = by (is_some (value_at es k)) refl
  where
    by : (b : Bool) → is_some (value_at es k) ≡ b → (size_by pair_key es ≤ size_by pair_key (with_entry es k v)) × (size_by pair_key (with_entry es k v) ≤ size_by pair_key es + (length k + 10))
    by true h = let e = size_by-with_entry-old es k v (value_at es k) s refl h in (omega arith, omega arith)
    by false h = let e = size_by-with_entry-new es k v (value_at es k) s refl h in (omega arith, omega arith)

-- of pairs that are others with an entry: where the look-up found something, where it found nothing, and where no value makes them too large
pub size_by-set-old : (new es : List Pair) (k : List ℕ) (v : ℤ) (old : Option ℤ) → new ≡ with_entry es k v → IsStrictlySortedBy key_order (keys_of es) → old ≡ value_at es k → is_some old ≡ true →
    size_by pair_key new ≡ size_by pair_key es
size_by-set-old new es k v old e s f h = ap (size_by pair_key) e ∙ size_by-with_entry-old es k v old s f h

pub size_by-set-new : (new es : List Pair) (k : List ℕ) (v : ℤ) (old : Option ℤ) → new ≡ with_entry es k v → IsStrictlySortedBy key_order (keys_of es) → old ≡ value_at es k → is_some old ≡ false →
    size_by pair_key new ≡ size_by pair_key es + (length k + 10)
size_by-set-new new es k v old e s f h = ap (size_by pair_key) e ∙ size_by-with_entry-new es k v old s f h

pub size_by-set-small : (new es : List Pair) (k : List ℕ) (v : ℤ) → new ≡ with_entry es k v → ((w : ℤ) → size_by pair_key (with_entry es k w) < 4294967232) → size_by pair_key new < 4294967232
size_by-set-small new es k v e small = let now = ap (size_by pair_key) e in omega (arith, now, small v)

-- of pairs that are others with an entry for a key that had none
pub size_by-put-new : (es es' new : List Pair) (k k' : List ℕ) (v : ℤ) (size len : ℕ) → IsStrictlySortedBy key_order (keys_of es) → es' ≡ es → k' ≡ k → None ≡ value_at es k → new ≡ with_entry es' k' v →
    size ≡ size_by pair_key es → len ≡ length k → ((w : ℤ) → size_by pair_key (with_entry es' k w) < 4294967232) → (size + (len + 10) ≡ size_by pair_key new) × (size_by pair_key new < 4294967232)
size_by-put-new es es' new k k' v size len s back own none put is_size is_len small =
    let e : new ≡ with_entry es k v = put ∙ (λ i. with_entry (back i) (own i) v) in
    let more = size_by-set-new new es k v None e s none refl in
    let now : size_by pair_key new ≡ size_by pair_key (with_entry es' k v) = ap (size_by pair_key) (put ∙ ap (λ q. with_entry es' q v) own) in
    (omega arith, omega (arith, now, small v))

-- an entry that was found and written through is the entry in place of the old one
pub with_entry-written : (es : List Pair) (k : List ℕ) (v : ℤ) (old : Option ℤ) → IsStrictlySortedBy key_order (keys_of es) → old ≡ value_at es k → is_some old ≡ true →
    set_value (is_at (key_order k)) es v ≡ with_entry es k v
unfolding IsStrictlySortedBy
with_entry-written [] k v old s e h = let none : is_some old ≡ false = ap is_some e in cc
with_entry-written (p ∷ es) k v old s e h = by (key_order k p.0) refl (with_entry-written es k v old s.1)
  where
    by : (r : Ordering) → key_order k p.0 ≡ r → (old ≡ value_at es k → is_some old ≡ true → set_value (is_at (key_order k)) es v ≡ with_entry es k v) →
        cond (is_eq r) ((p.0, v) ∷ es) (p ∷ set_value (is_at (key_order k)) es v) ≡ match_ordering r ((k, v) ∷ p ∷ es) ((p.0, v) ∷ es) (p ∷ with_entry es k v)
    by Less g rest =
        let none : value_at es k ≡ None = lookup-none (is_at (key_order k)) es (none_below_head key_order-exact.total k p es s g).1 in
        let gone : old ≡ None = e ∙ ap (λ r. cond (is_eq r) (Some p.1) (value_at es k)) g ∙ none in
        let no : is_some old ≡ false = ap is_some gone in cc
    by Equal g rest = refl
    by Greater g rest = ap (λ l. p ∷ l) (rest (e ∙ ap (λ r. cond (is_eq r) (Some p.1) (value_at es k)) g) h)

-- sorting leaves the size
module _ {X : Type 0} (key : X → List ℕ) (cmp : X → X → Ordering) where
  size_by-with_member : (x : X) (ys : List X) → size_by key (with_member cmp x ys) ≡ size_by key (x ∷ ys)
  unfolding with_member
  size_by-with_member x [] = refl
  size_by-with_member x (y ∷ ys) = by (is_gt (cmp x y)) (size_by-with_member x ys)
    where
      by : (b : Bool) → size_by key (with_member cmp x ys) ≡ size_by key (x ∷ ys) → size_by key (cond b (y ∷ with_member cmp x ys) (x ∷ y ∷ ys)) ≡ size_by key (x ∷ y ∷ ys)
      by true e = omega (arith, e)
      by false e = refl

  pub size_by-sorted : (xs : List X) → size_by key (sorted cmp xs) ≡ size_by key xs
  unfolding sorted
  size_by-sorted [] = refl
  size_by-sorted (x ∷ xs) = size_by-with_member x (sorted cmp xs) ∙ ap (λ n. length (key x) + 10 + n) (size_by-sorted xs)

-- a bag is as large as the tuples that it is of
pub size_by-bag_of : (tuples : List Tuple) → size_by tuple_key (bag_of tuples) ≡ size_by tuple_key tuples
size_by-bag_of tuples = size_by-sorted tuple_key tuple_order tuples
