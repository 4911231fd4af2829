-- What a partition sees of a key that it owns, and cuts of lists.
use Rattle.std.proofs.Common.{◌≡◌, ℕ, ℤ, ◌+◌, ◌≤◌, ◌<◌, ◌==◌, min, Bool, true, false, cond, List, [], ◌∷◌, ◌++◌, map, refl, sym, ap, ◌∙◌, arith, Option, Some, None}
use Rattle.std.specs.Ordering.{is_eq}
use Rattle.std.specs.List.{filter}
use Rattle.std.specs.Map.{keys_of}
use Rattle.std.proofs.lemmas.List.Elements.{filter-append}
use Rattle.std.proofs.lemmas.Nat.{mod_below}
use Rattle.apx_order.specs.Sorted.{times, each_once}
use Rattle.apx_order.proofs.Sorting.{sorted-times, sorted-ascends, same-by-times}
use Rattle.apx_order.proofs.Once.{each_once-times, each_once-ascends, filter-ascends, filter-times}
use Rattle.apx_codec.specs.KeyNumber.{owner_of, mask_of, hash_of}
use Rattle.apx_tuple.specs.declared.kind.Kind.{Kind}
use Rattle.apx_tuple.specs.declared.tuple.Tuple.{Tuple}
use Rattle.apx_tuple.specs.State.{Pair, value_at}
use Rattle.apx_tuple.specs.Tuple.{key_order, tuple_key, tuple_order, bag_of}
use Rattle.apx_tuple.proofs.Orders.{key_order-exact, tuple_order-exact}
use Rattle.apx_rules.specs.Rule.{Outcome, rule}
use Rattle.apx_rules.specs.Step.{step_keys, outcome_at, entries_at, values_of}
use Rattle.apx_rules.proofs.Pairs.{same_key}
use Rattle.apx_shares.specs.Laws.{KeysAreOwned}

-- of one partition or more, one owns each key
pub keys-are-owned : KeysAreOwned
keys-are-owned n h key = mod_below _ n (omega arith)

-- the members of an owner's cut, for any owner
abbrev pub cut_by : (List ℕ → ℕ) → ℕ → List Tuple → List Tuple
cut_by own i tuples = filter (λ t. own t.key == i) tuples

abbrev pub cut_pairs : (List ℕ → ℕ) → ℕ → List Pair → List Pair
cut_pairs own i pairs = filter (λ p. own p.0 == i) pairs

-- a cut of a bag is the bag of the cut
pub cut-bag_of : (own : List ℕ → ℕ) (i : ℕ) (ts : List Tuple) → cut_by own i (bag_of ts) ≡ bag_of (cut_by own i ts)
cut-bag_of own i ts =
    same-by-times tuple_order-exact (cut_by own i (bag_of ts)) (bag_of (cut_by own i ts))
    (filter-ascends tuple_order-exact (λ t. own t.key == i) (bag_of ts) (sorted-ascends tuple_order-exact ts)) (sorted-ascends tuple_order-exact (cut_by own i ts))
    (λ t. filter-times tuple_order-exact (λ u. own u.key == i) t (bag_of ts)
    ∙ ap (λ n. cond (own t.key == i) n 0) (sorted-times tuple_order t ts)
    ∙ sym (filter-times tuple_order-exact (λ u. own u.key == i) t ts)
    ∙ sym (sorted-times tuple_order t (cut_by own i ts)))

-- what is gathered of two cuts is the cut of what is gathered
pub cut-gathered : (own : List ℕ → ℕ) (i : ℕ) (xs ys : List Tuple) → bag_of (cut_by own i xs ++ cut_by own i ys) ≡ cut_by own i (bag_of (xs ++ ys))
cut-gathered own i xs ys = ap bag_of (sym (filter-append (λ (t : Tuple). own t.key == i) xs ys)) ∙ sym (cut-bag_of own i (xs ++ ys))

module _ (own : List ℕ → ℕ) (i : ℕ) where
  -- whether the partition owns the key
  abbrev pub owns : List ℕ → Bool
  owns key = own key == i

  cut-values : (q : List ℕ) (ts : List Tuple) → owns q ≡ true → values_of q (cut_by own i ts) ≡ values_of q ts
  cut-values q [] h = refl
  cut-values q (t ∷ ts) h = by (owns t.key) refl (is_eq (key_order q t.key)) refl (cut-values q ts h)
    where
      by : (b : Bool) → owns t.key ≡ b → (e : Bool) → is_eq (key_order q t.key) ≡ e → values_of q (cut_by own i ts) ≡ values_of q ts →
          values_of q (cond b (t ∷ cut_by own i ts) (cut_by own i ts)) ≡ values_of q (t ∷ ts)
      by true o true e rest = rw e (ap (λ l. t.value ∷ l) rest)
      by true o false e rest = rw e rest
      by false o true e rest = let no : true ≡ false = sym h ∙ ap owns (same_key q t.key e) ∙ o in cc
      by false o false e rest = rw e rest

  cut-value_at : (q : List ℕ) (ps : List Pair) → owns q ≡ true → value_at (cut_pairs own i ps) q ≡ value_at ps q
  cut-value_at q [] h = refl
  cut-value_at q (p ∷ ps) h = by (owns p.0) refl (is_eq (key_order q p.0)) refl (cut-value_at q ps h)
    where
      by : (b : Bool) → owns p.0 ≡ b → (e : Bool) → is_eq (key_order q p.0) ≡ e → value_at (cut_pairs own i ps) q ≡ value_at ps q →
          value_at (cond b (p ∷ cut_pairs own i ps) (cut_pairs own i ps)) q ≡ cond e (Some p.1) (value_at ps q)
      by true o true e rest = rw e refl
      by true o false e rest = rw e rest
      by false o true e rest = let no : true ≡ false = sym h ∙ ap owns (same_key q p.0 e) ∙ o in cc
      by false o false e rest = rest

  -- the keys of a cut are the keys that the partition owns
  cut_by-keys : (ts : List Tuple) → map tuple_key (cut_by own i ts) ≡ filter owns (map tuple_key ts)
  cut_by-keys [] = refl
  cut_by-keys (t ∷ ts) = by (owns t.key) (cut_by-keys ts)
    where
      by : (b : Bool) → map tuple_key (cut_by own i ts) ≡ filter owns (map tuple_key ts) → map tuple_key (cond b (t ∷ cut_by own i ts) (cut_by own i ts)) ≡ cond b (t.key ∷ filter owns (map tuple_key ts)) (filter owns (map tuple_key ts))
      by true rest = ap (λ l. t.key ∷ l) rest
      by false rest = rest

  cut_pairs-keys : (ps : List Pair) → keys_of (cut_pairs own i ps) ≡ filter owns (keys_of ps)
  cut_pairs-keys [] = refl
  cut_pairs-keys (p ∷ ps) = by (owns p.0) (cut_pairs-keys ps)
    where
      by : (b : Bool) → keys_of (cut_pairs own i ps) ≡ filter owns (keys_of ps) → keys_of (cond b (p ∷ cut_pairs own i ps) (cut_pairs own i ps)) ≡ cond b (p.0 ∷ filter owns (keys_of ps)) (filter owns (keys_of ps))
      by true rest = ap (λ l. p.0 ∷ l) rest
      by false rest = rest

  each_once-filter : (ks : List (List ℕ)) → each_once key_order (filter owns ks) ≡ filter owns (each_once key_order ks)
  each_once-filter ks =
      same-by-times key_order-exact (each_once key_order (filter owns ks)) (filter owns (each_once key_order ks)) (each_once-ascends key_order-exact (filter owns ks)) (filter-ascends key_order-exact owns (each_once key_order ks) (each_once-ascends key_order-exact ks))
      (λ q. each_once-times key_order-exact q (filter owns ks) ∙ ap (min 1) (filter-times key_order-exact owns q ks) ∙ by q (owns q) ∙ sym (filter-times key_order-exact owns q (each_once key_order ks)))
    where
      by : (q : List ℕ) (b : Bool) → min 1 (cond b (times key_order q ks) 0) ≡ cond b (times key_order q (each_once key_order ks)) 0
      by q true = sym (each_once-times key_order-exact q ks)
      by q false = refl

  pub cut-keys : (state : List Pair) (left right : List Tuple) → step_keys (cut_pairs own i state) (cut_by own i left) (cut_by own i right) ≡ filter owns (step_keys state left right)
  cut-keys state left right =
      (λ j. each_once key_order (cut_pairs-keys state j ++ (cut_by-keys left j ++ cut_by-keys right j)))
      ∙ ap (each_once key_order) (sym (filter-append owns (keys_of state) (map tuple_key left ++ map tuple_key right) ∙ ap (λ l. filter owns (keys_of state) ++ l) (filter-append owns (map tuple_key left) (map tuple_key right))))
      ∙ each_once-filter (keys_of state ++ (map tuple_key left ++ map tuple_key right))

  pub cut-outcome : (kind : Kind) (window : ℕ) (state : List Pair) (left right : List Tuple) (q : List ℕ) → owns q ≡ true →
      outcome_at kind window (cut_pairs own i state) (cut_by own i left) (cut_by own i right) q ≡ outcome_at kind window state left right q
  cut-outcome kind window state left right q h = λ j. rule kind window q (cut-value_at q state h j) (cut-values q left h j) (cut-values q right h j)

  pub entries_at-filter : (f g : List ℕ → Option ℤ) → ((k : List ℕ) → owns k ≡ true → f k ≡ g k) → (ks : List (List ℕ)) → entries_at f (filter owns ks) ≡ cut_pairs own i (entries_at g ks)
  unfolding entries_at
  entries_at-filter f g same [] = refl
  entries_at-filter f g same (k ∷ ks) = by (owns k) refl (g k) refl (same k) (entries_at-filter f g same ks)
    where
      by : (b : Bool) → owns k ≡ b → (o : Option ℤ) → g k ≡ o → (owns k ≡ true → f k ≡ g k) → entries_at f (filter owns ks) ≡ cut_pairs own i (entries_at g ks) →
          entries_at f (cond b (k ∷ filter owns ks) (filter owns ks)) ≡ cut_pairs own i (entries_at g (k ∷ ks))
      by true h None e s rest = rw (s h ∙ e) (rw e rest)
      by true h (Some v) e s rest = rw (s h ∙ e) (rw e (rw h (ap (λ l. (k, v) ∷ l) rest)))
      by false h None e s rest = rw e rest
      by false h (Some v) e s rest = rw e (rw h rest)
