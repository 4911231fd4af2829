-- What a partition owns of tuples and of a state.
use Rattle.std.proofs.Common.{◌≡◌, ℕ, ◌+◌, ◌≤◌, ◌<◌, ◌==◌, Bool, true, false, cond, List, [], ◌∷◌, ◌++◌, length, take, drop, get_or, is_ok, Result, Ok, Err, OnOk, sym, ap, ◌∙◌, arith, append_assoc, append-nil}
use Rattle.std.specs.List.{filter, AllByRecursion}
use Rattle.std.specs.List.Sorted.{IsStrictlySortedBy}
use Rattle.std.specs.Map.{keys_of}
use Rattle.std.proofs.lemmas.List.{take_more, take_all, take-append-drop}
use Rattle.std.proofs.lemmas.List.Elements.{filter-append}
use Rattle.std.specs.declared.cmp.Ordering.TheVariants.{Less}
use Rattle.apx_codec.specs.KeyNumber.{owner_of}
use Rattle.apx_order.proofs.Sorting.{sorted-times, sorted-ascends, same-by-times}
use Rattle.apx_order.proofs.Once.{filter-ascends, filter-times}
use Rattle.apx_tuple.specs.declared.tuple.Tuple.{Tuple}
use Rattle.apx_tuple.specs.Size.{size_by, IsLarge}
use Rattle.apx_tuple.specs.State.{Pair, pair_key, IsState}
use Rattle.apx_tuple.specs.Tuple.{key_order, tuple_key, tuple_order, bag_of}
use Rattle.apx_tuple.proofs.Orders.{tuple_order-exact}
use Rattle.apx_tuple.proofs.Sizes.{size_by-bag_of}
use Rattle.apx_rules.specs.Parts.{cut_bag, cut_state}

module _ (n i : ℕ) where
  abbrev owns : Tuple → Bool
  owns t = owner_of n t.key == i

  -- the cut of a bag is the bag of the cut
  pub cut-bag_of : (ts : List Tuple) → cut_bag n i (bag_of ts) ≡ bag_of (cut_bag n i ts)
  cut-bag_of ts =
      same-by-times tuple_order-exact (cut_bag n i (bag_of ts)) (bag_of (cut_bag n i ts))
      (filter-ascends tuple_order-exact owns (bag_of ts) (sorted-ascends tuple_order-exact ts)) (sorted-ascends tuple_order-exact (cut_bag n i ts))
      (λ t. filter-times tuple_order-exact owns t (bag_of ts)
      ∙ ap (λ m. cond (owns t) m 0) (sorted-times tuple_order t ts)
      ∙ sym (filter-times tuple_order-exact owns t ts)
      ∙ sym (sorted-times tuple_order t (cut_bag n i ts)))

  -- the cut of more tuples
  pub cut-append : (xs ys : List Tuple) → cut_bag n i (xs ++ ys) ≡ cut_bag n i xs ++ cut_bag n i ys
  cut-append xs ys = filter-append owns xs ys

-- one tuple further
pub cut_more : (n i : ℕ) (ts : List Tuple) (k : ℕ) (t : Tuple) → k < length ts → t ≡ get_or ts k t → cut_bag n i (take (k + 1) ts) ≡ cut_bag n i (take k ts) ++ cut_bag n i (t ∷ [])
cut_more n i ts k t within at =
    ap (cut_bag n i) (take_more ts k t within ∙ ap (λ (u : Tuple). take k ts ++ u ∷ []) (sym at)) ∙ cut-append n i (take k ts) (t ∷ [])

-- behind others
pub cut_onto : (n i : ℕ) (first ts : List Tuple) (k : ℕ) (t : Tuple) → k < length ts → t ≡ get_or ts k t →
    (first ++ cut_bag n i (take k ts)) ++ cut_bag n i (t ∷ []) ≡ first ++ cut_bag n i (take (k + 1) ts)
cut_onto n i first ts k t within at =
    append_assoc first (cut_bag n i (take k ts)) (cut_bag n i (t ∷ [])) ∙ ap (λ (l : List Tuple). first ++ l) (sym (cut_more n i ts k t within at))

-- the tuples so far, and one further
pub cut_next : (n i : ℕ) (first before now ts : List Tuple) (k : ℕ) (t : Tuple) → k < length ts → t ≡ get_or ts k t → before ≡ first ++ cut_bag n i (take k ts) → now ≡ before ++ cut_bag n i (t ∷ []) →
    now ≡ first ++ cut_bag n i (take (k + 1) ts)
cut_next n i first before now ts k t within at was is =
    is ∙ ap (λ (l : List Tuple). l ++ cut_bag n i (t ∷ [])) was ∙ cut_onto n i first ts k t within at

-- all of them
pub cut_all : (n i : ℕ) (ts : List Tuple) (k : ℕ) → length ts ≤ k → cut_bag n i (take k ts) ≡ cut_bag n i ts
cut_all n i ts k all = ap (cut_bag n i) (take_all k ts all)

-- what passes a test is no larger than all
pub size-filter : {X : Type 0} (key : X → List ℕ) (p : X → Bool) (xs : List X) → size_by key (filter p xs) ≤ size_by key xs
size-filter key p [] = omega arith
size-filter key p (x ∷ xs) = by (p x) (size-filter key p xs)
  where
    by : (b : Bool) → size_by key (filter p xs) ≤ size_by key xs → size_by key (cond b (x ∷ filter p xs) (filter p xs)) ≤ length (key x) + 10 + size_by key xs
    by true rest = omega arith
    by false rest = omega arith

-- so a cut that is too large is one of too many tuples
pub cut-large : (n i : ℕ) (ts : List Tuple) → IsLarge tuple_key (bag_of (cut_bag n i ts)) → IsLarge tuple_key (bag_of ts)
cut-large n i ts large = omega (arith, large, size_by-bag_of (cut_bag n i ts), size_by-bag_of ts, size-filter tuple_key (λ (t : Tuple). owner_of n t.key == i) ts)

-- the size of two lists behind one another
pub size-append : {X : Type 0} (key : X → List ℕ) (xs ys : List X) → size_by key (xs ++ ys) ≡ size_by key xs + size_by key ys
size-append key [] ys = omega arith
size-append key (x ∷ xs) ys = omega (arith, size-append key xs ys)

-- some first tuples are no larger than all
pub first-large : (n i : ℕ) (before ts : List Tuple) (k : ℕ) → IsLarge tuple_key (before ++ cut_bag n i (take k ts)) → IsLarge tuple_key (before ++ cut_bag n i ts)
first-large n i before ts k large =
    let parted : size_by tuple_key (cut_bag n i ts) ≡ size_by tuple_key (cut_bag n i (take k ts)) + size_by tuple_key (cut_bag n i (drop k ts)) =
    ap (λ (l : List Tuple). size_by tuple_key (cut_bag n i l)) (sym (take-append-drop k ts)) ∙ ap (size_by tuple_key) (cut-append n i (take k ts) (drop k ts)) ∙ size-append tuple_key (cut_bag n i (take k ts)) (cut_bag n i (drop k ts)) in
    omega (arith, large, parted, size-append tuple_key before (cut_bag n i (take k ts)), size-append tuple_key before (cut_bag n i ts))

-- ---- the cut of a state

-- the pairs so far, and those that are left
pub pair_next : (n i : ℕ) (before now rest left whole : List Pair) (p : Pair) → left ≡ p ∷ rest → now ≡ before ++ cut_state n i (p ∷ []) → before ++ cut_state n i left ≡ whole → now ++ cut_state n i rest ≡ whole
pair_next n i before now rest left whole p next is was =
    ap (λ (l : List Pair). l ++ cut_state n i rest) is ∙ append_assoc before (cut_state n i (p ∷ [])) (cut_state n i rest)
    ∙ ap (λ (l : List Pair). before ++ l) (sym (filter-append (λ (q : Pair). owner_of n q.0 == i) (p ∷ []) rest)) ∙ ap (λ (l : List Pair). before ++ cut_state n i l) (sym next) ∙ was

pub pairs_end : (n i : ℕ) (now left whole : List Pair) → left ≡ [] → now ++ cut_state n i left ≡ whole → now ≡ whole
pairs_end n i now left whole none was = sym (append-nil now) ∙ ap (λ (l : List Pair). now ++ cut_state n i l) (sym none) ∙ was

above-filter : (p : Pair → Bool) (key : List ℕ) (ps : List Pair) → AllByRecursion (λ q. key_order key q ≡ Less) (keys_of ps) → AllByRecursion (λ q. key_order key q ≡ Less) (keys_of (filter p ps))
above-filter p key [] above = tt
above-filter p key (x ∷ ps) above = by (p x) (above-filter p key ps above.1)
  where
    by : (b : Bool) → AllByRecursion (λ q. key_order key q ≡ Less) (keys_of (filter p ps)) → AllByRecursion (λ q. key_order key q ≡ Less) (keys_of (cond b (x ∷ filter p ps) (filter p ps)))
    by true rest = (above.0, rest)
    by false rest = rest

strict-filter : (p : Pair → Bool) (ps : List Pair) → IsStrictlySortedBy key_order (keys_of ps) → IsStrictlySortedBy key_order (keys_of (filter p ps))
unfolding IsStrictlySortedBy
strict-filter p [] strict = tt
strict-filter p (x ∷ ps) strict = by (p x) (strict-filter p ps strict.1)
  where
    by : (b : Bool) → IsStrictlySortedBy key_order (keys_of (filter p ps)) → IsStrictlySortedBy key_order (keys_of (cond b (x ∷ filter p ps) (filter p ps)))
    by true rest = (above-filter p x.0 ps strict.0, rest)
    by false rest = rest

-- the cut of a state is one
pub cut-state : (n i : ℕ) (ps : List Pair) → IsState ps → IsState (cut_state n i ps)
cut-state n i ps state = record {
  ascends = strict-filter (λ (p : Pair). owner_of n p.0 == i) ps state.ascends;
  small = let less = size-filter pair_key (λ (p : Pair). owner_of n p.0 == i) ps in let small = state.small in omega (arith, less, small);
}

-- ---- what was appended

pub appended : {E : Type 0} (result : Result (Unit {0}) E) (old more new : List Tuple) → new ≡ cond (is_ok result) (old ++ more) old → OnOk result (new ≡ old ++ more)
appended (Ok _) old more new is = is
appended (Err _) old more new is = tt

-- what follows where a call succeeded
pub on_ok : {X E : Type 0} (result : Result X E) (P Q : Type 0) → (P → Q) → OnOk result P → OnOk result Q
on_ok (Ok x) P Q f p = f p
on_ok (Err e) P Q f p = tt
