-- One number stands for all the values of a key.
use Rattle.std.proofs.Common.{◌≡◌, ℕ, ℤ, ◌%◌, ◌==◌, ◌<ℤ◌, Bool, true, false, cond, List, [], ◌∷◌, ◌++◌, length, map, pos, Option, Some, None, is_some, unwrap_or, refl, sym, ap, subst, ◌∙◌, arith}
use Rattle.std.proofs.lemmas.Bool.Decides.{nat_tests}
use Rattle.std.proofs.lemmas.Cmp.{int_ranked, tied_itself}
use Rattle.std.proofs.lemmas.Int.{ints, clamps}
use Rattle.std.proofs.lemmas.List.{map-append}
use Rattle.std.proofs.lemmas.List.Elements.{filter-append}
use Rattle.std.specs.declared.cmp.Ordering.{Ordering}
use Rattle.std.specs.declared.cmp.Ordering.TheVariants.{Less, Equal, Greater}
use Rattle.std.specs.Ordering.{is_gt, is_eq, int_cmp, ordering_then}
use Rattle.std.specs.Int.{int_wrapping_add, int_max, int_min, w64}
use Rattle.std.specs.List.{filter, AllByRecursion}
use Rattle.std.specs.List.Sorted.{IsStrictlySortedBy}
use Rattle.std.specs.Map.{keys_of}
use Rattle.apx_order.specs.Sorted.{with_member, sorted, IsFloor, IsAscending}
use Rattle.apx_order.proofs.Sorting.{sorted-ascends}
use Rattle.apx_tuple.specs.declared.kind.Kind.{Kind}
use Rattle.apx_tuple.specs.declared.kind.Kind.TheVariants.{Keep, Scale, Words, Prefix, Count, Sum, Peak, First, Tumble, Match, Enrich, Top}
use Rattle.apx_tuple.specs.declared.tuple.Tuple.{Tuple}
use Rattle.apx_tuple.specs.Size.{IsLarge}
use Rattle.apx_tuple.specs.State.{Pair, pair_key, value_at, with_entry}
use Rattle.apx_tuple.specs.Tuple.{key_order, tuple_key, tuple_order, bag_of}
use Rattle.apx_tuple.proofs.Sizes.{size_by-with_entry-le}
use Rattle.apx_tuple.proofs.Orders.{key_order-exact, tuple_order-exact}
use Rattle.apx_rules.specs.Parts.{cut_bag}
use Rattle.apx_rules.specs.Rule.{Outcome, rule, came, total, greatest, running, tuples_of, rose}
use Rattle.apx_rules.specs.Step.{step, values_of}
use Rattle.apx_rules.proofs.Pairs.{same_key, value_at-with_entry, with_entry-ascends}
use Rattle.apx_step.specs.Walk.{pair_tuple}
use Rattle.apx_step.proofs.Closing.{step-keyed}
use Rattle.apx_fold.specs.Digests.{digests, digest_of_one, digest_of_two, digest_with, digest_from, kind_of_digests, AreDigests}
use Rattle.apx_fold.proofs.Alike.{steps-alike}
use Rattle.apx_fold.proofs.Arithmetic.{plus-assoc, plus-comm, plus-counts, plus-none, max-assoc, max-comm, max-same, min-assoc, min-comm}
use Rattle.apx_fold.proofs.Cuts.{cut-bag_of, size-append}

-- ---- numbers, in whatever order

two-assoc : (kind : Kind) (x y z : ℤ) → digest_of_two kind (digest_of_two kind x y) z ≡ digest_of_two kind x (digest_of_two kind y z)
unfolding digest_of_two
two-assoc (Keep min max) x y z = plus-assoc x y z
two-assoc (Scale factor) x y z = plus-assoc x y z
two-assoc Words x y z = plus-assoc x y z
two-assoc (Prefix len) x y z = plus-assoc x y z
two-assoc Count x y z = plus-assoc x y z
two-assoc Sum x y z = plus-assoc x y z
two-assoc Peak x y z = max-assoc x y z
two-assoc First x y z = min-assoc x y z
two-assoc (Tumble every) x y z = plus-assoc x y z
two-assoc Match x y z = plus-assoc x y z
two-assoc Enrich x y z = plus-assoc x y z
two-assoc (Top k) x y z = plus-assoc x y z

two-comm : (kind : Kind) (x y : ℤ) → digest_of_two kind x y ≡ digest_of_two kind y x
unfolding digest_of_two
two-comm (Keep min max) x y = plus-comm x y
two-comm (Scale factor) x y = plus-comm x y
two-comm Words x y = plus-comm x y
two-comm (Prefix len) x y = plus-comm x y
two-comm Count x y = plus-comm x y
two-comm Sum x y = plus-comm x y
two-comm Peak x y = max-comm x y
two-comm First x y = min-comm x y
two-comm (Tumble every) x y = plus-comm x y
two-comm Match x y = plus-comm x y
two-comm Enrich x y = plus-comm x y
two-comm (Top k) x y = plus-comm x y

-- the number that stands for a number and some values
abbrev number : Kind → ℤ → List ℤ → ℤ
number kind x [] = x
number kind x (value ∷ values) = number kind (digest_of_two kind x (digest_of_one kind value)) values

digest-some : (kind : Kind) (x : ℤ) (values : List ℤ) → digest_from kind (Some x) values ≡ Some (number kind x values)
digest-some kind x [] = refl
digest-some kind x (value ∷ values) = digest-some kind (digest_of_two kind x (digest_of_one kind value)) values

number-onto : (kind : Kind) (x y : ℤ) (values : List ℤ) → number kind (digest_of_two kind x y) values ≡ digest_of_two kind x (number kind y values)
number-onto kind x y [] = refl
number-onto kind x y (value ∷ values) =
    ap (λ (z : ℤ). number kind z values) (two-assoc kind x y (digest_of_one kind value)) ∙ number-onto kind x (digest_of_two kind y (digest_of_one kind value)) values

-- one value more
digest-append : (kind : Kind) (before : Option ℤ) (values : List ℤ) (value : ℤ) → digest_from kind before (values ++ value ∷ []) ≡ Some (digest_with kind (digest_from kind before values) value)
digest-append kind before [] value = refl
digest-append kind before (first ∷ values) value = digest-append kind (Some (digest_with kind before first)) values value

-- two values in another order
digest-swap : (kind : Kind) (before : Option ℤ) (x y : ℤ) → digest_with kind (Some (digest_with kind before x)) y ≡ digest_with kind (Some (digest_with kind before y)) x
digest-swap kind None x y = two-comm kind (digest_of_one kind x) (digest_of_one kind y)
digest-swap kind (Some b) x y =
    two-assoc kind b (digest_of_one kind x) (digest_of_one kind y)
    ∙ ap (λ (z : ℤ). digest_of_two kind b z) (two-comm kind (digest_of_one kind x) (digest_of_one kind y))
    ∙ sym (two-assoc kind b (digest_of_one kind y) (digest_of_one kind x))

-- ---- the values of a key

-- with a tuple in front of others
abbrev values_with : Bool → Tuple → List ℤ → List ℤ
values_with b t values = cond b (t.value ∷ values) values

values-front : (q : List ℕ) (t : Tuple) (ts : List Tuple) → values_of q (t ∷ ts) ≡ values_with (is_eq (key_order q t.key)) t (values_of q ts)
values-front q t ts = by (is_eq (key_order q t.key))
  where
    by : (b : Bool) → map (λ u. u.value) (cond b (t ∷ filter (λ u. is_eq (key_order q u.key)) ts) (filter (λ u. is_eq (key_order q u.key)) ts)) ≡ values_with b t (values_of q ts)
    by true = refl
    by false = refl

values-behind : (q : List ℕ) (ts : List Tuple) (t : Tuple) → values_of q (ts ++ t ∷ []) ≡ values_of q ts ++ values_with (is_eq (key_order q t.key)) t []
values-behind q ts t =
    ap (map (λ (u : Tuple). u.value)) (filter-append (λ (u : Tuple). is_eq (key_order q u.key)) ts (t ∷ []))
    ∙ map-append (λ (u : Tuple). u.value) (filter (λ (u : Tuple). is_eq (key_order q u.key)) ts) (filter (λ (u : Tuple). is_eq (key_order q u.key)) (t ∷ []))
    ∙ ap (λ (vs : List ℤ). values_of q ts ++ vs) (values-front q t [])

module _ (kind : Kind) (q : List ℕ) where
  abbrev of_tuples : Option ℤ → List Tuple → Option ℤ
  of_tuples before ts = digest_from kind before (values_of q ts)

  abbrev next : Bool → Option ℤ → Tuple → Option ℤ
  next b before t = cond b (Some (digest_with kind before t.value)) before

  of-front : (before : Option ℤ) (t : Tuple) (ts : List Tuple) → of_tuples before (t ∷ ts) ≡ of_tuples (next (is_eq (key_order q t.key)) before t) ts
  of-front before t ts = ap (digest_from kind before) (values-front q t ts) ∙ by (is_eq (key_order q t.key))
    where
      by : (b : Bool) → digest_from kind before (values_with b t (values_of q ts)) ≡ of_tuples (next b before t) ts
      by true = refl
      by false = refl

  next-swap : (b c : Bool) (before : Option ℤ) (t u : Tuple) → next c (next b before t) u ≡ next b (next c before u) t
  next-swap true true before t u = ap Some (digest-swap kind before t.value u.value)
  next-swap true false before t u = refl
  next-swap false true before t u = refl
  next-swap false false before t u = refl

  of-member : (before : Option ℤ) (t : Tuple) (ts : List Tuple) → of_tuples before (with_member tuple_order t ts) ≡ of_tuples (next (is_eq (key_order q t.key)) before t) ts
  unfolding with_member
  of-member before t [] = of-front before t []
  of-member before t (u ∷ ts) = by (is_gt (tuple_order t u)) (of-member (next (is_eq (key_order q u.key)) before u) t ts)
    where
      by : (b : Bool) → of_tuples (next (is_eq (key_order q u.key)) before u) (with_member tuple_order t ts) ≡ of_tuples (next (is_eq (key_order q t.key)) (next (is_eq (key_order q u.key)) before u) t) ts →
          of_tuples before (cond b (u ∷ with_member tuple_order t ts) (t ∷ u ∷ ts)) ≡ of_tuples (next (is_eq (key_order q t.key)) before t) (u ∷ ts)
      by true rest =
          of-front before u (with_member tuple_order t ts) ∙ rest
          ∙ ap (λ (o : Option ℤ). of_tuples o ts) (next-swap (is_eq (key_order q u.key)) (is_eq (key_order q t.key)) before u t)
          ∙ sym (of-front (next (is_eq (key_order q t.key)) before t) u ts)
      by false rest = of-front before t (u ∷ ts)

  -- the order of the tuples doesn't count
  of-sorted : (before : Option ℤ) (ts : List Tuple) → of_tuples before (bag_of ts) ≡ of_tuples before ts
  unfolding sorted
  of-sorted before [] = refl
  of-sorted before (t ∷ ts) =
      of-member before t (sorted tuple_order ts)
      ∙ of-sorted (next (is_eq (key_order q t.key)) before t) ts
      ∙ sym (of-front before t ts)

  -- one tuple more
  of-behind : (ts : List Tuple) (t : Tuple) → of_tuples None (ts ++ t ∷ []) ≡ next (is_eq (key_order q t.key)) (of_tuples None ts) t
  of-behind ts t = ap (digest_from kind None) (values-behind q ts t) ∙ by (is_eq (key_order q t.key))
    where
      by : (b : Bool) → digest_from kind None (values_of q ts ++ values_with b t []) ≡ next b (of_tuples None ts) t
      by true = digest-append kind None (values_of q ts) t.value
      by false = ap (digest_from kind None) (append-none (values_of q ts))
        where
          append-none : (vs : List ℤ) → vs ++ [] ≡ vs
          append-none [] = refl
          append-none (v ∷ vs) = ap (λ (l : List ℤ). v ∷ l) (append-none vs)

-- ---- the least value comes first

-- the first of some values is the least
abbrev BeginsWithLeast : List ℤ → Type 0
BeginsWithLeast [] = Unit {0}
BeginsWithLeast (value ∷ values) = number First value values ≡ value

lesser : (x y : ℤ) → is_gt (int_cmp x y) ≡ false → int_min x y ≡ x
lesser x y h = by (int_cmp x y) refl h
  where
    by : (r : Ordering) → int_cmp x y ≡ r → is_gt r ≡ false → int_min x y ≡ x
    by Less e below = let less : x <ℤ y = int_ranked x y Less (sym e) in omega (arith, ints, clamps)
    by Equal e below = let same : x ≡ y = int_ranked x y Equal (sym e) in omega (arith, ints, clamps)
    by Greater e below = cc

-- of two tuples with one key the one that isn't above has no greater value
not-above : (q : List ℕ) (t u : Tuple) → is_eq (key_order q t.key) ≡ true → is_eq (key_order q u.key) ≡ true → is_gt (tuple_order t u) ≡ false → is_gt (int_cmp t.value u.value) ≡ false
not-above q t u own other below =
    let equal : key_order t.key u.key ≡ Equal = (λ i. key_order (sym (same_key q t.key own) i) (sym (same_key q u.key other) i)) ∙ tied_itself key_order-exact.total q in
    sym (ap (λ (r : Ordering). is_gt (ordering_then r (int_cmp t.value u.value))) equal) ∙ below

module _ (q : List ℕ) where
  stays-least : (t : Tuple) (ts : List Tuple) → IsFloor tuple_order t ts → is_eq (key_order q t.key) ≡ true → number First t.value (values_of q ts) ≡ t.value
  unfolding digest_of_one digest_of_two
  stays-least t [] floor own = refl
  stays-least t (u ∷ ts) floor own = ap (number First t.value) (values-front q u ts) ∙ by (is_eq (key_order q u.key)) refl (stays-least t ts floor.1 own)
    where
      by : (b : Bool) → is_eq (key_order q u.key) ≡ b → number First t.value (values_of q ts) ≡ t.value → number First t.value (values_with b u (values_of q ts)) ≡ t.value
      by true e rest = ap (λ (x : ℤ). number First x (values_of q ts)) (lesser t.value u.value (not-above q t u own e floor.0)) ∙ rest
      by false e rest = rest

  begins-with-least : (ts : List Tuple) → IsAscending tuple_order ts → BeginsWithLeast (values_of q ts)
  begins-with-least [] ascends = tt
  begins-with-least (t ∷ ts) ascends = subst BeginsWithLeast (sym (values-front q t ts)) (by (is_eq (key_order q t.key)) refl (begins-with-least ts ascends.1))
    where
      by : (b : Bool) → is_eq (key_order q t.key) ≡ b → BeginsWithLeast (values_of q ts) → BeginsWithLeast (values_with b t (values_of q ts))
      by true e rest = stays-least t ts ascends.0 e
      by false e rest = rest

-- ---- the rule of one key

abbrev listed : Option ℤ → List ℤ
listed None = []
listed (Some x) = x ∷ []

came-some : (v : ℤ) (vs : List ℤ) → came (v ∷ vs) ≡ true
came-some v vs = grind (arith, nat_tests)

total-number : (x : ℤ) (values : List ℤ) → total x values ≡ number Sum x values
unfolding digest_of_one digest_of_two
total-number x [] = refl
total-number x (value ∷ values) = total-number (int_wrapping_add w64 x value) values

-- the sum of a number and values is that of the number and their sum
total-onto : (x v : ℤ) (vs : List ℤ) → total x (v ∷ vs) ≡ total x (number Sum v vs ∷ [])
unfolding digest_of_one digest_of_two
total-onto x v vs = total-number (int_wrapping_add w64 x v) vs ∙ number-onto Sum x v vs

count-onto : (x y : ℤ) (vs : List ℤ) → int_wrapping_add w64 x (number Count y vs) ≡ int_wrapping_add w64 (int_wrapping_add w64 x y) (pos (length vs))
unfolding digest_of_one digest_of_two
count-onto x y [] = sym (plus-none x y)
count-onto x y (v ∷ vs) =
    count-onto x (int_wrapping_add w64 y (pos 1)) vs
    ∙ ap (λ (z : ℤ). int_wrapping_add w64 z (pos (length vs))) (sym (plus-assoc x y (pos 1)))
    ∙ plus-counts (int_wrapping_add w64 x y) 1 (length vs)
    ∙ ap (λ (n : ℕ). int_wrapping_add w64 (int_wrapping_add w64 x y) (pos n)) (omega arith)

tumble-sum : (every : ℕ) (x : ℤ) (values : List ℤ) → number (Tumble every) x values ≡ number Sum x values
unfolding digest_of_one digest_of_two
tumble-sum every x [] = refl
tumble-sum every x (value ∷ values) = tumble-sum every (int_wrapping_add w64 x value) values

greatest-number : (x : ℤ) (values : List ℤ) → greatest (Some x) values ≡ Some (number Peak x values)
unfolding digest_of_one digest_of_two
greatest-number x [] = refl
greatest-number x (value ∷ values) = greatest-number (int_max x value) values

-- the rule of a key's values is that of the number that stands for them
module _ (window : ℕ) (q : List ℕ) (old : Option ℤ) where
  abbrev sum_outcome : ℤ → Outcome
  sum_outcome value = record { entry = Some value; emitted = record { key = q; value = value } ∷ [] }

  ran : (v : ℤ) (vs : List ℤ) (value : ℤ) → running q old (came (v ∷ vs)) value ≡ sum_outcome value
  ran v vs value = ap (λ (b : Bool). running q old b value) (came-some v vs)

  abbrev tumbled : ℕ → Option ℤ → Outcome
  tumbled every sum =
      cond (window % every == 0)
      (record { entry = None; emitted = tuples_of q (cond (is_some sum) (unwrap_or sum (pos 0) ∷ []) []) })
      (record { entry = sum; emitted = [] })

  abbrev peaked : ℤ → Outcome
  peaked peak = record { entry = Some peak; emitted = cond (rose old peak) (record { key = q; value = peak } ∷ []) [] }

  peak-onto : (o : Option ℤ) (v : ℤ) (vs : List ℤ) → unwrap_or (greatest o (v ∷ vs)) v ≡ unwrap_or (greatest o (number Peak v vs ∷ [])) (number Peak v vs)
  unfolding digest_of_two
  peak-onto None v vs =
      ap (λ (r : Option ℤ). unwrap_or r v) (greatest-number (int_max v v) vs)
      ∙ ap (λ (x : ℤ). number Peak x vs) (max-same v)
      ∙ sym (max-same (number Peak v vs))
  peak-onto (Some x) v vs =
      ap (λ (r : Option ℤ). unwrap_or r v) (greatest-number (int_max x v) vs)
      ∙ number-onto Peak x v vs

  abbrev firsts : ℤ → Outcome
  firsts value = record { entry = Some (pos 1); emitted = cond (is_some old) [] (record { key = q; value = value } ∷ []) }

  digest-rule : (kind : Kind) → digests kind ≡ true → (lefts rights : List ℤ) → BeginsWithLeast lefts →
      rule kind window q old lefts rights ≡ rule (kind_of_digests kind) window q old (listed (digest_from kind None lefts)) []
  unfolding rule kind_of_digests digest_of_one
  digest-rule (Keep min max) d lefts rights least = cc
  digest-rule (Scale factor) d lefts rights least = cc
  digest-rule Words d lefts rights least = cc
  digest-rule (Prefix len) d lefts rights least = cc
  digest-rule Count d [] rights least = refl
  digest-rule Count d (v ∷ vs) rights least =
      let x = unwrap_or old (pos 0) in
      ran v vs (int_wrapping_add w64 x (pos (length (v ∷ vs))))
      ∙ ap sum_outcome (ap (λ (n : ℕ). int_wrapping_add w64 x (pos n)) (omega arith) ∙ sym (plus-counts x 1 (length vs)) ∙ sym (count-onto x (pos 1) vs))
      ∙ sym (ap (λ (o : Option ℤ). rule Sum window q old (listed o) []) (digest-some Count (pos 1) vs) ∙ ran (number Count (pos 1) vs) [] (int_wrapping_add w64 x (number Count (pos 1) vs)))
  digest-rule Sum d [] rights least = refl
  digest-rule Sum d (v ∷ vs) rights least =
      let x = unwrap_or old (pos 0) in
      ran v vs (total x (v ∷ vs)) ∙ ap sum_outcome (total-onto x v vs)
      ∙ sym (ap (λ (o : Option ℤ). rule Sum window q old (listed o) []) (digest-some Sum v vs) ∙ ran (number Sum v vs) [] (total x (number Sum v vs ∷ [])))
  digest-rule Peak d [] rights least = refl
  digest-rule Peak d (v ∷ vs) rights least =
      ap peaked (peak-onto old v vs) ∙ sym (ap (λ (o : Option ℤ). rule Peak window q old (listed o) []) (digest-some Peak v vs))
  digest-rule First d [] rights least = refl
  digest-rule First d (v ∷ vs) rights least =
      ap firsts (sym least) ∙ sym (ap (λ (o : Option ℤ). rule First window q old (listed o) []) (digest-some First v vs))
  digest-rule (Tumble every) d [] rights least = refl
  digest-rule (Tumble every) d (v ∷ vs) rights least =
      let x = unwrap_or old (pos 0) in
      let n = number (Tumble every) v vs in
      ap (tumbled every) (ap (λ (b : Bool). cond b (Some (total x (v ∷ vs))) old) (came-some v vs) ∙ ap Some (total-onto x v vs)
      ∙ sym (ap (λ (b : Bool). cond b (Some (total x (number Sum v vs ∷ []))) old) (came-some (number Sum v vs) [])))
      ∙ sym (ap (λ (o : Option ℤ). rule (Tumble every) window q old (listed o) []) (digest-some (Tumble every) v vs ∙ ap Some (tumble-sum every v vs)))
  digest-rule Match d lefts rights least = cc
  digest-rule Enrich d lefts rights least = cc
  digest-rule (Top k) d lefts rights least = cc

-- ---- the numbers as tuples

none-above : (key : List ℕ) (ps : List Pair) → AllByRecursion (λ q. key_order key q ≡ Less) (keys_of ps) → values_of key (map pair_tuple ps) ≡ []
none-above key [] above = refl
none-above key (p ∷ ps) above =
    values-front key (pair_tuple p) (map pair_tuple ps)
    ∙ ap (λ (r : Ordering). values_with (is_eq r) (pair_tuple p) (values_of key (map pair_tuple ps))) above.0
    ∙ none-above key ps above.1

values-of-pairs : (q : List ℕ) (ps : List Pair) → IsStrictlySortedBy key_order (keys_of ps) → values_of q (map pair_tuple ps) ≡ listed (value_at ps q)
unfolding IsStrictlySortedBy
values-of-pairs q [] strict = refl
values-of-pairs q (p ∷ ps) strict = values-front q (pair_tuple p) (map pair_tuple ps) ∙ by (is_eq (key_order q p.0)) refl (values-of-pairs q ps strict.1)
  where
    by : (b : Bool) → is_eq (key_order q p.0) ≡ b → values_of q (map pair_tuple ps) ≡ listed (value_at ps q) →
        values_with b (pair_tuple p) (values_of q (map pair_tuple ps)) ≡ listed (cond b (Some p.1) (value_at ps q))
    by true e rest = ap (λ (vs : List ℤ). p.1 ∷ vs) (ap (λ (k : List ℕ). values_of k (map pair_tuple ps)) (same_key q p.0 e) ∙ none-above p.0 ps strict.0)
    by false e rest = rest

-- ---- the step

pub not-top : (kind : Kind) → digests kind ≡ true → (k : ℕ) → kind ≡ Top k → ⊥
not-top kind d k is = let no : digests (Top k) ≡ true = sym (ap digests is) ∙ d in cc

pub sums-digest : (kind : Kind) → digests kind ≡ true → digests (kind_of_digests kind) ≡ true
unfolding kind_of_digests
sums-digest (Keep min max) d = cc
sums-digest (Scale factor) d = cc
sums-digest Words d = cc
sums-digest (Prefix len) d = cc
sums-digest Count d = refl
sums-digest Sum d = refl
sums-digest Peak d = refl
sums-digest First d = refl
sums-digest (Tumble every) d = refl
sums-digest Match d = cc
sums-digest Enrich d = cc
sums-digest (Top k) d = cc

-- the step over the numbers is that over the tuples
pub digest-step : (kind : Kind) → digests kind ≡ true → (n i window : ℕ) (state pairs : List Pair) (lefts rights : List Tuple) → AreDigests kind pairs (cut_bag n i lefts) →
    step (kind_of_digests kind) window state (map pair_tuple pairs) [] ≡ step kind window state (cut_bag n i (bag_of lefts)) (cut_bag n i (bag_of rights))
digest-step kind d n i window state pairs lefts rights are =
    step-keyed (kind_of_digests kind) window state (map pair_tuple pairs) [] (not-top (kind_of_digests kind) (sums-digest kind d))
    ∙ sym (steps-alike kind (kind_of_digests kind) window state (cut_bag n i (bag_of lefts)) (cut_bag n i (bag_of rights)) (map pair_tuple pairs) [] same)
    ∙ sym (step-keyed kind window state (cut_bag n i (bag_of lefts)) (cut_bag n i (bag_of rights)) (not-top kind d))
  where
    values : (q : List ℕ) → listed (digest_from kind None (values_of q (cut_bag n i (bag_of lefts)))) ≡ values_of q (map pair_tuple pairs)
    values q =
        ap (λ (ts : List Tuple). listed (digest_from kind None (values_of q ts))) (cut-bag_of n i lefts)
        ∙ ap listed (of-sorted kind q None (cut_bag n i lefts) ∙ sym (are.values q))
        ∙ sym (values-of-pairs q pairs are.ascend)

    ascends : IsAscending tuple_order (cut_bag n i (bag_of lefts))
    ascends = subst (IsAscending tuple_order) (sym (cut-bag_of n i lefts)) (sorted-ascends tuple_order-exact (cut_bag n i lefts))

    same : (q : List ℕ) → rule kind window q (value_at state q) (values_of q (cut_bag n i (bag_of lefts))) (values_of q (cut_bag n i (bag_of rights)))
        ≡ rule (kind_of_digests kind) window q (value_at state q) (values_of q (map pair_tuple pairs)) []
    same q =
        digest-rule window q (value_at state q) kind d (values_of q (cut_bag n i (bag_of lefts))) (values_of q (cut_bag n i (bag_of rights)))
        (begins-with-least q (cut_bag n i (bag_of lefts)) ascends)
        ∙ ap (λ (vs : List ℤ). rule (kind_of_digests kind) window q (value_at state q) vs []) (values q)

-- ---- one tuple more

-- nothing was taken yet
pub digests-nothing : (kind : Kind) → AreDigests kind [] []
unfolding IsStrictlySortedBy
digests-nothing kind = record { ascend = tt; values = λ q. refl; small = omega arith }

pub digests-more : (kind : Kind) (pairs : List Pair) (ts : List Tuple) (t : Tuple) → AreDigests kind pairs ts →
    AreDigests kind (with_entry pairs t.key (digest_with kind (value_at pairs t.key) t.value)) (ts ++ t ∷ [])
digests-more kind pairs ts t are = record {
  ascend = with_entry-ascends pairs t.key (digest_with kind (value_at pairs t.key) t.value) are.ascend;
  values = λ q.
      value_at-with_entry pairs t.key (digest_with kind (value_at pairs t.key) t.value) q
      ∙ by q (is_eq (key_order q t.key)) refl ∙ sym (of-behind kind q ts t);
  small =
      let more = (size_by-with_entry-le pairs t.key (digest_with kind (value_at pairs t.key) t.value) are.ascend).1 in
      omega (arith, more, are.small, size-append tuple_key ts (t ∷ []));
}
  where
    by : (q : List ℕ) (b : Bool) → is_eq (key_order q t.key) ≡ b →
        cond b (Some (digest_with kind (value_at pairs t.key) t.value)) (value_at pairs q) ≡ next kind q b (digest_from kind None (values_of q ts)) t
    by q true e = ap (λ (o : Option ℤ). Some (digest_with kind o t.value)) (ap (value_at pairs) (sym (same_key q t.key e)) ∙ are.values q)
    by q false e = are.values q

-- where an entry makes them too large, so are the tuples with one more
pub digests-large : (kind : Kind) (pairs : List Pair) (ts : List Tuple) (t : Tuple) (value : ℤ) → AreDigests kind pairs ts → IsLarge pair_key (with_entry pairs t.key value) → IsLarge tuple_key (ts ++ t ∷ [])
digests-large kind pairs ts t value are large =
    let more = (size_by-with_entry-le pairs t.key value are.ascend).1 in
    omega (arith, more, large, are.small, size-append tuple_key ts (t ∷ []))

-- ---- the numbers as a bag

tuples-floor : (p : Pair) (ps : List Pair) → AllByRecursion (λ q. key_order p.0 q ≡ Less) (keys_of ps) → IsFloor tuple_order (pair_tuple p) (map pair_tuple ps)
tuples-floor p [] above = tt
tuples-floor p (q ∷ ps) above = (ap (λ (r : Ordering). is_gt (ordering_then r (int_cmp p.1 q.1))) above.0, tuples-floor p ps above.1)

-- their keys ascend, and so do they
pub tuples-ascend : (ps : List Pair) → IsStrictlySortedBy key_order (keys_of ps) → IsAscending tuple_order (map pair_tuple ps)
unfolding IsStrictlySortedBy
tuples-ascend [] strict = tt
tuples-ascend (p ∷ ps) strict = (tuples-floor p ps strict.0, tuples-ascend ps strict.1)
