-- A rule that makes something of each tuple by itself may go over a bag as it comes.
use Rattle.std.proofs.Common.{◌≡◌, ℕ, ℤ, ◌+◌, ◌<◌, ◌&&◌, Bool, true, false, cond, List, [], ◌∷◌, ◌++◌, map, int_le, refl, sym, ap, ◌∙◌, arith, None}
use Rattle.std.specs.Ordering.{is_eq}
use Rattle.std.specs.Cmp.{eq_by_cmp_equiv}
use Rattle.std.specs.Int.{int_wrapping_mul, w64}
use Rattle.std.specs.List.{filter, flat_map}
use Rattle.std.specs.Map.{keys_of}
use Rattle.apx_order.specs.Sorted.{times, each_once, IsAscending}
use Rattle.apx_order.proofs.Sorting.{times-append, sorted-times, sorted-ascends, sorted-of-ascending, same-by-times}
use Rattle.apx_order.proofs.Once.{each_once-times, filter-ascends}
use Rattle.apx_tuple.specs.declared.kind.Kind.{Kind}
use Rattle.apx_tuple.specs.declared.kind.Kind.TheVariants.{Keep, Scale}
use Rattle.apx_tuple.specs.declared.tuple.Tuple.{Tuple}
use Rattle.apx_tuple.specs.State.{Pair}
use Rattle.apx_tuple.specs.Tuple.{key_order, tuple_order, bag_of}
use Rattle.apx_tuple.proofs.Orders.{key_order-exact, tuple_order-exact}
use Rattle.apx_rules.specs.Rule.{rule, tuples_of}
use Rattle.apx_rules.specs.Step.{step, step_keys, values_of}
use Rattle.apx_rules.proofs.Pairs.{same_key}
use Rattle.apx_step.specs.Singles.{scaled}
use Rattle.apx_step.specs.Walk.{values}
use Rattle.apx_step.proofs.Closing.{entries_at-none}
use Rattle.apx_step.proofs.Groups.{keys}

abbrev number : Bool → ℕ
number b = cond b 1 0

swap : (a b : List ℕ) → is_eq (key_order a b) ≡ is_eq (key_order b a)
swap a b = (eq_by_cmp_equiv key_order-exact.total).symm a b

times-next : (q k : List ℕ) (ks : List (List ℕ)) → times key_order q (k ∷ ks) ≡ number (is_eq (key_order q k)) + times key_order q ks
unfolding times
times-next q k ks = refl

times-nothing : (q : List ℕ) → times key_order q [] ≡ 0
unfolding times
times-nothing q = refl

-- `h` makes of a key's values what `g` makes of the tuples, one after the other
module _ (h : List ℕ → List ℤ → List Tuple) (g : Tuple → List Tuple) (none : (k : List ℕ) → h k [] ≡ []) (more : (k : List ℕ) (v : ℤ) (vs : List ℤ) → h k (v ∷ vs) ≡ g (record { key = k; value = v }) ++ h k vs) where
  of_key : List Tuple → List ℕ → List Tuple
  of_key ts k = h k (values_of k ts)

  -- of a key that the first tuple doesn't have
  other : (t : Tuple) (ts : List Tuple) (k : List ℕ) → is_eq (key_order t.key k) ≡ false → of_key (t ∷ ts) k ≡ of_key ts k
  unfolding of_key
  other t ts k e = ap (λ b. h k (values (cond b (t ∷ filter (λ u. is_eq (key_order k u.key)) ts) (filter (λ u. is_eq (key_order k u.key)) ts)))) (swap k t.key ∙ e)

  -- of its key
  own : (t : Tuple) (ts : List Tuple) (k : List ℕ) → is_eq (key_order t.key k) ≡ true → of_key (t ∷ ts) k ≡ g t ++ of_key ts k
  unfolding of_key
  own t ts k e =
      ap (λ b. h k (values (cond b (t ∷ filter (λ u. is_eq (key_order k u.key)) ts) (filter (λ u. is_eq (key_order k u.key)) ts)))) (swap k t.key ∙ e)
      ∙ more k t.value (values_of k ts)
      ∙ ap (λ q. g (record { key = q; value = t.value }) ++ h k (values_of k ts)) (sym (same_key t.key k e))

  apart : (t : Tuple) (ts : List Tuple) (ks : List (List ℕ)) → times key_order t.key ks ≡ 0 → flat_map (of_key (t ∷ ts)) ks ≡ flat_map (of_key ts) ks
  apart t ts [] n = refl
  apart t ts (k ∷ ks) n = by (is_eq (key_order t.key k)) refl (apart t ts ks (omega (arith, n, times-next t.key k ks)))
    where
      by : (b : Bool) → is_eq (key_order t.key k) ≡ b → flat_map (of_key (t ∷ ts)) ks ≡ flat_map (of_key ts) ks → flat_map (of_key (t ∷ ts)) (k ∷ ks) ≡ flat_map (of_key ts) (k ∷ ks)
      by true e rest = absurd (omega (arith, n, times-next t.key k ks, ap number e))
      by false e rest = λ i. other t ts k e i ++ rest i

  -- one tuple more, where its key stands among the keys once
  once : (u t : Tuple) (ts : List Tuple) (ks : List (List ℕ)) → times key_order t.key ks ≡ 1 →
      times tuple_order u (flat_map (of_key (t ∷ ts)) ks) ≡ times tuple_order u (g t) + times tuple_order u (flat_map (of_key ts) ks)
  once u t ts [] n = absurd (omega (arith, n, times-nothing t.key))
  once u t ts (k ∷ ks) n = by (is_eq (key_order t.key k)) refl (λ m. once u t ts ks m)
    where
      by : (b : Bool) → is_eq (key_order t.key k) ≡ b →
          (times key_order t.key ks ≡ 1 → times tuple_order u (flat_map (of_key (t ∷ ts)) ks) ≡ times tuple_order u (g t) + times tuple_order u (flat_map (of_key ts) ks)) →
          times tuple_order u (flat_map (of_key (t ∷ ts)) (k ∷ ks)) ≡ times tuple_order u (g t) + times tuple_order u (flat_map (of_key ts) (k ∷ ks))
      by true e _ =
          let rest = apart t ts ks (omega (arith, n, times-next t.key k ks, ap number e)) in
          let now : flat_map (of_key (t ∷ ts)) (k ∷ ks) ≡ (g t ++ of_key ts k) ++ flat_map (of_key ts) ks = λ i. own t ts k e i ++ rest i in
          let sum : times tuple_order u ((g t ++ of_key ts k) ++ flat_map (of_key ts) ks) ≡ times tuple_order u (g t) + times tuple_order u (of_key ts k ++ flat_map (of_key ts) ks) =
          omega (arith, times-append tuple_order u (g t ++ of_key ts k) (flat_map (of_key ts) ks), times-append tuple_order u (g t) (of_key ts k), times-append tuple_order u (of_key ts k) (flat_map (of_key ts) ks)) in
          ap (times tuple_order u) now ∙ sum
      by false e rest =
          let now : flat_map (of_key (t ∷ ts)) (k ∷ ks) ≡ of_key ts k ++ flat_map (of_key (t ∷ ts)) ks = λ i. other t ts k e i ++ flat_map (of_key (t ∷ ts)) ks in
          let before = rest (omega (arith, n, times-next t.key k ks, ap number e)) in
          let sum : times tuple_order u (of_key ts k ++ flat_map (of_key (t ∷ ts)) ks) ≡ times tuple_order u (g t) + times tuple_order u (of_key ts k ++ flat_map (of_key ts) ks) =
          omega (arith, before, times-append tuple_order u (of_key ts k) (flat_map (of_key (t ∷ ts)) ks), times-append tuple_order u (of_key ts k) (flat_map (of_key ts) ks)) in
          ap (times tuple_order u) now ∙ sum

  nothing : (ks : List (List ℕ)) → flat_map (of_key []) ks ≡ []
  unfolding of_key
  nothing [] = refl
  nothing (k ∷ ks) = λ i. none k i ++ nothing ks i

  counts : (u : Tuple) (ts : List Tuple) (ks : List (List ℕ)) → ((q : List ℕ) → 0 < times key_order q (keys ts) → times key_order q ks ≡ 1) →
      times tuple_order u (flat_map (of_key ts) ks) ≡ times tuple_order u (flat_map g ts)
  counts u [] ks a = ap (times tuple_order u) (nothing ks)
  counts u (t ∷ ts) ks a =
      once u t ts ks (a t.key (omega (arith, times-next t.key t.key (keys ts), ap number (itself t.key))))
      ∙ omega (arith, counts u ts ks (λ q m. a q (omega (arith, m, times-next q t.key (keys ts)))), times-append tuple_order u (g t) (flat_map g ts))
    where
      itself : (k : List ℕ) → is_eq (key_order k k) ≡ true
      itself k = (eq_by_cmp_equiv key_order-exact.total).refl k

  -- with the keys of the bag each once, and others
  pub by_tuple : (ts : List Tuple) (before after : List (List ℕ)) →
      bag_of (flat_map (λ k. h k (values_of k ts)) (each_once key_order (before ++ (keys ts ++ after)))) ≡ bag_of (flat_map g ts)
  unfolding of_key
  by_tuple ts before after =
      let ks = each_once key_order (before ++ (keys ts ++ after)) in
      let all : (q : List ℕ) → 0 < times key_order q (keys ts) → times key_order q ks ≡ 1 =
      λ q m. omega (arith, m, each_once-times key_order-exact q (before ++ (keys ts ++ after)), times-append key_order q before (keys ts ++ after), times-append key_order q (keys ts) after) in
      same-by-times tuple_order-exact (bag_of (flat_map (of_key ts) ks)) (bag_of (flat_map g ts)) (sorted-ascends tuple_order-exact (flat_map (of_key ts) ks)) (sorted-ascends tuple_order-exact (flat_map g ts))
      (λ u. sorted-times tuple_order u (flat_map (of_key ts) ks) ∙ counts u ts ks all ∙ sym (sorted-times tuple_order u (flat_map g ts)))

-- ---- the two kinds that change a bag in place

module _ (p : ℤ → Bool) where
  kept-more : (k : List ℕ) (v : ℤ) (vs : List ℤ) → tuples_of k (filter p (v ∷ vs)) ≡ cond (p v) (record { key = k; value = v } ∷ []) [] ++ tuples_of k (filter p vs)
  kept-more k v vs = by (p v)
    where
      by : (b : Bool) → tuples_of k (cond b (v ∷ filter p vs) (filter p vs)) ≡ cond b (record { key = k; value = v } ∷ []) [] ++ tuples_of k (filter p vs)
      by true = refl
      by false = refl

  filter-each : (ts : List Tuple) → flat_map (λ t. cond (p t.value) (t ∷ []) []) ts ≡ filter (λ t. p t.value) ts
  filter-each [] = refl
  filter-each (t ∷ ts) = by (p t.value) (filter-each ts)
    where
      by : (b : Bool) → flat_map (λ u. cond (p u.value) (u ∷ []) []) ts ≡ filter (λ u. p u.value) ts →
          cond b (t ∷ []) [] ++ flat_map (λ u. cond (p u.value) (u ∷ []) []) ts ≡ cond b (t ∷ filter (λ u. p u.value) ts) (filter (λ u. p u.value) ts)
      by true rest = ap (λ l. t ∷ l) rest
      by false rest = rest

map-each : (f : Tuple → Tuple) (ts : List Tuple) → flat_map (λ t. f t ∷ []) ts ≡ map f ts
map-each f [] = refl
map-each f (t ∷ ts) = ap (λ l. f t ∷ l) (map-each f ts)

pub step-keep : (kind : Kind) (min max : ℤ) (window : ℕ) (state : List Pair) (left right : List Tuple) → kind ≡ Keep min max → IsAscending tuple_order left →
    step kind window state left right ≡ record { state = []; rows = filter (λ t. int_le min t.value && int_le t.value max) left }
unfolding step rule
step-keep kind min max window state left right e a =
    let p : ℤ → Bool = λ v. int_le min v && int_le v max in
    let rows = by_tuple (λ k vs. tuples_of k (filter p vs)) (λ t. cond (p t.value) (t ∷ []) []) (λ k. refl) (kept-more p) left (keys_of state) (keys right) in
    let kept = ap bag_of (filter-each p left) ∙ sorted-of-ascending tuple_order-exact (filter (λ t. p t.value) left) (filter-ascends tuple_order-exact (λ t. p t.value) left a) in
    ap (λ x. step x window state left right) e
    ∙ (λ i. record { state = entries_at-none (λ key. None) (step_keys state left right) (λ k. refl) i; rows = (rows ∙ kept) i })

pub step-scale : (kind : Kind) (factor : ℤ) (window : ℕ) (state : List Pair) (left right : List Tuple) → kind ≡ Scale factor →
    step kind window state left right ≡ record { state = []; rows = bag_of (map (scaled factor) left) }
unfolding step rule
step-scale kind factor window state left right e =
    let rows = by_tuple (λ k vs. tuples_of k (map (λ v. int_wrapping_mul w64 v factor) vs)) (λ t. scaled factor t ∷ []) (λ k. refl) (λ k v vs. refl) left (keys_of state) (keys right) in
    ap (λ x. step x window state left right) e
    ∙ (λ i. record { state = entries_at-none (λ key. None) (step_keys state left right) (λ k. refl) i; rows = (rows ∙ ap bag_of (map-each (scaled factor) left)) i })
