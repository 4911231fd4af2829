-- What the partitions of an operator make of their cuts is what the whole makes, for kinds that go key by key.
use Rattle.std.proofs.Common.{◌≡◌, ℕ, ◌+◌, ◌≤◌, ◌<◌, ◌==◌, Bool, true, false, cond, List, [], ◌∷◌, ◌++◌, refl, sym, ap, ◌∙◌, arith}
use Rattle.std.specs.List.{filter, flat_map}
use Rattle.apx_order.specs.Sorted.{times}
use Rattle.apx_order.proofs.Sorting.{times-append, sorted-times, sorted-ascends, same-by-times}
use Rattle.apx_tuple.specs.declared.kind.Kind.{Kind}
use Rattle.apx_tuple.specs.declared.kind.Kind.TheVariants.{Top}
use Rattle.apx_tuple.specs.declared.tuple.Tuple.{Tuple}
use Rattle.apx_tuple.specs.State.{Pair}
use Rattle.apx_tuple.specs.Tuple.{tuple_order, bag_of}
use Rattle.apx_tuple.proofs.Orders.{tuple_order-exact}
use Rattle.apx_codec.specs.KeyNumber.{owner_of}
use Rattle.apx_rules.specs.Parts.{of_parts}
use Rattle.apx_rules.specs.Rule.{Outcome}
use Rattle.apx_rules.specs.Step.{step, keyed_step, step_keys, outcome_at, entries_at}
use Rattle.apx_shares.specs.Laws.{IsOwner, PartsKeepCuts}
use Rattle.apx_shares.proofs.Cuts.{cut_by, cut_pairs, cut-keys, cut-outcome, entries_at-filter}
use Rattle.apx_shares.proofs.Sums.{sum_from, sum_from-add, sum_from-zero, sum_from-one, times-parts}

-- ---- the state

keyed-state : (own : List ℕ → ℕ) (i : ℕ) (kind : Kind) (window : ℕ) (state : List Pair) (left right : List Tuple) →
    (keyed_step kind window (cut_pairs own i state) (cut_by own i left) (cut_by own i right)).state ≡ cut_pairs own i (keyed_step kind window state left right).state
keyed-state own i kind window state left right =
    ap (entries_at (λ key. (outcome_at kind window (cut_pairs own i state) (cut_by own i left) (cut_by own i right) key).entry)) (cut-keys own i state left right)
    ∙ entries_at-filter own i (λ key. (outcome_at kind window (cut_pairs own i state) (cut_by own i left) (cut_by own i right) key).entry) (λ key. (outcome_at kind window state left right key).entry)
    (λ k h. ap (λ (o : Outcome). o.entry) (cut-outcome own i kind window state left right k h)) (step_keys state left right)

-- the state of a partition is its cut of the whole's
pub parts-keep-cuts : PartsKeepCuts
unfolding step
parts-keep-cuts n i (Top k) window state left right = refl
parts-keep-cuts n i kind window state left right = keyed-state (owner_of n) i kind window state left right

-- ---- the rows

-- what all partitions make of their keys is what is made of all keys
made-parts : (n : ℕ) (own : List ℕ → ℕ) → IsOwner n own → (make : List ℕ → List Tuple) (t : Tuple) (ks : List (List ℕ)) →
    sum_from 0 n (λ i. times tuple_order t (flat_map make (filter (λ k. own k == i) ks))) ≡ times tuple_order t (flat_map make ks)
unfolding times
made-parts n own o make t [] = sum_from-zero 0 n
made-parts n own o make t (k ∷ ks) =
    (λ j. sum_from 0 n (λ i. one i (own k == i) j))
    ∙ sum_from-add 0 n (λ i. cond (own k == i) (times tuple_order t (make k)) 0) (λ i. times tuple_order t (flat_map make (filter (λ q. own q == i) ks)))
    ∙ (let here = sum_from-one 0 n (own k) (times tuple_order t (make k)) (omega arith) (let b = o k in omega (arith, b)) in let rest = made-parts n own o make t ks in omega (arith, here, rest, times-append tuple_order t (make k) (flat_map make ks)))
  where
    one : (i : ℕ) (b : Bool) → times tuple_order t (flat_map make (cond b (k ∷ filter (λ q. own q == i) ks) (filter (λ q. own q == i) ks))) ≡ cond b (times tuple_order t (make k)) 0 + times tuple_order t (flat_map make (filter (λ q. own q == i) ks))
    one i true = times-append tuple_order t (make k) (flat_map make (filter (λ q. own q == i) ks))
    one i false = omega arith

made-same : (p : List ℕ → Bool) (f g : List ℕ → List Tuple) → ((k : List ℕ) → p k ≡ true → f k ≡ g k) → (ks : List (List ℕ)) → flat_map f (filter p ks) ≡ flat_map g (filter p ks)
made-same p f g h [] = refl
made-same p f g h (k ∷ ks) = by (p k) (h k) (made-same p f g h ks)
  where
    by : (b : Bool) → (b ≡ true → f k ≡ g k) → flat_map f (filter p ks) ≡ flat_map g (filter p ks) → flat_map f (cond b (k ∷ filter p ks) (filter p ks)) ≡ flat_map g (cond b (k ∷ filter p ks) (filter p ks))
    by true s rest = λ j. s refl j ++ rest j
    by false s rest = rest

-- bags are one where each tuple stands in the lists equally often
pub bag-same : (xs ys : List Tuple) → ((t : Tuple) → times tuple_order t xs ≡ times tuple_order t ys) → bag_of xs ≡ bag_of ys
bag-same xs ys h =
    same-by-times tuple_order-exact (bag_of xs) (bag_of ys) (sorted-ascends tuple_order-exact xs) (sorted-ascends tuple_order-exact ys)
    (λ t. sorted-times tuple_order t xs ∙ h t ∙ sym (sorted-times tuple_order t ys))

pub keyed-rows : (n : ℕ) (own : List ℕ → ℕ) → IsOwner n own → (kind : Kind) (window : ℕ) (state : List Pair) (left right : List Tuple) →
    bag_of (flat_map (λ part. part) (of_parts n (λ i. (keyed_step kind window (cut_pairs own i state) (cut_by own i left) (cut_by own i right)).rows))) ≡ (keyed_step kind window state left right).rows
keyed-rows n own o kind window state left right =
    bag-same (flat_map (λ part. part) (of_parts n (λ i. (keyed_step kind window (cut_pairs own i state) (cut_by own i left) (cut_by own i right)).rows)))
    (flat_map (λ key. (outcome_at kind window state left right key).emitted) (step_keys state left right))
    (λ t. times-parts tuple_order t n (λ i. (keyed_step kind window (cut_pairs own i state) (cut_by own i left) (cut_by own i right)).rows)
    ∙ (λ j. sum_from 0 n (λ i. part i t j))
    ∙ made-parts n own o (λ key. (outcome_at kind window state left right key).emitted) t (step_keys state left right))
  where
    part : (i : ℕ) (t : Tuple) → times tuple_order t (keyed_step kind window (cut_pairs own i state) (cut_by own i left) (cut_by own i right)).rows
        ≡ times tuple_order t (flat_map (λ key. (outcome_at kind window state left right key).emitted) (filter (λ k. own k == i) (step_keys state left right)))
    part i t =
        sorted-times tuple_order t (flat_map (λ key. (outcome_at kind window (cut_pairs own i state) (cut_by own i left) (cut_by own i right) key).emitted) (step_keys (cut_pairs own i state) (cut_by own i left) (cut_by own i right)))
        ∙ ap (λ ks. times tuple_order t (flat_map (λ key. (outcome_at kind window (cut_pairs own i state) (cut_by own i left) (cut_by own i right) key).emitted) ks)) (cut-keys own i state left right)
        ∙ ap (times tuple_order t) (made-same (λ k. own k == i) (λ key. (outcome_at kind window (cut_pairs own i state) (cut_by own i left) (cut_by own i right) key).emitted) (λ key. (outcome_at kind window state left right key).emitted)
        (λ k h. ap (λ (x : Outcome). x.emitted) (cut-outcome own i kind window state left right k h)) (step_keys state left right))
