-- Cuts of what an operator carries, put together, are what it carries.
use Rattle.std.proofs.Common.{◌≡◌, ℕ, ◌+◌, ◌≤◌, ◌<◌, ◌==◌, zero, suc, List, [], ◌∷◌, ◌++◌, map, refl, sym, ap, ◌∙◌, arith}
use Rattle.std.specs.declared.cmp.Ordering.TheVariants.{Less}
use Rattle.std.specs.Ordering.{is_eq, is_gt, int_cmp, ordering_then}
use Rattle.std.specs.List.{flat_map, range_with_len, AllByRecursion}
use Rattle.std.specs.List.Sorted.{IsStrictlySortedBy}
use Rattle.std.specs.Map.{keys_of}
use Rattle.apx_order.specs.Sorted.{IsAscending, IsFloor}
use Rattle.apx_order.proofs.Sorting.{sorted-ascends, same-by-times}
use Rattle.apx_tuple.specs.declared.progress.Progress.{Progress}
use Rattle.apx_tuple.specs.declared.tuple.Tuple.{Tuple}
use Rattle.apx_tuple.specs.State.{Pair}
use Rattle.apx_tuple.specs.Tuple.{key_order, tuple_order}
use Rattle.apx_tuple.proofs.Orders.{tuple_order-exact}
use Rattle.apx_codec.specs.KeyNumber.{owner_of}
use Rattle.apx_rules.specs.Parts.{cut_bag, cut_state, of_parts, merge_bags, merge_states, pair_order}
use Rattle.apx_shares.specs.Carried.{cut_progress, merge_progress}
use Rattle.apx_shares.specs.Laws.{BagsMerge, StatesMerge, CutsMerge, SplitsAreCuts}
use Rattle.apx_shares.proofs.Cuts.{keys-are-owned}
use Rattle.apx_shares.proofs.Sums.{times-count, count-sorted, count-all-cuts}
use Rattle.apx_shares.proofs.Tops.{pair_order-exact}

pub bags-merge : BagsMerge
bags-merge n h bag a =
    let cuts = of_parts n (λ i. cut_bag n i bag) in
    same-by-times tuple_order-exact (merge_bags cuts) bag (sorted-ascends tuple_order-exact (flat_map (λ part. part) cuts)) a
    (λ t. times-count tuple_order t (merge_bags cuts)
    ∙ count-sorted tuple_order (λ u. is_eq (tuple_order t u)) (flat_map (λ part. part) cuts)
    ∙ count-all-cuts n (owner_of n) (keys-are-owned n h) (λ (u : Tuple). u.key) (λ u. is_eq (tuple_order t u)) bag ∙ sym (times-count tuple_order t bag))

-- pairs whose keys ascend, each once, ascend
pairs-floor : (p : Pair) (ps : List Pair) → AllByRecursion (λ k. key_order p.0 k ≡ Less) (keys_of ps) → IsFloor pair_order p ps
pairs-floor p [] a = tt
pairs-floor p (q ∷ ps) a = (ap (λ r. is_gt (ordering_then r (int_cmp p.1 q.1))) a.0, pairs-floor p ps a.1)

pub pairs-ascend : (ps : List Pair) → IsStrictlySortedBy key_order (keys_of ps) → IsAscending pair_order ps
unfolding IsStrictlySortedBy
pairs-ascend [] a = tt
pairs-ascend (p ∷ ps) a = (pairs-floor p ps a.0, pairs-ascend ps a.1)

pub states-merge : StatesMerge
states-merge n h state a =
    let cuts = of_parts n (λ i. cut_state n i state) in
    same-by-times pair_order-exact (merge_states cuts) state (sorted-ascends pair_order-exact (flat_map (λ part. part) cuts)) (pairs-ascend state a)
    (λ p. times-count pair_order p (merge_states cuts)
    ∙ count-sorted pair_order (λ q. is_eq (pair_order p q)) (flat_map (λ part. part) cuts)
    ∙ count-all-cuts n (owner_of n) (keys-are-owned n h) (λ (q : Pair). q.0) (λ q. is_eq (pair_order p q)) state ∙ sym (times-count pair_order p state))

-- something of something of each partition
map-from : {X Y : Type 0} (g : X → Y) (f : ℕ → X) (a n : ℕ) → map g (map f (range_with_len a n)) ≡ map (λ i. g (f i)) (range_with_len a n)
map-from g f a zero = refl
map-from g f a (suc n) = ap (λ l. g (f a) ∷ l) (map-from g f (a + 1) n)

pub cuts-merge : CutsMerge
cuts-merge n h progress o =
    let cut : ℕ → Progress = λ i. cut_progress n i progress in
    let state = ap merge_states (map-from (λ (p : Progress). p.state) cut 0 n) ∙ states-merge n h progress.state o.state in
    let left = ap merge_bags (map-from (λ (p : Progress). p.left) cut 0 n) ∙ bags-merge n h progress.left o.left in
    let right = ap merge_bags (map-from (λ (p : Progress). p.right) cut 0 n) ∙ bags-merge n h progress.right o.right in
    λ j. record { state = state j; left = left j; right = right j }

pub splits-are-cuts : SplitsAreCuts
splits-are-cuts n h m i progress o = ap (cut_progress m i) (cuts-merge n h progress o)
