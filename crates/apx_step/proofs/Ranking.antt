-- The tuples that rank first.
use Rattle.std.proofs.Common.{◌≡◌, ℕ, zero, suc, ◌+◌, ◌≤◌, ◌<◌, true, List, [], ◌∷◌, ◌++◌, length, take, get_or, refl, sym, ap, subst, ◌∙◌, arith}
use Rattle.std.specs.List.{insert}
use Rattle.std.specs.Ordering.{is_gt}
use Rattle.std.proofs.lemmas.List.{take-map, take_more, take_all, length-map, map-append}
use Rattle.apx_order.specs.Sorted.{sorted, with_member, IsAscending}
use Rattle.apx_tuple.specs.declared.kind.Kind.{Kind}
use Rattle.apx_tuple.specs.declared.kind.Kind.TheVariants.{Top}
use Rattle.apx_tuple.specs.declared.tuple.Tuple.{Tuple}
use Rattle.apx_tuple.specs.State.{Pair}
use Rattle.apx_tuple.specs.Tuple.{bag_of}
use Rattle.apx_rules.specs.Step.{rank_order, top_of, step}
use Rattle.apx_step.specs.declared.top.Ranked.{Ranked}
use Rattle.apx_rules.proofs.Ranks.{rank_order-exact}
use Rattle.apx_step.specs.Places.{place, tuples_ranked}
use Rattle.apx_step.proofs.Firsts.{placed, behind-all, firsts-more, firsts-ascend, take-few}

inserted : (i : ℕ) (first : List Ranked) (r : Ranked) → tuples_ranked (insert first i r) ≡ insert (tuples_ranked first) i r.0.now
inserted zero first r = refl
inserted (suc i) [] r = refl
inserted (suc i) (x ∷ first) r = ap (λ l. x.0.now ∷ l) (inserted i first r)

-- a tuple that is put in its place
pub with-tuple : (k i : ℕ) (t : Tuple) (first more firsts : List Ranked) (r : Ranked) → r.0.now ≡ t → i ≡ place rank_order t (tuples_ranked first) → more ≡ insert first i r → firsts ≡ take k more →
    tuples_ranked firsts ≡ take k (with_member rank_order t (tuples_ranked first))
with-tuple k i t first more firsts r s e p f =
    ap tuples_ranked (f ∙ ap (take k) p) ∙ sym (take-map (λ (x : Ranked). x.0.now) k (insert first i r))
    ∙ ap (take k) (inserted i first r ∙ (λ j. insert (tuples_ranked first) (e j) (s j)) ∙ placed rank_order t (tuples_ranked first))

last-split : (first : List Ranked) (i : ℕ) (r : Ranked) → i + 1 ≡ length first → r ≡ get_or first i r → first ≡ take i first ++ r ∷ []
last-split first i r n e = sym (take_all (i + 1) first (omega arith)) ∙ take_more first i r (omega arith) ∙ ap (λ u. take i first ++ u ∷ []) (sym e)

-- a tuple behind the last of k
pub ranked-behind : (k i : ℕ) (t : Tuple) (first : List Ranked) (r : Ranked) → IsAscending rank_order (tuples_ranked first) → i + 1 ≡ length first → r ≡ get_or first i r →
    length first ≡ k → is_gt (rank_order t r.0.now) ≡ true → take k (with_member rank_order t (tuples_ranked first)) ≡ tuples_ranked first
ranked-behind k i t first r a n e l g =
    behind-all rank_order-exact k t r.0.now (tuples_ranked (take i first)) (tuples_ranked first)
    (ap tuples_ranked (last-split first i r n e) ∙ map-append (λ (x : Ranked). x.0.now) (take i first) (r ∷ [])) a (length-map first (λ (x : Ranked). x.0.now) ∙ l) g

-- ---- a scan

pub scan-nothing : (k : ℕ) (first : List Ranked) → first ≡ [] → tuples_ranked first ≡ take k (sorted rank_order [])
unfolding sorted
scan-nothing zero first e = ap tuples_ranked e
scan-nothing (suc k) first e = ap tuples_ranked e

pub scan-more : (k i : ℕ) (tuples : List Tuple) (t : Tuple) (first more : List Ranked) → tuples_ranked first ≡ take k (sorted rank_order (take i tuples)) → tuples_ranked more ≡ take k (with_member rank_order t (tuples_ranked first)) →
    i < length tuples → t ≡ get_or tuples i t → tuples_ranked more ≡ take k (sorted rank_order (take (i + 1) tuples))
scan-more k i tuples t first more f m h e =
    m ∙ ap (λ l. take k (with_member rank_order t l)) f ∙ firsts-more rank_order-exact k t (take i tuples)
    ∙ ap (λ l. take k (sorted rank_order l)) (sym (take_more tuples i t h ∙ ap (λ u. take i tuples ++ u ∷ []) (sym e)))

pub scan-ascends : (k : ℕ) (tuples : List Tuple) (first : List Ranked) → tuples_ranked first ≡ take k (sorted rank_order tuples) → IsAscending rank_order (tuples_ranked first)
scan-ascends k tuples first f = subst (IsAscending rank_order) (sym f) (firsts-ascend rank_order-exact k tuples)

pub scan-few : (k : ℕ) (tuples : List Tuple) (first : List Ranked) → tuples_ranked first ≡ take k (sorted rank_order tuples) → length first ≤ k
scan-few k tuples first f = omega (arith, length-map first (λ (x : Ranked). x.0.now), ap length f, take-few k (sorted rank_order tuples))

-- places that are cut off after the k-th
pub first-cut : (k : ℕ) (places taken : List Ranked) (bag : List Tuple) → tuples_ranked places ≡ sorted rank_order bag → taken ≡ take k places → tuples_ranked taken ≡ take k (sorted rank_order bag)
first-cut k places taken bag p t = ap tuples_ranked t ∙ sym (take-map (λ (place : Ranked). place.0.now) k places) ∙ ap (take k) p

-- the bag of the first k
pub top-first : (k : ℕ) (taken : List Ranked) (bag tuples : List Tuple) → tuples_ranked taken ≡ take k (sorted rank_order bag) → tuples ≡ tuples_ranked taken → bag_of tuples ≡ top_of k bag
top-first k taken bag tuples t c = ap bag_of (c ∙ t)

pub step-top : (kind : Kind) (k window : ℕ) (state : List Pair) (left right : List Tuple) → kind ≡ Top k → step kind window state left right ≡ record { state = []; rows = top_of k left }
unfolding step
step-top kind k window state left right e = ap (λ x. step x window state left right) e
