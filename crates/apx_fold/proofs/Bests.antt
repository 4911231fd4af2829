-- The tuples that rank first.
use Rattle.std.proofs.Common.{◌≡◌, ℕ, zero, suc, ◌+◌, ◌≤◌, true, List, [], ◌∷◌, ◌++◌, length, take, get_or, refl, sym, ap, subst, ◌∙◌, arith}
use Rattle.std.specs.List.{insert}
use Rattle.std.specs.Ordering.{is_gt}
use Rattle.std.proofs.lemmas.List.{take_more, take_all}
use Rattle.apx_order.specs.Sorted.{sorted, with_member, IsAscending}
use Rattle.apx_order.proofs.Sorting.{sorted-ascends, sorted-of-ascending}
use Rattle.apx_tuple.specs.declared.kind.Kind.TheVariants.{Top}
use Rattle.apx_tuple.specs.declared.tuple.Tuple.{Tuple}
use Rattle.apx_tuple.specs.State.{Pair}
use Rattle.apx_tuple.specs.Tuple.{tuple_order, bag_of}
use Rattle.apx_rules.specs.Parts.{cut_bag}
use Rattle.apx_rules.specs.Step.{rank_order, step}
use Rattle.apx_rules.proofs.Ranks.{rank_order-exact}
use Rattle.apx_step.specs.Places.{place}
use Rattle.apx_step.proofs.Firsts.{placed, behind-all, firsts-more, firsts-ascend, take-few}
use Rattle.apx_fold.specs.Ranked.{AreRanked}
use Rattle.apx_fold.proofs.Cuts.{cut-bag_of}
use Rattle.apx_fold.proofs.Sums.{sorted-sorted}

-- the rows are the bag of the first k, and nothing is kept
pub best-step : (k n i window : ℕ) (state : List Pair) (lefts rights : List Tuple) →
    step (Top k) window state (cut_bag n i (bag_of lefts)) (cut_bag n i (bag_of rights)) ≡ record { state = []; rows = bag_of (take k (sorted rank_order (cut_bag n i lefts))) }
unfolding step
best-step k n i window state lefts rights =
    λ j. record {
      state = [];
      rows = ap (λ (ts : List Tuple). bag_of (take k ts))
          (ap (sorted rank_order) (cut-bag_of n i lefts) ∙ sorted-sorted rank_order-exact tuple_order (cut_bag n i lefts)) j;
    }

last-split : (first : List Tuple) (i : ℕ) (t : Tuple) → i + 1 ≡ length first → t ≡ get_or first i t → first ≡ take i first ++ t ∷ []
last-split first i t n e = sym (take_all (i + 1) first (omega arith)) ∙ take_more first i t (omega arith) ∙ ap (λ (u : Tuple). take i first ++ u ∷ []) (sym e)

-- a tuple behind the last of k
pub ranks-behind : (k i : ℕ) (t : Tuple) (first : List Tuple) (last : Tuple) → IsAscending rank_order first → i + 1 ≡ length first → last ≡ get_or first i last →
    length first ≡ k → is_gt (rank_order t last) ≡ true → take k (with_member rank_order t first) ≡ first
ranks-behind k i t first last ascends n e l g = behind-all rank_order-exact k t last (take i first) first (last-split first i last n e) ascends l g

-- a tuple that is put in its place
pub put-in-place : (k : ℕ) (t : Tuple) (first more kept : List Tuple) (i : ℕ) → i ≡ place rank_order t first → more ≡ insert first i t → kept ≡ take k more → kept ≡ take k (with_member rank_order t first)
put-in-place k t first more kept i at put cut = cut ∙ ap (take k) (put ∙ ap (λ (j : ℕ). insert first j t) at ∙ placed rank_order t first)

-- ---- tuples in the order of their ranks

pub ascends-ranked : (first : List Tuple) → AreRanked first → IsAscending rank_order first
ascends-ranked first ranked = subst (IsAscending rank_order) ranked (sorted-ascends rank_order-exact first)

-- the first k of some tuples are in that order
pub ranked-firsts : (k : ℕ) (ts : List Tuple) → AreRanked (take k (sorted rank_order ts))
ranked-firsts k ts = sorted-of-ascending rank_order-exact (take k (sorted rank_order ts)) (firsts-ascend rank_order-exact k ts)

with-sorted : (t : Tuple) (ts : List Tuple) → with_member rank_order t (sorted rank_order ts) ≡ sorted rank_order (t ∷ ts)
unfolding sorted
with-sorted t ts = refl

-- so are those with one tuple more
pub ranked-more : (k : ℕ) (t : Tuple) (first kept : List Tuple) → AreRanked first → kept ≡ take k (with_member rank_order t first) → AreRanked kept
ranked-more k t first kept ranked is =
    subst AreRanked (sym (is ∙ ap (λ (ts : List Tuple). take k (with_member rank_order t ts)) (sym ranked) ∙ ap (take k) (with-sorted t first))) (ranked-firsts k (t ∷ first))

-- and no more than k
pub few-kept : (k : ℕ) (ts kept : List Tuple) → kept ≡ take k ts → length kept ≤ k
few-kept k ts kept is = let same : length kept ≡ length (take k ts) = ap (λ (l : List Tuple). length l) is in omega (arith, same, take-few k ts)

-- the first k with one tuple more
pub first-more : (k : ℕ) (t : Tuple) (before first kept : List Tuple) → first ≡ take k (sorted rank_order before) → kept ≡ take k (with_member rank_order t first) →
    kept ≡ take k (sorted rank_order (before ++ t ∷ []))
first-more k t before first kept was is =
    is ∙ ap (λ (ts : List Tuple). take k (with_member rank_order t ts)) was ∙ firsts-more rank_order-exact k t before

-- no tuple was taken yet
pub first-nothing : (k : ℕ) (first : List Tuple) → first ≡ [] → first ≡ take k (sorted rank_order [])
unfolding sorted
first-nothing zero first is = is
first-nothing (suc k) first is = is

pub ranked-nothing : (first : List Tuple) → first ≡ [] → AreRanked first
unfolding sorted
ranked-nothing first is = subst AreRanked (sym is) refl
