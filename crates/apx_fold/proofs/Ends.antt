-- What folds give at the end.
use Rattle.std.proofs.Common.{◌≡◌, ◌⊎◌, inl, inr, ℕ, List, [], ◌++◌, arith, sym, ap, subst, ◌∙◌}
use Rattle.apx_tuple.specs.declared.tuple.Tuple.{Tuple}
use Rattle.apx_tuple.specs.Size.{IsLarge}
use Rattle.apx_tuple.specs.State.{Pair, pair_key}
use Rattle.apx_tuple.specs.Tuple.{tuple_key, bag_of}
use Rattle.apx_rules.specs.Step.{Stepped, step}
use Rattle.apx_fold.specs.Folding.{Partition, owned, owned_state, left_after, right_after, stepped, IsTooLarge}
use Rattle.apx_fold.proofs.Cuts.{cut-bag_of, cut-large, cut-append}
use Rattle.apx_tuple.proofs.Sizes.{size_by-bag_of}

-- the state and the rows are those of a step
abbrev pub AreOf : Stepped → (List Pair × List Tuple) → Type 0
AreOf given made = (made.0 ≡ given.state) × (made.1 ≡ given.rows)

-- where the partition owns all keys of the state, its part of it is all of it
pub part-of-all : (part : Partition) (window : ℕ) (state : List Pair) (lefts rights : List Tuple) → owned_state part state ≡ state →
    stepped part window state lefts rights ≡ stepped part window (owned_state part state) lefts rights
part-of-all part window state lefts rights all = ap (λ (s : List Pair). stepped part window s lefts rights) (sym all)

-- the bags of what the partition owns are what it owns of the bags
pub step-of-owned : (part : Partition) (window : ℕ) (state : List Pair) (lefts rights kept_left kept_right left right : List Tuple) →
    kept_left ≡ owned part lefts → kept_right ≡ owned part rights → left ≡ bag_of kept_left → right ≡ bag_of kept_right →
    step part.kind window state left right ≡ stepped part window state lefts rights
step-of-owned part window state lefts rights kept_left kept_right left right is_left is_right bag_left bag_right =
    λ j. step part.kind window state
    ((bag_left ∙ ap bag_of is_left ∙ sym (cut-bag_of part.n part.i lefts)) j)
    ((bag_right ∙ ap bag_of is_right ∙ sym (cut-bag_of part.n part.i rights)) j)

-- what is kept of a port is too large
pub left-too-large : (part : Partition) (given : Stepped) (lefts rights kept : List Tuple) → kept ≡ owned part lefts → IsLarge tuple_key (bag_of kept) → IsTooLarge given lefts rights
left-too-large part given lefts rights kept is large =
    inl (cut-large part.n part.i lefts (subst (λ (ts : List Tuple). IsLarge tuple_key (bag_of ts)) is large))

pub right-too-large : (part : Partition) (given : Stepped) (lefts rights kept : List Tuple) → kept ≡ owned part rights → IsLarge tuple_key (bag_of kept) → IsTooLarge given lefts rights
right-too-large part given lefts rights kept is large =
    inr (inl (cut-large part.n part.i rights (subst (λ (ts : List Tuple). IsLarge tuple_key (bag_of ts)) is large)))

-- what the step gives is too large
pub step-too-large : (given other : Stepped) (lefts rights : List Tuple) → given ≡ other → (IsLarge pair_key given.state ⊎ IsLarge tuple_key given.rows) → IsTooLarge other lefts rights
step-too-large given other lefts rights is large = inr (inr (subst (λ (s : Stepped). IsLarge pair_key s.state ⊎ IsLarge tuple_key s.rows) is large))

-- ---- folds that keep the rows

-- a state without keys, and the rows as they are
abbrev pub rows_alone : List Tuple → Stepped
rows_alone rows = record { state = []; rows = rows }

module _ (given : Stepped) (kept kept_rows rows : List Tuple) (state : List Pair) (is : given ≡ rows_alone (bag_of kept_rows)) (same : kept ≡ kept_rows) where
  pub rows-given : state ≡ [] → rows ≡ bag_of kept → AreOf given (state, rows)
  rows-given none bag = (none ∙ sym (ap (λ (s : Stepped). s.state) is), bag ∙ ap bag_of same ∙ sym (ap (λ (s : Stepped). s.rows) is))

  pub rows-too-large : (lefts rights : List Tuple) → IsLarge tuple_key (bag_of kept) → IsTooLarge given lefts rights
  rows-too-large lefts rights large = inr (inr (inr (subst (IsLarge tuple_key) (ap bag_of same ∙ sym (ap (λ (s : Stepped). s.rows) is)) large)))

-- ---- a port whose tuples are too large

pub taken-too-large : (part : Partition) (port : ℕ) (lefts rights tuples : List Tuple) → port ≡ 0 → IsLarge tuple_key (owned part lefts ++ owned part tuples) →
    IsLarge tuple_key (bag_of (left_after port lefts tuples)) ⊎ IsLarge tuple_key (bag_of (right_after port rights tuples))
taken-too-large part port lefts rights tuples zeroth large =
    let all = subst (IsLarge tuple_key) (sym (cut-append part.n part.i lefts tuples)) large in
    let bag : IsLarge tuple_key (bag_of (owned part (lefts ++ tuples))) = omega (arith, all, size_by-bag_of (owned part (lefts ++ tuples))) in
    inl (subst (λ (p : ℕ). IsLarge tuple_key (bag_of (left_after p lefts tuples))) (sym zeroth) (cut-large part.n part.i (lefts ++ tuples) bag))
