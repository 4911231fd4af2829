-- What is kept of the outputs of partitions, and the tuples that a partition owns.
use Rattle.std.proofs.Common.{◌≡◌, ℕ, ◌+◌, ◌<◌, ◌≤◌, ◌==◌, cond, List, [], ◌∷◌, ◌++◌, length, take, get_or, refl, sym, ap, subst, ◌∙◌, arith, Result, Ok, Err, ◌≢◌}
use Rattle.std.specs.Prelude.{IfErr, OnOk}
use Rattle.std.specs.List.{filter}
use Rattle.std.proofs.lemmas.List.Elements.{filter_more}
use Rattle.apx_codec.specs.KeyNumber.{owner_of}
use Rattle.apx_tuple.specs.declared.kind.Kind.{Kind}
use Rattle.apx_tuple.specs.declared.kind.Kind.TheVariants.{Top}
use Rattle.apx_tuple.specs.declared.refusal.Short.{Short}
use Rattle.apx_tuple.specs.declared.refusal.Short.TheVariants.{Large}
use Rattle.apx_tuple.specs.declared.tuple.Tuple.{Tuple}
use Rattle.apx_tuple.specs.Size.{size_by, IsLarge}
use Rattle.apx_tuple.specs.State.{Pair, pair_key}
use Rattle.apx_tuple.specs.Tuple.{tuple_key, tuple_order, IsBag}
use Rattle.apx_tuple.proofs.Orders.{tuple_order-exact}
use Rattle.apx_order.specs.Sorted.{IsAscending}
use Rattle.apx_order.proofs.Once.{filter-ascends}
use Rattle.apx_split.proofs.Joining.{size-filter}
use Rattle.apx_rules.specs.Parts.{cut_bag, merge_bags, unify}
use Rattle.apx_rules.specs.Step.{step}
use Rattle.apx_split.specs.Kept.{kept_of}

pub kept-unifies : (kind : Kind) (parts : List (List Tuple)) → kept_of kind (merge_bags parts) ≡ unify kind parts
unfolding kept_of unify
kept-unifies (Top k) parts = refl
kept-unifies kind parts = refl

-- another kind than `top` keeps all
pub kept-all : (kind : Kind) (tuples : List Tuple) → ((k : ℕ) → kind ≡ Top k → ⊥) → tuples ≡ kept_of kind tuples
unfolding kept_of
kept-all (Top k) tuples n = absurd (n k refl)
kept-all kind tuples n = refl

-- `top` keeps the rows of its step
pub kept-best : (kind : Kind) (k : ℕ) → kind ≡ Top k → (window : ℕ) (state : List Pair) (left right : List Tuple) → (step kind window state left right).rows ≡ kept_of kind left
unfolding kept_of step
kept-best kind k e window state left right = ap (λ x. (step x window state left right).rows) e ∙ sym (ap (λ x. kept_of x left) e)

-- its state is never too large
pub best-state : (kind : Kind) (k : ℕ) → kind ≡ Top k → (window : ℕ) (state : List Pair) (left right : List Tuple) → IsLarge pair_key (step kind window state left right).state → ⊥
unfolding step
best-state kind k e window state left right large = let none : (step kind window state left right).state ≡ [] = ap (λ x. (step x window state left right).state) e in let zero : size_by pair_key (step kind window state left right).state ≡ 0 = ap (size_by pair_key) none in omega (arith, zero, large)

-- a law holds whatever comes
pub law-on-ok : {X E : Type 0} (r : Result X E) (P : Type 0) → P → OnOk r P
law-on-ok (Ok x) P p = p
law-on-ok (Err e) P p = tt

-- ---- a cut of a bag

pub cut-ascends : (n i : ℕ) (bag tuples : List Tuple) → IsBag bag → tuples ≡ cut_bag n i bag → IsAscending tuple_order tuples
cut-ascends n i bag tuples b e = subst (λ (ts : List Tuple). IsAscending tuple_order ts) (sym e) (filter-ascends tuple_order-exact (λ (t : Tuple). owner_of n t.key == i) bag b.ascends)

pub cut-small : (n i : ℕ) (bag tuples : List Tuple) → IsBag bag → tuples ≡ cut_bag n i bag → IsLarge tuple_key tuples → ⊥
cut-small n i bag tuples b e large =
    let same : size_by tuple_key tuples ≡ size_by tuple_key (cut_bag n i bag) = ap (size_by tuple_key) e in
    let small : size_by tuple_key bag < 4294967232 = b.small in
    omega (arith, same, small, large, size-filter tuple_key (λ (t : Tuple). owner_of n t.key == i) bag)

-- what is refused only where something is too large that isn't
pub never : {X : Type 0} (r : Result X Short) (P : Type 0) → IfErr r (λ short. (short ≡ Large) × P) → (P → ⊥) → r ≢ Err Large
never (Ok x) P h small e = cc
never (Err short) P h small e = small h.1

-- one tuple further
pub owned_more : (n i : ℕ) (ts : List Tuple) (k : ℕ) (t : Tuple) → k < length ts → t ≡ get_or ts k t →
    cut_bag n i (take (k + 1) ts) ≡ cut_bag n i (take k ts) ++ cond (owner_of n t.key == i) (t ∷ []) []
owned_more n i ts k t h e =
    filter_more (λ (u : Tuple). owner_of n u.key == i) ts k t h
    ∙ ap (λ (u : Tuple). cut_bag n i (take k ts) ++ cond (owner_of n u.key == i) (u ∷ []) []) (sym e)
