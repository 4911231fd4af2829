-- What is gathered of the outputs of partitions, with those that are chosen from once more.
use Rattle.std.proofs.Common.{◌≡◌, ℕ, ◌+◌, ◌==◌, false, List, [], ◌∷◌, ◌++◌, refl, sym, ap, subst, ◌∙◌, ◌⊎◌, inl, inr}
use Rattle.std.specs.List.{flat_map}
use Rattle.apx_order.specs.Sorted.{times}
use Rattle.apx_order.proofs.Sorting.{sorted-times, times-append, sorted-of-ascending}
use Rattle.apx_codec.specs.KeyNumber.{owner_of}
use Rattle.apx_list.proofs.Left.{owned_all}
use Rattle.apx_tuple.specs.declared.kind.Kind.{Kind}
use Rattle.apx_tuple.specs.declared.kind.Kind.TheVariants.{Top}
use Rattle.apx_tuple.specs.declared.tuple.Tuple.{Tuple}
use Rattle.apx_tuple.specs.Size.{IsLarge}
use Rattle.apx_tuple.specs.Tuple.{bag_of, tuple_key, tuple_order, IsBag}
use Rattle.apx_tuple.proofs.Orders.{tuple_order-exact}
use Rattle.apx_rules.specs.Parts.{cut_bag, merge_bags, unify}
use Rattle.apx_pass.specs.Graph.{Role, Input, Inner, Sink}
use Rattle.apx_shares.specs.Given.{unify_of}
use Rattle.apx_shares.proofs.Cuts.{cut-bag_of}
use Rattle.apx_shares.proofs.Steps.{bag-same}
use Rattle.apx_split.specs.Kept.{kept_of}
use Rattle.apx_split.proofs.Keeping.{kept-unifies}
use Rattle.apx_part.specs.Gathered.{kept_by, is_chosen}
use Rattle.apx_part.specs.Made.{IsLargePort}

-- what is gathered of a bag is what is gathered of its tuples
pub gathered-merged : (n i : ℕ) (before tuples : List Tuple) → bag_of (before ++ cut_bag n i tuples) ≡ bag_of (before ++ cut_bag n i (bag_of tuples))
gathered-merged n i before tuples =
    sym (bag-same (before ++ cut_bag n i (bag_of tuples)) (before ++ cut_bag n i tuples)
    (λ t. times-append tuple_order t before (cut_bag n i (bag_of tuples))
    ∙ ap (λ m. times tuple_order t before + m) (ap (times tuple_order t) (cut-bag_of (owner_of n) i tuples) ∙ sorted-times tuple_order t (cut_bag n i tuples))
    ∙ sym (times-append tuple_order t before (cut_bag n i tuples))))

-- what was gathered is a bag already
pub nothing-more : (before : List Tuple) → IsBag before → bag_of (before ++ []) ≡ before
nothing-more before b = ap bag_of (nil before) ∙ sorted-of-ascending tuple_order-exact before b.ascends
  where
    nil : (xs : List Tuple) → xs ++ [] ≡ xs
    nil [] = refl
    nil (x ∷ xs) = ap (λ l. x ∷ l) (nil xs)

-- all tuples of some bags, appended to nothing, make the bag of them
pub all-merged : (bags : List (List Tuple)) (before tuples : List Tuple) → before ≡ [] → tuples ≡ before ++ cut_bag 1 0 (flat_map (λ bag. bag) bags) → bag_of tuples ≡ merge_bags bags
all-merged bags before tuples none e = ap bag_of (e ∙ ap (λ (ts : List Tuple). ts ++ cut_bag 1 0 (flat_map (λ bag. bag) bags)) none ∙ owned_all (flat_map (λ bag. bag) bags))

-- what is kept of all is what the partitions give as one
pub kept-by-unifies : (role : Role) (bags : List (List Tuple)) → kept_by role (merge_bags bags) ≡ unify_of role bags
unfolding kept_by unify_of
kept-by-unifies (Input kind file per_window) bags = refl
kept-by-unifies (Inner kind) bags = kept-unifies kind bags
kept-by-unifies Sink bags = refl

-- where it isn't chosen from again that is all
pub chosen-merged : (role : Role) (bags : List (List Tuple)) → is_chosen role ≡ false → unify_of role bags ≡ merge_bags bags
unfolding unify_of unify
chosen-merged (Input kind file per_window) bags e = refl
chosen-merged (Inner (Top k)) bags e = cc
chosen-merged (Inner kind) bags e = refl
chosen-merged Sink bags e = refl

-- ---- what is too large of a port

pub large-gathered : (role : Role) (n i : ℕ) (before : List Tuple) (bags : List (List Tuple)) (tuples : List Tuple) → tuples ≡ before ++ cut_bag n i (unify_of role bags) → IsLarge tuple_key (bag_of tuples) → IsLargePort role n i before bags
large-gathered role n i before bags tuples e large = record { is = inr (inr (subst (λ (ts : List Tuple). IsLarge tuple_key (bag_of ts)) e large)) }

pub large-unified : (role : Role) (n i : ℕ) (before : List Tuple) (bags : List (List Tuple)) → IsLarge tuple_key (merge_bags bags) ⊎ IsLarge tuple_key (unify_of role bags) → IsLargePort role n i before bags
large-unified role n i before bags (inl large) = record { is = inl large }
large-unified role n i before bags (inr large) = record { is = inr (inl large) }
