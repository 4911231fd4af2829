-- The list of the last checkpoints is in the order of their ids, each once.
use Rattle.std.proofs.Common.{◌≡◌, ℕ, zero, suc, ◌+◌, ◌<◌, ◌≤◌, inl, inr, Bool, true, false, cond, ◌==◌, nat_lt, List, [], ◌∷◌, ◌++◌, length, map, refl, sym, ap, subst, ◌∙◌, arith}
use Rattle.std.specs.List.{AllByRecursion, flat_map, range_with_len}
use Rattle.std.specs.List.Sorted.{IsStrictlySortedBy}
use Rattle.std.specs.declared.cmp.Ordering.{Ordering}
use Rattle.std.specs.declared.cmp.Ordering.TheVariants.{Less, Equal, Greater}
use Rattle.std.specs.Ordering.{nat_cmp, ordering_then}
use Rattle.std.specs.Cmp.{tied_itself, nat_cmp_total}
use Rattle.std.proofs.lemmas.Bool.{leb-true, le-leb}
use Rattle.apx_device.specs.declared.vault.SaveId.{SaveId}
use Rattle.apx_device.specs.Vault.{save_order}
use Rattle.apx_history.specs.Plan.{Plan, last_checkpoint, boundary_at, number}
use Rattle.apx_promise.specs.Checkpoints.{is_split_at, saves_in, saves_after, all_saves}
use Rattle.apx_promise.specs.Laws.{LastSavesAscend}
use Rattle.apx_promise.proofs.Saving.{boundary_is}

-- ---- lists in order

module _ {X : Type 0} where
  all_more : (P Q : X → Type 0) (xs : List X) → ((x : X) → P x → Q x) → AllByRecursion P xs → AllByRecursion Q xs
  all_more P Q [] f h = tt
  all_more P Q (x ∷ xs) f h = (f x h.0, all_more P Q xs f h.1)

  all_append : (P : X → Type 0) (xs ys : List X) → AllByRecursion P xs → AllByRecursion P ys → AllByRecursion P (xs ++ ys)
  all_append P [] ys h k = k
  all_append P (x ∷ xs) ys h k = (h.0, all_append P xs ys h.1 k)

  -- of each number from a on
  all_numbers : (P : X → Type 0) (f : ℕ → X) (a n : ℕ) → ((i : ℕ) → a ≤ i → P (f i)) → AllByRecursion P (map f (range_with_len a n))
  all_numbers P f a zero h = tt
  all_numbers P f a (suc n) h = (h a (omega arith), all_numbers P f (a + 1) n (λ i le. h i (omega (arith, le))))

  all_lists : (P : X → Type 0) (f : ℕ → List X) (a n : ℕ) → ((i : ℕ) → a ≤ i → AllByRecursion P (f i)) → AllByRecursion P (flat_map f (range_with_len a n))
  all_lists P f a zero h = tt
  all_lists P f a (suc n) h = all_append P (f a) (flat_map f (range_with_len (a + 1) n)) (h a (omega arith)) (all_lists P f (a + 1) n (λ i le. h i (omega (arith, le))))

  module _ (c : X → X → Ordering) where
    sorted_none : IsStrictlySortedBy c []
    unfolding IsStrictlySortedBy
    sorted_none = tt

    sorted_append : (xs ys : List X) → IsStrictlySortedBy c xs → IsStrictlySortedBy c ys → AllByRecursion (λ x. AllByRecursion (λ y. c x y ≡ Less) ys) xs → IsStrictlySortedBy c (xs ++ ys)
    unfolding IsStrictlySortedBy
    sorted_append [] ys s t h = t
    sorted_append (x ∷ xs) ys s t h = (all_append (λ y. c x y ≡ Less) xs ys s.0 h.0, sorted_append xs ys s.1 t h.1)

    sorted_numbers : (f : ℕ → X) (a n : ℕ) → ((i j : ℕ) → i < j → c (f i) (f j) ≡ Less) → IsStrictlySortedBy c (map f (range_with_len a n))
    unfolding IsStrictlySortedBy
    sorted_numbers f a zero h = tt
    sorted_numbers f a (suc n) h = (all_numbers (λ y. c (f a) y ≡ Less) f (a + 1) n (λ i le. h a i (omega (arith, le))), sorted_numbers f (a + 1) n h)

    -- lists one behind the other, where what is of a later one is above what is of an earlier one
    sorted_lists : (P : ℕ → X → Type 0) (f : ℕ → List X) (a n : ℕ) → ((i : ℕ) → IsStrictlySortedBy c (f i)) → ((i : ℕ) → AllByRecursion (P i) (f i))
        → ((i j : ℕ) (x y : X) → i < j → P i x → P j y → c x y ≡ Less) → IsStrictlySortedBy c (flat_map f (range_with_len a n))
    sorted_lists P f a zero each of less = sorted_none
    sorted_lists P f a (suc n) each of less =
        sorted_append (f a) (flat_map f (range_with_len (a + 1) n)) (each a) (sorted_lists P f (a + 1) n each of less)
        (all_more (P a) (λ x. AllByRecursion (λ y. c x y ≡ Less) (flat_map f (range_with_len (a + 1) n))) (f a)
        (λ x px. all_lists (λ y. c x y ≡ Less) f (a + 1) n (λ i le. all_more (P i) (λ y. c x y ≡ Less) (f i) (λ y py. less a i x y (omega (arith, le)) px py) (of i)))
        (of a))

-- ---- ids

below : (a b : ℕ) → a < b → nat_cmp a b ≡ Less
below a b lt = ap (λ (t : Bool). cond t Less (cond (a == b) Equal Greater)) (le-leb (suc a) b lt)

same : (a : ℕ) → nat_cmp a a ≡ Equal
same a = tied_itself nat_cmp_total a

by_op : (x y : SaveId) → x.op < y.op → save_order x y ≡ Less
by_op x y lt = ap (λ (r : Ordering). ordering_then r (ordering_then (nat_cmp x.boundary y.boundary) (ordering_then (nat_cmp x.part y.part) (nat_cmp x.window y.window)))) (below x.op y.op lt)

module _ (o w : ℕ) where
  abbrev id : ℕ → ℕ → SaveId
  id b i = record { op = o; boundary = b; part = i; window = w }

  by_boundary : (b c i j : ℕ) → b < c → save_order (id b i) (id c j) ≡ Less
  by_boundary b c i j lt =
      ap (λ (r : Ordering). ordering_then r (ordering_then (nat_cmp b c) (ordering_then (nat_cmp i j) (nat_cmp w w)))) (same o)
      ∙ ap (λ (r : Ordering). ordering_then r (ordering_then (nat_cmp i j) (nat_cmp w w))) (below b c lt)

  by_part : (b i j : ℕ) → i < j → save_order (id b i) (id b j) ≡ Less
  by_part b i j lt =
      ap (λ (r : Ordering). ordering_then r (ordering_then (nat_cmp b b) (ordering_then (nat_cmp i j) (nat_cmp w w)))) (same o)
      ∙ ap (λ (r : Ordering). ordering_then r (ordering_then (nat_cmp i j) (nat_cmp w w))) (same b)
      ∙ ap (λ (r : Ordering). ordering_then r (nat_cmp w w)) (below i j lt)

-- ---- the list

module _ (plan : Plan) (w : ℕ) where
  in_ascends : (o b : ℕ) → IsStrictlySortedBy save_order (saves_in plan w o b)
  in_ascends o b = sorted_numbers save_order (id o w b) 0 (number plan o b) (by_part o w b)

  in_of : (o b : ℕ) → AllByRecursion (λ (x : SaveId). x.op ≡ o) (saves_in plan w o b)
  in_of o b = all_numbers (λ (x : SaveId). x.op ≡ o) (id o w b) 0 (number plan o b) (λ i le. refl)

  -- of the epoch that begins behind the window, where there is one
  next_ascends : (o : ℕ) (t : Bool) → IsStrictlySortedBy save_order (cond t (saves_in plan w o w) [])
  next_ascends o true = in_ascends o w
  next_ascends o false = sorted_none save_order

  next_of : (o : ℕ) (t : Bool) → AllByRecursion (λ (x : SaveId). x.op ≡ o) (cond t (saves_in plan w o w) [])
  next_of o true = in_of o w
  next_of o false = tt

  next_above : (o b i : ℕ) (t : Bool) → b < w → AllByRecursion (λ y. save_order (id o w b i) y ≡ Less) (cond t (saves_in plan w o w) [])
  next_above o b i true lt = all_numbers (λ y. save_order (id o w b i) y ≡ Less) (id o w w) 0 (number plan o w) (λ j le. by_boundary o w b w i j lt)
  next_above o b i false lt = tt

  after_of : (o : ℕ) → AllByRecursion (λ (x : SaveId). x.op ≡ o) (saves_after plan w o)
  after_of o = all_append (λ (x : SaveId). x.op ≡ o) (saves_in plan w o (boundary_at plan o w)) (cond (is_split_at plan o w) (saves_in plan w o w) []) (in_of o (boundary_at plan o w)) (next_of o (is_split_at plan o w))

  module _ (positive : 0 < w) where
    before : (o : ℕ) → boundary_at plan o w < w
    before o = elim (boundary_is o w plan.lines) [
      | inl first ↦ omega (arith, first, positive)
      | inr at ↦ at.4
    ]

    after_ascends : (o : ℕ) → IsStrictlySortedBy save_order (saves_after plan w o)
    after_ascends o =
        let b = boundary_at plan o w in
        sorted_append save_order (saves_in plan w o b) (cond (is_split_at plan o w) (saves_in plan w o w) []) (in_ascends o b) (next_ascends o (is_split_at plan o w))
        (all_numbers (λ x. AllByRecursion (λ y. save_order x y ≡ Less) (cond (is_split_at plan o w) (saves_in plan w o w) [])) (id o w b) 0 (number plan o b)
        (λ i le. next_above o b i (is_split_at plan o w) (before o)))

    lists_ascend : IsStrictlySortedBy save_order (flat_map (saves_after plan w) (range_with_len 0 (length plan.operators)))
    lists_ascend = sorted_lists save_order (λ o (x : SaveId). x.op ≡ o) (saves_after plan w) 0 (length plan.operators) after_ascends after_of
        (λ i j x y lt here there. by_op x y (omega (arith, lt, here, there)))

all_ascend : (plan : Plan) (w : ℕ) (t : Bool) → t ≡ nat_lt 0 w → IsStrictlySortedBy save_order (cond t (flat_map (saves_after plan w) (range_with_len 0 (length plan.operators))) [])
all_ascend plan w false is = sorted_none save_order
all_ascend plan w true is = lists_ascend plan w (leb-true 1 w (sym is))

pub last-saves-ascend : LastSavesAscend
last-saves-ascend plan = all_ascend plan (last_checkpoint plan plan.windows) (nat_lt 0 (last_checkpoint plan plan.windows)) refl
