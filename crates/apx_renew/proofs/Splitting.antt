-- What partitions own, cut and put together.
use Rattle.std.proofs.Common.{◌≡◌, ℕ, zero, suc, ◌+◌, ◌<◌, ◌≤◌, ◌==◌, inl, inr, Bool, true, false, cond, List, [], ◌∷◌, ◌++◌, length, map, get_or, refl, sym, ap, subst, ◌∙◌, arith}
use Rattle.std.specs.List.{filter, range_with_len}
use Rattle.std.proofs.Math.ListN.{get_or-map, get_or-append}
use Rattle.std.proofs.Math.Seq.{get_or-append_seam}
use Rattle.std.proofs.lemmas.Bool.{cases_lt}
use Rattle.std.proofs.lemmas.List.FromFn.{get_or-map-range_with_len, map-range_with_len_more}
use Rattle.apx_codec.specs.KeyNumber.{owner_of}
use Rattle.apx_pass.specs.Pass.{at_start}
use Rattle.apx_rules.specs.Parts.{of_parts}
use Rattle.apx_shares.specs.Carried.{cut_progress, merge_progress}
use Rattle.apx_shares.specs.Laws.{IsOrdered}
use Rattle.apx_shares.proofs.Merging.{cuts-merge}
use Rattle.apx_split.proofs.Joining.{size-filter}
use Rattle.apx_tuple.specs.declared.progress.Progress.{Progress}
use Rattle.apx_tuple.specs.declared.tuple.Tuple.{Tuple}
use Rattle.apx_tuple.specs.Progress.{progress_size}
use Rattle.apx_tuple.specs.State.{Pair, pair_key}
use Rattle.apx_tuple.specs.Tuple.{tuple_key}
use Rattle.apx_renew.specs.Owned.{IsOwn, AreOwn, owned_of, repartitioned}

-- ---- a cut of a cut

filter_twice : {X : Type 0} (p : X → Bool) (xs : List X) → filter p (filter p xs) ≡ filter p xs
filter_twice p [] = refl
filter_twice p (x ∷ xs) = by (p x) refl (filter_twice p xs)
  where
    by : (b : Bool) → p x ≡ b → filter p (filter p xs) ≡ filter p xs → filter p (cond b (x ∷ filter p xs) (filter p xs)) ≡ cond b (x ∷ filter p xs) (filter p xs)
    by true e rest = rw e (ap (λ l. x ∷ l) rest)
    by false e rest = rest

pub cut_twice : (n i : ℕ) (g : Progress) → cut_progress n i (cut_progress n i g) ≡ cut_progress n i g
cut_twice n i g =
    let state = filter_twice (λ (p : Pair). owner_of n p.0 == i) g.state in
    let left = filter_twice (λ (t : Tuple). owner_of n t.key == i) g.left in
    let right = filter_twice (λ (t : Tuple). owner_of n t.key == i) g.right in
    λ j. record { state = state j; left = left j; right = right j }

-- a cut is no larger
pub cut_size : (n i : ℕ) (g : Progress) → progress_size (cut_progress n i g) ≤ progress_size g
cut_size n i g =
    omega (
      arith,
      size-filter pair_key (λ (p : Pair). owner_of n p.0 == i) g.state,
      size-filter tuple_key (λ (t : Tuple). owner_of n t.key == i) g.left,
      size-filter tuple_key (λ (t : Tuple). owner_of n t.key == i) g.right,
    )

-- ---- something of each partition

from_same : {X : Type 0} (f h : ℕ → X) (a n : ℕ) → ((i : ℕ) → i < a + n → f i ≡ h i) → map f (range_with_len a n) ≡ map h (range_with_len a n)
from_same f h a zero same = refl
from_same f h a (suc n) same =
    let first = same a (omega arith) in
    let rest = from_same f h (a + 1) n (λ i high. same i (omega (arith, high))) in
    λ j. first j ∷ rest j

pub parts_same : {X : Type 0} (f h : ℕ → X) (n : ℕ) → ((i : ℕ) → i < n → f i ≡ h i) → of_parts n f ≡ of_parts n h
parts_same f h n same = from_same f h 0 n (λ i high. same i (omega (arith, high)))

-- one partition more
pub parts_more : {X : Type 0} (f : ℕ → X) (xs : List X) (k : ℕ) (x : X) → xs ≡ of_parts k f → x ≡ f k → xs ++ x ∷ [] ≡ of_parts (k + 1) f
parts_more {X} f xs k x is this =
    ap (λ (ys : List X). ys ++ x ∷ []) is ∙ ap (λ (y : X). of_parts k f ++ y ∷ []) this ∙ sym (map-range_with_len_more f 0 k k (omega arith))

-- ---- what each owns

pub own_more : (n : ℕ) (own : List Progress) (k : ℕ) (cut : Progress) → length own ≡ k → ((i : ℕ) → i < k → IsOwn n i (get_or own i at_start).state) → IsOwn n k cut.state
    → (all : List Progress) → all ≡ own ++ cut ∷ [] → (i : ℕ) → i < k + 1 → IsOwn n i (get_or all i at_start).state
own_more n own k cut count each last all joined i lt = elim (cases_lt i k) [
  | inl below ↦
      let e : get_or all i at_start ≡ get_or own i at_start = ap (λ (gs : List Progress). get_or gs i at_start) joined ∙ get_or-append own (cut ∷ []) at_start i (omega (arith, below, count)) in
      subst (λ (g : Progress). IsOwn n i g.state) (sym e) (each i below)
  | inr behind ↦
      let at_end : i ≡ length own = omega (arith, behind, lt, count) in
      let at_k : k ≡ i = omega (arith, at_end, count) in
      let e : get_or all i at_start ≡ cut = ap (λ (gs : List Progress). get_or gs i at_start) joined ∙ ap (λ (j : ℕ). get_or (own ++ cut ∷ []) j at_start) at_end ∙ get_or-append_seam own cut [] at_start in
      subst (λ (g : Progress). IsOwn n i g.state) (sym e) (subst (λ (j : ℕ). IsOwn n j cut.state) at_k last)
]

pub own_states : (n : ℕ) (own : List Progress) → length own ≡ n → ((i : ℕ) → i < n → IsOwn n i (get_or own i at_start).state) → AreOwn n (map (λ g. g.state) own)
own_states n own count each i lt =
    subst (λ (state : List Pair). IsOwn n i state) (sym (get_or-map (λ (g : Progress). g.state) own i at_start))
    (each i (omega (arith, lt, length_map own, count)))
  where
    length_map : (gs : List Progress) → length (map (λ (g : Progress). g.state) gs) ≡ length gs
    length_map [] = refl
    length_map (g ∷ gs) = ap (λ (k : ℕ). suc k) (length_map gs)

-- ---- the whole

-- cuts of what an operator carries are what their partitions own
pub owned_cuts : (parts : List Progress) (g : Progress) → parts ≡ of_parts (length parts) (λ i. cut_progress (length parts) i g) → owned_of parts ≡ of_parts (length parts) (λ i. cut_progress (length parts) i g)
owned_cuts parts g is =
    parts_same (λ (i : ℕ). cut_progress (length parts) i (get_or parts i at_start)) (λ (i : ℕ). cut_progress (length parts) i g) (length parts)
    (λ i lt.
    let e : get_or parts i at_start ≡ cut_progress (length parts) i g = ap (λ (gs : List Progress). get_or gs i at_start) is
    ∙ get_or-map-range_with_len (λ (j : ℕ). cut_progress (length parts) j g) 0 (length parts) i i at_start lt (omega arith) in
    ap (λ (x : Progress). cut_progress (length parts) i x) e ∙ cut_twice (length parts) i g)

-- and come to its cuts in other partitions
pub repartitioned_cuts : (parts : List Progress) (m : ℕ) (g : Progress) → 1 ≤ length parts → IsOrdered g → parts ≡ of_parts (length parts) (λ i. cut_progress (length parts) i g)
    → repartitioned parts m ≡ of_parts m (λ i. cut_progress m i g)
repartitioned_cuts parts m g some ordered is =
    let whole : merge_progress (owned_of parts) ≡ g = ap merge_progress (owned_cuts parts g is) ∙ cuts-merge (length parts) some g ordered in
    ap (λ (x : Progress). of_parts m (λ i. cut_progress m i x)) whole

-- each is small enough where the whole is
pub cuts_small : (m : ℕ) (g : Progress) (cuts : List Progress) → progress_size g < 4294967232 → cuts ≡ of_parts m (λ i. cut_progress m i g)
    → (i : ℕ) → i < m → progress_size (get_or cuts i at_start) < 4294967232
cuts_small m g cuts small is i lt =
    let e : get_or cuts i at_start ≡ cut_progress m i g = ap (λ (gs : List Progress). get_or gs i at_start) is
    ∙ get_or-map-range_with_len (λ (j : ℕ). cut_progress m j g) 0 m i i at_start lt (omega arith) in
    subst (λ (x : Progress). progress_size x < 4294967232) (sym e) (omega (arith, small, cut_size m i g))
