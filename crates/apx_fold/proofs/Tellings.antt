-- Kinds that tell each tuple by itself.
use Rattle.std.proofs.Common.{◌≡◌, ℕ, ℤ, ◌+◌, ◌<◌, ◌&&◌, Bool, true, false, cond, List, [], ◌∷◌, ◌++◌, map, take, length, get_or, int_le, None, refl, sym, ap, ◌∙◌, append_assoc}
use Rattle.std.specs.Int.{int_wrapping_mul, w64}
use Rattle.std.specs.List.{filter, flat_map}
use Rattle.std.specs.Map.{keys_of}
use Rattle.std.proofs.lemmas.List.{take_more}
use Rattle.std.proofs.lemmas.List.Concat.{flat_map-append}
use Rattle.apx_tuple.specs.declared.kind.Kind.{Kind}
use Rattle.apx_tuple.specs.declared.kind.Kind.TheVariants.{Keep, Scale, Words, Prefix, Count, Sum, Peak, First, Tumble, Match, Enrich, Top}
use Rattle.apx_tuple.specs.declared.tuple.Tuple.{Tuple}
use Rattle.apx_tuple.specs.State.{Pair}
use Rattle.apx_tuple.specs.Tuple.{tuple_key, bag_of}
use Rattle.apx_rules.specs.Parts.{cut_bag}
use Rattle.apx_rules.specs.Rule.{rule, tuples_of, words_of}
use Rattle.apx_rules.specs.Step.{step, step_keys}
use Rattle.apx_step.proofs.Closing.{entries_at-none}
use Rattle.apx_step.proofs.EachTuple.{by_tuple}
use Rattle.apx_fold.specs.Telling.{tells_each, told_of}
use Rattle.apx_fold.proofs.Cuts.{cut-bag_of, cut-append}
use Rattle.apx_fold.proofs.Sums.{made-of-bag}

kept-more : (p : ℤ → Bool) (k : List ℕ) (v : ℤ) (vs : List ℤ) → tuples_of k (filter p (v ∷ vs)) ≡ cond (p v) (record { key = k; value = v } ∷ []) [] ++ tuples_of k (filter p vs)
kept-more p k v vs = by (p v)
  where
    by : (b : Bool) → tuples_of k (cond b (v ∷ filter p vs) (filter p vs)) ≡ cond b (record { key = k; value = v } ∷ []) [] ++ tuples_of k (filter p vs)
    by true = refl
    by false = refl

-- nothing is kept, and what is told of each tuple is the rows
telling-step : (kind : Kind) → tells_each kind ≡ true → (window : ℕ) (state : List Pair) (left right : List Tuple) →
    step kind window state left right ≡ record { state = []; rows = bag_of (flat_map (told_of kind) left) }
unfolding step rule told_of
telling-step (Keep min max) t window state left right =
    let p : ℤ → Bool = λ v. int_le min v && int_le v max in
    let rows = by_tuple (λ k vs. tuples_of k (filter p vs)) (told_of (Keep min max)) (λ k. refl) (kept-more p) left (keys_of state) (map tuple_key right) in
    λ i. record { state = entries_at-none (λ key. None) (step_keys state left right) (λ k. refl) i; rows = rows i }
telling-step (Scale factor) t window state left right =
    let rows = by_tuple (λ k vs. tuples_of k (map (λ v. int_wrapping_mul w64 v factor) vs)) (told_of (Scale factor)) (λ k. refl) (λ k v vs. refl) left (keys_of state) (map tuple_key right) in
    λ i. record { state = entries_at-none (λ key. None) (step_keys state left right) (λ k. refl) i; rows = rows i }
telling-step Words t window state left right =
    let rows = by_tuple (λ k vs. flat_map (λ v. map (λ word. record { key = word; value = v }) (words_of k)) vs) (told_of Words) (λ k. refl) (λ k v vs. refl) left (keys_of state) (map tuple_key right) in
    λ i. record { state = entries_at-none (λ key. None) (step_keys state left right) (λ k. refl) i; rows = rows i }
telling-step (Prefix len) t window state left right =
    let rows = by_tuple (λ k vs. tuples_of (take len k) vs) (told_of (Prefix len)) (λ k. refl) (λ k v vs. refl) left (keys_of state) (map tuple_key right) in
    λ i. record { state = entries_at-none (λ key. None) (step_keys state left right) (λ k. refl) i; rows = rows i }
telling-step Count t window state left right = cc
telling-step Sum t window state left right = cc
telling-step Peak t window state left right = cc
telling-step First t window state left right = cc
telling-step (Tumble every) t window state left right = cc
telling-step Match t window state left right = cc
telling-step Enrich t window state left right = cc
telling-step (Top k) t window state left right = cc

-- whatever the order in which they came
pub told-step : (kind : Kind) → tells_each kind ≡ true → (n i window : ℕ) (state : List Pair) (lefts rights : List Tuple) →
    step kind window state (cut_bag n i (bag_of lefts)) (cut_bag n i (bag_of rights)) ≡ record { state = []; rows = bag_of (flat_map (told_of kind) (cut_bag n i lefts)) }
told-step kind t n i window state lefts rights =
    telling-step kind t window state (cut_bag n i (bag_of lefts)) (cut_bag n i (bag_of rights))
    ∙ (λ j. record { state = []; rows = (ap (λ (ts : List Tuple). bag_of (flat_map (told_of kind) ts)) (cut-bag_of n i lefts) ∙ made-of-bag (told_of kind) (cut_bag n i lefts)) j })

-- ---- what is told of one tuple more

module _ (make : Tuple → List Tuple) (n i : ℕ) (first before now : List Tuple) where
  -- behind those that came
  pub told_behind : (ts : List Tuple) (t : Tuple) → before ≡ first ++ flat_map make (cut_bag n i ts) → now ≡ before ++ flat_map make (cut_bag n i (t ∷ [])) →
      now ≡ first ++ flat_map make (cut_bag n i (ts ++ t ∷ []))
  told_behind ts t was is =
      is ∙ ap (λ (l : List Tuple). l ++ flat_map make (cut_bag n i (t ∷ []))) was ∙ append_assoc first (flat_map make (cut_bag n i ts)) (flat_map make (cut_bag n i (t ∷ [])))
      ∙ ap (λ (l : List Tuple). first ++ l) (sym (flat_map-append make (cut_bag n i ts) (cut_bag n i (t ∷ []))) ∙ ap (flat_map make) (sym (cut-append n i ts (t ∷ []))))

  -- at a place of a list
  pub told_next : (ts : List Tuple) (k : ℕ) (t : Tuple) → k < length ts → t ≡ get_or ts k t → before ≡ first ++ flat_map make (cut_bag n i (take k ts)) → now ≡ before ++ flat_map make (cut_bag n i (t ∷ [])) →
      now ≡ first ++ flat_map make (cut_bag n i (take (k + 1) ts))
  told_next ts k t within at was is =
      told_behind (take k ts) t was is
      ∙ ap (λ (l : List Tuple). first ++ flat_map make (cut_bag n i l)) (sym (take_more ts k t within ∙ ap (λ (u : Tuple). take k ts ++ u ∷ []) (sym at)))
