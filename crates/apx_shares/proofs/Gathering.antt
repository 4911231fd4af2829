-- Gathering within a group of windows, by partitions and as a whole.
use Rattle.std.proofs.Common.{◌≡◌, ℕ, ◌+◌, ◌≤◌, ◌/◌, ◌%◌, ◌==◌, zero, suc, Bool, true, false, cond, List, [], ◌∷◌, ◌++◌, map, take, refl, sym, ap, ◌∙◌}
use Rattle.std.proofs.Math.Seq.{take-nil}
use Rattle.std.specs.List.{flat_map, range_with_len}
use Rattle.apx_order.specs.Sorted.{sorted}
use Rattle.apx_codec.specs.KeyNumber.{owner_of}
use Rattle.apx_tuple.specs.declared.kind.Kind.{Kind}
use Rattle.apx_tuple.specs.declared.kind.Kind.TheVariants.{Top}
use Rattle.apx_tuple.specs.declared.progress.Progress.{Progress}
use Rattle.apx_tuple.specs.declared.tuple.Tuple.{Tuple}
use Rattle.apx_tuple.specs.State.{Pair}
use Rattle.apx_tuple.specs.Tuple.{bag_of}
use Rattle.apx_rules.specs.Parts.{cut_bag, cut_state, of_parts, unify, merge_bags}
use Rattle.apx_rules.specs.Step.{Stepped, step, top_of, rank_order}
use Rattle.apx_pass.specs.Pass.{Passed, gather}
use Rattle.apx_shares.specs.Carried.{cut_progress}
use Rattle.apx_shares.specs.Laws.{GatheredKeepCuts, GatheredUnify}
use Rattle.apx_shares.proofs.Cuts.{cut-gathered}
use Rattle.apx_shares.proofs.Steps.{parts-keep-cuts}
use Rattle.apx_shares.proofs.Tops.{parts-unify}

-- nothing of each partition is nothing
no-parts : (a n : ℕ) → flat_map (λ (part : List Tuple). part) (map (λ _. []) (range_with_len a n)) ≡ []
no-parts a zero = refl
no-parts a (suc n) = no-parts (a + 1) n

no-top : (k : ℕ) → top_of k [] ≡ []
unfolding sorted
no-top k = ap bag_of (take-nil {A = Tuple} k)

pub nothing-merges : (n : ℕ) → merge_bags (of_parts n (λ _. [])) ≡ []
unfolding sorted
nothing-merges n = ap bag_of (no-parts 0 n)

pub nothing-unifies : (kind : Kind) (n : ℕ) → unify kind (of_parts n (λ _. [])) ≡ []
unfolding unify
nothing-unifies (Top k) n = ap (top_of k) (nothing-merges n) ∙ no-top k
nothing-unifies kind n = nothing-merges n

module _ (n : ℕ) (kind : Kind) (app_windows w : ℕ) (progress : Progress) (left right : List Tuple) where
  -- what was gathered on each port
  abbrev lefts : List Tuple
  lefts = bag_of (progress.left ++ left)

  abbrev rights : List Tuple
  rights = bag_of (progress.right ++ right)

  abbrev whole : Stepped
  whole = step kind (w / app_windows) progress.state lefts rights

  -- a partition steps on its cuts of it
  part-step : (i : ℕ) → step kind (w / app_windows) (cut_state n i progress.state) (bag_of (cut_bag n i progress.left ++ cut_bag n i left)) (bag_of (cut_bag n i progress.right ++ cut_bag n i right))
      ≡ step kind (w / app_windows) (cut_state n i progress.state) (cut_bag n i lefts) (cut_bag n i rights)
  part-step i = λ j. step kind (w / app_windows) (cut_state n i progress.state) (cut-gathered (owner_of n) i progress.left left j) (cut-gathered (owner_of n) i progress.right right j)

  abbrev stepped : Stepped → Passed
  stepped s = record { progress = record { state = s.state; left = []; right = [] }; rows = s.rows }

  kept : (i : ℕ) (b : Bool) →
      (cond b (stepped (step kind (w / app_windows) (cut_state n i progress.state) (bag_of (cut_bag n i progress.left ++ cut_bag n i left)) (bag_of (cut_bag n i progress.right ++ cut_bag n i right))))
      (record { progress = record { state = cut_state n i progress.state; left = bag_of (cut_bag n i progress.left ++ cut_bag n i left); right = bag_of (cut_bag n i progress.right ++ cut_bag n i right) }; rows = [] })).progress
      ≡ cut_progress n i (cond b (stepped whole) (record { progress = record { state = progress.state; left = lefts; right = rights }; rows = [] })).progress
  kept i true =
      let state = ap (λ (s : Stepped). s.state) (part-step i) ∙ parts-keep-cuts n i kind (w / app_windows) progress.state lefts rights in
      λ j. record { state = state j; left = []; right = [] }
  kept i false = λ j. record { state = cut_state n i progress.state; left = cut-gathered (owner_of n) i progress.left left j; right = cut-gathered (owner_of n) i progress.right right j }

  given : 1 ≤ n → (b : Bool) →
      unify kind (of_parts n (λ i. (cond b (stepped (step kind (w / app_windows) (cut_state n i progress.state) (bag_of (cut_bag n i progress.left ++ cut_bag n i left)) (bag_of (cut_bag n i progress.right ++ cut_bag n i right))))
      (record { progress = record { state = cut_state n i progress.state; left = bag_of (cut_bag n i progress.left ++ cut_bag n i left); right = bag_of (cut_bag n i progress.right ++ cut_bag n i right) }; rows = [] })).rows))
      ≡ (cond b (stepped whole) (record { progress = record { state = progress.state; left = lefts; right = rights }; rows = [] })).rows
  given h true = (λ j. unify kind (of_parts n (λ i. (part-step i j).rows))) ∙ parts-unify n h kind (w / app_windows) progress.state lefts rights
  given h false = nothing-unifies kind n

pub gathered-keep-cuts : GatheredKeepCuts
unfolding gather
gathered-keep-cuts n i kind app_windows w progress left right = kept n kind app_windows w progress left right i (w % app_windows == 0)

pub gathered-unify : GatheredUnify
unfolding gather
gathered-unify n h kind app_windows w progress left right = given n kind app_windows w progress left right h (w % app_windows == 0)
