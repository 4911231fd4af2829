-- What is made of what was gathered, at a window that ends a group and at another.
use Rattle.std.proofs.Common.{◌≡◌, ◌≢◌, ℕ, ◌+◌, ◌≤◌, ◌/◌, ◌%◌, ◌==◌, Bool, true, false, cond, List, [], ◌++◌, ◌⊎◌, inl, inr, refl, sym, ap, subst, ◌∙◌, arith}
use borrow.Author.Tests.{eqb-true}
use Rattle.apx_tuple.specs.declared.kind.Kind.{Kind}
use Rattle.apx_tuple.specs.declared.progress.Progress.{Progress}
use Rattle.apx_tuple.specs.declared.tuple.Tuple.{Tuple}
use Rattle.apx_tuple.specs.Progress.{IsLargeProgress}
use Rattle.apx_tuple.specs.Size.{IsLarge}
use Rattle.apx_tuple.specs.State.{Pair, pair_key}
use Rattle.apx_tuple.specs.Tuple.{bag_of, tuple_key}
use Rattle.apx_pass.specs.Pass.{Passed, gather}
use Rattle.apx_rules.specs.Step.{Stepped, step}
use Rattle.apx_part.specs.Gathered.{gathered}

-- what is made of a step
abbrev pub after_step : Stepped → Passed
after_step s = record { progress = record { state = s.state; left = []; right = [] }; rows = s.rows }

choose : (b : Bool) (n : ℕ) (x y : Passed) → (n == 0) ≡ b → n ≢ 0 → cond b x y ≡ y
choose true n x y e h = absurd (h (eqb-true n 0 e))
choose false n x y e h = refl

module _ (kind : Kind) (app_windows w : ℕ) (state : List Pair) (left right : List Tuple) where
  pub gathered-steps : w % app_windows ≡ 0 → gathered kind app_windows w state left right ≡ after_step (step kind (w / app_windows) state left right)
  unfolding gathered
  gathered-steps h = ap (λ n. cond (n == 0) (after_step (step kind (w / app_windows) state left right)) (record { progress = record { state = state; left = left; right = right }; rows = [] })) h

  pub gathered-carries : w % app_windows ≢ 0 → gathered kind app_windows w state left right ≡ record { progress = record { state = state; left = left; right = right }; rows = [] }
  unfolding gathered
  gathered-carries h = choose (w % app_windows == 0) (w % app_windows) _ _ refl h

-- what is too large of a step is too large of what is carried on or given
pub large-step : (s : Stepped) (passed : Passed) → passed ≡ after_step s → IsLarge pair_key s.state ⊎ IsLarge tuple_key s.rows → IsLargeProgress passed.progress ⊎ IsLarge tuple_key passed.rows
large-step s passed e large = subst (λ (x : Passed). IsLargeProgress x.progress ⊎ IsLarge tuple_key x.rows) (sym e) (by large)
  where
    by : IsLarge pair_key s.state ⊎ IsLarge tuple_key s.rows → IsLargeProgress (after_step s).progress ⊎ IsLarge tuple_key (after_step s).rows
    by (inl l) = inl (omega (arith, l))
    by (inr r) = inr r

-- gathering is joining what comes to what was gathered
pub gather-gathered : (kind : Kind) (app_windows w : ℕ) (progress : Progress) (left right : List Tuple) →
    gathered kind app_windows w progress.state (bag_of (progress.left ++ left)) (bag_of (progress.right ++ right)) ≡ gather kind app_windows w progress left right
unfolding gathered gather
gather-gathered kind app_windows w progress left right = refl
