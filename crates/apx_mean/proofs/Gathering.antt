-- The two cases of what an operator makes of a window: it steps, or it carries what came.
use Rattle.std.proofs.Common.{◌≡◌, ◌≢◌, ◌<◌, ◌≤◌, ℕ, ◌+◌, ◌%◌, ◌/◌, ◌==◌, ◌∷◌, Bool, true, false, cond, List, [], ◌++◌, ◌⊎◌, inl, inr, refl, sym, ap, ◌∙◌, subst, arith}
use Rattle.std.specs.List.{filter}
use borrow.Author.Tests.{eqb-true}
use Rattle.apx_codec.specs.KeyNumber.{hash_of, number_owner}
use Rattle.apx_order.specs.Sorted.{times}
use Rattle.apx_order.proofs.Sorting.{times-append, sorted-times, sorted-ascends, same-by-times}
use Rattle.apx_tuple.specs.declared.kind.Kind.{Kind}
use Rattle.apx_tuple.specs.declared.progress.Progress.{Progress}
use Rattle.apx_tuple.specs.declared.tuple.Tuple.{Tuple}
use Rattle.apx_tuple.specs.Progress.{IsLargeProgress}
use Rattle.apx_tuple.specs.Size.{IsLarge}
use Rattle.apx_tuple.specs.State.{Pair}
use Rattle.apx_tuple.specs.Tuple.{bag_of, tuple_key, tuple_order}
use Rattle.apx_tuple.proofs.Orders.{tuple_order-exact}
use Rattle.apx_tuple.proofs.Sizes.{size_by-bag_of}
use Rattle.apx_rules.specs.Parts.{cut_bag}
use Rattle.apx_rules.specs.Step.{step, Stepped}
use Rattle.apx_fold.specs.Folding as fold
use Rattle.apx_fold.specs.Folding.{Partition, IsTooLarge}
use Rattle.apx_pass.specs.Large.{IsLargePassed}
use Rattle.apx_pass.specs.Pass.{Passed, gather}
use Rattle.apx_mean.specs.Views.{carry, IsLargeStep}

-- what an operator makes of a window of a step
abbrev pub after_step : Stepped → Passed
after_step s = record { progress = record { state = s.state; left = []; right = [] }; rows = s.rows }

choose : (b : Bool) (n : ℕ) (x y : Passed) → (n == 0) ≡ b → n ≢ 0 → cond b x y ≡ y
choose true n x y e h = absurd (h (eqb-true n 0 e))
choose false n x y e h = refl

module _ (kind : Kind) (app_windows w : ℕ) (before : Progress) (left right : List Tuple) where
  pub gather-steps : w % app_windows ≡ 0 → gather kind app_windows w before left right ≡ after_step (step kind (w / app_windows) before.state (bag_of (before.left ++ left)) (bag_of (before.right ++ right)))
  unfolding gather
  gather-steps h = ap (λ n. cond (n == 0) (after_step (step kind (w / app_windows) before.state (bag_of (before.left ++ left)) (bag_of (before.right ++ right)))) (record { progress = carry before left right; rows = [] })) h

  pub gather-carries : w % app_windows ≢ 0 → gather kind app_windows w before left right ≡ record { progress = carry before left right; rows = [] }
  unfolding gather
  gather-carries h = choose (w % app_windows == 0) (w % app_windows) _ _ refl h

-- ---- tuples in any order

-- behind others it doesn't count in which order they came
pub bag-onto : (before tuples rows : List Tuple) → bag_of tuples ≡ rows → bag_of (before ++ tuples) ≡ bag_of (before ++ rows)
bag-onto before tuples rows is =
    same-by-times tuple_order-exact (bag_of (before ++ tuples)) (bag_of (before ++ rows)) (sorted-ascends tuple_order-exact (before ++ tuples)) (sorted-ascends tuple_order-exact (before ++ rows))
    (λ t. sorted-times tuple_order t (before ++ tuples) ∙ times-append tuple_order t before tuples
    ∙ ap (λ n. times tuple_order t before + n) (sym (sorted-times tuple_order t tuples) ∙ ap (times tuple_order t) is)
    ∙ sym (times-append tuple_order t before rows) ∙ sym (sorted-times tuple_order t (before ++ rows)))

-- nor whether they come first
pub bag-joined : (before tuples rows all : List Tuple) → bag_of tuples ≡ rows → all ≡ tuples ++ before → bag_of all ≡ bag_of (before ++ rows)
bag-joined before tuples rows all is joined =
    ap bag_of joined
    ∙ same-by-times tuple_order-exact (bag_of (tuples ++ before)) (bag_of (before ++ tuples)) (sorted-ascends tuple_order-exact (tuples ++ before)) (sorted-ascends tuple_order-exact (before ++ tuples))
    (λ t. sorted-times tuple_order t (tuples ++ before) ∙ omega (arith, times-append tuple_order t tuples before, times-append tuple_order t before tuples) ∙ sym (sorted-times tuple_order t (before ++ tuples)))
    ∙ bag-onto before tuples rows is

-- no tuples are too few to be too large
pub none-large : IsLarge tuple_key (bag_of []) → ⊥
none-large large = absurd (omega (arith, large, size_by-bag_of []))

-- ---- an operator that has one partition

one-part : (number : ℕ) → number_owner 1 number ≡ 0
one-part number = omega arith

cut-one : (ts : List Tuple) → cut_bag 1 0 ts ≡ ts
cut-one [] = refl
cut-one (t ∷ ts) = rw (one-part (hash_of t.key)) (ap (λ (l : List Tuple). t ∷ l) (cut-one ts))

-- its partition's step is its own
pub step-of-one : (part : Partition) (kind : Kind) (window : ℕ) (state : List Pair) (lefts rights : List Tuple) → part ≡ record { kind = kind; n = 1; i = 0 } →
    fold.stepped part window state lefts rights ≡ step kind window state (bag_of lefts) (bag_of rights)
step-of-one part kind window state lefts rights is =
    ap (λ (p : Partition). fold.stepped p window state lefts rights) is
    ∙ (λ j. step kind window state (cut-one (bag_of lefts) j) (cut-one (bag_of rights) j))

-- what is too large for it
pub large-of-one : (given other : Stepped) (lefts rights : List Tuple) → given ≡ other → IsTooLarge given lefts rights →
    IsLarge tuple_key (bag_of lefts) ⊎ IsLarge tuple_key (bag_of rights) ⊎ IsLargeStep other
large-of-one given other lefts rights is (inl large) = inl large
large-of-one given other lefts rights is (inr (inl large)) = inr (inl large)
large-of-one given other lefts rights is (inr (inr large)) = inr (inr (subst IsLargeStep is large))

-- of the left port alone
pub only-left : (lefts rights : List Tuple) → IsLarge tuple_key (bag_of lefts) ⊎ IsLarge tuple_key (bag_of []) → IsLarge tuple_key (bag_of lefts) ⊎ IsLarge tuple_key (bag_of rights)
only-left lefts rights (inl large) = inl large
only-left lefts rights (inr large) = absurd (none-large large)

pub ports-of-one : (given : Stepped) (lefts rights : List Tuple) → IsLarge tuple_key (bag_of lefts) ⊎ IsLarge tuple_key (bag_of rights) →
    IsLarge tuple_key (bag_of lefts) ⊎ IsLarge tuple_key (bag_of rights) ⊎ IsLargeStep given
ports-of-one given lefts rights (inl large) = inl large
ports-of-one given lefts rights (inr large) = inr (inl large)

-- what is too large of a step is too large of what is carried on and given then
pub large-step : (s : Stepped) → IsLargeStep s → IsLargeProgress (after_step s).progress ⊎ IsLarge tuple_key (after_step s).rows
large-step s (inl state) = inl (omega arith)
large-step s (inr rows) = inr rows

-- ---- what is made of a window, and what is too large of it

module _ (kind : Kind) (app_windows w : ℕ) (before : Progress) (left right lefts rights : List Tuple)
    (l : bag_of lefts ≡ bag_of (before.left ++ left)) (r : bag_of rights ≡ bag_of (before.right ++ right)) where
  pub ports-large : IsLarge tuple_key (bag_of lefts) ⊎ IsLarge tuple_key (bag_of rights) → IsLargePassed before left right (gather kind app_windows w before left right)
  ports-large (inl large) = record { is = inl (subst (IsLarge tuple_key) l large) }
  ports-large (inr large) = record { is = inr (inl (subst (IsLarge tuple_key) r large)) }

  given : w % app_windows ≡ 0 → after_step (step kind (w / app_windows) before.state (bag_of lefts) (bag_of rights)) ≡ gather kind app_windows w before left right
  given h = (λ j. after_step (step kind (w / app_windows) before.state (l j) (r j))) ∙ sym (gather-steps kind app_windows w before left right h)

  -- what it makes of the tuples as they are
  pub carries : w % app_windows ≢ 0 → gather kind app_windows w before left right ≡ record { progress = record { state = before.state; left = bag_of lefts; right = bag_of rights }; rows = [] }
  carries h = gather-carries kind app_windows w before left right h ∙ (λ j. record { progress = record { state = before.state; left = sym l j; right = sym r j }; rows = [] })

  pub steps : w % app_windows ≡ 0 → gather kind app_windows w before left right ≡ after_step (step kind (w / app_windows) before.state (bag_of lefts) (bag_of rights))
  steps h = sym (given h)

  pub steps-large : w % app_windows ≡ 0 → IsLarge tuple_key (bag_of lefts) ⊎ IsLarge tuple_key (bag_of rights) ⊎ IsLargeStep (step kind (w / app_windows) before.state (bag_of lefts) (bag_of rights)) →
      IsLargePassed before left right (gather kind app_windows w before left right)
  steps-large h (inl large) = ports-large (inl large)
  steps-large h (inr (inl large)) = ports-large (inr large)
  steps-large h (inr (inr large)) = record {
    is = inr (inr (subst (λ (p : Passed). IsLargeProgress p.progress ⊎ IsLarge tuple_key p.rows) (given h) (large-step (step kind (w / app_windows) before.state (bag_of lefts) (bag_of rights)) large)));
  }
