-- The list of choices, row by row; and the bounds within which its numbers fit.
use Rattle.std.proofs.Common.{◌≡◌, ℕ, suc, ◌+◌, ◌≤◌, Bool, List, [], ◌∷◌, ◌++◌, sym, ap, subst, ◌∙◌, append_assoc, append-nil, arith}
use Rattle.std.specs.List.{filter}
use Rattle.std.proofs.lemmas.List.Elements.{filter-append}
use Rattle.apx_history.specs.Plan.{Plan}
use Rattle.apx_history.specs.State.{State, slot, IsPart}
use Rattle.apx_history.specs.Choices.{list_below, lists_below}
use Rattle.apx_history.specs.Kept.{Kept}
use Rattle.apx_history.proofs.Lines.{limit-start}
use Rattle.apx_machine.specs.Small.{IsSmall}

module _ {X : Type 0} (p : X → Bool) where
  pub none_listed : (f : ℕ → X) (old : List X) → old ≡ old ++ filter p (list_below 0 f)
  unfolding list_below
  none_listed f old = sym (append-nil old)

  pub one_listed : (f : ℕ → X) (k : ℕ) (old xs ys : List X) → xs ≡ old ++ filter p (list_below k f) → ys ≡ xs ++ filter p (f k ∷ []) → ys ≡ old ++ filter p (list_below (k + 1) f)
  unfolding list_below
  one_listed f k old xs ys e g =
      let s : suc k ≡ k + 1 = omega arith in
      subst (λ (n : ℕ). ys ≡ old ++ filter p (list_below n f)) s
      (g ∙ ap (λ zs. zs ++ filter p (f k ∷ [])) e ∙ append_assoc old (filter p (list_below k f)) (filter p (f k ∷ [])) ∙ ap (λ zs. old ++ zs) (sym (filter-append p (list_below k f) (f k ∷ []))))

  pub no_lists : (f : ℕ → List X) (old : List X) → old ≡ old ++ filter p (lists_below 0 f)
  unfolding lists_below
  no_lists f old = sym (append-nil old)

  pub one_list : (f : ℕ → List X) (k : ℕ) (old xs ys : List X) → xs ≡ old ++ filter p (lists_below k f) → ys ≡ xs ++ filter p (f k) → ys ≡ old ++ filter p (lists_below (k + 1) f)
  unfolding lists_below
  one_list f k old xs ys e g =
      let s : suc k ≡ k + 1 = omega arith in
      subst (λ (n : ℕ). ys ≡ old ++ filter p (lists_below n f)) s
      (g ∙ ap (λ zs. zs ++ filter p (f k)) e ∙ append_assoc old (filter p (lists_below k f)) (filter p (f k)) ∙ ap (λ zs. old ++ zs) (sym (filter-append p (lists_below k f) (f k))))

pub at_small : (plan : Plan) (m : State) → IsSmall plan → Kept plan m → (o i : ℕ) → IsPart m o i → (slot m o i).at ≤ 20000
at_small plan m small kept o i r =
    let a = (kept.each o i r).at in
    let b = limit-start o plan.lines m.left plan.windows in
    let c = small.windows in
    omega arith

pub stored_small : (plan : Plan) (m : State) → IsSmall plan → Kept plan m → m.stored ≤ 20000
stored_small plan m small kept = let a = kept.stored in let b = small.windows in omega arith
