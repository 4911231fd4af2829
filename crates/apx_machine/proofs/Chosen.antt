-- What is chosen may come next.
use Rattle.std.proofs.Common.{◌≡◌, ℕ, zero, suc, ◌<◌, inl, inr, Bool, true, false, cond, List, [], ◌∷◌, length, get_or, Option, Some, refl, sym, subst, arith}
use Rattle.std.specs.Prelude.{IfSome}
use Rattle.apx_history.specs.declared.Event.{Event}
use Rattle.apx_history.specs.Plan.{Plan}
use Rattle.apx_history.specs.State.{State}
use Rattle.apx_history.specs.Enabled.{can}
use Rattle.apx_history.specs.Choices.{choices, Among}
use Rattle.apx_history.proofs.Listed.{choices-exact}
use Rattle.apx_machine.specs.Picked.{may_do, first_that, first_for}

among_at : (xs : List Event) (k : ℕ) (d : Event) → k < length xs → Among (get_or xs k d) xs
among_at [] k d h = absurd (omega arith)
among_at (x ∷ xs) zero d h = inl refl
among_at (x ∷ xs) (suc k) d h = inr (among_at xs k d (omega arith))

pub pick_can : (plan : Plan) (m : State) (k : ℕ) (d e : Event) → e ≡ get_or (choices plan m) k d → k < length (choices plan m) → can plan m e ≡ true
pick_can plan m k d e is h = subst (λ (x : Event). can plan m x ≡ true) (sym is)
    (((choices-exact plan m (get_or (choices plan m) k d)).0 (among_at (choices plan m) k d h)).0)

-- what holds of the first member that passes
first_has : (P : Event → Type 0) (p : Event → Bool) (xs : List Event) → ((x : Event) → Among x xs → p x ≡ true → P x) → IfSome (first_that p xs) P
unfolding first_that
first_has P p [] h = tt
first_has P p (x ∷ xs) h = by (p x) (λ t. h x (inl refl) t) (first_has P p xs (λ y a t. h y (inr a) t))
  where
    by : (b : Bool) → (b ≡ true → P x) → IfSome (first_that p xs) P → IfSome (cond b (Some x) (first_that p xs)) P
    by true f g = f refl
    by false f g = g

pub first_can : (plan : Plan) (m : State) (worker : ℕ) (claim : Option (ℕ × ℕ)) (found : Option Event) → found ≡ first_for plan m worker claim → IfSome found (λ e. can plan m e ≡ true)
first_can plan m worker claim found is = subst (λ (o : Option Event). IfSome o (λ e. can plan m e ≡ true)) (sym is)
    (first_has (λ e. can plan m e ≡ true) (may_do plan m worker claim) (choices plan m) (λ x a t. ((choices-exact plan m x).0 a).0))

pub first_may : (plan : Plan) (m : State) (worker : ℕ) (claim : Option (ℕ × ℕ)) (found : Option Event) → found ≡ first_for plan m worker claim → IfSome found (λ e. may_do plan m worker claim e ≡ true)
first_may plan m worker claim found is = subst (λ (o : Option Event). IfSome o (λ e. may_do plan m worker claim e ≡ true)) (sym is)
    (first_has (λ e. may_do plan m worker claim e ≡ true) (may_do plan m worker claim) (choices plan m) (λ x a t. t))
