-- The epochs of an operator, one command further.
use Rattle.std.proofs.Common.{◌≡◌, ◌≢◌, ℕ, ◌+◌, ◌<◌, ◌≤◌, ◌==◌, ◌&&◌, max, Bool, true, false, cond, List, ◌∷◌, length, drop, get_or, refl, ap, ◌∙◌, add-one, drop-cons}
use Rattle.std.specs.Prelude.{nat_lt}
use Rattle.std.proofs.lemmas.Bool.{lt-ltb, le-ltb, eq-eqb, ne_eqb}
use Rattle.std.proofs.lemmas.List.{drop_all}
use Rattle.apx_history.specs.declared.Line as command
use Rattle.apx_history.specs.Plan.{boundary_in, number_in, splits_op, count_or}

-- a choice by two tests
both : {X : Type 0} (a b : Bool) (x y : X) → a ≡ true → b ≡ true → cond (a && b) x y ≡ x
both a b x y p q = λ i. cond (p i && q i) x y

not-first : {X : Type 0} (a b : Bool) (x y : X) → a ≡ false → cond (a && b) x y ≡ y
not-first a b x y p = λ i. cond (p i && b) x y

not-second : {X : Type 0} (a b : Bool) (x y : X) → b ≡ false → cond (a && b) x y ≡ y
not-second true b x y q = λ i. cond (q i) x y
not-second false b x y q = refl

module _ (commands : List command.Line) (k : ℕ) (d : command.Line) (within : k < length commands) (o w : ℕ) where
  abbrev here : command.Line
  here = get_or commands k d

  front : drop k commands ≡ here ∷ drop (k + 1) commands
  front = rw add-one (drop-cons commands k d within)

  next : boundary_in (drop k commands) o w ≡ cond (splits_op o here && nat_lt here.window w) (max here.window (boundary_in (drop (k + 1) commands) o w)) (boundary_in (drop (k + 1) commands) o w)
  unfolding boundary_in
  next = ap (λ (cs : List command.Line). boundary_in cs o w) front

  pub boundary-counts : splits_op o here ≡ true → here.window < w → boundary_in (drop k commands) o w ≡ max here.window (boundary_in (drop (k + 1) commands) o w)
  boundary-counts s l = next ∙ both (splits_op o here) (nat_lt here.window w) _ _ s (lt-ltb here.window w l)

  pub boundary-other : splits_op o here ≡ false → boundary_in (drop k commands) o w ≡ boundary_in (drop (k + 1) commands) o w
  boundary-other s = next ∙ not-first (splits_op o here) (nat_lt here.window w) _ _ s

  pub boundary-later : w ≤ here.window → boundary_in (drop k commands) o w ≡ boundary_in (drop (k + 1) commands) o w
  boundary-later l = next ∙ not-second (splits_op o here) (nat_lt here.window w) _ _ (le-ltb here.window w l)

  module _ (n : ℕ) where
    number-next : number_in (drop k commands) o w n ≡ cond (splits_op o here && here.window == w) (count_or n here.act) (number_in (drop (k + 1) commands) o w n)
    unfolding number_in
    number-next = ap (λ (cs : List command.Line). number_in cs o w n) front

    pub number-here : splits_op o here ≡ true → here.window ≡ w → number_in (drop k commands) o w n ≡ count_or n here.act
    number-here s e = number-next ∙ both (splits_op o here) (here.window == w) _ _ s (eq-eqb here.window w e)

    pub number-other : splits_op o here ≡ false → number_in (drop k commands) o w n ≡ number_in (drop (k + 1) commands) o w n
    number-other s = number-next ∙ not-first (splits_op o here) (here.window == w) _ _ s

    pub number-elsewhere : here.window ≢ w → number_in (drop k commands) o w n ≡ number_in (drop (k + 1) commands) o w n
    number-elsewhere ne = number-next ∙ not-second (splits_op o here) (here.window == w) _ _ (ne_eqb here.window w ne)

pub boundary-past : (commands : List command.Line) (k o w : ℕ) → length commands ≤ k → boundary_in (drop k commands) o w ≡ 0
unfolding boundary_in
boundary-past commands k o w h = ap (λ (cs : List command.Line). boundary_in cs o w) (drop_all k commands h)

pub number-past : (commands : List command.Line) (k o w n : ℕ) → length commands ≤ k → number_in (drop k commands) o w n ≡ n
unfolding number_in
number-past commands k o w n h = ap (λ (cs : List command.Line). number_in cs o w n) (drop_all k commands h)
