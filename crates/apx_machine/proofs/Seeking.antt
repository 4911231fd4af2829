-- A search along lists of events: step by step, and what it finds.
use Rattle.std.proofs.Common.{◌≡◌, ℕ, zero, suc, ◌+◌, ◌-◌, ◌<◌, ◌≤◌, Bool, true, false, cond, ◌&&◌, ◌==◌, List, [], ◌∷◌, ◌++◌, length, get_or, Some, refl, sym, ap, subst, ◌∙◌, arith}
use Rattle.std.specs.List.{filter}
use Rattle.std.proofs.lemmas.List.Elements.{filter-append}
use Rattle.apx_history.specs.declared.Event.{Event}
use Rattle.apx_history.specs.Choices.{list_below, lists_below}
use Rattle.apx_history.proofs.Tests.{not_true}
use Rattle.apx_history.proofs.Conditions.{equal_at}
use Rattle.apx_machine.specs.declared.picking.Sought.{Sought}
use Rattle.apx_machine.specs.declared.picking.Sought.TheVariants.{Ahead, Found}
use Rattle.apx_machine.specs.Picked.{first_that, passed, taken, sought_in, found, found_or, ahead}

passed_more : (k : ℕ) (x : Event) → passed (suc k) x ≡ Ahead k
passed_more k x =
    let e : suc k - 1 ≡ k = omega arith in
    ap (λ (b : Bool). cond b (Found x) (Ahead (suc k - 1))) (not_true (suc k == 0) (λ t. (let g = equal_at (suc k) 0 t in omega arith))) ∙ ap (λ (n : ℕ). Ahead n) e

module _ (p : Event → Bool) where
  pub sought_append : (xs ys : List Event) (s : Sought) → sought_in p (xs ++ ys) s ≡ sought_in p ys (sought_in p xs s)
  unfolding sought_in
  sought_append [] ys s = refl
  sought_append (x ∷ xs) ys s = sought_append xs ys (taken (p x) x s)

  -- one list behind the other
  pub sought_next : (xs ys : List Event) (s t u : Sought) → t ≡ sought_in p xs s → u ≡ sought_in p ys t → u ≡ sought_in p (xs ++ ys) s
  sought_next xs ys s t u e g = g ∙ ap (sought_in p ys) e ∙ sym (sought_append xs ys s)

  -- nothing is sought once it is found
  pub sought_found : (xs : List Event) (x : Event) → Found x ≡ sought_in p xs (Found x)
  unfolding sought_in
  sought_found [] x = refl
  sought_found (y ∷ ys) x = sought_found ys x

  module _ (c : Event → Bool) where
    -- one event
    pub seek_is : (e : Event) (k : ℕ) → taken (p e && c e) e (Ahead k) ≡ sought_in p (filter c (e ∷ [])) (Ahead k)
    unfolding sought_in
    seek_is e k = by (c e)
      where
        one : (a : Bool) (x y : Sought) → cond (a && true) x y ≡ cond a x y
        one true x y = refl
        one false x y = refl

        none : (a : Bool) (x y : Sought) → cond (a && false) x y ≡ y
        none true x y = refl
        none false x y = refl

        by : (b : Bool) → cond (p e && b) (passed k e) (Ahead k) ≡ sought_in p (cond b (e ∷ []) []) (Ahead k)
        by true = one (p e) (passed k e) (Ahead k)
        by false = none (p e) (passed k e) (Ahead k)

    pub none_sought : (f : ℕ → Event) (s : Sought) → s ≡ sought_in p (filter c (list_below 0 f)) s
    unfolding list_below sought_in
    none_sought f s = refl

    pub one_sought : (f : ℕ → Event) (k : ℕ) (s t u : Sought) → t ≡ sought_in p (filter c (list_below k f)) s →
        u ≡ sought_in p (filter c (f k ∷ [])) t → u ≡ sought_in p (filter c (list_below (k + 1) f)) s
    unfolding list_below
    one_sought f k s t u e g =
        let n : suc k ≡ k + 1 = omega arith in
        subst (λ (n : ℕ). u ≡ sought_in p (filter c (list_below n f)) s) n
        (sought_next (filter c (list_below k f)) (filter c (f k ∷ [])) s t u e g ∙ ap (λ xs. sought_in p xs s) (sym (filter-append c (list_below k f) (f k ∷ []))))

    pub no_lists_sought : (f : ℕ → List Event) (s : Sought) → s ≡ sought_in p (filter c (lists_below 0 f)) s
    unfolding lists_below sought_in
    no_lists_sought f s = refl

    pub one_list_sought : (f : ℕ → List Event) (k : ℕ) (s t u : Sought) → t ≡ sought_in p (filter c (lists_below k f)) s →
        u ≡ sought_in p (filter c (f k)) t → u ≡ sought_in p (filter c (lists_below (k + 1) f)) s
    unfolding lists_below
    one_list_sought f k s t u e g =
        let n : suc k ≡ k + 1 = omega arith in
        subst (λ (n : ℕ). u ≡ sought_in p (filter c (lists_below n f)) s) n
        (sought_next (filter c (lists_below k f)) (filter c (f k)) s t u e g ∙ ap (λ xs. sought_in p xs s) (sym (filter-append c (lists_below k f) (f k))))

-- a search for more than there are
pub sought_all : (xs : List Event) (k : ℕ) → length xs ≤ k → sought_in (λ e. true) xs (Ahead k) ≡ Ahead (k - length xs)
unfolding sought_in
sought_all [] k h = let e : k ≡ k - 0 = omega arith in ap (λ (n : ℕ). Ahead n) e
sought_all (x ∷ xs) zero h = absurd (omega arith)
sought_all (x ∷ xs) (suc k) h =
    let e : k - length xs ≡ suc k - suc (length xs) = omega arith in
    ap (sought_in (λ e. true) xs) (passed_more k x) ∙ sought_all xs k (omega arith) ∙ ap (λ (n : ℕ). Ahead n) e

-- a search for what is there
pub sought_at : (xs : List Event) (k : ℕ) (d : Event) → k < length xs → sought_in (λ e. true) xs (Ahead k) ≡ Found (get_or xs k d)
unfolding sought_in
sought_at [] k d h = absurd (omega arith)
sought_at (x ∷ xs) zero d h = sym (sought_found (λ e. true) xs x)
sought_at (x ∷ xs) (suc k) d h = ap (sought_in (λ e. true) xs) (passed_more k x) ∙ sought_at xs k d (omega arith)

-- a search for the first
pub sought_first : (p : Event → Bool) (xs : List Event) → found (sought_in p xs (Ahead 0)) ≡ first_that p xs
unfolding sought_in first_that
sought_first p [] = refl
sought_first p (x ∷ xs) = by (p x) (sought_first p xs)
  where
    by : (b : Bool) → found (sought_in p xs (Ahead 0)) ≡ first_that p xs → found (sought_in p xs (taken b x (Ahead 0))) ≡ cond b (Some x) (first_that p xs)
    by true h = ap found (sym (sought_found p xs x))
    by false h = h

-- ---- what a search answers

pub count_left : (xs : List Event) (k : ℕ) (s : Sought) → s ≡ sought_in (λ e. true) xs (Ahead k) → length xs ≤ k → ahead s + length xs ≡ k
count_left xs k s is h = let a : ahead s ≡ k - length xs = ap ahead (is ∙ sought_all xs k h) in omega arith

pub pick_is : (xs : List Event) (k : ℕ) (s : Sought) (d : Event) → s ≡ sought_in (λ e. true) xs (Ahead k) → k < length xs → found_or d s ≡ get_or xs k d
pick_is xs k s d is h = ap (found_or d) (is ∙ sought_at xs k d h)
