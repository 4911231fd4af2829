-- Each member once: how often it stands there, and that the list ascends.
use Rattle.std.proofs.Common.{◌≡◌, ℕ, ◌+◌, ◌≤◌, ◌<◌, Bool, true, false, cond, not, ◌==◌, List, [], ◌∷◌, ◌++◌, refl, ap, ◌∙◌, arith, min, zero}
use Rattle.std.specs.declared.cmp.Ordering.{Ordering}
use Rattle.std.specs.declared.cmp.Ordering.TheVariants.{Less, Equal, Greater}
use Rattle.std.specs.Ordering.{is_gt, is_eq, match_ordering, ordering_reverse}
use Rattle.std.specs.Cmp.{tied_itself}
use Rattle.std.specs.List.{AllByRecursion, filter, flat_map}
use Rattle.std.specs.List.Sorted.{IsStrictlySortedBy}
use Rattle.std.proofs.lemmas.Bool.Decides.{nat_tests}
use Rattle.apx_order.specs.Sorted.{IsExact, times, IsFloor, IsAscending, with_once, each_once}
use Rattle.apx_order.proofs.Sorting.{times-less, floor-down, same-by-times}

abbrev number : Bool → ℕ
number b = cond b 1 0

module _ {X : Type 0} {cmp : X → X → Ordering} (o : IsExact cmp) where
  equal : (r : Ordering) → is_eq r ≡ true → r ≡ Equal
  equal Less h = cc
  equal Equal h = refl
  equal Greater h = cc

  same : (x y : X) → is_eq (cmp x y) ≡ true → x ≡ y
  same x y h = o.tight x y (equal (cmp x y) h)

  -- what is the same as x compares as x does
  alike : (q x y : X) → is_eq (cmp q x) ≡ true → cmp q y ≡ cmp x y
  alike q x y h = o.total.congr q x y (equal (cmp q x) h)

  -- in an ascending list without repeats, one more member of it
  with_once-times : (q x : X) (ys : List X) → IsAscending cmp ys → ((z : X) → times cmp z ys ≤ 1) → times cmp q (with_once cmp x ys) ≡ cond (is_eq (cmp q x)) 1 (times cmp q ys)
  unfolding times with_once
  with_once-times q x [] a u = by (is_eq (cmp q x))
    where
      by : (b : Bool) → cond b 1 0 + 0 ≡ cond b 1 0
      by true = refl
      by false = refl
  with_once-times q x (y ∷ ys) a u = by (cmp x y) refl (is_eq (cmp q x)) refl (with_once-times q x ys a.1 (λ z. omega (arith, u z)))
    where
      by : (r : Ordering) → cmp x y ≡ r → (b : Bool) → is_eq (cmp q x) ≡ b → times cmp q (with_once cmp x ys) ≡ cond (is_eq (cmp q x)) 1 (times cmp q ys) →
          times cmp q (match_ordering r (x ∷ y ∷ ys) (y ∷ ys) (y ∷ with_once cmp x ys)) ≡ cond b 1 (cond (is_eq (cmp q y)) 1 0 + times cmp q ys)
      by Less e true h rest =
          let one : number (is_eq (cmp q x)) ≡ 1 = ap number h in
          let gone : times cmp q (y ∷ ys) ≡ 0 = ap (λ z. times cmp z (y ∷ ys)) (same q x h) ∙ times-less o x y ys e a.0 in
          omega (arith, one, gone)
      by Less e false h rest = let none : number (is_eq (cmp q x)) ≡ 0 = ap number h in omega (arith, none)
      by Equal e true h rest =
          let one : number (is_eq (cmp q y)) ≡ 1 = ap (λ r. number (is_eq r)) (alike q x y h ∙ e) in
          omega (arith, one, u q)
      by Equal e false h rest = refl
      by Greater e true h rest =
          let none : number (is_eq (cmp q y)) ≡ 0 = ap (λ r. number (is_eq r)) (alike q x y h ∙ e) in
          let here : times cmp q (with_once cmp x ys) ≡ 1 = rest ∙ ap (λ b. cond b 1 (times cmp q ys)) h in
          omega (arith, none, here)
      by Greater e false h rest =
          let here : times cmp q (with_once cmp x ys) ≡ times cmp q ys = rest ∙ ap (λ b. cond b 1 (times cmp q ys)) h in
          omega (arith, here)

  with_once-floor : (z x : X) (ys : List X) → is_gt (cmp z x) ≡ false → IsFloor cmp z ys → IsFloor cmp z (with_once cmp x ys)
  unfolding with_once
  with_once-floor z x [] h f = (h, tt)
  with_once-floor z x (y ∷ ys) h f = by (cmp x y) (with_once-floor z x ys h f.1)
    where
      by : (r : Ordering) → IsFloor cmp z (with_once cmp x ys) → IsFloor cmp z (match_ordering r (x ∷ y ∷ ys) (y ∷ ys) (y ∷ with_once cmp x ys))
      by Less rest = (h, f)
      by Equal rest = f
      by Greater rest = (f.0, rest)

  with_once-ascends : (x : X) (ys : List X) → IsAscending cmp ys → IsAscending cmp (with_once cmp x ys)
  unfolding with_once
  with_once-ascends x [] a = (tt, tt)
  with_once-ascends x (y ∷ ys) a = by (cmp x y) refl (with_once-ascends x ys a.1)
    where
      by : (r : Ordering) → cmp x y ≡ r → IsAscending cmp (with_once cmp x ys) → IsAscending cmp (match_ordering r (x ∷ y ∷ ys) (y ∷ ys) (y ∷ with_once cmp x ys))
      by Less e rest = let below : is_gt (cmp x y) ≡ false = ap is_gt e in ((below, floor-down o x y ys below a.0), a)
      by Equal e rest = a
      by Greater e rest = (with_once-floor y x ys (ap is_gt (o.total.antisymm y x ∙ ap ordering_reverse e)) a.0, rest)

  -- x is above none of the members that are kept, where it is above none at all
  pub each_once-floor : (x : X) (xs : List X) → IsFloor cmp x xs → IsFloor cmp x (each_once cmp xs)
  unfolding each_once
  each_once-floor x [] f = tt
  each_once-floor x (y ∷ ys) f = with_once-floor x y (each_once cmp ys) f.0 (each_once-floor x ys f.1)

  pub each_once-ascends : (xs : List X) → IsAscending cmp (each_once cmp xs)
  unfolding each_once
  each_once-ascends [] = tt
  each_once-ascends (x ∷ xs) = with_once-ascends x (each_once cmp xs) (each_once-ascends xs)

  -- what stands in the list stands there once
  pub each_once-times : (q : X) (xs : List X) → times cmp q (each_once cmp xs) ≡ min 1 (times cmp q xs)
  unfolding times each_once
  each_once-times q [] = refl
  each_once-times q (x ∷ xs) =
      let few : (z : X) → times cmp z (each_once cmp xs) ≤ 1 = λ z. omega (arith, each_once-times z xs) in
      by (is_eq (cmp q x)) (with_once-times q x (each_once cmp xs) (each_once-ascends xs) few) (each_once-times q xs)
    where
      by : (b : Bool) → times cmp q (with_once cmp x (each_once cmp xs)) ≡ cond b 1 (times cmp q (each_once cmp xs)) → times cmp q (each_once cmp xs) ≡ min 1 (times cmp q xs) →
          times cmp q (with_once cmp x (each_once cmp xs)) ≡ min 1 (cond b 1 0 + times cmp q xs)
      by true now rest = omega (arith, now)
      by false now rest = omega (arith, now, rest)

  strict : (xs : List X) → IsAscending cmp xs → ((z : X) → times cmp z xs ≤ 1) → IsStrictlySortedBy cmp xs
  unfolding times IsStrictlySortedBy
  strict [] a u = tt
  strict (x ∷ xs) a u = (above xs a.0 (λ z h. omega (arith, u z, ap (λ r. number (is_eq r)) h)), strict xs a.1 (λ z. omega (arith, u z)))
    where
      less : (r : Ordering) → is_gt r ≡ false → (r ≡ Equal → 1 ≤ 0) → r ≡ Less
      less Less g n = refl
      less Equal g n = absurd (omega (arith, n refl))
      less Greater g n = cc

      above : (ys : List X) → IsFloor cmp x ys → ((z : X) → cmp z x ≡ Equal → times cmp z ys ≡ 0) → AllByRecursion (λ y. cmp x y ≡ Less) ys
      above [] f n = tt
      above (y ∷ ys) f n =
          (less (cmp x y) f.0 (λ e. omega (arith, n x (tied_itself o.total x), ap (λ r. number (is_eq r)) e)), above ys f.1 (λ z h. omega (arith, n z h)))

  -- so the list ascends strictly
  pub each_once-strict : (xs : List X) → IsStrictlySortedBy cmp (each_once cmp xs)
  each_once-strict xs = strict (each_once cmp xs) (each_once-ascends xs) (λ z. omega (arith, each_once-times z xs))

  -- where the least member comes first, what is left is the rest's members
  pub each_once-first : (x : X) (xs ys : List X) → IsFloor cmp x ys → times cmp x ys ≡ 0 → ((z : X) → times cmp z xs ≡ cond (is_eq (cmp z x)) (times cmp z xs) (times cmp z ys)) → 0 < times cmp x xs →
      each_once cmp xs ≡ x ∷ each_once cmp ys
  unfolding times
  each_once-first x xs ys f none others some =
      same-by-times o (each_once cmp xs) (x ∷ each_once cmp ys) (each_once-ascends xs) (each_once-floor x ys f, each_once-ascends ys) (λ z. by z (is_eq (cmp z x)) refl (others z))
    where
      by : (z : X) (b : Bool) → is_eq (cmp z x) ≡ b → times cmp z xs ≡ cond b (times cmp z xs) (times cmp z ys) → times cmp z (each_once cmp xs) ≡ cond b 1 0 + times cmp z (each_once cmp ys)
      by z true h e =
          let here : times cmp z xs ≡ times cmp x xs = ap (λ w. times cmp w xs) (same z x h) in
          let there : times cmp z ys ≡ times cmp x ys = ap (λ w. times cmp w ys) (same z x h) in
          omega (arith, each_once-times z xs, each_once-times z ys, here, there)
      by z false h e = omega (arith, each_once-times z xs, each_once-times z ys, e)

  filter-floor : (p : X → Bool) (x : X) (xs : List X) → IsFloor cmp x xs → IsFloor cmp x (filter p xs)
  filter-floor p x [] f = tt
  filter-floor p x (y ∷ ys) f = by (p y) (filter-floor p x ys f.1)
    where
      by : (b : Bool) → IsFloor cmp x (filter p ys) → IsFloor cmp x (cond b (y ∷ filter p ys) (filter p ys))
      by true rest = (f.0, rest)
      by false rest = rest

  pub filter-ascends : (p : X → Bool) (xs : List X) → IsAscending cmp xs → IsAscending cmp (filter p xs)
  filter-ascends p [] a = tt
  filter-ascends p (x ∷ xs) a = by (p x) (filter-ascends p xs a.1)
    where
      by : (b : Bool) → IsAscending cmp (filter p xs) → IsAscending cmp (cond b (x ∷ filter p xs) (filter p xs))
      by true rest = (filter-floor p x xs a.0, rest)
      by false rest = rest

  -- a test passes what is the same alike
  pub filter-times : (p : X → Bool) (q : X) (xs : List X) → times cmp q (filter p xs) ≡ cond (p q) (times cmp q xs) 0
  unfolding times
  filter-times p q [] = by (p q)
    where
      by : (b : Bool) → zero ≡ cond b 0 0
      by true = refl
      by false = refl
  filter-times p q (x ∷ xs) = by (p x) (p q) (is_eq (cmp q x)) refl (λ h. ap p (same q x h)) (filter-times p q xs)
    where
      by : (b c e : Bool) → number (is_eq (cmp q x)) ≡ number e → (e ≡ true → c ≡ b) → times cmp q (filter p xs) ≡ cond c (times cmp q xs) 0 →
          times cmp q (cond b (x ∷ filter p xs) (filter p xs)) ≡ cond c (cond (is_eq (cmp q x)) 1 0 + times cmp q xs) 0
      by true true e n h rest = omega (arith, rest)
      by true false true n h rest = let no : false ≡ true = h refl in cc
      by true false false n h rest = omega (arith, n, rest)
      by false true true n h rest = let no : true ≡ false = h refl in cc
      by false true false n h rest = omega (arith, n, rest)
      by false false e n h rest = rest

module _ {X Y : Type 0} {cmp : X → X → Ordering} (o : IsExact cmp) where
  filter-quiet : (f : X → List Y) (p : X → Bool) → ((x : X) → p x ≡ false → f x ≡ []) → (xs : List X) → flat_map f xs ≡ flat_map f (filter p xs)
  filter-quiet f p h [] = refl
  filter-quiet f p h (x ∷ xs) = by (p x) (h x) (filter-quiet f p h xs)
    where
      by : (b : Bool) → (b ≡ false → f x ≡ []) → flat_map f xs ≡ flat_map f (filter p xs) → f x ++ flat_map f xs ≡ flat_map f (cond b (x ∷ filter p xs) (filter p xs))
      by true none rest = ap (λ l. f x ++ l) rest
      by false none rest = ap (λ l. l ++ flat_map f xs) (none refl) ∙ rest

  -- members of which nothing is made may as well be left out
  pub each_once-quiet : (f : X → List Y) (xs ys : List X) → ((x : X) → times cmp x ys ≤ times cmp x xs) → ((x : X) → times cmp x ys ≡ 0 → f x ≡ []) → flat_map f (each_once cmp xs) ≡ flat_map f (each_once cmp ys)
  each_once-quiet f xs ys some none =
      filter-quiet f stands (λ x h. none x (zero_from (times cmp x ys) h)) (each_once cmp xs)
      ∙ ap (flat_map f) (same-by-times o (filter stands (each_once cmp xs)) (each_once cmp ys) (filter-ascends o stands (each_once cmp xs) (each_once-ascends o xs)) (each_once-ascends o ys) (λ x. filter-times o stands x (each_once cmp xs) ∙ by x (times cmp x ys == 0) refl))
    where
      stands : X → Bool
      stands x = not (times cmp x ys == 0)

      zero_from : (n : ℕ) → not (n == 0) ≡ false → n ≡ 0
      zero_from n h = grind (arith, nat_tests)

      is_zero : (n : ℕ) → (n == 0) ≡ true → n ≡ 0
      is_zero n h = grind (arith, nat_tests)

      is_some : (n : ℕ) → (n == 0) ≡ false → 1 ≤ n
      is_some n h = grind (arith, nat_tests)

      by : (x : X) (b : Bool) → (times cmp x ys == 0) ≡ b → cond (not b) (times cmp x (each_once cmp xs)) 0 ≡ times cmp x (each_once cmp ys)
      by x true h = omega (arith, each_once-times o x ys, is_zero (times cmp x ys) h)
      by x false h = omega (arith, each_once-times o x ys, each_once-times o x xs, some x, is_some (times cmp x ys) h)
