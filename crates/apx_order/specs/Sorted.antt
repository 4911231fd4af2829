-- Sorting and counting over any order.
--     sorted cmp xs          the members of xs in ascending order
--     each_once cmp xs      the members of xs in ascending order, each once
--     times cmp x xs         how often x stands in xs
--     IsAscending cmp xs     no member is above one that comes after it
--     IsExact cmp            a total order that calls equal only what is the same
use Rattle.std.specs.Prelude.{◌≡◌, ℕ, ◌+◌, cond, false, List, [], ◌∷◌}
use Rattle.std.specs.declared.cmp.Ordering.{Ordering}
use Rattle.std.specs.declared.cmp.Ordering.TheVariants.{Equal}
use Rattle.std.specs.Ordering.{is_gt, is_eq, match_ordering}
use Rattle.std.specs.Cmp.{IsTotalOrder}

-- a total order that calls equal only what is the same
pub record IsExact {X : Type 0} (cmp : X → X → Ordering) : Type 0 where
  -- it is total
  pub total : IsTotalOrder cmp
  -- members that are called equal are the same
  pub tight : (x y : X) → cmp x y ≡ Equal → x ≡ y

module _ {X : Type 0} (cmp : X → X → Ordering) where
  -- xs with x in front of the first member that is above it
  unfoldable pub with_member : X → List X → List X
  with_member x [] = x ∷ []
  with_member x (y ∷ ys) = cond (is_gt (cmp x y)) (y ∷ with_member x ys) (x ∷ y ∷ ys)

  -- the members of xs in ascending order, repeats kept
  unfoldable pub sorted : List X → List X
  sorted [] = []
  sorted (x ∷ xs) = with_member x (sorted xs)

  -- how often x stands in xs
  unfoldable pub times : X → List X → ℕ
  times x [] = 0
  times x (y ∷ ys) = cond (is_eq (cmp x y)) 1 0 + times x ys

  -- x is above no member of xs
  abbrev pub IsFloor : X → List X → Type 0
  IsFloor x [] = Unit {0}
  IsFloor x (y ∷ ys) = (is_gt (cmp x y) ≡ false) × IsFloor x ys

  -- no member is above one that comes after it
  abbrev pub IsAscending : List X → Type 0
  IsAscending [] = Unit {0}
  IsAscending (x ∷ xs) = IsFloor x xs × IsAscending xs

module _ {X : Type 0} (cmp : X → X → Ordering) where
  -- xs with x in its place, where it doesn't stand there yet
  unfoldable pub with_once : X → List X → List X
  with_once x [] = x ∷ []
  with_once x (y ∷ ys) = match_ordering (cmp x y) (x ∷ y ∷ ys) (y ∷ ys) (y ∷ with_once x ys)

  -- the members of xs in ascending order, each once
  unfoldable pub each_once : List X → List X
  each_once [] = []
  each_once (x ∷ xs) = with_once x (each_once xs)
