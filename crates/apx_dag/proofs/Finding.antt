-- What `find`, `position` and a test of each element say.
use Rattle.std.proofs.Common.{◌≡◌, ℕ, zero, suc, ◌+◌, ◌<◌, Bool, true, false, not, cond, ltb, ◌&&◌, List, [], ◌∷◌, length, get_or, map, Option, Some, None, inl, inr, refl, ap, arith}
use Rattle.std.proofs.lemmas.List.{length-map}
use Rattle.std.specs.List.{find, position, position_or_len, prefix_len, list_any}
use Rattle.std.specs.Option.{is_none, option_map, option_map_or, option_and_then, option_or}
use Rattle.std.proofs.lemmas.Bool.{cases_lt, lt-ltb}
use Rattle.std.proofs.lemmas.List.Sums.{fails_before_first}
use Rattle.std.proofs.lemmas.List.Quantifiers.{position-Some}

pub and_true : (a b : Bool) → (a && b) ≡ true → (a ≡ true) × (b ≡ true)
and_true true true e = (refl, refl)
and_true true false e = absurd cc
and_true false b e = absurd cc

pub not_false : (b : Bool) → not b ≡ false → b ≡ true
not_false true e = refl
not_false false e = absurd cc

pub map_none : {A B : Type 0} (f : A → B) (o : Option A) → option_map f o ≡ None → o ≡ None
map_none f None e = refl
map_none f (Some x) e = absurd cc

pub or_none : {A : Type 0} (o p : Option A) → option_or o p ≡ None → o ≡ None
or_none None p e = refl
or_none (Some x) p e = absurd cc

pub map_some : {A B : Type 0} (f : A → B) (o : Option A) (y : B) → option_map f o ≡ Some y → (x : A) × (o ≡ Some x) × (f x ≡ y)
map_some f None y e = absurd cc
map_some f (Some x) y e = (x, refl, cc)

pub then_some : {A B : Type 0} (f : A → Option B) (o : Option A) (y : B) → option_and_then f o ≡ Some y → (x : A) × (o ≡ Some x) × (f x ≡ Some y)
then_some f None y e = absurd cc
then_some f (Some x) y e = (x, refl, e)

pub map_or_true : {A : Type 0} (f : A → Bool) (o : Option A) → option_map_or f o false ≡ true → (x : A) × (o ≡ Some x) × (f x ≡ true)
map_or_true f None e = absurd cc
map_or_true f (Some x) e = (x, refl, e)

pub is_there : {A : Type 0} (o : Option A) → is_none o ≡ false → (x : A) × (o ≡ Some x)
is_there None e = absurd cc
is_there (Some x) e = (x, refl)

pub nothing : {A : Type 0} (x : A) → Some x ≡ None → ⊥
nothing x e = absurd cc

pub some_is : {A : Type 0} (x y : A) → Some x ≡ Some y → x ≡ y
some_is x y e = cc

-- where nothing is found, each element fails
pub none_found : {X : Type 0} (p : X → Bool) (xs : List X) → find p xs ≡ None → (k : ℕ) (d : X) → k < length xs → p (get_or xs k d) ≡ false
none_found p [] e k d lt = absurd (omega arith)
none_found p (x ∷ xs) e k d lt = by (p x) refl (λ t. none_found p xs (rw t at e)) k lt where
  by : (b : Bool) → p x ≡ b → (p x ≡ false → (i : ℕ) (c : _) → i < length xs → p (get_or xs i c) ≡ false) → (i : ℕ) → i < length (x ∷ xs) → p (get_or (x ∷ xs) i d) ≡ false
  by true t rest i lt = absurd (nothing x (rw t at e))
  by false t rest zero lt = t
  by false t rest (suc i) lt = rest t i d (omega arith)

-- what is found passes, and stands at a place
pub found_at : {X : Type 0} (p : X → Bool) (xs : List X) (x : X) → find p xs ≡ Some x → (k : ℕ) × (k < length xs) × (get_or xs k x ≡ x) × (p x ≡ true)
found_at p [] x e = absurd cc
found_at p (y ∷ ys) x e = by (p y) refl (λ t. found_at p ys x (rw t at e)) where
  by : (b : Bool) → p y ≡ b → (p y ≡ false → (k : ℕ) × (k < length ys) × (get_or ys k x ≡ x) × (p x ≡ true)) → (k : ℕ) × (k < length (y ∷ ys)) × (get_or (y ∷ ys) k x ≡ x) × (p x ≡ true)
  by true t rest = let same : y ≡ x = some_is y x (rw t at e) in (zero, omega arith, same, rw (← same) t)
  by false t rest = let r = rest t in (suc r.0, omega (arith, r.1), r.2, r.3)

pub any_found : {X : Type 0} (p : X → Bool) (xs : List X) → list_any p xs ≡ true → (x : X) × (find p xs ≡ Some x)
any_found p [] e = absurd cc
any_found p (x ∷ xs) e = by (p x) refl (λ t. any_found p xs (rw t at e)) where
  by : (b : Bool) → p x ≡ b → (p x ≡ false → (y : _) × (find p xs ≡ Some y)) → (y : _) × (cond (p x) (Some x) (find p xs) ≡ Some y)
  by true t rest = (x, rw t refl)
  by false t rest = let r = rest t in (r.0, rw t r.1)

-- where an element passes, there is a first place
pub placed_at : {X : Type 0} (p : X → Bool) (xs : List X) (x : X) → find p xs ≡ Some x → (a : ℕ) × (position p xs ≡ Some a)
placed_at p xs x e =
    let at_k = found_at p xs x e in
    elim (cases_lt (position_or_len p xs) (length xs)) [
      | inl lt ↦ let yes : ltb (position_or_len p xs) (length xs) ≡ true = lt-ltb _ _ lt in (position_or_len p xs, rw yes refl)
      | inr le ↦
          let before : at_k.0 < position_or_len p xs = omega (arith, at_k.1) in
          let fails : p (get_or xs at_k.0 x) ≡ false = fails_before_first p xs at_k.0 x before in
          let passes : p (get_or xs at_k.0 x) ≡ true = rw at_k.2 at_k.3 in
          absurd cc
    ]

pub place_within : {X : Type 0} (p : X → Bool) (xs : List X) (a : ℕ) (d : X) → position p xs ≡ Some a → a < length xs
place_within p xs a d e = (position-Some p xs a d e).0

prefix_map : {A B : Type 0} (f : A → B) (p : B → Bool) (xs : List A) → prefix_len p (map f xs) ≡ prefix_len (λ x. p (f x)) xs
prefix_map f p [] = refl
prefix_map f p (x ∷ xs) = ap (λ n. cond (p (f x)) (1 + n) 0) (prefix_map f p xs)

-- a place in a list of what a function gives
pub place_map : {A B : Type 0} (f : A → B) (p : B → Bool) (xs : List A) → position p (map f xs) ≡ position (λ x. p (f x)) xs
place_map f p xs = rw (prefix_map f (λ x. not (p x)) xs, length-map xs f) refl
