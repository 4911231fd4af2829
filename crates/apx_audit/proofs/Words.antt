-- A text cut at the first of a byte.
use Rattle.std.proofs.Common.{◌≡◌, ℕ, ◌+◌, ◌<◌, ◌==◌, ◌&&◌, nat_lt, not, Bool, true, false, cond, List, [], ◌∷◌, ◌++◌, length, take, drop, get_or, Option, Some, None, refl, sym, ap, ap₂, subst, ◌∙◌, append_assoc, length-append, arith, eqb-true}
use Rattle.std.specs.List.{position, position_or_len, before_first, after_first}
use Rattle.std.specs.Option.{option_map}
use Rattle.std.proofs.lemmas.Bool.{and_parts, and_from, eq-eqb, lt-ltb, le-ltb}
use Rattle.std.proofs.lemmas.List.{take_at, drop_at, length_push}
use Rattle.std.proofs.lemmas.List.Sums.{split_at_first, passes_at_first}
use borrow.Author.Tests.{ltb-true}
use Rattle.apx_pass.specs.Script.{at_space}

-- the text has no byte c
abbrev pub is_free : ℕ → List ℕ → Bool
is_free c [] = true
is_free c (x ∷ xs) = not (x == c) && is_free c xs

pub free-append : (c : ℕ) (xs ys : List ℕ) → is_free c xs ≡ true → is_free c ys ≡ true → is_free c (xs ++ ys) ≡ true
free-append c [] ys h g = g
free-append c (x ∷ xs) ys h g =
    let parts = and_parts (not (x == c)) (is_free c xs) h in
    and_from _ _ parts.0 (free-append c xs ys parts.1 g)

abbrev is : ℕ → ℕ → Bool
is c x = x == c

place_there : (c : ℕ) (a b : List ℕ) → is_free c a ≡ true → position_or_len (is c) (a ++ c ∷ b) ≡ length a
place_there c [] b h = let same : (c == c) ≡ true = eq-eqb c c refl in rw same refl
place_there c (x ∷ a) b h =
    let parts = and_parts (not (x == c)) (is_free c a) h in
    let other : not (x == c) ≡ true = parts.0 in
    let more : position_or_len (is c) (a ++ c ∷ b) ≡ length a = place_there c a b parts.1 in
    rw other (omega (arith, more))

place_none : (c : ℕ) (a : List ℕ) → is_free c a ≡ true → position_or_len (is c) a ≡ length a
place_none c [] h = refl
place_none c (x ∷ a) h =
    let parts = and_parts (not (x == c)) (is_free c a) h in
    let other : not (x == c) ≡ true = parts.0 in
    let more : position_or_len (is c) a ≡ length a = place_none c a parts.1 in
    rw other (omega (arith, more))

-- the first byte c stands behind a text that has none
pub first_there : (c : ℕ) (a b : List ℕ) → is_free c a ≡ true → position (is c) (a ++ c ∷ b) ≡ Some (length a)
first_there c a b h =
    let long : length a < length (a ++ c ∷ b) = omega (arith, length-append a (c ∷ b)) in
    rw (place_there c a b h, lt-ltb (length a) (length (a ++ c ∷ b)) long) refl

pub first_none : (c : ℕ) (a : List ℕ) → is_free c a ≡ true → position (is c) a ≡ None
first_none c a h = rw (place_none c a h, le-ltb (length a) (length a) (omega arith)) refl

-- what stands before the first byte c, and what stands behind it
pub first_is : (c : ℕ) (text : List ℕ) (at : ℕ) → position (is c) text ≡ Some at →
    (at < length text) × (text ≡ take at text ++ c ∷ drop (at + 1) text)
first_is c text at e = by (nat_lt place (length text)) refl e
  where
    place : ℕ
    place = position_or_len (is c) text

    by : (b : Bool) → nat_lt place (length text) ≡ b → cond b (Some place) None ≡ Some at →
        (at < length text) × (text ≡ take at text ++ c ∷ drop (at + 1) text)
    by true t same =
        let same_place : place ≡ at = cc in
        let within : place < length text = ltb-true _ _ t in
        let byte : get_or text place 0 ≡ c = eqb-true _ _ (passes_at_first (is c) text 0 within) in
        let split : text ≡ take place text ++ c ∷ drop (place + 1) text = split_at_first (is c) text 0 within ∙ ap (λ (x : ℕ). take place text ++ x ∷ drop (place + 1) text) byte in
        (omega arith, subst (λ (n : ℕ). text ≡ take n text ++ c ∷ drop (n + 1) text) same_place split)
    by false f same = cc

-- a text cut at its first space
pub space_there : (a b : List ℕ) → is_free 32 a ≡ true → at_space (a ++ 32 ∷ b) ≡ Some (a, b)
unfolding at_space
space_there a b h =
    let text : List ℕ = a ++ 32 ∷ b in
    let front : take (length a) text ≡ a = take_at a (32 ∷ b) (length a) refl in
    let behind : drop (length a + 1) text ≡ b = ap (λ (t : List ℕ). drop (length a + 1) t) (sym (append_assoc a (32 ∷ []) b)) ∙ drop_at (a ++ 32 ∷ []) b (length a + 1) (length_push a 32) in
    ap (λ (o : Option ℕ). option_map (λ (n : ℕ). (take n text, drop (n + 1) text)) o) (first_there 32 a b h)
    ∙ ap₂ (λ (x y : List ℕ). Some (x, y)) front behind

pub space_none : (a : List ℕ) → is_free 32 a ≡ true → at_space a ≡ None
unfolding at_space
space_none a h = ap (λ (o : Option ℕ). option_map (λ (n : ℕ). (take n a, drop (n + 1) a)) o) (first_none 32 a h)

pub space_is : (text : List ℕ) (p : List ℕ × List ℕ) → at_space text ≡ Some p → text ≡ p.0 ++ 32 ∷ p.1
unfolding at_space
space_is text p e = by (position (is 32) text) refl e
  where
    by : (o : Option ℕ) → position (is 32) text ≡ o → option_map (λ (n : ℕ). (take n text, drop (n + 1) text)) o ≡ Some p → text ≡ p.0 ++ 32 ∷ p.1
    by None none same = cc
    by (Some at) some same =
        let parts : (take at text, drop (at + 1) text) ≡ p = cc in
        subst (λ (q : List ℕ × List ℕ). text ≡ q.0 ++ 32 ∷ q.1) parts (first_is 32 text at some).1
