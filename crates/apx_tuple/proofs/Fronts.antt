-- Keys whose fronts differ go in the order of these.
use Rattle.std.proofs.Common.{◌≡◌, ℕ, zero, suc, ◌+◌, ◌*◌, ◌^◌, ◌≤◌, ◌<◌, Bool, true, false, List, [], ◌∷◌, refl, sym, ap, ◌∙◌, arith, slice_index_or, add-one, ◌==◌}
use Rattle.std.proofs.lemmas.Bool.Decides.{nat_tests}
use Rattle.std.specs.declared.cmp.Ordering.{Ordering}
use Rattle.std.specs.declared.cmp.Ordering.TheVariants.{Less, Equal, Greater}
use Rattle.std.specs.Ordering.{nat_cmp, ordering_reverse}
use Rattle.std.specs.Cmp.Lexicographic.{nat_list_cmp_total}
use Rattle.std.proofs.Math.Nat.{pow-le-pow_right, pow-suc}
use Rattle.std.specs.Bool.{nat_lt}
use Rattle.apx_tuple.specs.Key.{first_bytes, IsFront}
use Rattle.apx_tuple.specs.Tuple.{key_order}

-- the byte at a place, or a zero behind the end
abbrev at : List ℕ → ℕ → ℕ
at bytes k = slice_index_or bytes k 0

abbrev AreBytes : List ℕ → Type 0
AreBytes bytes = (k : ℕ) → at bytes k < 256

nat_cmp-less : (x y : ℕ) → x < y → nat_cmp x y ≡ Less
nat_cmp-less x y h = grind (arith, nat_tests)

nat_cmp-same : (x y : ℕ) → x ≡ y → nat_cmp x y ≡ Equal
nat_cmp-same x y h = grind (arith, nat_tests)

-- the first place at which two keys differ decides
first-place : (n : ℕ) (xs ys : List ℕ) → ((k : ℕ) → k < n → at xs k ≡ at ys k) → at xs n < at ys n → key_order xs ys ≡ Less
first-place n [] [] same h = absurd (omega arith)
first-place n [] (y ∷ ys) same h = refl
first-place n (x ∷ xs) [] same h = absurd (omega arith)
first-place zero (x ∷ xs) (y ∷ ys) same h = rw (nat_cmp-less x y h) refl
first-place (suc n) (x ∷ xs) (y ∷ ys) same h =
    let here : x ≡ y = same 0 (omega arith) in
    rw (nat_cmp-same x y here) (first-place n xs ys (λ k l. same (suc k) (omega arith)) h)

-- a number of n bytes, a byte more
pub byte-more : (n x b : ℕ) → x < 256 ^ n → b < 256 → x * 256 + b < 256 ^ (n + 1)
byte-more n x b h l = let up : 256 ^ (n + 1) ≡ 256 ^ n * 256 = rw (add-one, pow-suc) refl in omega arith

pub byte-fits : (n x b : ℕ) → n < 8 → x < 256 ^ n → b < 256 → x * 256 + b < 2 ^ 64
byte-fits n x b h l m =
    let up : 256 ^ n ≤ 256 ^ 7 = pow-le-pow_right {n = 256} (omega arith) {i = n} {j = 7} (omega arith) in
    omega arith

pub first_bytes-more : (n : ℕ) (bytes : List ℕ) → first_bytes (n + 1) bytes ≡ first_bytes n bytes * 256 + at bytes n
unfolding first_bytes
first_bytes-more n bytes = rw add-one refl

pub first_bytes-none : (bytes : List ℕ) → first_bytes 0 bytes ≡ 0
unfolding first_bytes
first_bytes-none bytes = refl

-- numbers of n bytes that are equal are of equal bytes
same-places : (n : ℕ) (xs ys : List ℕ) → AreBytes xs → AreBytes ys → first_bytes n xs ≡ first_bytes n ys → (k : ℕ) → k < n → at xs k ≡ at ys k
unfolding first_bytes
same-places zero xs ys f g e k l = absurd (omega arith)
same-places (suc n) xs ys f g e k l = by (k == n) refl (same-places n xs ys f g (let x = f n in let y = g n in omega arith) k)
  where
    by : (b : Bool) → (k == n) ≡ b → (k < n → at xs k ≡ at ys k) → at xs k ≡ at ys k
    by true h before = let same : k ≡ n = grind (arith, nat_tests) in let x = f n in let y = g n in rw same (omega arith)
    by false h before = before (grind (arith, nat_tests))

-- where the number is lesser, so is the key
pub number-less : (n : ℕ) (xs ys : List ℕ) → AreBytes xs → AreBytes ys → first_bytes n xs < first_bytes n ys → key_order xs ys ≡ Less
unfolding first_bytes
number-less zero xs ys f g h = absurd (omega arith)
number-less (suc n) xs ys f g h = by (nat_lt (first_bytes n xs) (first_bytes n ys)) refl (number-less n xs ys f g)
  where
    by : (b : Bool) → nat_lt (first_bytes n xs) (first_bytes n ys) ≡ b → (first_bytes n xs < first_bytes n ys → key_order xs ys ≡ Less) → key_order xs ys ≡ Less
    by true l before = before (grind (arith, nat_tests))
    by false l before =
        let up : first_bytes n ys ≤ first_bytes n xs = grind (arith, nat_tests) in
        let x = f n in
        let y = g n in
        first-place n xs ys (same-places n xs ys f g (omega arith)) (omega arith)

pub front-less : (a b : ℕ) (xs ys : List ℕ) → IsFront a xs → IsFront b ys → a < b → key_order xs ys ≡ Less
front-less a b xs ys f g h = number-less 8 xs ys f.fits g.fits (omega (arith, f.spells, g.spells))

pub front-greater : (a b : ℕ) (xs ys : List ℕ) → IsFront a xs → IsFront b ys → b < a → key_order xs ys ≡ Greater
front-greater a b xs ys f g h = nat_list_cmp_total.antisymm xs ys ∙ ap ordering_reverse (front-less b a ys xs g f h)

-- keys of one list of bytes have one front
pub same-front : (a b : ℕ) (xs ys : List ℕ) → IsFront a xs → IsFront b ys → xs ≡ ys → a ≡ b
same-front a b xs ys f g e = f.spells ∙ ap (first_bytes 8) e ∙ sym g.spells

ranked-less : (a b : ℕ) → nat_cmp a b ≡ Less → a < b
ranked-less a b e = grind (arith, nat_tests)

ranked-greater : (a b : ℕ) → nat_cmp a b ≡ Greater → b < a
ranked-greater a b e = grind (arith, nat_tests)

-- what two fronts say where they differ is what the bytes say
pub by-fronts : (a b : ℕ) (xs ys : List ℕ) → IsFront a xs → IsFront b ys → (r : Ordering) → r ≡ nat_cmp a b → (r ≡ Equal → ⊥) → r ≡ key_order xs ys
by-fronts a b xs ys f g Less e n = sym (front-less a b xs ys f g (ranked-less a b (sym e)))
by-fronts a b xs ys f g Equal e n = absurd (n refl)
by-fronts a b xs ys f g Greater e n = sym (front-greater a b xs ys f g (ranked-greater a b (sym e)))
