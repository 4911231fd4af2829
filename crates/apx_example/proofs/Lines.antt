-- The lines of an example: each is short, and there are as many as were asked for.
use Rattle.std.proofs.Common.{◌≡◌, ℕ, zero, suc, ◌+◌, ◌*◌, ◌/◌, ◌%◌, ◌<◌, ◌≤◌, max, ◌==◌, ◌||◌, nat_lt, Bool, true, false, cond, List, [], ◌∷◌, ◌++◌, length, map, codes, decimal, None, Some, refl, sym, ap, subst, ◌∙◌, arith, append_assoc}
use Rattle.std.specs.List.{list_any}
use Rattle.std.specs.Option.{option_map, option_or}
use Rattle.std.specs.Int.Digits.{digits_of}
use Rattle.std.proofs.lemmas.Bool.{ne_eqb}
use Rattle.std.proofs.lemmas.Bool.Decides.{nat_tests}
use Rattle.std.proofs.lemmas.List.{length-append}
use Rattle.std.proofs.lemmas.Fmt.{length-decimal-le, decimal_digit, decimal-digits_of}
use Rattle.rand_pcg.specs.Lcg.{Lcg}
use Rattle.apx_tuple.specs.declared.kind.InputKind.TheVariants.{Lines}
use Rattle.apx_gen.specs.Generated.{generator_of, drawn, after_one, after_line, word_text, line_text, lines_text}
use Rattle.apx_pass.specs.Groups.{Refused, groups, TooMany, TooLong, cause_of, refused_at, first_refused_from, first_refused}
use Rattle.apx_pass.specs.Lines.{in_front, pieces, without_cr, lines}
use Rattle.apx_pass.specs.Pairs.{tuple_of}
use Rattle.apx_pass.specs.Pass.{windows_of}
use Rattle.apx_example.specs.Example.{example_input, example_windows}

-- ---- tests that fail

not_equal : (a b : ℕ) → (a ≡ b → ⊥) → a == b ≡ false
not_equal a b h = ne_eqb a b h

not_less : (a b : ℕ) → b ≤ a → nat_lt a b ≡ false
not_less a b h = grind (arith, nat_tests)

-- ---- texts without LF

-- no byte is LF
abbrev IsPlain : List ℕ → Type 0
IsPlain xs = list_any (λ x. x == 10) xs ≡ false

plain-append : (xs ys : List ℕ) → IsPlain xs → IsPlain ys → IsPlain (xs ++ ys)
plain-append [] ys p q = q
plain-append (x ∷ xs) ys p q = by (x == 10) p (plain-append xs ys)
  where
    by : (b : Bool) → (b || list_any (λ x. x == 10) xs) ≡ false → (IsPlain xs → IsPlain ys → IsPlain (xs ++ ys)) → (b || list_any (λ x. x == 10) (xs ++ ys)) ≡ false
    by true p rest = cc
    by false p rest = rest p q

digits-plain : (ds : List ℕ) → IsPlain (map (λ d. 48 + d) ds)
digits-plain [] = refl
digits-plain (d ∷ ds) = ap (λ b. b || list_any (λ x. x == 10) (map (λ d. 48 + d) ds)) (not_equal (48 + d) 10 (λ e. omega (arith, e))) ∙ digits-plain ds

decimal-plain : (n : ℕ) → n < 1000 → IsPlain (decimal n)
decimal-plain zero small = subst IsPlain (sym (decimal_digit 0 (omega arith))) refl
decimal-plain (suc n) small = subst IsPlain (sym (decimal-digits_of (suc n) (omega arith) (omega arith))) (digits-plain (digits_of 10 (suc n)))

-- the text before an LF is the first piece
pieces_line : (xs rest : List ℕ) → IsPlain xs → pieces (xs ++ 10 ∷ rest) ≡ xs ∷ pieces rest
unfolding pieces
pieces_line [] rest p = refl
pieces_line (x ∷ xs) rest p = by (x == 10) p (pieces_line xs rest)
  where
    by : (b : Bool) → (b || list_any (λ x. x == 10) xs) ≡ false → (IsPlain xs → pieces (xs ++ 10 ∷ rest) ≡ xs ∷ pieces rest) →
        cond b ([] ∷ pieces (xs ++ 10 ∷ rest)) (in_front x (pieces (xs ++ 10 ∷ rest))) ≡ (x ∷ xs) ∷ pieces rest
    by true p more = cc
    by false p more = ap (in_front x) (more p)

shorter : (xs : List ℕ) → length (without_cr xs) ≤ length xs
unfolding without_cr
shorter [] = omega arith
shorter (x ∷ []) = by (x == 13)
  where
    by : (b : Bool) → length (cond b [] (x ∷ [])) ≤ 1
    by true = omega arith
    by false = omega arith
shorter (x ∷ y ∷ xs) = let more = shorter (y ∷ xs) in omega arith

-- ---- words and lines

-- a word, without the byte behind it
abbrev word : ℕ → List ℕ
word n = codes "w" ++ decimal (n % 1000)

word-short : (n : ℕ) → length (word n) ≤ 4
word-short n = let h = length-decimal-le 3 (n % 1000) (omega arith) (omega arith) (omega arith) in omega arith

word-plain : (n : ℕ) → IsPlain (word n)
word-plain n = decimal-plain (n % 1000) (omega arith)

word_is : (n ending : ℕ) → word_text n ending ≡ word n ++ ending ∷ []
unfolding word_text
word_is n ending = sym (append_assoc (codes "w") (decimal (n % 1000)) (ending ∷ []))

-- three words with a space behind each, and one
abbrev line_of : ℕ → ℕ → ℕ → ℕ → List ℕ
line_of a b c d = (word a ++ 32 ∷ []) ++ ((word b ++ 32 ∷ []) ++ ((word c ++ 32 ∷ []) ++ word d))

spaced-plain : (n : ℕ) → IsPlain (word n ++ 32 ∷ [])
spaced-plain n = plain-append (word n) (32 ∷ []) (word-plain n) refl

line-plain : (a b c d : ℕ) → IsPlain (line_of a b c d)
line-plain a b c d =
    plain-append (word a ++ 32 ∷ []) ((word b ++ 32 ∷ []) ++ ((word c ++ 32 ∷ []) ++ word d)) (spaced-plain a)
    (plain-append (word b ++ 32 ∷ []) ((word c ++ 32 ∷ []) ++ word d) (spaced-plain b)
    (plain-append (word c ++ 32 ∷ []) (word d) (spaced-plain c) (word-plain d)))

length-spaced : (n : ℕ) → length (word n ++ 32 ∷ []) ≤ 5
length-spaced n = let h = word-short n in let e = length-append (word n) (32 ∷ []) in omega arith

line-short : (a b c d : ℕ) → length (line_of a b c d) ≤ 19
line-short a b c d =
    let p = length-spaced a in
    let q = length-spaced b in
    let r = length-spaced c in
    let s = word-short d in
    let e = length-append (word a ++ 32 ∷ []) ((word b ++ 32 ∷ []) ++ ((word c ++ 32 ∷ []) ++ word d)) in
    let f = length-append (word b ++ 32 ∷ []) ((word c ++ 32 ∷ []) ++ word d) in
    let h = length-append (word c ++ 32 ∷ []) (word d) in
    omega arith

-- the line that a generator gives, without its LF
abbrev line_by : Lcg → List ℕ
line_by g = line_of (drawn g) (drawn (after_one g)) (drawn (after_one (after_one g))) (drawn (after_one (after_one (after_one g))))

line_is : (g : Lcg) (rest : List ℕ) → line_text g ++ rest ≡ line_by g ++ 10 ∷ rest
unfolding line_text
line_is g rest =
    let a = drawn g in
    let b = drawn (after_one g) in
    let c = drawn (after_one (after_one g)) in
    let d = drawn (after_one (after_one (after_one g))) in
    let s = word a ++ 32 ∷ [] in
    let t = word b ++ 32 ∷ [] in
    let u = word c ++ 32 ∷ [] in
    ap (λ xs. xs ++ rest) (four (word_is a 32) (word_is b 32) (word_is c 32) (word_is d 10))
    ∙ append_assoc s (t ++ (u ++ (word d ++ 10 ∷ []))) rest
    ∙ ap (λ xs. s ++ xs) (append_assoc t (u ++ (word d ++ 10 ∷ [])) rest)
    ∙ ap (λ xs. s ++ (t ++ xs)) (append_assoc u (word d ++ 10 ∷ []) rest)
    ∙ ap (λ xs. s ++ (t ++ (u ++ xs))) (append_assoc (word d) (10 ∷ []) rest)
    ∙ sym (append_assoc s (t ++ (u ++ word d)) (10 ∷ rest)
    ∙ ap (λ xs. s ++ xs) (append_assoc t (u ++ word d) (10 ∷ rest))
    ∙ ap (λ xs. s ++ (t ++ xs)) (append_assoc u (word d) (10 ∷ rest)))
  where
    four : {x x' y y' z z' v v' : List ℕ} → x ≡ x' → y ≡ y' → z ≡ z' → v ≡ v' → x ++ (y ++ (z ++ v)) ≡ x' ++ (y' ++ (z' ++ v'))
    four {x = x} {x' = x'} {y = y} {y' = y'} {z = z} {z' = z'} {v = v} p q r s =
        ap (λ k. k ++ (y ++ (z ++ v))) p ∙ ap (λ k. x' ++ (k ++ (z ++ v))) q ∙ ap (λ k. x' ++ (y' ++ (k ++ v))) r ∙ ap (λ k. x' ++ (y' ++ (z' ++ k))) s

-- ---- all lines

-- the first line is that of the generator
first_line : (n : ℕ) (g : Lcg) → lines (lines_text (suc n) g) ≡ without_cr (line_by g) ∷ lines (lines_text n (after_line g))
unfolding lines
first_line n g =
    ap (λ xs. map without_cr (pieces xs)) (line_is g (lines_text n (after_line g)))
    ∙ ap (map without_cr) (pieces_line (line_by g) (lines_text n (after_line g)) (line-plain _ _ _ _))

-- a line of an example isn't refused
not_refused : (number : ℕ) (g : Lcg) → number ≤ 200000 → refused_at Lines 10 number (without_cr (line_by g)) ≡ None
unfolding refused_at cause_of tuple_of
not_refused number g few = by (number == 200001) (nat_lt 1024 (length (without_cr (line_by g)))) (not_equal number 200001 (λ e. omega arith)) (not_less 1024 (length (without_cr (line_by g))) short)
  where
    short : length (without_cr (line_by g)) ≤ 1024
    short = let a = shorter (line_by g) in let b = line-short (drawn g) (drawn (after_one g)) (drawn (after_one (after_one g))) (drawn (after_one (after_one (after_one g)))) in omega arith

    by : (b c : Bool) → b ≡ false → c ≡ false → option_map {U = Refused} (λ cause. record { line = number; cause = cause }) (cond b (Some TooMany) (cond c (Some TooLong) None)) ≡ None
    by true c p q = cc
    by false true p q = cc
    by false false p q = refl

none_refused : (n number : ℕ) (g : Lcg) → number + n ≤ 200001 → first_refused_from Lines 10 number (lines (lines_text n g)) ≡ None
unfolding first_refused_from lines pieces
none_refused zero number g few = refl
none_refused (suc n) number g few =
    ap (first_refused_from Lines 10 number) (first_line n g)
    ∙ ap (λ x. option_or x (first_refused_from Lines 10 (number + 1) (lines (lines_text n (after_line g))))) (not_refused number g (omega arith))
    ∙ none_refused n (number + 1) (after_line g) (omega arith)

pub input-accepted : (number size : ℕ) → size ≤ 200000 → first_refused (example_input number size) ≡ None
unfolding first_refused
input-accepted number size few = none_refused size 1 (generator_of number) (omega arith)

-- there are as many as were asked for
count : (n : ℕ) (g : Lcg) → length (lines (lines_text n g)) ≡ n
unfolding lines pieces
count zero g = refl
count (suc n) g = ap length (first_line n g) ∙ ap suc (count n (after_line g))

pub windows-are : (number size : ℕ) → windows_of (example_input number size ∷ []) ≡ example_windows size
unfolding windows_of groups
windows-are number size =
    let same : (length (lines (lines_text size (generator_of number))) + 9) / 10 ≡ (size + 9) / 10 = ap (λ n. (n + 9) / 10) (count size (generator_of number)) in
    greatest ((length (lines (lines_text size (generator_of number))) + 9) / 10) ∙ same
  where
    greatest : (n : ℕ) → max n 0 ≡ n
    greatest n = omega arith

pub lines-short : (size : ℕ) (g : Lcg) → length (lines_text size g) ≤ 20 * size
lines-short zero g = omega arith
lines-short (suc n) g =
    let a = ap length (line_is g (lines_text n (after_line g))) in
    let b = length-append (line_by g) (10 ∷ lines_text n (after_line g)) in
    let c = line-short (drawn g) (drawn (after_one g)) (drawn (after_one (after_one g))) (drawn (after_one (after_one (after_one g)))) in
    let more = lines-short n (after_line g) in
    omega arith
