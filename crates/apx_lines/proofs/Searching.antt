-- The first place whose byte passes a test, as a search of bytes answers it.
use Rattle.std.proofs.Common.{◌≡◌, ℕ, ◌<◌, Bool, List, length, ltb, Option, Some, None, refl, arith}
use Rattle.std.specs.List.{position, position_or_len}
use Rattle.std.proofs.lemmas.Bool.{le-ltb, lt-ltb, false_from_ne_true}
use Rattle.std.proofs.lemmas.List.Sums.{position_or_len_is}
use Rattle.memchr.specs.Find.{IsFirstByte}

pub first_place : (test : ℕ → Bool) (bytes : List ℕ) (r : Option ℕ) → IsFirstByte test bytes r → r ≡ position test bytes
first_place test bytes None none =
    let past : position_or_len test bytes ≡ length bytes =
    position_or_len_is test bytes (length bytes) 0 (omega arith)
    (λ k lt. false_from_ne_true _ (none k (omega arith) lt)) (λ lt. absurd (omega arith)) in
    rw (past, le-ltb (length bytes) (length bytes) (omega arith)) refl
first_place test bytes (Some place) (first, passes) =
    let here : position_or_len test bytes ≡ place =
    position_or_len_is test bytes place 0 (omega (arith, first.high))
    (λ k lt. false_from_ne_true _ (first.before k (omega arith) lt)) (λ lt. passes) in
    rw (here, lt-ltb place (length bytes) first.high) refl
