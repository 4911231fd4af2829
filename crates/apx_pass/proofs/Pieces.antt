-- The first line of a text, and the lines of the text behind it.
use Rattle.std.proofs.Common.{◌≡◌, ℕ, ◌+◌, ◌<◌, ◌≤◌, ◌==◌, nat_lt, Bool, true, false, cond, not, List, [], ◌∷◌, ◌++◌, length, take, drop, Some, None, refl, sym, ap, ◌∙◌, arith, suc}
use Rattle.std.specs.List.{position, position_or_len}
use Rattle.std.proofs.lemmas.List.{take_all, drop_all}
use borrow.Author.Tests.{ltb-true, ltb-false}
use Rattle.apx_pass.specs.Lines.{in_front, pieces, without_cr, lines}

abbrev pub is_lf : ℕ → Bool
is_lf byte = byte == 10

take_front : (byte n : ℕ) (bytes : List ℕ) → take (1 + n) (byte ∷ bytes) ≡ byte ∷ take n bytes
take_front byte n bytes = let e : 1 + n ≡ suc n = omega arith in rw e refl

drop_front : (byte n : ℕ) (bytes : List ℕ) → drop (1 + n + 1) (byte ∷ bytes) ≡ drop (n + 1) bytes
drop_front byte n bytes = let e : 1 + n + 1 ≡ suc (n + 1) = omega arith in rw e refl

-- the first piece ends at the first LF, or with the text
pieces_first : (byte : ℕ) (bytes : List ℕ) → pieces (byte ∷ bytes) ≡ take (position_or_len is_lf (byte ∷ bytes)) (byte ∷ bytes) ∷ pieces (drop (position_or_len is_lf (byte ∷ bytes) + 1) (byte ∷ bytes))
unfolding pieces
pieces_first byte [] = by (byte == 10)
  where
    by : (b : Bool) → cond b ([] ∷ []) ((byte ∷ []) ∷ []) ≡ take (cond (not b) (1 + 0) 0) (byte ∷ []) ∷ pieces (drop (cond (not b) (1 + 0) 0 + 1) (byte ∷ []))
    by true = refl
    by false = refl
pieces_first byte (next ∷ bytes) = by (byte == 10) (pieces_first next bytes)
  where
    at : ℕ
    at = position_or_len is_lf (next ∷ bytes)

    by : (b : Bool) → pieces (next ∷ bytes) ≡ take at (next ∷ bytes) ∷ pieces (drop (at + 1) (next ∷ bytes)) →
        cond b ([] ∷ pieces (next ∷ bytes)) (in_front byte (pieces (next ∷ bytes))) ≡ take (cond (not b) (1 + at) 0) (byte ∷ next ∷ bytes) ∷ pieces (drop (cond (not b) (1 + at) 0 + 1) (byte ∷ next ∷ bytes))
    by true rest = refl
    by false rest = ap (in_front byte) rest ∙ sym (rw (take_front byte at (next ∷ bytes), drop_front byte at (next ∷ bytes)) refl)

-- a line without its CR, read from its end
pub without_cr_push : (bytes : List ℕ) (last : ℕ) → without_cr (bytes ++ last ∷ []) ≡ cond (last == 13) bytes (bytes ++ last ∷ [])
unfolding without_cr
without_cr_push [] last = refl
without_cr_push (byte ∷ []) last = by (last == 13)
  where
    by : (b : Bool) → byte ∷ cond b [] (last ∷ []) ≡ cond b (byte ∷ []) (byte ∷ last ∷ [])
    by true = refl
    by false = refl
without_cr_push (byte ∷ next ∷ bytes) last = ap (λ line. byte ∷ line) (without_cr_push (next ∷ bytes) last) ∙ by (last == 13)
  where
    by : (b : Bool) → byte ∷ cond b (next ∷ bytes) (next ∷ bytes ++ last ∷ []) ≡ cond b (byte ∷ next ∷ bytes) (byte ∷ next ∷ bytes ++ last ∷ [])
    by true = refl
    by false = refl

pub lines_nil : lines [] ≡ []
unfolding lines pieces
lines_nil = refl

-- the first line is the text up to its first LF, without a CR
pub lines_first : (byte : ℕ) (bytes : List ℕ) → lines (byte ∷ bytes) ≡ without_cr (take (position_or_len is_lf (byte ∷ bytes)) (byte ∷ bytes)) ∷ lines (drop (position_or_len is_lf (byte ∷ bytes) + 1) (byte ∷ bytes))
unfolding lines
lines_first byte bytes = rw (pieces_first byte bytes) refl

-- a text with an LF begins with the line before its first LF
pub lines_at : (text : List ℕ) (end : ℕ) → Some end ≡ position is_lf text → (end < length text) × (lines text ≡ without_cr (take end text) ∷ lines (drop (end + 1) text))
lines_at [] end e = cc
lines_at (byte ∷ bytes) end e = by (nat_lt at (length (byte ∷ bytes))) refl e
  where
    at : ℕ
    at = position_or_len is_lf (byte ∷ bytes)

    by : (b : Bool) → nat_lt at (length (byte ∷ bytes)) ≡ b → Some end ≡ cond b (Some at) None → (end < length (byte ∷ bytes)) × (lines (byte ∷ bytes) ≡ without_cr (take end (byte ∷ bytes)) ∷ lines (drop (end + 1) (byte ∷ bytes)))
    by true h same = let is : end ≡ at = cc in (rw is (ltb-true _ _ h), rw is (lines_first byte bytes))
    by false h same = cc

-- a text without one is one line
pub lines_whole : (text : List ℕ) → None ≡ position is_lf text → 0 < length text → lines text ≡ without_cr text ∷ []
lines_whole [] e h = absurd (omega arith)
lines_whole (byte ∷ bytes) e h = by (nat_lt at (length (byte ∷ bytes))) refl e
  where
    at : ℕ
    at = position_or_len is_lf (byte ∷ bytes)

    by : (b : Bool) → nat_lt at (length (byte ∷ bytes)) ≡ b → None ≡ cond b (Some at) None → lines (byte ∷ bytes) ≡ without_cr (byte ∷ bytes) ∷ []
    by true g same = cc
    by false g same = let far : length (byte ∷ bytes) ≤ at = ltb-false _ _ g in lines_first byte bytes ∙ rw (take_all at (byte ∷ bytes) far, drop_all (at + 1) (byte ∷ bytes) (omega arith)) (rw lines_nil refl)

-- an empty text
pub without_cr_empty : (piece : List ℕ) → length piece ≡ 0 → piece ≡ without_cr piece
unfolding without_cr
without_cr_empty [] e = refl
without_cr_empty (byte ∷ bytes) e = absurd (omega arith)

pub lines_empty : (text : List ℕ) → length text ≡ 0 → lines text ≡ []
lines_empty [] e = lines_nil
lines_empty (byte ∷ bytes) e = absurd (omega arith)
