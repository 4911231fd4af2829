-- A text cut at its first space, and one that isn't UTF-8.
use Rattle.std.proofs.Common.{◌≡◌, ℕ, ◌+◌, ◌<◌, ◌==◌, nat_lt, Bool, true, false, cond, List, length, take, drop, Option, Some, None, refl, sym, ap, arith}
use Rattle.std.specs.Prelude.{MatchOption, position, IsUtf8}
use Rattle.std.specs.Borrow.{Bor}
use Rattle.std.specs.List.{position_or_len, before_first, after_first}
use Rattle.std.specs.Option.{option_map}
use Rattle.std.specs.Str.{is_utf8}
use Rattle.std.proofs.lemmas.Str.{IsUtf8-from_is_utf8, is_utf8-from_IsUtf8}
use borrow.Author.Tests.{lt-ltb}
use Rattle.apx_pass.specs.Script.{Act, at_space, after_word, form_of, act_of}
use Rattle.apx_script.specs.Views.{parts_of}

abbrev is_space : ℕ → Bool
is_space byte = byte == 32

-- what `split_once` says
abbrev pub IsSplit : List ℕ → Option (Bor (List ℕ) × Bor (List ℕ)) → Type 0
IsSplit text r = MatchOption r (position_or_len is_space text ≡ length text) (λ x. (position_or_len is_space text < length text) × (x.0.now ≡ before_first is_space text) × (x.1.now ≡ after_first is_space text))

not_below : (n : ℕ) → nat_lt n n ≡ false
not_below n = by (nat_lt n n) refl
  where
    by : (b : Bool) → nat_lt n n ≡ b → nat_lt n n ≡ false
    by true e = grind arith
    by false e = e

pub split_is : (text : List ℕ) (r : Option (Bor (List ℕ) × Bor (List ℕ))) → IsSplit text r → option_map parts_of r ≡ at_space text
unfolding at_space
split_is text None h = rw h (rw (not_below (length text)) refl)
split_is text (Some x) h =
    let test : nat_lt (position_or_len is_space text) (length text) ≡ true = lt-ltb _ _ h.0 in
    rw test (rw (h.1, h.2) refl)

-- a line that isn't UTF-8 has no form
pub no_text : (line : List ℕ) → ¬ IsUtf8 line → act_of line ≡ None
unfolding act_of
no_text line not_text = by (is_utf8 line) refl
  where
    by : (b : Bool) → is_utf8 line ≡ b → cond b (after_word form_of (λ form rest. form rest) line) None ≡ None
    by true e = absurd (not_text (IsUtf8-from_is_utf8 line e))
    by false e = refl

-- and one that is has that of its words
pub is_text : (line text : List ℕ) → IsUtf8 line → text ≡ line → after_word form_of (λ form rest. form rest) text ≡ act_of line
unfolding act_of
is_text line text utf8 same = rw (is_utf8-from_IsUtf8 line utf8) (ap (after_word form_of (λ form rest. form rest)) same)
