-- Which line is refused first, line by line.
use Rattle.std.proofs.Common.{◌≡◌, ◌≢◌, ℕ, ◌+◌, ◌*◌, ◌<◌, ◌≤◌, ◌==◌, nat_lt, Bool, true, false, cond, is_some, List, [], ◌∷◌, length, Option, Some, None, refl, All}
use borrow.Author.Tests.{eq-eqb, lt-ltb, le-ltb, ltb-false}
use Rattle.std.specs.Option.{option_map, option_or}
use Rattle.std.proofs.lemmas.Bool.{ne_eqb}
use Rattle.std.proofs.lemmas.List.Elements.{All-nil, All-cons}
use Rattle.apx_tuple.specs.declared.kind.InputKind.{InputKind}
use Rattle.apx_pass.specs.Groups.{TooMany, TooLong, BadPair, Refused, cause_of, refused_at, first_refused_from}
use Rattle.apx_pass.specs.Pairs.{tuple_of}

module _ (kind : InputKind) (per_window : ℕ) where
  pub no_lines_refused : (number : ℕ) → first_refused_from kind per_window number [] ≡ None
  unfolding first_refused_from
  no_lines_refused number = refl

  -- a first line that is not refused
  pub refused_next : (number : ℕ) (line : List ℕ) (lines : List (List ℕ)) → refused_at kind per_window number line ≡ None → first_refused_from kind per_window number (line ∷ lines) ≡ first_refused_from kind per_window (number + 1) lines
  unfolding first_refused_from
  refused_next number line lines e = rw e refl

  -- and one that is
  pub refused_here : (number : ℕ) (line : List ℕ) (lines : List (List ℕ)) (refused : Refused) → refused_at kind per_window number line ≡ Some refused → first_refused_from kind per_window number (line ∷ lines) ≡ Some refused
  unfolding first_refused_from
  refused_here number line lines refused e = rw e refl

  pub refused_many : (number : ℕ) (line : List ℕ) → number ≡ 20000 * per_window + 1 → refused_at kind per_window number line ≡ Some (record { line = number; cause = TooMany })
  unfolding refused_at cause_of
  refused_many number line many =
      let e : (number == 20000 * per_window + 1) ≡ true = eq-eqb number (20000 * per_window + 1) many in
      rw e refl

  pub refused_long : (number : ℕ) (line : List ℕ) → number ≢ 20000 * per_window + 1 → 1024 < length line → refused_at kind per_window number line ≡ Some (record { line = number; cause = TooLong })
  unfolding refused_at cause_of
  refused_long number line few long =
      let e : (number == 20000 * per_window + 1) ≡ false = ne_eqb number (20000 * per_window + 1) few in
      let l : nat_lt 1024 (length line) ≡ true = lt-ltb 1024 (length line) long in
      rw (e, l) refl

  pub refused_pair : (number : ℕ) (line : List ℕ) → number ≢ 20000 * per_window + 1 → length line ≤ 1024 → is_some (tuple_of kind line) ≡ false → refused_at kind per_window number line ≡ Some (record { line = number; cause = BadPair })
  unfolding refused_at cause_of
  refused_pair number line few short none =
      let e : (number == 20000 * per_window + 1) ≡ false = ne_eqb number (20000 * per_window + 1) few in
      let l : nat_lt 1024 (length line) ≡ false = le-ltb 1024 (length line) short in
      rw (e, l, none) refl

  pub refused_not : (number : ℕ) (line : List ℕ) → number ≢ 20000 * per_window + 1 → length line ≤ 1024 → is_some (tuple_of kind line) ≡ true → refused_at kind per_window number line ≡ None
  unfolding refused_at cause_of
  refused_not number line few short some =
      let e : (number == 20000 * per_window + 1) ≡ false = ne_eqb number (20000 * per_window + 1) few in
      let l : nat_lt 1024 (length line) ≡ false = le-ltb 1024 (length line) short in
      rw (e, l, some) refl

  -- a line that is not refused is short, and so are the lines of a text of which none is
  short_line : (number : ℕ) (line : List ℕ) → refused_at kind per_window number line ≡ None → length line ≤ 1024
  unfolding refused_at cause_of
  short_line number line e = by (number == 20000 * per_window + 1) (nat_lt 1024 (length line)) refl e
    where
      by : (many long : Bool) → nat_lt 1024 (length line) ≡ long →
          option_map (λ cause. let refused : Refused = record { line = number; cause = cause } in refused) (cond many (Some TooMany) (cond long (Some TooLong) (cond (is_some (tuple_of kind line)) None (Some BadPair)))) ≡ None →
          length line ≤ 1024
      by true long l none = cc
      by false true l none = cc
      by false false l none = ltb-false 1024 (length line) l

  both_none : (first rest : Option Refused) → option_or first rest ≡ None → (first ≡ None) × (rest ≡ None)
  both_none None rest e = (refl, e)
  both_none (Some refused) rest e = cc

  pub lines_short : (number : ℕ) (lines : List (List ℕ)) → first_refused_from kind per_window number lines ≡ None → All (λ line. length line ≤ 1024) lines
  unfolding first_refused_from
  lines_short number [] e = All-nil (λ line. length line ≤ 1024)
  lines_short number (line ∷ lines) e =
      let both = both_none (refused_at kind per_window number line) (first_refused_from kind per_window (number + 1) lines) e in
      All-cons (λ l. length l ≤ 1024) line lines (short_line number line both.0) (lines_short (number + 1) lines both.1)
