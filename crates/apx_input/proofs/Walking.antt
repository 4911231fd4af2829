-- What is known while a file is read window after window: its windows so far, and the rest.
use Rattle.std.proofs.Common.{◌≡◌, ℕ, ◌+◌, ◌-◌, ◌*◌, ◌<◌, ◌≤◌, ◌⊎◌, inl, inr, List, [], ◌∷◌, ◌++◌, length, drop, slice_index, Option, Some, None, refl, sym, ap, ◌∙◌, arith, length-drop}
use Rattle.std.proofs.lemmas.Bool.{cases_lt}
use Rattle.std.proofs.lemmas.List.{drop-drop, get_or_append_left, get_or_push, length_push}
use Rattle.apx_tuple.specs.declared.kind.InputKind.{InputKind}
use Rattle.apx_pass.specs.Groups.{Refused, TooMany, first_refused_from, input_of, groups}
use Rattle.apx_pass.specs.Lines.{lines}
use Rattle.apx_pass.proofs.Grouping.{groups_are}
use Rattle.apx_pass.proofs.Pieces.{lines_first, lines_empty}
use Rattle.apx_pass.proofs.Refusing.{refused_many, refused_here, no_lines_refused}
use Rattle.apx_input.specs.Starts.{IsStart, AreStarts}
use Rattle.apx_lines.specs.Rest.{IsRest}

-- a text has a line
pub some_lines : (text : List ℕ) → 0 < length text → 0 < length (lines text)
some_lines [] h = absurd (omega arith)
some_lines (byte ∷ bytes) h = omega (arith, ap length (lines_first byte bytes))

-- its first line would begin window 20,001
pub many_windows : (kind : InputKind) (per_window number : ℕ) (rest text : List ℕ) → 0 < length rest → number ≡ 20000 * per_window + 1 →
    first_refused_from kind per_window number (lines rest) ≡ first_refused_from kind per_window 1 (lines text) →
    first_refused_from kind per_window 1 (lines text) ≡ Some (record { line = number; cause = TooMany })
many_windows kind per_window number [] text h many e = absurd (omega arith)
many_windows kind per_window number (byte ∷ bytes) text h many e =
    let at : List (List ℕ) → Option Refused = first_refused_from kind per_window number in
    sym e ∙ ap at (lines_first byte bytes) ∙ refused_here kind per_window number _ _ _ (refused_many kind per_window number _ many)

module _ (per_window : ℕ) (text : List ℕ) where
  -- the rest begins the next window
  pub next_start : (rest : List ℕ) (k : ℕ) → 0 < length rest → IsRest text rest → lines rest ≡ drop (k * per_window) (lines text) → IsStart per_window text k (length text - length rest)
  next_start rest k h end behind =
      let some : 0 < length (lines rest) = some_lines rest h in
      record {
        within = omega arith;
        some = omega (arith, some, ap length behind, length-drop (k * per_window) (lines text));
        behind = ap lines (sym end.same) ∙ behind;
      }

  pub one_start_more : (starts : List ℕ) (place : ℕ) → AreStarts per_window text starts → IsStart per_window text (length starts) place → AreStarts per_window text (starts ++ place ∷ [])
  one_start_more starts place before last k h = by (cases_lt k (length starts))
    where
      by : (k < length starts) ⊎ (length starts ≤ k) → IsStart per_window text k (slice_index (starts ++ place ∷ []) k)
      by (inl lt) = rw (get_or_append_left starts (place ∷ []) 0 k lt) (before k lt)
      by (inr ge) =
          let is : k ≡ length starts = omega (arith, length_push starts place) in
          rw is (rw (get_or_push starts place 0 (length starts) refl) last)

  -- one window more
  pub one_window_more : (rest after : List ℕ) (k : ℕ) → lines rest ≡ drop (k * per_window) (lines text) → lines after ≡ drop per_window (lines rest) → lines after ≡ drop ((k + 1) * per_window) (lines text)
  one_window_more rest after k behind next =
      let place : k * per_window + per_window ≡ (k + 1) * per_window = omega arith in
      next ∙ ap (drop per_window) behind ∙ drop-drop per_window (k * per_window) (lines text) ∙ ap (λ n. drop n (lines text)) place

  -- at the end each window has its place
  pub all_windows : (kind : InputKind) (starts rest : List ℕ) → 1 ≤ per_window → AreStarts per_window text starts → length rest ≡ 0 → lines rest ≡ drop (length starts * per_window) (lines text) → length starts ≡ groups (input_of kind per_window text)
  all_windows kind starts rest some each none behind =
      let empty : lines rest ≡ [] = lines_empty rest none in
      let full : length (lines text) ≤ length starts * per_window = omega (arith, length-drop (length starts * per_window) (lines text), ap length (sym behind ∙ empty)) in
      let begun : 0 < length starts → (length starts - 1) * per_window < length (lines text) = λ h. (each (length starts - 1) (omega arith)).some in
      groups_are (input_of kind per_window text) (length starts) some full begun

pub all_accepted : (kind : InputKind) (per_window number : ℕ) (rest text : List ℕ) → length rest ≡ 0 →
    first_refused_from kind per_window number (lines rest) ≡ first_refused_from kind per_window 1 (lines text) → first_refused_from kind per_window 1 (lines text) ≡ None
all_accepted kind per_window number rest text none e =
    let at : List (List ℕ) → Option Refused = first_refused_from kind per_window number in
    sym e ∙ ap at (lines_empty rest none) ∙ no_lines_refused kind per_window number
