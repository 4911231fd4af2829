-- How much is printed after some windows.
use Rattle.std.proofs.Common.{◌≡◌, ℕ, suc, ◌+◌, ◌-◌, ◌<◌, List, [], ◌∷◌, ◌++◌, length, take, drop, get_or, refl, sym, ap, ◌∙◌, arith, append_assoc, length-take-le, Some}
use Rattle.std.specs.Prelude.{slice_get, Result, Ok, Err, IsErr, IsTrue, Bool}
use Rattle.apx_top.specs.Run.{row_count}
use Rattle.apx_top.specs.Sent.{HasWritten}
use Rattle.std.proofs.lemmas.List.{take_more, take-take, append-nil, take-append-drop}
use Rattle.std.proofs.lemmas.List.Sums.{sum_by_push}
use Rattle.std.proofs.lemmas.Option.{slice_get-get_or}
use Rattle.std.specs.List.{sum_by}
use Rattle.std.specs.Prelude.{min}
use Rattle.apx_tuple.specs.declared.tuple.Tuple.{Tuple}
use Rattle.apx_device.specs.Out.{GotFront}
use Rattle.apx_pass.specs.Texts.{window_text, windows_text}

windows_text-append : (base w : ℕ) (xs ys : List (List Tuple)) → windows_text base w (xs ++ ys) ≡ windows_text base w xs ++ windows_text base (w + length xs) ys
unfolding windows_text
windows_text-append base w [] ys = ap (λ v. windows_text base v ys) (let e : w ≡ w + 0 = omega arith in e)
windows_text-append base w (rows ∷ xs) ys =
    let e : w + 1 + length xs ≡ w + suc (length xs) = omega arith in
    ap (λ t. window_text base w rows ++ t) (windows_text-append base (w + 1) xs ys ∙ ap (λ v. windows_text base (w + 1) xs ++ windows_text base v ys) e)
    ∙ sym (append_assoc (window_text base w rows) (windows_text base (w + 1) xs) (windows_text base (w + suc (length xs)) ys))

one : (base w : ℕ) (rows : List Tuple) (rest : List (List Tuple)) → windows_text base w (rows ∷ rest) ≡ window_text base w rows ++ windows_text base (w + 1) rest
unfolding windows_text
one base w rows rest = refl

pub none : (base w : ℕ) → windows_text base w [] ≡ []
unfolding windows_text
none base w = refl

module _ (base : ℕ) (stored : List (List Tuple)) (k : ℕ) (h : k < length stored) where
  rows : List Tuple
  rows = get_or stored k []

  pub rows-there : slice_get stored (k + 1 - 1) ≡ Some (get_or stored k [])
  rows-there = ap (slice_get stored) (let e : k + 1 - 1 ≡ k = omega arith in e) ∙ slice_get-get_or stored k [] h

  -- the text of one window more
  pub one-more : windows_text base 1 (take (k + 1) stored) ≡ windows_text base 1 (take k stored) ++ window_text base (k + 1) (get_or stored k [])
  one-more =
      let long : length (take k stored) ≡ k = length-take-le k stored (omega arith) in
      let at : 1 + length (take k stored) ≡ k + 1 = omega arith in
      ap (windows_text base 1) (take_more stored k [] h)
      ∙ windows_text-append base 1 (take k stored) (get_or stored k [] ∷ [])
      ∙ ap (λ v. windows_text base 1 (take k stored) ++ windows_text base v (get_or stored k [] ∷ [])) at
      ∙ ap (λ t. windows_text base 1 (take k stored) ++ t) (one base (k + 1) (get_or stored k []) [] ∙ ap (λ t. window_text base (k + 1) (get_or stored k []) ++ t) (none base (k + 1 + 1)) ∙ no-more (window_text base (k + 1) (get_or stored k [])))
    where
      no-more : (t : List ℕ) → t ++ [] ≡ t
      no-more t = append-nil t

  -- the rows of one window more
  pub count-more : row_count (take (k + 1) stored) ≡ min (row_count (take k stored) + length (get_or stored k [])) 18446744073709551615
  count-more =
      let e : sum_by length (take (k + 1) stored) ≡ sum_by length (take k stored) + length (get_or stored k []) = ap (sum_by length) (take_more stored k [] h) ∙ sum_by_push length (take k stored) (get_or stored k []) in
      omega (arith, e)

  -- a failure within this window's text leaves a front of the whole
  pub failed : (n : ℕ) → k < n → (old now new : List ℕ) → now ≡ old ++ windows_text base 1 (take k stored) → GotFront (window_text base (k + 1) (get_or stored k [])) now new →
      GotFront (windows_text base 1 (take n stored)) old new
  failed n l old now new e f =
      let tail = windows_text base (1 + length (take (k + 1) (take n stored))) (drop (k + 1) (take n stored)) in
      let whole : windows_text base 1 (take n stored) ≡ (windows_text base 1 (take k stored) ++ window_text base (k + 1) (get_or stored k [])) ++ tail
      = ap (windows_text base 1) (sym (take-append-drop (k + 1) (take n stored)))
      ∙ windows_text-append base 1 (take (k + 1) (take n stored)) (drop (k + 1) (take n stored))
      ∙ ap (λ xs. windows_text base 1 xs ++ tail) (take-take (k + 1) n stored (omega arith))
      ∙ ap (λ t. t ++ tail) one-more in
      record {
        front = windows_text base 1 (take k stored) ++ f.front;
        rest = f.rest ++ tail;
        split = whole
            ∙ ap (λ t. (windows_text base 1 (take k stored) ++ t) ++ tail) f.split
            ∙ ap (λ t. t ++ tail) (sym (append_assoc (windows_text base 1 (take k stored)) f.front f.rest))
            ∙ append_assoc (windows_text base 1 (take k stored) ++ f.front) f.rest tail;
        got = f.got ∙ ap (λ t. t ++ f.front) e ∙ append_assoc old (windows_text base 1 (take k stored)) f.front;
      }

pub none-more : (base w : ℕ) (old : List ℕ) → old ≡ old ++ windows_text base w []
none-more base w old = sym (ap (λ t. old ++ t) (none base w) ∙ append-nil old)

-- after an Err only a front is owed
pub of-error : {T E : Type 0} (tells : Bool) (text : List ℕ) (r : Result T E) (before now : List ℕ) → IsErr r → (IsTrue tells → GotFront text before now) → HasWritten tells text r before now
of-error tells text (Err e) before now h f = f
of-error tells text (Ok v) before now h f = absurd cc
