-- The texts of windows that bear their numbers.
use Rattle.std.proofs.Common.{◌≡◌, ℕ, ◌+◌, ◌<◌, ◌≤◌, List, [], ◌++◌, length, take, get_or, sym, ap, ◌∙◌, arith}
use Rattle.std.proofs.lemmas.List.{get_or_default, take_all}
use Rattle.std.proofs.lemmas.List.FromFn.{length-enumerate_from, get_or-enumerate_from}
use Rattle.std.specs.List.{enumerate_from}
use Rattle.apx_tuple.specs.declared.tuple.Tuple.{Tuple}
use Rattle.apx_pass.specs.Texts.{window_text, windows_text}
use Rattle.apx_top.proofs.Printing.{one-more}

module _ (windows : List (List Tuple)) (items : List (ℕ × List Tuple)) (are : items ≡ enumerate_from 1 windows) where
  many : length items ≡ length windows
  many = ap length are ∙ length-enumerate_from 1 windows

  module _ (k : ℕ) (item : ℕ × List Tuple) (within : k < length items) (is : item ≡ get_or items k item) where
    below : k < length windows
    below = let e = many in omega arith

    named : item ≡ get_or (enumerate_from 1 windows) k item
    named = is ∙ ap (λ (xs : List (ℕ × List Tuple)). get_or xs k item) are

    -- the number of the window in its turn
    pub number : item.0 ≡ k + 1
    number = let e : item.0 ≡ 1 + k = ap (λ (x : ℕ × List Tuple). x.0) named ∙ ap (λ (x : ℕ × List Tuple). x.0) (get_or-enumerate_from 1 windows k item below) in omega arith

    rows-are : item.1 ≡ get_or windows k []
    rows-are = ap (λ (x : ℕ × List Tuple). x.1) named ∙ ap (λ (x : ℕ × List Tuple). x.1) (get_or-enumerate_from 1 windows k item below) ∙ get_or_default windows k item.1 [] below

    -- its text behind those before it
    pub text-more : (base n : ℕ) (before after : List ℕ) → n ≡ k + 1 → before ≡ windows_text base 1 (take k windows) → after ≡ before ++ window_text base item.0 item.1 → after ≡ windows_text base 1 (take n windows)
    text-more base n before after e b a =
        a ∙ (λ j. b j ++ window_text base (number j) (rows-are j)) ∙ sym (one-more base windows k below) ∙ ap (λ q. windows_text base 1 (take q windows)) (sym e)

  -- the text of all
  pub text-all : (base n : ℕ) (text : List ℕ) → n ≡ length items → text ≡ windows_text base 1 (take n windows) → text ≡ windows_text base 1 windows
  text-all base n text h e = e ∙ ap (windows_text base 1) (let long : length windows ≤ n = (let m = many in omega arith) in take_all n windows long)
