-- What a refusal reports of a line it reports of the lines that begin with it.
use Rattle.std.proofs.Common.{◌≡◌, ℕ, ◌+◌, ◌≤◌, List, [], ◌∷◌, length, drop, Option, Some, None, Result, Err, ◌⊎◌, inl, inr, refl, sym, ap, ◌∙◌, arith, length-drop}
use Rattle.std.proofs.lemmas.List.{drop_all, drop-drop}
use Rattle.apx_tuple.specs.declared.kind.InputKind.{InputKind}
use Rattle.apx_pass.specs.Groups.{Refused, TooMany as PastWindows, TooLong as PastLength, BadPair as NoPair, refused_at, first_refused_from}
use Rattle.apx_pass.proofs.Refusing.{refused_here, refused_next, no_lines_refused}
use Rattle.apx_input.specs.Refusals.{Reports, refusal_of}
use Rattle.apx_input.specs.declared.refusal.LineRefusal.{LineRefusal}
use Rattle.apx_input.specs.declared.refusal.LineRefusal.TheVariants.{TooMany, TooLong, BadPair, Memory}

module _ (kind : InputKind) (per_window number : ℕ) (line : List ℕ) (lines behind : List (List ℕ)) (is : lines ≡ line ∷ behind) where
  pub reports_first : (refusal : LineRefusal) → Reports refusal (refused_at kind per_window number line) → Reports refusal (first_refused_from kind per_window number lines)
  reports_first (TooMany at) e = rw is (refused_here kind per_window number line behind _ e)
  reports_first (TooLong at) e = rw is (refused_here kind per_window number line behind _ e)
  reports_first (BadPair at) e = rw is (refused_here kind per_window number line behind _ e)
  reports_first Memory e = tt

  pub next_refused : refused_at kind per_window number line ≡ None → first_refused_from kind per_window number lines ≡ first_refused_from kind per_window (number + 1) behind
  next_refused e = rw is (refused_next kind per_window number line behind e)

-- a refusal reports the same of the same
pub reports_same : (refusal : LineRefusal) (kind : InputKind) (per_window m n : ℕ) (xs ys : List (List ℕ)) → first_refused_from kind per_window m xs ≡ first_refused_from kind per_window n ys → Reports refusal (first_refused_from kind per_window m xs) → Reports refusal (first_refused_from kind per_window n ys)
reports_same (TooMany at) kind per_window m n xs ys e t = sym e ∙ t
reports_same (TooLong at) kind per_window m n xs ys e t = sym e ∙ t
reports_same (BadPair at) kind per_window m n xs ys e t = sym e ∙ t
reports_same Memory kind per_window m n xs ys e t = tt

module _ (kind : InputKind) (per_window : ℕ) where
  -- where no line is left
  pub none_left : (m n : ℕ) (lines : List (List ℕ)) → lines ≡ [] → first_refused_from kind per_window m lines ≡ first_refused_from kind per_window n lines
  none_left m n lines e =
      let at : ℕ → List (List ℕ) → Option Refused = first_refused_from kind per_window in
      ap (at m) e ∙ no_lines_refused kind per_window m ∙ sym (ap (at n) e ∙ no_lines_refused kind per_window n)

-- what has no lines left after some has none left after more
pub dropped_all : (rest lines : List (List ℕ)) (m n : ℕ) → rest ≡ drop m lines → rest ≡ [] → m ≤ n → rest ≡ drop n lines
dropped_all rest lines m n e none le =
    let short : length lines ≤ m = omega (arith, length-drop m lines, ap length (sym e ∙ none)) in
    none ∙ sym (drop_all n lines (omega arith))

-- one line more
pub dropped_more : (rest behind lines : List (List ℕ)) (line : List ℕ) (m : ℕ) → rest ≡ drop m lines → rest ≡ line ∷ behind → behind ≡ drop (m + 1) lines
dropped_more rest behind lines line m e is =
    let one : drop 1 (line ∷ behind) ≡ behind = refl in
    sym (sym (drop-drop 1 m lines) ∙ ap (drop 1) (sym e ∙ is) ∙ one)

-- a refusal that reports of a refused line is its refusal, or memory ran out
reported : {W : Type 0} (result : Result W LineRefusal) (one first : Refused) (refused : Option Refused) → result ≡ Err (refusal_of one) → refused ≡ Some one → refused ≡ Some first → result ≡ Err (refusal_of first)
reported result one first refused is reports e =
    let same : one ≡ first = cc in
    is ∙ ap (λ r. Err (refusal_of r)) same

pub only_refusal : {W : Type 0} (result : Result W LineRefusal) (refusal : LineRefusal) (first : Refused) (refused : Option Refused) → result ≡ Err refusal → Reports refusal refused → refused ≡ Some first → (result ≡ Err (refusal_of first)) ⊎ (result ≡ Err Memory)
only_refusal result (TooMany at) first refused is reports e = inl (reported result (record { line = at; cause = PastWindows }) first refused is reports e)
only_refusal result (TooLong at) first refused is reports e = inl (reported result (record { line = at; cause = PastLength }) first refused is reports e)
only_refusal result (BadPair at) first refused is reports e = inl (reported result (record { line = at; cause = NoPair }) first refused is reports e)
only_refusal result Memory first refused is reports e = inr is

pub none_and_some : (refused : Option Refused) (first : Refused) → refused ≡ None → refused ≡ Some first → ⊥
none_and_some refused first n s = cc
