-- A text has one verdict.
use Rattle.std.proofs.Common.{◌≡◌, ℕ, ◌+◌, ◌<◌, Bool, true, false, List, [], ◌∷◌, ◌++◌, length, Option, Some, None, Result, Ok, Err, refl, sym, ap, ap₂, subst, ◌∙◌, ◌⊎◌, inl, inr, append_assoc, arith}
use Rattle.std.specs.List.{AllByRecursion}
use Rattle.std.proofs.lemmas.List.{append-nil}
use Rattle.apx_history.specs.declared.Entry.{Entry}
use Rattle.apx_history.specs.Plan.{Plan}
use Rattle.apx_history.specs.State.{State}
use Rattle.apx_history.specs.Journals.{beginning, is_legal, after, fits}
use Rattle.apx_history.proofs.Legal.{legal-append}
use Rattle.std.proofs.lemmas.Bool.{and_parts}
use Rattle.apx_audit.specs.Text.{line_text, journal_text, IsEntry}
use Rattle.apx_audit.specs.Verdict.{IsJournal, BeginsWith, HasNoForm, IsIllegal, IsWhy, IsRefused, Verdict, Legal, Refused, IsVerdict}
use Rattle.apx_audit.proofs.Journals.{same_line, GoesOn, one_goes_on, none_behind}

-- a line whose entry may come next isn't refused
fits_on : (plan : Plan) (m : State) (text : List ℕ) (why : ℕ) (e : Entry) (rest : List ℕ) →
    BeginsWith text e rest → fits plan m e ≡ true → IsWhy plan m text why → ⊥
fits_on plan m text why e rest begins may (inl formless) = formless.1 e rest begins
fits_on plan m text why e rest begins may (inr illegal) =
    let it = illegal.1 in
    let same = same_line e it.entry rest it.rest begins.entry it.begins.entry (sym begins.split ∙ it.begins.split) in
    let other : fits plan m e ≡ false = ap (fits plan m) same.0 ∙ it.refused in
    cc

-- so no entries stand behind where a line is refused
none_past : (plan : Plan) (m : State) (more : List Entry) (text rest : List ℕ) (why : ℕ) →
    AllByRecursion IsEntry more → is_legal plan m more ≡ true → text ≡ journal_text more ++ rest → IsWhy plan m text why →
    (more ≡ []) × (text ≡ rest)
none_past plan m [] text rest why entries legal is refused = (refl, is)
none_past plan m (e ∷ more) text rest why entries legal is refused =
    absurd (fits_on plan m text why e (journal_text more ++ rest)
    (record { entry = entries.0; split = is ∙ append_assoc (line_text e) (journal_text more) rest })
    (and_parts _ _ legal).0 refused)

-- why a line is refused
one_why : (plan : Plan) (m : State) (text : List ℕ) (why other : ℕ) → IsWhy plan m text why → IsWhy plan m text other → why ≡ other
one_why plan m text why other (inl a) (inl b) = a.0 ∙ sym b.0
one_why plan m text why other (inl a) (inr b) = absurd (a.1 b.1.entry b.1.rest b.1.begins)
one_why plan m text why other (inr a) (inl b) = absurd (b.1 a.1.entry a.1.rest a.1.begins)
one_why plan m text why other (inr a) (inr b) = a.0 ∙ sym b.0

-- the entries of a legal journal that go on behind others are legal there
legal_on : (plan : Plan) (text : List ℕ) (before more es : List Entry) → IsJournal plan text es → es ≡ before ++ more →
    is_legal plan (after plan (beginning plan 0 0) before) more ≡ true
legal_on plan text before more es journal is =
    (legal-append plan (beginning plan 0 0) before more
    (subst (λ (xs : List Entry). is_legal plan (beginning plan 0 0) xs ≡ true) is journal.legal.legal)).1

module _ (plan : Plan) (text : List ℕ) where
  -- two journals
  one_journal : (es fs : List Entry) → IsJournal plan text es → IsJournal plan text fs → es ≡ fs
  one_journal es fs first second = by (one_goes_on es fs [] [] first.entries second.entries same)
    where
      same : journal_text es ++ [] ≡ journal_text fs ++ []
      same = append-nil (journal_text es) ∙ (sym first.is ∙ (second.is ∙ sym (append-nil (journal_text fs))))

      by : GoesOn es fs [] [] ⊎ GoesOn fs es [] [] → es ≡ fs
      by (inl g) = let none = none_behind g.more [] g.rest in sym (g.is ∙ (ap (λ (xs : List Entry). es ++ xs) none.0 ∙ append-nil es))
      by (inr g) = let none = none_behind g.more [] g.rest in g.is ∙ (ap (λ (xs : List Entry). fs ++ xs) none.0 ∙ append-nil fs)

  -- a journal, and a refused line
  not_both : (es : List Entry) (line why : ℕ) → IsJournal plan text es → IsRefused plan text line why → ⊥
  not_both es line why journal refused = by (one_goes_on es refused.before [] refused.rest journal.entries refused.legal.entries same)
    where
      same : journal_text es ++ [] ≡ journal_text refused.before ++ refused.rest
      same = append-nil (journal_text es) ∙ (sym journal.is ∙ (refused.split ∙ ap (λ (front : List ℕ). front ++ refused.rest) refused.legal.is))

      some : refused.rest ≡ [] → ⊥
      some none = let long = ap length none in let there = refused.some in omega arith

      by : GoesOn es refused.before [] refused.rest ⊎ GoesOn refused.before es refused.rest [] → ⊥
      by (inl g) = some (none_behind g.more refused.rest g.rest).1
      by (inr g) = some (none_past plan _ g.more refused.rest [] why g.entries (legal_on plan text refused.before g.more es journal g.is) g.rest refused.cause).1

  -- two refused lines
  behind : (line why other since : ℕ) (a : IsRefused plan text line why) (b : IsRefused plan text other since) →
      GoesOn a.before b.before a.rest b.rest → (line ≡ other) × (why ≡ since)
  behind line why other since a b g =
      let none = none_past plan _ g.more a.rest b.rest why g.entries (legal_on plan b.front a.before g.more b.before b.legal g.is) g.rest a.cause in
      let before : b.before ≡ a.before = g.is ∙ (ap (λ (xs : List Entry). a.before ++ xs) none.0 ∙ append-nil a.before) in
      let same_number : line ≡ other = a.number ∙ (ap (λ (xs : List Entry). length xs + 1) (sym before) ∙ sym b.number) in
      let b_why = subst (λ (xs : List Entry). IsWhy plan (after plan (beginning plan 0 0) xs) b.rest since) before b.cause in
      (same_number, one_why plan _ b.rest why since (subst (λ (text : List ℕ). IsWhy plan (after plan (beginning plan 0 0) a.before) text why) none.1 a.cause) b_why)

  one_refused : (line why other since : ℕ) → IsRefused plan text line why → IsRefused plan text other since → (line ≡ other) × (why ≡ since)
  one_refused line why other since a b = by (one_goes_on a.before b.before a.rest b.rest a.legal.entries b.legal.entries same)
    where
      same : journal_text a.before ++ a.rest ≡ journal_text b.before ++ b.rest
      same = ap (λ (front : List ℕ). front ++ a.rest) (sym a.legal.is) ∙ (sym a.split ∙ (b.split ∙ ap (λ (front : List ℕ). front ++ b.rest) b.legal.is))

      by : GoesOn a.before b.before a.rest b.rest ⊎ GoesOn b.before a.before b.rest a.rest → (line ≡ other) × (why ≡ since)
      by (inl g) = behind line why other since a b g
      by (inr g) = let one = behind other since line why b a g in (sym one.0, sym one.1)

  pub one_verdict : (v w : Verdict) → IsVerdict plan text v → IsVerdict plan text w → v ≡ w
  one_verdict (Legal es) (Legal fs) a b = ap (λ (xs : List Entry). Legal xs) (one_journal es fs a b)
  one_verdict (Legal es) (Refused line why) a b = absurd (not_both es line why a b)
  one_verdict (Refused line why) (Legal es) a b = absurd (not_both es line why b a)
  one_verdict (Refused line why) (Refused other since) a b =
      let one = one_refused line why other since a b in ap₂ (λ (x y : ℕ). Refused x y) one.0 one.1
