-- A text is that of one journal.
use Rattle.std.proofs.Common.{◌≡◌, ℕ, ◌+◌, ◌<◌, ◌==◌, ◌&&◌, not, Bool, true, false, List, [], ◌∷◌, ◌++◌, length, take, drop, codes, Option, Some, None, refl, sym, ap, ap₂, ◌∙◌, ◌⊎◌, inl, inr, append_assoc, length-append, arith}
use Rattle.std.specs.List.{AllByRecursion, flat_map, position}
use Rattle.std.proofs.lemmas.Bool.{and_parts, eq-eqb, false≢true}
use Rattle.std.proofs.lemmas.List.{take_at}
use Rattle.apx_history.specs.declared.Entry.{Entry}
use Rattle.apx_audit.specs.Text.{entry_text, line_text, journal_text, IsEntry}
use Rattle.apx_audit.specs.Reading.{entry_of}
use Rattle.apx_audit.specs.Verdict.{BeginsWith, HasNoForm}
use Rattle.apx_audit.proofs.Words.{is_free, first_there, first_is}
use Rattle.apx_audit.proofs.Lines.{entry_again, entry_is, entry_free}

other_end : (c x : ℕ) (xs : List ℕ) → x ≡ c → is_free c (x ∷ xs) ≡ true → ⊥
other_end c x xs same free =
    let other : not (x == c) ≡ true = (and_parts (not (x == c)) (is_free c xs) free).0 in
    false≢true (sym (ap not (eq-eqb x c same)) ∙ other)

-- a text is cut at the first byte c in one way
cut_one : (c : ℕ) (a b r s : List ℕ) → is_free c a ≡ true → is_free c b ≡ true → a ++ c ∷ r ≡ b ++ c ∷ s → (a ≡ b) × (r ≡ s)
cut_one c [] [] r s h g e = (refl, cc)
cut_one c [] (x ∷ b) r s h g e = absurd (let same : x ≡ c = cc in other_end c x b same g)
cut_one c (x ∷ a) [] r s h g e = absurd (let same : x ≡ c = cc in other_end c x a same h)
cut_one c (x ∷ a) (y ∷ b) r s h g e =
    let same : x ≡ y = cc in
    let behind : a ++ c ∷ r ≡ b ++ c ∷ s = cc in
    let more = cut_one c a b r s (and_parts (not (x == c)) (is_free c a) h).1 (and_parts (not (y == c)) (is_free c b) g).1 behind in
    (ap₂ (λ (z : ℕ) (zs : List ℕ). z ∷ zs) same more.0, more.1)

-- a line, its LF set apart
at_lf : (e : Entry) (rest : List ℕ) → line_text e ++ rest ≡ entry_text e ++ 10 ∷ rest
at_lf e rest = append_assoc (entry_text e) (codes "\n") rest

-- one line is at the front of a text
pub same_line : (e f : Entry) (r s : List ℕ) → IsEntry e → IsEntry f → line_text e ++ r ≡ line_text f ++ s → (e ≡ f) × (r ≡ s)
same_line e f r s first second is =
    let cut = cut_one 10 (entry_text e) (entry_text f) r s (entry_free e first) (entry_free f second) (sym (at_lf e r) ∙ (is ∙ at_lf f s)) in
    let both : Some e ≡ Some f = sym (entry_again e first) ∙ (ap entry_of cut.0 ∙ entry_again f second) in
    (cc, cut.1)

-- the journal with entries fs goes on behind that with entries es: their texts, with r and with s behind them, are one
pub record GoesOn (es fs : List Entry) (r s : List ℕ) : Type 0 where
  -- what stands behind
  pub more : List Entry
  pub entries : AllByRecursion IsEntry more
  pub is : fs ≡ es ++ more
  pub rest : r ≡ journal_text more ++ s

pub one_goes_on : (es fs : List Entry) (r s : List ℕ) → AllByRecursion IsEntry es → AllByRecursion IsEntry fs →
    journal_text es ++ r ≡ journal_text fs ++ s → GoesOn es fs r s ⊎ GoesOn fs es s r
one_goes_on [] fs r s first second is = inl (record { more = fs; entries = second; is = refl; rest = is })
one_goes_on (e ∷ es) [] r s first second is = inr (record { more = e ∷ es; entries = first; is = refl; rest = sym is })
one_goes_on (e ∷ es) (f ∷ fs) r s first second is = by (one_goes_on es fs r s first.1 second.1 line.1)
  where
    line : (e ≡ f) × (journal_text es ++ r ≡ journal_text fs ++ s)
    line = same_line e f (journal_text es ++ r) (journal_text fs ++ s) first.0 second.0
        (sym (append_assoc (line_text e) (journal_text es) r) ∙ (is ∙ append_assoc (line_text f) (journal_text fs) s))

    by : GoesOn es fs r s ⊎ GoesOn fs es s r → GoesOn (e ∷ es) (f ∷ fs) r s ⊎ GoesOn (f ∷ fs) (e ∷ es) s r
    by (inl g) = inl (record { more = g.more; entries = g.entries; is = ap₂ (λ (x : Entry) (xs : List Entry). x ∷ xs) (sym line.0) g.is; rest = g.rest })
    by (inr g) = inr (record { more = g.more; entries = g.entries; is = ap₂ (λ (x : Entry) (xs : List Entry). x ∷ xs) line.0 g.is; rest = g.rest })

-- what stands behind all lines is nothing where the text ends with them
pub none_behind : (es : List Entry) (r : List ℕ) → [] ≡ journal_text es ++ r → (es ≡ []) × (r ≡ [])
none_behind [] r is = (refl, sym is)
none_behind (e ∷ es) r is =
    absurd (let long = ap length is in
    let a = length-append (journal_text (e ∷ es)) r in
    let b = length-append (line_text e) (journal_text es) in
    let d = length-append (entry_text e) (codes "\n") in omega arith)

-- ---- the first line of a text

-- no line is there where there is no LF
pub no_end : (text : List ℕ) → position (λ byte. byte == 10) text ≡ None → HasNoForm text
no_end text none e rest begins =
    let there : position (λ (byte : ℕ). byte == 10) text ≡ Some (length (entry_text e)) =
    ap (position (λ (byte : ℕ). byte == 10)) (begins.split ∙ at_lf e rest) ∙ first_there 10 (entry_text e) rest (entry_free e begins.entry) in
    cc

-- nor where the first line is read as no entry
pub no_entry : (text : List ℕ) (end : ℕ) → position (λ byte. byte == 10) text ≡ Some end → entry_of (take end text) ≡ None → HasNoForm text
no_entry text end first none e rest begins =
    let split : text ≡ entry_text e ++ 10 ∷ rest = begins.split ∙ at_lf e rest in
    let there : position (λ (byte : ℕ). byte == 10) text ≡ Some (length (entry_text e)) =
    ap (position (λ (byte : ℕ). byte == 10)) split ∙ first_there 10 (entry_text e) rest (entry_free e begins.entry) in
    let long : length (entry_text e) ≡ end = cc in
    let line : take end text ≡ entry_text e = ap (take end) split ∙ take_at (entry_text e) (10 ∷ rest) end long in
    let read : entry_of (take end text) ≡ Some e = ap entry_of line ∙ entry_again e begins.entry in
    cc

-- the entry that the first line is read as
pub first_entry : (text : List ℕ) (end : ℕ) (e : Entry) → position (λ byte. byte == 10) text ≡ Some end → entry_of (take end text) ≡ Some e →
    BeginsWith text e (drop (end + 1) text)
first_entry text end e first read =
    let is = entry_is (take end text) e read in
    let rest : List ℕ = drop (end + 1) text in
    record {
      entry = is.1;
      split = (first_is 10 text end first).1 ∙ (ap (λ (line : List ℕ). line ++ 10 ∷ rest) is.0 ∙ sym (at_lf e rest));
    }
