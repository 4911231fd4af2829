-- Each text has a verdict.
use Rattle.std.proofs.Common.{◌≡◌, ℕ, zero, suc, ◌+◌, ◌<◌, ◌≤◌, ◌==◌, Bool, true, false, List, [], ◌∷◌, ◌++◌, length, take, codes, Option, Some, None, refl, ap, ◌⊎◌, inl, inr, length-append, arith}
use Rattle.std.specs.List.{position}
use Rattle.apx_history.specs.declared.Entry.{Entry}
use Rattle.apx_history.specs.Plan.{Plan}
use Rattle.apx_history.specs.Effects.{next}
use Rattle.apx_history.specs.Journals.{beginning, fits}
use Rattle.apx_history.specs.Kept.{IsPlan}
use Rattle.apx_machine.specs.Machine.{Running}
use Rattle.apx_audit.specs.Text.{entry_text, line_text}
use Rattle.apx_audit.specs.Reading.{entry_of}
use Rattle.apx_audit.specs.Verdict.{BeginsWith, IsWhy, Verdict, Legal, Refused, IsVerdict}
use Rattle.apx_audit.specs.Laws.{SomeVerdict, OneVerdict}
use Rattle.apx_audit.proofs.Journals.{no_end, no_entry, first_entry}
use Rattle.apx_audit.proofs.Verdicts.{one_verdict}
use Rattle.apx_audit.proofs.Judging.{HasRead, begun, read_more, read_all, refused}

abbrev HasVerdict : Plan → List ℕ → Type 0
HasVerdict plan text = (v : Verdict) × IsVerdict plan text v

-- one line more was read
record Further (plan : Plan) (text rest : List ℕ) : Type 0 where
  entries : List Entry
  machine : Running
  behind : List ℕ
  read : HasRead plan text entries machine behind
  shorter : length behind < length rest

-- the next line is refused, or it is read
step : (plan : Plan) (text : List ℕ) (es : List Entry) (m : Running) (rest : List ℕ) → HasRead plan text es m rest → 0 < length rest →
    HasVerdict plan text ⊎ Further plan text rest
step plan text es m rest read some = by_end (position (λ (byte : ℕ). byte == 10) rest) refl
  where
    no : (why : ℕ) → IsWhy m.plan m.state rest why → HasVerdict plan text ⊎ Further plan text rest
    no why is = inl (Refused (length es + 1) why, refused plan text es m rest read (length es + 1) why some refl is)

    by_fits : (e : Entry) (behind : List ℕ) → BeginsWith rest e behind → (b : Bool) → fits m.plan m.state e ≡ b → HasVerdict plan text ⊎ Further plan text rest
    by_fits e behind begins true may =
        let after : Running = record { plan = m.plan; state = next m.plan m.state e.worker e.event } in
        let long = ap length begins.split in
        let a = length-append (line_text e) behind in
        let b = length-append (entry_text e) (codes "\n") in
        inr (record {
          entries = es ++ e ∷ [];
          machine = after;
          behind = behind;
          read = read_more plan text es m rest read e behind (es ++ e ∷ []) after begins may refl refl refl;
          shorter = omega arith;
        })
    by_fits e behind begins false may = no 2 (inr (refl, record { entry = e; rest = behind; begins = begins; refused = may }))

    by_entry : (end : ℕ) → position (λ byte. byte == 10) rest ≡ Some end → (o : Option Entry) → entry_of (take end rest) ≡ o → HasVerdict plan text ⊎ Further plan text rest
    by_entry end first None none = no 1 (inl (refl, no_entry rest end first none))
    by_entry end first (Some e) some = by_fits e _ (first_entry rest end e first some) (fits m.plan m.state e) refl

    by_end : (o : Option ℕ) → position (λ byte. byte == 10) rest ≡ o → HasVerdict plan text ⊎ Further plan text rest
    by_end None none = no 1 (inl (refl, no_end rest none))
    by_end (Some end) first = by_entry end first (entry_of (take end rest)) refl

verdict_from : (plan : Plan) (text : List ℕ) (n : ℕ) (es : List Entry) (m : Running) (rest : List ℕ) → HasRead plan text es m rest → length rest ≤ n → HasVerdict plan text
verdict_from plan text n es m [] read le = (Legal es, read_all plan text es m [] read refl)
verdict_from plan text zero es m (x ∷ xs) read le = absurd (omega arith)
verdict_from plan text (suc n) es m (x ∷ xs) read le =
    elim (step plan text es m (x ∷ xs) read (omega arith)) as (λ s. HasVerdict plan text) [
      | inl verdict ↦ verdict
      | inr more ↦ verdict_from plan text n more.entries more.machine more.behind more.read (let short = more.shorter in omega arith)
    ]

pub some-verdict : SomeVerdict
some-verdict plan is text =
    let m : Running = record { plan = plan; state = beginning plan 0 0 } in
    verdict_from plan text (length text) [] m text (begun plan text [] m is refl refl refl) (omega arith)

pub one-verdict : OneVerdict
one-verdict plan text v w a b = one_verdict plan text v w a b
