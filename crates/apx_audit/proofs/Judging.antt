-- The lines of a text judged one after the other, as a loop does.
use Rattle.std.proofs.Common.{◌≡◌, ℕ, ◌+◌, ◌%◌, ◌<◌, ◌==◌, ◌&&◌, Bool, true, false, List, [], ◌∷◌, ◌++◌, length, Result, Ok, Err, refl, sym, ap, ap₂, subst, ◌∙◌, inl, inr, append_assoc, arith}
use Rattle.std.specs.List.{AllByRecursion, flat_map}
use Rattle.std.proofs.lemmas.Bool.{and_parts, and_from, eq-eqb}
use Rattle.std.proofs.lemmas.List.{append-nil, flat_map_more}
use Rattle.apx_history.specs.declared.Entry.{Entry}
use Rattle.apx_history.specs.Plan.{Plan, is_checkpoint}
use Rattle.apx_history.specs.State.{State}
use Rattle.apx_history.specs.Effects.{next}
use Rattle.apx_history.specs.Journals.{beginning, is_legal, after, fits}
use Rattle.apx_history.specs.Kept.{IsPlan, IsStart}
use Rattle.apx_history.specs.Laws.{IsHistory}
use Rattle.apx_history.proofs.Legal.{append-legal, after-append}
use Rattle.apx_machine.specs.Machine.{Running}
use Rattle.apx_audit.specs.declared.audited.AuditRefusal.{AuditRefusal}
use Rattle.apx_audit.specs.declared.audited.AuditRefusal.TheVariants.{Line, Memory}
use Rattle.apx_audit.specs.Text.{line_text, journal_text, IsEntry}
use Rattle.apx_audit.specs.Verdict.{IsJournal, BeginsWith, HasNoForm, IsWhy, IsRefused, Verdict, Legal, Refused, IsVerdict, Told}
use Rattle.apx_audit.proofs.Verdicts.{one_verdict}

-- the lines before the rest are those of a legal journal, and the machine is in the state after it
pub record HasRead (plan : Plan) (text : List ℕ) (es : List Entry) (m : Running) (rest : List ℕ) : Type 0 where
  pub entries : AllByRecursion IsEntry es
  pub legal : IsHistory plan 0 0 es
  pub split : text ≡ journal_text es ++ rest
  pub runs : m.plan ≡ plan
  pub state : m.state ≡ after plan (beginning plan 0 0) es

-- a run may begin from nothing
from_nothing : (plan : Plan) → IsPlan plan → IsStart plan 0 0
from_nothing plan is = record {
  stored = omega arith;
  behind = omega arith;
  checkpoint = (let some = is.every in eq-eqb (0 % plan.every) 0 (omega arith));
  script = inl refl;
}

-- before the first line
pub begun : (plan : Plan) (text : List ℕ) (es : List Entry) (m : Running) → IsPlan plan → es ≡ [] → m.plan ≡ plan → m.state ≡ beginning plan 0 0 → HasRead plan text es m text
begun plan text es m is none runs state =
    subst (λ (xs : List Entry). HasRead plan text xs m text) (sym none)
    (record {
      entries = tt;
      legal = record { is = is; start = from_nothing plan is; legal = refl };
      split = refl;
      runs = runs;
      state = state;
    })

all_more : (es : List Entry) (e : Entry) → AllByRecursion IsEntry es → IsEntry e → AllByRecursion IsEntry (es ++ e ∷ [])
all_more [] e all is = (is, tt)
all_more (x ∷ es) e all is = (all.0, all_more es e all.1 is)

module _ (plan : Plan) (text : List ℕ) (es : List Entry) (m : Running) (rest : List ℕ) (read : HasRead plan text es m rest) where
  -- an entry that may come next
  pub read_more : (e : Entry) (behind : List ℕ) (now : List Entry) (n : Running) → BeginsWith rest e behind → fits m.plan m.state e ≡ true →
      now ≡ es ++ e ∷ [] → n.plan ≡ m.plan → n.state ≡ next m.plan m.state e.worker e.event → HasRead plan text now n behind
  read_more e behind now n begins may is runs state =
      let here : fits plan (after plan (beginning plan 0 0) es) e ≡ true =
      subst (λ (x : State). fits plan x e ≡ true) read.state (subst (λ (p : Plan). fits p m.state e ≡ true) read.runs may) in
      let one : is_legal plan (after plan (beginning plan 0 0) es) (e ∷ []) ≡ true = and_from _ _ here refl in
      let lines : journal_text es ++ (line_text e ++ behind) ≡ journal_text (es ++ e ∷ []) ++ behind =
      sym (append_assoc (journal_text es) (line_text e) behind) ∙ ap (λ (t : List ℕ). t ++ behind) (flat_map_more line_text [] es e) in
      subst (λ (xs : List Entry). HasRead plan text xs n behind) (sym is)
      (record {
        entries = all_more es e read.entries begins.entry;
        legal = record { is = read.legal.is; start = read.legal.start; legal = append-legal plan (beginning plan 0 0) es (e ∷ []) read.legal.legal one };
        split = read.split ∙ (ap (λ (t : List ℕ). journal_text es ++ t) begins.split ∙ lines);
        runs = runs ∙ read.runs;
        state = state
            ∙ (ap (λ (p : Plan). next p m.state e.worker e.event) read.runs
            ∙ (ap (λ (x : State). next plan x e.worker e.event) read.state
            ∙ sym (after-append plan (beginning plan 0 0) es (e ∷ []))));
      })

  -- no line is left
  pub read_all : length rest ≡ 0 → IsJournal plan text es
  read_all none = record {
    entries = read.entries;
    legal = read.legal;
    is = read.split ∙ (ap (λ (t : List ℕ). journal_text es ++ t) (empty rest none) ∙ append-nil (journal_text es));
  }
    where
      empty : (xs : List ℕ) → length xs ≡ 0 → xs ≡ []
      empty [] e = refl
      empty (x ∷ xs) e = absurd (omega arith)

  -- a line that is refused
  pub refused : (line why : ℕ) → 0 < length rest → line ≡ length es + 1 → IsWhy m.plan m.state rest why → IsRefused plan text line why
  refused line why some number is = record {
    front = journal_text es;
    before = es;
    legal = record { entries = read.entries; legal = read.legal; is = refl };
    rest = rest;
    some = some;
    split = read.split;
    number = number;
    cause = subst (λ (x : State). IsWhy plan x rest why) read.state (subst (λ (p : Plan). IsWhy p m.state rest why) read.runs is);
  }

-- what was told is the one verdict
pub told_one : {X : Type 0} (journal_of : X → List Entry) (plan : Plan) (text : List ℕ) (r : Result X AuditRefusal) → Told journal_of r (IsVerdict plan text) →
    (v : Verdict) → IsVerdict plan text v → Told journal_of r (λ told. told ≡ v)
told_one journal_of plan text (Ok x) is v verdict = one_verdict plan text (Legal (journal_of x)) v is verdict
told_one journal_of plan text (Err (Line line why)) is v verdict = one_verdict plan text (Refused line why) v is verdict
told_one journal_of plan text (Err Memory) is v verdict = tt
