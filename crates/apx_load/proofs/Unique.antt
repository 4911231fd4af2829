-- Words and files are read in one way: what is accepted is one, what is refused first is one, and words and files have
-- one of both and never both.
use Rattle.std.proofs.Common.{◌≡◌, ℕ, zero, suc, Bool, true, false, ◌<◌, ◌≤◌, ◌⊎◌, inl, inr, List, [], ◌∷◌, length, filter_map, Option, Some, None, Result, Ok, Err, arith, refl, ap, sym, subst, ◌∙◌}
use Rattle.apx_device.specs.Folder.{IsPast}
use Rattle.apx_json.specs.Texts.{Application}
use Rattle.apx_json.specs.Reading.{Reads}
use Rattle.apx_json.specs.declared.refusal.JsonRefusal.TheVariants.{Syntax, Shape}
use Rattle.apx_dag.specs.Graph.{IsAccepted, IsRefused, before, cycle, after, name_at, graph_of}
use Rattle.apx_dag.specs.Checks.{Checked}
use Rattle.apx_dag.specs.Marks.{IsFirstLoop}
use Rattle.apx_dag.specs.Rules.{before_cycles, after_cycles}
use Rattle.apx_dag.specs.Ports.{links_of}
use Rattle.apx_pass.specs.Graph.{Role, Input, Inner, Sink, Node}
use Rattle.apx_pass.specs.Groups as groups
use Rattle.apx_pass.specs.Groups.{Cause, Refused, TooMany, TooLong, BadPair, input_of, first_refused}
use Rattle.apx_pass.specs.Pass.{Dataflow}
use Rattle.apx_load.specs.declared.refusal.LineCause.{LineCause}
use Rattle.apx_load.specs.declared.refusal.LineCause.TheVariants as cause
use Rattle.apx_load.specs.declared.refusal.Refusal.{Refusal}
use Rattle.apx_load.specs.declared.refusal.Refusal.TheVariants.{NotACommand, NoFile, FileTooLong, NoJson, WrongShape, BrokenRule, RefusedLine, RefusedCommand, RefusedEntry, NotBuilt}
use Rattle.apx_cmd.specs.declared.commands.Command.{Command}
use Rattle.apx_cmd.specs.declared.commands.Command.TheVariants.{Check, Plan, Mean, Sim, Run, Gen, Trace, Audit}
use Rattle.apx_cmd.specs.Commands.{command_of}
use Rattle.apx_pass.specs.Script.{Line, RefusedLine as RefusedScript, script_of}
use Rattle.apx_script.specs.declared.settings.Settings.{Settings}
use Rattle.apx_pass.specs.Job.{Job}
use Rattle.apx_audit.specs.Verdict as verdict
use Rattle.apx_audit.proofs.Verdicts.{one_verdict}
use Rattle.apx_job.specs.Job.{plan_of, refused_line}
use Rattle.apx_job.specs.Prepared.{job_of}
use Rattle.serde_json.specs.Data.{Data}
use Rattle.apx_json.specs.Reading.{IsJson}
use Rattle.apx_json.specs.Shape.{application_of}
use Rattle.apx_dag.specs.Order.{Reaches}
use Rattle.apx_load.specs.Jobs.{IsLineOfText, IsScript, IsScriptRefusal, IsLineOfJob, IsScripted, IsScriptedRefusal, IsJob, IsJobRefusal}
use Rattle.apx_load.specs.Audits.{IsEntryRefusal, IsUnrefused, IsJournalFile, IsJournalRefusal, IsAudited, IsAuditRefusal}
use Rattle.apx_load.specs.First.{IsAcceptedBy, IsRefusedBy, AreAccepted, IsRefusal, of_words, of_files}
use Rattle.apx_load.specs.Refusals.{by_files, IsAppText, IsTextRefusal, IsFileRefusal, IsApplication, IsApplicationRefusal, cause_view, IsInputOf, IsLineRefusal, IsInputRefusal, AreRead, AreInputs, IsInputsRefusal, IsAcceptedRun, IsRunRefusal}

-- at most one thing is accepted, at most one refusal comes, never both, and never neither
pub record IsDecided (X : Type 0) (A : X → Type 0) (R : Refusal → Type 0) : Type 0 where
  pub accepted : (x y : X) → A x → A y → x ≡ y
  pub refused : (r s : Refusal) → R r → R s → r ≡ s
  pub apart : (x : X) (r : Refusal) → A x → R r → ⊥
  pub total : ((x : X) → A x → ⊥) → ((r : Refusal) → R r → ⊥) → ⊥

-- ---- one reading after another

refused_next : (X Y : Type 0) (A : X → Type 0) (R : Refusal → Type 0) (B : X → Y → Type 0) (S : X → Refusal → Type 0) → IsDecided X A R → ((x : X) → IsDecided Y (B x) (S x)) → (r s : Refusal) → R r ⊎ ((x : X) × A x × S x r) → R s ⊎ ((x : X) × A x × S x s) → r ≡ s
refused_next X Y A R B S first next r s (inl p) (inl q) = first.refused r s p q
refused_next X Y A R B S first next r s (inl p) (inr q) = absurd (first.apart q.0 r q.1 p)
refused_next X Y A R B S first next r s (inr p) (inl q) = absurd (first.apart p.0 s p.1 q)
refused_next X Y A R B S first next r s (inr p) (inr q) = (next q.0).refused r s (subst (λ (x : X). S x r) (first.accepted p.0 q.0 p.1 q.1) p.2) q.2

apart_next : (X Y : Type 0) (A : X → Type 0) (R : Refusal → Type 0) (B : X → Y → Type 0) (S : X → Refusal → Type 0) → IsDecided X A R → ((x : X) → IsDecided Y (B x) (S x)) → (y : Y) (r : Refusal) → (x : X) × A x × B x y → R r ⊎ ((x : X) × A x × S x r) → ⊥
apart_next X Y A R B S first next y r p (inl q) = first.apart p.0 r p.1 q
apart_next X Y A R B S first next y r p (inr q) = (next q.0).apart y r (subst (λ (x : X). B x y) (first.accepted p.0 q.0 p.1 q.1) p.2) q.2

total_next : (X Y : Type 0) (A : X → Type 0) (R : Refusal → Type 0) (B : X → Y → Type 0) (S : X → Refusal → Type 0) → IsDecided X A R → ((x : X) → IsDecided Y (B x) (S x)) → ((y : Y) → ((x : X) × A x × B x y) → ⊥) → ((r : Refusal) → (R r ⊎ ((x : X) × A x × S x r)) → ⊥) → ⊥
total_next X Y A R B S first next none unrefused =
    first.total (λ x a. (next x).total (λ y b. none y (x, a, b)) (λ r s. unrefused r (inr (x, a, s)))) (λ r p. unrefused r (inl p))

then : (X Y : Type 0) (A : X → Type 0) (R : Refusal → Type 0) (B : X → Y → Type 0) (S : X → Refusal → Type 0) → IsDecided X A R → ((x : X) → IsDecided Y (B x) (S x)) → IsDecided Y (λ y. (x : X) × A x × B x y) (λ r. R r ⊎ ((x : X) × A x × S x r))
then X Y A R B S first next = record {
  accepted = λ y z p q. (next q.0).accepted y z (subst (λ (x : X). B x y) (first.accepted p.0 q.0 p.1 q.1) p.2) q.2;
  refused = refused_next X Y A R B S first next;
  apart = apart_next X Y A R B S first next;
  total = total_next X Y A R B S first next;
}

-- ---- a file

module _ (told : List ℕ → Option (List ℕ)) (name : List ℕ) (limit : ℕ) where
  file_accepted : (x y : List ℕ) → by_files told name limit (Ok x) → by_files told name limit (Ok y) → x ≡ y
  file_accepted x y p q = let a : told name ≡ Some x = p.0 in let b : told name ≡ Some y = q.0 in cc

  missing_or_long : told name ≡ None → IsPast limit (told name) → ⊥
  missing_or_long none past = let some : told name ≡ Some past.bytes = past.is in cc

  file_refused : (r s : Refusal) → IsFileRefusal (by_files told) name limit r → IsFileRefusal (by_files told) name limit s → r ≡ s
  file_refused (NoFile f) (NoFile g) p q = ap NoFile (p.0 ∙ sym q.0)
  file_refused (NoFile f) (FileTooLong g) p q = absurd (missing_or_long p.1.0 q.1.0)
  file_refused (NoFile f) _ p q = absurd q
  file_refused (FileTooLong f) (NoFile g) p q = absurd (missing_or_long q.1.0 p.1.0)
  file_refused (FileTooLong f) (FileTooLong g) p q = ap FileTooLong (p.0 ∙ sym q.0)
  file_refused (FileTooLong f) _ p q = absurd q
  file_refused _ s p q = absurd p

  file_apart : (x : List ℕ) (r : Refusal) → by_files told name limit (Ok x) → IsFileRefusal (by_files told) name limit r → ⊥
  file_apart x (NoFile f) p q = let a : told name ≡ Some x = p.0 in let b : told name ≡ None = q.1.0 in cc
  file_apart x (FileTooLong f) p q =
      let a : told name ≡ Some x = p.0 in let b : told name ≡ Some q.1.0.bytes = q.1.0.is in let same : x ≡ q.1.0.bytes = cc in
      omega (arith, ap length same, p.1, q.1.0.longer)
  file_apart x _ p q = absurd q

  file_by : (file : Option (List ℕ)) → told name ≡ file → ((x : List ℕ) → by_files told name limit (Ok x) → ⊥) → ((r : Refusal) → IsFileRefusal (by_files told) name limit r → ⊥) → ⊥
  file_by None is none unrefused = unrefused (NoFile name) (refl, (is, tt))
  file_by (Some bytes) is none unrefused =
      let short : length bytes ≤ limit → ⊥ = λ within. none bytes (is, within) in
      let long : limit < length bytes → ⊥ = λ longer. unrefused (FileTooLong name) (refl, (record { bytes = bytes; is = is; longer = longer }, tt)) in
      omega (arith, short, long)

  file_decided : IsDecided (List ℕ) (λ text. by_files told name limit (Ok text)) (IsFileRefusal (by_files told) name limit)
  file_decided = record { accepted = file_accepted; refused = file_refused; apart = file_apart; total = file_by (told name) refl }

-- ---- the graph of an application

graph_apart : (app : Application) (code : ℕ) (place : List ℕ) → IsAccepted app → IsRefused app code place → ⊥
graph_apart app code place is (before p) = let a = is.before in cc
graph_apart app code place is (cycle {i = i} p loop q r) = is.acyclic i loop.here loop.loops
graph_apart app code place is (after p q r) = let a = is.after in cc

-- the first loop is one
first_loop : (app : Application) (i j : ℕ) → IsFirstLoop (links_of app) i → IsFirstLoop (links_of app) j → i ≡ j
first_loop app i j p q =
    let a : i < j → ⊥ = λ here. q.first i here p.loops in
    let b : j < i → ⊥ = λ here. p.first j here q.loops in
    omega (arith, a, b)

same_rule : (code : ℕ) (place : List ℕ) (code2 : ℕ) (place2 : List ℕ) (checked : Checked) → checked ≡ Err (code, place) → checked ≡ Err (code2, place2) → BrokenRule code place ≡ BrokenRule code2 place2
same_rule code place code2 place2 checked p q =
    let pair : (code, place) ≡ (code2, place2) = cc in
    ap (λ (x : ℕ × List ℕ). BrokenRule x.0 x.1) pair

graph_refused : (app : Application) (code : ℕ) (place : List ℕ) (code2 : ℕ) (place2 : List ℕ) → IsRefused app code place → IsRefused app code2 place2 → BrokenRule code place ≡ BrokenRule code2 place2
graph_refused app code place code2 place2 (before p) (before q) = same_rule code place code2 place2 (before_cycles app) p q
graph_refused app code place code2 place2 (before p) (cycle {i = j} q loop e f) = cc
graph_refused app code place code2 place2 (before p) (after q e f) = cc
graph_refused app code place code2 place2 (cycle {i = i} p loop c d) (before q) = cc
graph_refused app code place code2 place2 (cycle {i = i} p loop c d) (cycle {i = j} q loop2 e f) = let same = ap (name_at app.operators) (first_loop app i j loop loop2) in cc
graph_refused app code place code2 place2 (cycle {i = i} p loop c d) (after q e f) = absurd (e i loop.here loop.loops)
graph_refused app code place code2 place2 (after p c d) (before q) = cc
graph_refused app code place code2 place2 (after p c d) (cycle {i = j} q loop e f) = absurd (c j loop.here loop.loops)
graph_refused app code place code2 place2 (after p c d) (after q e f) = same_rule code place code2 place2 (after_cycles app) d f

-- an application whose graph is neither accepted nor refused has no loop
no_loops : (app : Application) → before_cycles app ≡ Ok tt → ((code : ℕ) (place : List ℕ) → IsRefused app code place → ⊥) → (n j : ℕ) → j < n → j < length (links_of app) → Reaches (links_of app) j j → ⊥
no_loops app checked unrefused zero j below here loops = omega (arith, below)
no_loops app checked unrefused (suc n) j below here loops =
    unrefused 8 (name_at app.operators j) (cycle {i = j} checked (record {
      here = here;
      loops = loops;
      first = λ k earlier again. no_loops app checked unrefused n k (omega (arith, below, earlier)) (omega (arith, here, earlier)) again;
    }) refl refl)

graph_behind : (app : Application) (later : Checked) → before_cycles app ≡ Ok tt → after_cycles app ≡ later → (IsAccepted app → ⊥) → ((code : ℕ) (place : List ℕ) → IsRefused app code place → ⊥) → ⊥
graph_behind app (Ok x) checked is none unrefused =
    none (record { before = checked; acyclic = λ i here. no_loops app checked unrefused (suc i) i (omega arith) here; after = is })
graph_behind app (Err (code, place)) checked is none unrefused =
    unrefused code place (after checked (λ i here. no_loops app checked unrefused (suc i) i (omega arith) here) is)

graph_total : (app : Application) (first : Checked) → before_cycles app ≡ first → (IsAccepted app → ⊥) → ((code : ℕ) (place : List ℕ) → IsRefused app code place → ⊥) → ⊥
graph_total app (Ok x) is none unrefused = graph_behind app (after_cycles app) is refl none unrefused
graph_total app (Err (code, place)) is none unrefused = unrefused code place (before is)

-- ---- the text of an application

read_one : (text : List ℕ) (app app2 : Application) → Reads text (Ok app) → Reads text (Ok app2) → app ≡ app2
read_one text app app2 p q = let a = p.1.1 in let b = q.1.1 in let c = p.2 in let d = q.2 in let same : p.0 ≡ q.0 = cc in cc

read_or_none : (text : List ℕ) (app : Application) → Reads text (Ok app) → Reads text (Err Syntax) → ⊥
read_or_none text app p q = q p.0 p.1

read_or_wrong : (text : List ℕ) (app : Application) (place : List ℕ) → Reads text (Ok app) → Reads text (Err (Shape place)) → ⊥
read_or_wrong text app place p q = let a = p.1.1 in let b = q.1.1 in let c = p.2 in let d = q.2 in let same : p.0 ≡ q.0 = cc in cc

wrong_one : (text : List ℕ) (place place2 : List ℕ) → Reads text (Err (Shape place)) → Reads text (Err (Shape place2)) → place ≡ place2
wrong_one text place place2 p q = let a = p.1.1 in let b = q.1.1 in let c = p.2 in let d = q.2 in let same : p.0 ≡ q.0 = cc in cc

text_accepted : (text : List ℕ) (nodes nodes2 : List Node) → IsAppText text nodes → IsAppText text nodes2 → nodes ≡ nodes2
text_accepted text nodes nodes2 p q = let same = ap graph_of (read_one text p.app q.app p.read q.read) in p.graph.1 ∙ same ∙ sym q.graph.1

text_refused : (text : List ℕ) (r s : Refusal) → IsTextRefusal text r → IsTextRefusal text s → r ≡ s
text_refused text NoJson NoJson p q = refl
text_refused text NoJson (WrongShape place) p q = absurd (p q.0 q.1)
text_refused text NoJson (BrokenRule code place) p q = absurd (read_or_none text q.0 q.1 p)
text_refused text NoJson _ p q = absurd q
text_refused text (WrongShape place) NoJson p q = absurd (q p.0 p.1)
text_refused text (WrongShape place) (WrongShape place2) p q = ap WrongShape (wrong_one text place place2 p q)
text_refused text (WrongShape place) (BrokenRule code place2) p q = absurd (read_or_wrong text q.0 place q.1 p)
text_refused text (WrongShape place) _ p q = absurd q
text_refused text (BrokenRule code place) NoJson p q = absurd (read_or_none text p.0 p.1 q)
text_refused text (BrokenRule code place) (WrongShape place2) p q = absurd (read_or_wrong text p.0 place2 p.1 q)
text_refused text (BrokenRule code place) (BrokenRule code2 place2) p q =
    graph_refused q.0 code place code2 place2 (subst (λ (app : Application). IsRefused app code place) (read_one text p.0 q.0 p.1 q.1) p.2) q.2
text_refused text (BrokenRule code place) _ p q = absurd q
text_refused text _ s p q = absurd p

text_apart : (text : List ℕ) (nodes : List Node) (r : Refusal) → IsAppText text nodes → IsTextRefusal text r → ⊥
text_apart text nodes NoJson p q = read_or_none text p.app p.read q
text_apart text nodes (WrongShape place) p q = read_or_wrong text p.app place p.read q
text_apart text nodes (BrokenRule code place) p q =
    graph_apart q.0 code place (subst IsAccepted (read_one text p.app q.0 p.read q.1) p.graph.0) q.2
text_apart text nodes _ p q = absurd q

text_by : (text : List ℕ) (d : Data) (app : Result Application (List ℕ)) → IsJson text d → application_of d ≡ app → ((nodes : List Node) → IsAppText text nodes → ⊥) → ((r : Refusal) → IsTextRefusal text r → ⊥) → ⊥
text_by text d (Err place) json is none unrefused = unrefused (WrongShape place) (d, json, is)
text_by text d (Ok app) json is none unrefused =
    graph_total app (before_cycles app) refl
    (λ accepted. none (graph_of app) (record { app = app; read = (d, json, is); graph = (accepted, refl) }))
    (λ code place refused. unrefused (BrokenRule code place) (app, (d, json, is), refused))

text_total : (text : List ℕ) → ((nodes : List Node) → IsAppText text nodes → ⊥) → ((r : Refusal) → IsTextRefusal text r → ⊥) → ⊥
text_total text none unrefused = unrefused NoJson (λ d json. text_by text d (application_of d) json refl none unrefused)

text_decided : (text : List ℕ) → IsDecided (List Node) (IsAppText text) (IsTextRefusal text)
text_decided text = record { accepted = text_accepted text; refused = text_refused text; apart = text_apart text; total = text_total text }

-- ---- the file of an application

file_then_text : (told : List ℕ → Option (List ℕ)) (name : List ℕ) → IsDecided (List Node) (λ nodes. (text : List ℕ) × by_files told name 1048576 (Ok text) × IsAppText text nodes) (IsApplicationRefusal (by_files told) name)
file_then_text told name = then (List ℕ) (List Node) (λ text. by_files told name 1048576 (Ok text)) (IsFileRefusal (by_files told) name 1048576) IsAppText IsTextRefusal (file_decided told name 1048576) text_decided

application_decided : (told : List ℕ → Option (List ℕ)) (name : List ℕ) → IsDecided (List Node) (IsApplication (by_files told) name) (IsApplicationRefusal (by_files told) name)
application_decided told name = record {
  accepted = λ x y p q. (file_then_text told name).accepted x y (p.text, p.file, p.app) (q.text, q.file, q.app);
  refused = (file_then_text told name).refused;
  apart = λ x r p q. (file_then_text told name).apart x r (p.text, p.file, p.app) q;
  total = λ none unrefused. (file_then_text told name).total (λ nodes is. none nodes (record { text = is.0; file = is.1; app = is.2 })) unrefused;
}

-- a file is one application
pub application-or-refusal : (told : List ℕ → Option (List ℕ)) (name : List ℕ) (nodes : List Node) (r : Refusal) → IsApplication (by_files told) name nodes → IsApplicationRefusal (by_files told) name r → ⊥
application-or-refusal told name = let decided = application_decided told name in decided.apart

pub application-unique : (told : List ℕ → Option (List ℕ)) (name : List ℕ) (nodes nodes2 : List Node) → IsApplication (by_files told) name nodes → IsApplication (by_files told) name nodes2 → nodes ≡ nodes2
application-unique told name = (application_decided told name).accepted

-- ---- what an operator reads

same_cause : (a b : LineCause) → cause_view a ≡ cause_view b → a ≡ b
same_cause cause.TooMany cause.TooMany e = refl
same_cause cause.TooMany cause.TooLong e = cc
same_cause cause.TooMany cause.BadPair e = cc
same_cause cause.TooLong cause.TooMany e = cc
same_cause cause.TooLong cause.TooLong e = refl
same_cause cause.TooLong cause.BadPair e = cc
same_cause cause.BadPair cause.TooMany e = cc
same_cause cause.BadPair cause.TooLong e = cc
same_cause cause.BadPair cause.BadPair e = refl

same_line : (f f2 : List ℕ) (l l2 : ℕ) (c c2 : LineCause) (line : Option Refused) → f ≡ f2 → line ≡ Some (record { line = l; cause = cause_view c }) → line ≡ Some (record { line = l2; cause = cause_view c2 }) → RefusedLine f l c ≡ RefusedLine f2 l2 c2
same_line f f2 l l2 c c2 line file p q =
    let a : Refused = record { line = l; cause = cause_view c } in
    let b : Refused = record { line = l2; cause = cause_view c2 } in
    let p : line ≡ Some a = p in
    let q : line ≡ Some b = q in
    let one : a ≡ b = cc in
    let lines : l ≡ l2 = ap (λ (x : Refused). x.line) one in
    let causes : c ≡ c2 = same_cause c c2 (ap (λ (x : Refused). x.cause) one) in
    cc

abbrev pub IsRead : groups.Input → Option groups.Input → Type 0
IsRead read input = (first_refused read ≡ None) × (input ≡ Some read)

line_refused : (input : groups.Input) (file : List ℕ) (r s : Refusal) → IsLineRefusal input file r → IsLineRefusal input file s → r ≡ s
line_refused input file (RefusedLine f l c) (RefusedLine g m d) p q = same_line f g l m c d (first_refused input) (p.0 ∙ sym q.0) p.1 q.1
line_refused input file (RefusedLine f l c) _ p q = absurd q
line_refused input file _ s p q = absurd p

line_apart : (read : groups.Input) (file : List ℕ) (input : Option groups.Input) (r : Refusal) → IsRead read input → IsLineRefusal read file r → ⊥
line_apart read file input (RefusedLine f l c) p q = let a = p.0 in let b = q.1 in cc
line_apart read file input _ p q = absurd q

line_by : (read : groups.Input) (file : List ℕ) (refused : Option Refused) → first_refused read ≡ refused → ((input : Option groups.Input) → IsRead read input → ⊥) → ((r : Refusal) → IsLineRefusal read file r → ⊥) → ⊥
line_by read file None is none unrefused = none (Some read) (is, refl)
line_by read file (Some refused) is none unrefused = by refused.cause refl
  where
    same : (c : Cause) → refused.cause ≡ c → first_refused read ≡ Some (record { line = refused.line; cause = c })
    same c e = is ∙ ap (λ (x : Cause). Some (record { line = refused.line; cause = x })) e

    by : (c : Cause) → refused.cause ≡ c → ⊥
    by TooMany e = unrefused (RefusedLine file refused.line cause.TooMany) (refl, same TooMany e)
    by TooLong e = unrefused (RefusedLine file refused.line cause.TooLong) (refl, same TooLong e)
    by BadPair e = unrefused (RefusedLine file refused.line cause.BadPair) (refl, same BadPair e)

lines_decided : (read : groups.Input) (file : List ℕ) → IsDecided (Option groups.Input) (IsRead read) (IsLineRefusal read file)
lines_decided read file = record { accepted = λ x y p q. p.1 ∙ sym q.1; refused = line_refused read file; apart = line_apart read file; total = line_by read file (first_refused read) refl }

-- ---- an input

input_decided : (told : List ℕ → Option (List ℕ)) (role : Role) → IsDecided (Option groups.Input) (IsInputOf (by_files told) role) (IsInputRefusal (by_files told) role)
input_decided told (Input kind file per_window) =
    let read : List ℕ → groups.Input = input_of kind per_window in
    let both : IsDecided (Option groups.Input) (λ input. (text : List ℕ) × by_files told file 16777216 (Ok text) × IsRead (read text) input) (IsInputRefusal (by_files told) (Input kind file per_window)) =
    then (List ℕ) (Option groups.Input) (λ text. by_files told file 16777216 (Ok text)) (IsFileRefusal (by_files told) file 16777216) (λ text. IsRead (read text)) (λ text. IsLineRefusal (read text) file) (file_decided told file 16777216) (λ text. lines_decided (read text) file) in
    record {
      accepted = λ x y p q. both.accepted x y (p.0, p.1.is_file, (p.1.accepted, p.2)) (q.0, q.1.is_file, (q.1.accepted, q.2));
      refused = both.refused;
      apart = λ x r p q. both.apart x r (p.0, p.1.is_file, (p.1.accepted, p.2)) q;
      total = λ none unrefused. both.total (λ input is. none input (is.0, record { is_file = is.1; accepted = is.2.0 }, is.2.1)) unrefused;
    }
input_decided told (Inner kind) = record { accepted = λ x y p q. p ∙ sym q; refused = λ r s p q. absurd p; apart = λ x r p q. q; total = λ none unrefused. none None refl }
input_decided told Sink = record { accepted = λ x y p q. p ∙ sym q; refused = λ r s p q. absurd p; apart = λ x r p q. q; total = λ none unrefused. none None refl }

-- ---- the inputs of all operators

each_accepted : (told : List ℕ → Option (List ℕ)) (nodes : List Node) (x y : List (Option groups.Input)) → AreRead (by_files told) nodes x → AreRead (by_files told) nodes y → x ≡ y
each_accepted told [] [] [] p q = refl
each_accepted told [] [] (y ∷ ys) p q = absurd q
each_accepted told [] (x ∷ xs) ys p q = absurd p
each_accepted told (node ∷ nodes) [] ys p q = absurd p
each_accepted told (node ∷ nodes) (x ∷ xs) [] p q = absurd q
each_accepted told (node ∷ nodes) (x ∷ xs) (y ∷ ys) p q =
    let first : x ≡ y = (input_decided told node.role).accepted x y p.0 q.0 in
    let others : xs ≡ ys = each_accepted told nodes xs ys p.1 q.1 in
    cc

inputs_accepted : (told : List ℕ → Option (List ℕ)) (nodes : List Node) (x y : List groups.Input) → AreInputs (by_files told) nodes x → AreInputs (by_files told) nodes y → x ≡ y
inputs_accepted told nodes x y p q = p.are ∙ ap (filter_map (λ input. input)) (each_accepted told nodes p.each q.each p.read q.read) ∙ sym q.are

inputs_refused : (told : List ℕ → Option (List ℕ)) (nodes : List Node) (r s : Refusal) → IsInputsRefusal (by_files told) nodes r → IsInputsRefusal (by_files told) nodes s → r ≡ s
inputs_refused told [] r s p q = absurd p
inputs_refused told (node ∷ nodes) r s (inl p) (inl q) = (input_decided told node.role).refused r s p q
inputs_refused told (node ∷ nodes) r s (inl p) (inr q) = absurd ((input_decided told node.role).apart q.0.0 r q.0.1 p)
inputs_refused told (node ∷ nodes) r s (inr p) (inl q) = absurd ((input_decided told node.role).apart p.0.0 s p.0.1 q)
inputs_refused told (node ∷ nodes) r s (inr p) (inr q) = inputs_refused told nodes r s p.1 q.1

each_apart : (told : List ℕ → Option (List ℕ)) (nodes : List Node) (x : List (Option groups.Input)) (r : Refusal) → AreRead (by_files told) nodes x → IsInputsRefusal (by_files told) nodes r → ⊥
each_apart told [] x r p q = q
each_apart told (node ∷ nodes) [] r p q = p
each_apart told (node ∷ nodes) (x ∷ xs) r p (inl q) = (input_decided told node.role).apart x r p.0 q
each_apart told (node ∷ nodes) (x ∷ xs) r p (inr q) = each_apart told nodes xs r p.1 q.1

inputs_apart : (told : List ℕ → Option (List ℕ)) (nodes : List Node) (x : List groups.Input) (r : Refusal) → AreInputs (by_files told) nodes x → IsInputsRefusal (by_files told) nodes r → ⊥
inputs_apart told nodes x r p q = each_apart told nodes p.each r p.read q

each_total : (told : List ℕ → Option (List ℕ)) (nodes : List Node) → ((each : List (Option groups.Input)) → AreRead (by_files told) nodes each → ⊥) → ((r : Refusal) → IsInputsRefusal (by_files told) nodes r → ⊥) → ⊥
each_total told [] none unrefused = none [] tt
each_total told (node ∷ nodes) none unrefused =
    (input_decided told node.role).total
    (λ input is. each_total told nodes (λ each are. none (input ∷ each) (is, are)) (λ r there. unrefused r (inr ((input, is), there))))
    (λ r here. unrefused r (inl here))

inputs_total : (told : List ℕ → Option (List ℕ)) (nodes : List Node) → ((inputs : List groups.Input) → AreInputs (by_files told) nodes inputs → ⊥) → ((r : Refusal) → IsInputsRefusal (by_files told) nodes r → ⊥) → ⊥
inputs_total told nodes none unrefused =
    each_total told nodes (λ each are. none (filter_map (λ input. input) each) (record { each = each; read = are; are = refl })) unrefused

-- ---- a script

script_refused : (text : List ℕ) (r s : Refusal) → IsLineOfText text r → IsLineOfText text s → r ≡ s
script_refused text (RefusedCommand l w) (RefusedCommand m v) p q = same_refused_command l m w v (script_of text) p q
  where
    same_refused_command : (l m w v : ℕ) (read : Result (List Line) RefusedScript) → read ≡ Err (record { line = l; why = w }) → read ≡ Err (record { line = m; why = v }) → RefusedCommand l w ≡ RefusedCommand m v
    same_refused_command l m w v read p q =
        let a : RefusedScript = record { line = l; why = w } in
        let b : RefusedScript = record { line = m; why = v } in
        let p : read ≡ Err a = p in
        let q : read ≡ Err b = q in
        let one : a ≡ b = cc in
        let lines : l ≡ m = ap (λ (x : RefusedScript). x.line) one in
        let reasons : w ≡ v = ap (λ (x : RefusedScript). x.why) one in
        cc
script_refused text (RefusedCommand l w) _ p q = absurd q
script_refused text _ s p q = absurd p

script_apart : (text : List ℕ) (lines : List Line) (r : Refusal) → script_of text ≡ Ok lines → IsLineOfText text r → ⊥
script_apart text lines (RefusedCommand l w) p q = let a = p in let b = q in cc
script_apart text lines _ p q = absurd q

script_total : (text : List ℕ) (read : Result (List Line) RefusedScript) → script_of text ≡ read → ((lines : List Line) → script_of text ≡ Ok lines → ⊥) → ((r : Refusal) → IsLineOfText text r → ⊥) → ⊥
script_total text (Ok lines) is none unrefused = none lines is
script_total text (Err refused) is none unrefused = unrefused (RefusedCommand refused.line refused.why) is

same_lines : (text : List ℕ) (x y : List Line) → script_of text ≡ Ok x → script_of text ≡ Ok y → x ≡ y
same_lines text x y p q = cc

script_text_decided : (text : List ℕ) → IsDecided (List Line) (λ lines. script_of text ≡ Ok lines) (IsLineOfText text)
script_text_decided text = record { accepted = same_lines text; refused = script_refused text; apart = script_apart text; total = script_total text (script_of text) refl }

script_decided : (told : List ℕ → Option (List ℕ)) (script : Option (List ℕ)) → IsDecided (List Line) (IsScript (by_files told) script) (IsScriptRefusal (by_files told) script)
script_decided told None = record { accepted = λ x y p q. p ∙ sym q; refused = λ r s p q. absurd p; apart = λ x r p q. q; total = λ none unrefused. none [] refl }
script_decided told (Some name) =
    then (List ℕ) (List Line) (λ text. by_files told name 1048576 (Ok text)) (IsFileRefusal (by_files told) name 1048576) (λ text lines. script_of text ≡ Ok lines) IsLineOfText (file_decided told name 1048576) script_text_decided

-- ---- a job

-- the job is this one, and it refuses no line
abbrev pub IsJudged : Job → Job → Type 0
IsJudged parts job = (refused_line parts ≡ None) × (job ≡ parts)

judged_refused : (job : Job) (r s : Refusal) → IsLineOfJob job r → IsLineOfJob job s → r ≡ s
judged_refused job (RefusedCommand l w) (RefusedCommand m v) p q = same_command_line l m w v (refused_line job) p q
  where
    same_command_line : (l m w v : ℕ) (read : Option RefusedScript) → read ≡ Some (record { line = l; why = w }) → read ≡ Some (record { line = m; why = v }) → RefusedCommand l w ≡ RefusedCommand m v
    same_command_line l m w v read p q =
        let a : RefusedScript = record { line = l; why = w } in
        let b : RefusedScript = record { line = m; why = v } in
        let p : read ≡ Some a = p in
        let q : read ≡ Some b = q in
        let one : a ≡ b = cc in
        let lines : l ≡ m = ap (λ (x : RefusedScript). x.line) one in
        let reasons : w ≡ v = ap (λ (x : RefusedScript). x.why) one in
        cc
judged_refused job (RefusedCommand l w) _ p q = absurd q
judged_refused job _ s p q = absurd p

judged_apart : (parts job : Job) (r : Refusal) → IsJudged parts job → IsLineOfJob parts r → ⊥
judged_apart parts job (RefusedCommand l w) p q = let a = p.0 in let b = q in cc
judged_apart parts job _ p q = absurd q

judged_total : (parts : Job) (line : Option RefusedScript) → refused_line parts ≡ line → ((job : Job) → IsJudged parts job → ⊥) → ((r : Refusal) → IsLineOfJob parts r → ⊥) → ⊥
judged_total parts None is none unrefused = none parts (is, refl)
judged_total parts (Some refused) is none unrefused = unrefused (RefusedCommand refused.line refused.why) is

judged_decided : (parts : Job) → IsDecided Job (IsJudged parts) (IsLineOfJob parts)
judged_decided parts = record { accepted = λ x y p q. p.1 ∙ sym q.1; refused = judged_refused parts; apart = judged_apart parts; total = judged_total parts (refused_line parts) refl }

scripted_decided : (told : List ℕ → Option (List ℕ)) (flow : Dataflow) (script : Option (List ℕ)) (settings : Settings) → IsDecided Job (IsScripted (by_files told) flow script settings) (IsScriptedRefusal (by_files told) flow script settings)
scripted_decided told flow script settings =
    let parts : List Line → Job = λ lines. job_of flow.nodes flow.inputs lines settings in
    let both : IsDecided Job (λ job. (lines : List Line) × IsScript (by_files told) script lines × IsJudged (parts lines) job) (IsScriptedRefusal (by_files told) flow script settings) =
    then (List Line) Job (IsScript (by_files told) script) (IsScriptRefusal (by_files told) script) (λ lines. IsJudged (parts lines)) (λ lines. IsLineOfJob (parts lines)) (script_decided told script) (λ lines. judged_decided (parts lines)) in
    record {
      accepted = λ x y p q. both.accepted x y (p.lines, p.read, (p.judged, p.is)) (q.lines, q.read, (q.judged, q.is));
      refused = both.refused;
      apart = λ x r p q. both.apart x r (p.lines, p.read, (p.judged, p.is)) q;
      total = λ none unrefused. both.total (λ job is. none job (record { lines = is.0; read = is.1; judged = is.2.0; is = is.2.1 })) unrefused;
    }

-- ---- a journal

-- a first refused line is one
entry_refused : (job : Job) (text : List ℕ) (r s : Refusal) → IsEntryRefusal job text r → IsEntryRefusal job text s → r ≡ s
entry_refused job text (RefusedEntry l w) (RefusedEntry m v) p q =
    let one : verdict.Refused l w ≡ verdict.Refused m v = one_verdict (plan_of job) text (verdict.Refused l w) (verdict.Refused m v) p q in
    cc
entry_refused job text (RefusedEntry l w) _ p q = absurd q
entry_refused job text _ s p q = absurd p

entry_apart : (job : Job) (text same : List ℕ) (r : Refusal) → IsUnrefused job text × (same ≡ text) → IsEntryRefusal job text r → ⊥
entry_apart job text same (RefusedEntry l w) p q = p.0 l w q
entry_apart job text same _ p q = absurd q

entry_total : (job : Job) (text : List ℕ) → ((same : List ℕ) → IsUnrefused job text × (same ≡ text) → ⊥) → ((r : Refusal) → IsEntryRefusal job text r → ⊥) → ⊥
entry_total job text none unrefused = none text ((λ l w is. unrefused (RefusedEntry l w) is), refl)

entries_decided : (job : Job) (text : List ℕ) → IsDecided (List ℕ) (λ same. IsUnrefused job text × (same ≡ text)) (IsEntryRefusal job text)
entries_decided job text = record { accepted = λ x y p q. p.1 ∙ sym q.1; refused = entry_refused job text; apart = entry_apart job text; total = entry_total job text }

journal_decided : (told : List ℕ → Option (List ℕ)) (name : List ℕ) (job : Job) → IsDecided (List ℕ) (IsJournalFile (by_files told) name job) (IsJournalRefusal (by_files told) name job)
journal_decided told name job =
    let both : IsDecided (List ℕ) (λ same. (text : List ℕ) × by_files told name 67108864 (Ok text) × (IsUnrefused job text × (same ≡ text))) (IsJournalRefusal (by_files told) name job) =
    then (List ℕ) (List ℕ) (λ text. by_files told name 67108864 (Ok text)) (IsFileRefusal (by_files told) name 67108864) (λ text same. IsUnrefused job text × (same ≡ text)) (IsEntryRefusal job) (file_decided told name 67108864) (entries_decided job) in
    record {
      accepted = λ x y p q. both.accepted x y (x, p.read, (p.unrefused, refl)) (y, q.read, (q.unrefused, refl));
      refused = both.refused;
      apart = λ x r p q. both.apart x r (x, p.read, (p.unrefused, refl)) q;
      total = λ none unrefused. both.total (λ same is. none is.0 (record { read = is.1; unrefused = is.2.0 })) unrefused;
    }

-- ---- words and files

abbrev dataflow : List Node → List groups.Input → Dataflow
dataflow nodes inputs = record { nodes = nodes; inputs = inputs }

module _ (told : List ℕ → Option (List ℕ)) where
  inputs_decided : (nodes : List Node) → IsDecided (List groups.Input) (AreInputs (by_files told) nodes) (IsInputsRefusal (by_files told) nodes)
  inputs_decided nodes = record { accepted = inputs_accepted told nodes; refused = inputs_refused told nodes; apart = inputs_apart told nodes; total = inputs_total told nodes }

  same_flow : (nodes nodes2 : List Node) (inputs inputs2 : List groups.Input) → nodes ≡ nodes2 → inputs ≡ inputs2 → dataflow nodes inputs ≡ dataflow nodes2 inputs2
  same_flow nodes nodes2 inputs inputs2 p q = cc

  -- the dataflow of a run is one
  pub run-unique : (name : List ℕ) (flow other : Dataflow) → IsAcceptedRun (by_files told) name flow → IsAcceptedRun (by_files told) name other → flow ≡ other
  run-unique name flow other p q =
      let nodes : flow.nodes ≡ other.nodes = application-unique told name flow.nodes other.nodes p.application q.application in
      let inputs : flow.inputs ≡ other.inputs = inputs_accepted told other.nodes flow.inputs other.inputs (subst (λ (n : List Node). AreInputs (by_files told) n flow.inputs) nodes p.inputs) q.inputs in
      same_flow flow.nodes other.nodes flow.inputs other.inputs nodes inputs

  graph_and_inputs : (name : List ℕ) → IsDecided (List groups.Input) (λ inputs. (nodes : List Node) × IsApplication (by_files told) name nodes × AreInputs (by_files told) nodes inputs) (IsRunRefusal (by_files told) name)
  graph_and_inputs name =
      then (List Node) (List groups.Input) (IsApplication (by_files told) name) (IsApplicationRefusal (by_files told) name) (AreInputs (by_files told)) (IsInputsRefusal (by_files told)) (application_decided told name) inputs_decided

  run_decided : (name : List ℕ) → IsDecided Dataflow (IsAcceptedRun (by_files told) name) (IsRunRefusal (by_files told) name)
  run_decided name = record {
    accepted = run-unique name;
    refused = (graph_and_inputs name).refused;
    apart = λ flow r p q. (graph_and_inputs name).apart flow.inputs r (flow.nodes, p.application, p.inputs) q;
    total = λ none unrefused. (graph_and_inputs name).total (λ inputs is. none (dataflow is.0 inputs) (record { application = is.1; inputs = is.2 })) unrefused;
  }

  job_decided : (name : List ℕ) (script : Option (List ℕ)) (settings : Settings) → IsDecided Job (IsJob (by_files told) name script settings) (IsJobRefusal (by_files told) name script settings)
  job_decided name script settings =
      then Dataflow Job (IsAcceptedRun (by_files told) name) (IsRunRefusal (by_files told) name) (λ flow. IsScripted (by_files told) flow script settings) (λ flow. IsScriptedRefusal (by_files told) flow script settings) (run_decided name) (λ flow. scripted_decided told flow script settings)

  -- the job that is run is one
  pub job-unique : (name : List ℕ) (script : Option (List ℕ)) (settings : Settings) (job other : Job) → IsJob (by_files told) name script settings job → IsJob (by_files told) name script settings other → job ≡ other
  job-unique name script settings = (job_decided name script settings).accepted

  -- it isn't both accepted and refused
  pub job-or-refused : (name : List ℕ) (script : Option (List ℕ)) (settings : Settings) (job : Job) (r : Refusal) → IsJob (by_files told) name script settings job → IsJobRefusal (by_files told) name script settings r → ⊥
  job-or-refused name script settings = (job_decided name script settings).apart

  audit_decided : (app journal : List ℕ) (script : Option (List ℕ)) (settings : Settings) → IsDecided (List ℕ) (IsAudited (by_files told) app journal script settings) (IsAuditRefusal (by_files told) app journal script settings)
  audit_decided app journal script settings =
      then Job (List ℕ) (IsJob (by_files told) app script settings) (IsJobRefusal (by_files told) app script settings) (λ job. IsJournalFile (by_files told) journal job) (λ job. IsJournalRefusal (by_files told) journal job) (job_decided app script settings) (λ job. journal_decided told journal job)

  -- a journal isn't both accepted and refused
  pub audited-or-refused : (app journal : List ℕ) (script : Option (List ℕ)) (settings : Settings) (text : List ℕ) (r : Refusal) → IsAudited (by_files told) app journal script settings text → IsAuditRefusal (by_files told) app journal script settings r → ⊥
  audited-or-refused app journal script settings = (audit_decided app journal script settings).apart

  -- the first refusal of a journal is one
  pub audit-refusal-unique : (app journal : List ℕ) (script : Option (List ℕ)) (settings : Settings) (r s : Refusal) → IsAuditRefusal (by_files told) app journal script settings r → IsAuditRefusal (by_files told) app journal script settings s → r ≡ s
  audit-refusal-unique app journal script settings = (audit_decided app journal script settings).refused

  refused_by : (command : Command) (r s : Refusal) → IsRefusedBy (by_files told) command r → IsRefusedBy (by_files told) command s → r ≡ s
  refused_by (Check app) r s p q = (application_decided told app).refused r s p q
  refused_by (Plan app) r s p q = (application_decided told app).refused r s p q
  refused_by (Mean app base) r s p q = (run_decided app).refused r s p q
  refused_by (Sim app script settings order) r s p q = (job_decided app script settings).refused r s p q
  refused_by (Run app script settings threads) r s p q = (job_decided app script settings).refused r s p q
  refused_by (Gen number size) r s p q = absurd p
  refused_by (Trace app script settings order) r s p q = (job_decided app script settings).refused r s p q
  refused_by (Audit app journal script settings) r s p q = (audit_decided app journal script settings).refused r s p q
  refused_by _ r s p q = p ∙ sym q

  apart_by : (command : Command) (r : Refusal) → IsAcceptedBy (by_files told) command → IsRefusedBy (by_files told) command r → ⊥
  apart_by (Check app) r p q = (application_decided told app).apart p.0 r p.1 q
  apart_by (Plan app) r p q = (application_decided told app).apart p.0 r p.1 q
  apart_by (Mean app base) r p q = (run_decided app).apart p.0 r p.1 q
  apart_by (Sim app script settings order) r p q = (job_decided app script settings).apart p.0 r p.1 q
  apart_by (Run app script settings threads) r p q = (job_decided app script settings).apart p.0 r p.1 q
  apart_by (Gen number size) r p q = absurd q
  apart_by (Trace app script settings order) r p q = (job_decided app script settings).apart p.0 r p.1 q
  apart_by (Audit app journal script settings) r p q = (audit_decided app journal script settings).apart p.0 r p.1 q
  apart_by _ r p q = absurd p

  total_by : (command : Command) → (IsAcceptedBy (by_files told) command → ⊥) → ((r : Refusal) → IsRefusedBy (by_files told) command r → ⊥) → ⊥
  total_by (Check app) none unrefused = (application_decided told app).total (λ nodes is. none (nodes, is)) unrefused
  total_by (Plan app) none unrefused = (application_decided told app).total (λ nodes is. none (nodes, is)) unrefused
  total_by (Mean app base) none unrefused = (run_decided app).total (λ flow is. none (flow, is)) unrefused
  total_by (Sim app script settings order) none unrefused = (job_decided app script settings).total (λ job is. none (job, is)) unrefused
  total_by (Run app script settings threads) none unrefused = (job_decided app script settings).total (λ job is. none (job, is)) unrefused
  total_by (Gen number size) none unrefused = none tt
  total_by (Trace app script settings order) none unrefused = (job_decided app script settings).total (λ job is. none (job, is)) unrefused
  total_by (Audit app journal script settings) none unrefused = (audit_decided app journal script settings).total (λ text is. none (text, is)) unrefused
  total_by _ none unrefused = unrefused NotBuilt refl

  module _ (words : List (List ℕ)) where
    same_command : (a b : Command) → command_of words ≡ Some a → command_of words ≡ Some b → a ≡ b
    same_command a b p q = cc

    -- the first refusal is one
    pub refusal-unique : (r s : Refusal) → IsRefusal (by_files told) words r → IsRefusal (by_files told) words s → r ≡ s
    refusal-unique r s (of_words none) (of_words none2) = refl
    refusal-unique r s (of_words none) (of_files command refusal are is) = cc
    refusal-unique r s (of_files command refusal are is) (of_words none) = cc
    refusal-unique r s (of_files command refusal are is) (of_files command2 refusal2 are2 is2) =
        refused_by command2 refusal refusal2
        (subst (λ (c : Command). IsRefusedBy (by_files told) c refusal) (same_command command command2 are are2) is) is2

    -- what is accepted isn't refused
    pub accepted-or-refused : (r : Refusal) → AreAccepted (by_files told) words → IsRefusal (by_files told) words r → ⊥
    accepted-or-refused r are (of_words none) = let command = are.words_are in cc
    accepted-or-refused r are (of_files command refusal words_are is) =
        apart_by are.command refusal are.files
        (subst (λ (c : Command). IsRefusedBy (by_files told) c refusal) (same_command command are.command words_are are.words_are) is)

    total_in : (command : Option Command) → command_of words ≡ command → (AreAccepted (by_files told) words → ⊥) → ((r : Refusal) → IsRefusal (by_files told) words r → ⊥) → ⊥
    total_in None is none unrefused = unrefused NotACommand (of_words is)
    total_in (Some command) is none unrefused =
        total_by command (λ files. none (record { command = command; words_are = is; files = files })) (λ r refused. unrefused r (of_files command r is refused))

    -- words and files are accepted or refused
    pub never-neither : (AreAccepted (by_files told) words → ⊥) → ((r : Refusal) → IsRefusal (by_files told) words r → ⊥) → ⊥
    never-neither = total_in (command_of words) refl
