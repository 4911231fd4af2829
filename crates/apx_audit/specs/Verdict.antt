-- Which texts are those of legal journals, and the first line of the others that is refused.
--
-- A journal is legal for a plan where it is a history of it that begins from nothing.
use Rattle.std.specs.Prelude.{◌≡◌, ℕ, ◌+◌, ◌<◌, ◌-◌, ◌⊎◌, Bool, false, List, ◌++◌, length, Option, Some, None, Result, Ok, Err, ⊤}
use Rattle.std.specs.List.{AllByRecursion, slice_get}
use Rattle.apx_history.specs.declared.Entry.{Entry}
use Rattle.apx_history.specs.declared.Event.{Event}
use Rattle.apx_history.specs.declared.Event.TheVariants as event
use Rattle.apx_history.specs.Plan.{Plan}
use Rattle.apx_history.specs.State.{State}
use Rattle.apx_history.specs.Journals.{beginning, after, fits}
use Rattle.apx_history.specs.Laws.{IsHistory}
use Rattle.apx_audit.specs.declared.audited.AuditEnd.{AuditEnd}
use Rattle.apx_audit.specs.declared.audited.AuditEnd.TheVariants.{Ended, Fault, Open}
use Rattle.apx_audit.specs.declared.audited.AuditRefusal.{AuditRefusal}
use Rattle.apx_audit.specs.declared.audited.AuditRefusal.TheVariants.{Line, Memory}
use Rattle.apx_audit.specs.Text.{line_text, journal_text, IsEntry}

-- ---- legal journals

-- the text is that of a legal journal
pub record IsJournal (plan : Plan) (text : List ℕ) (es : List Entry) : Type 0 where
  -- the numbers of its entries are those that entries may have
  pub entries : AllByRecursion IsEntry es
  -- it is a history that begins from nothing
  pub legal : IsHistory plan 0 0 es
  -- its text is this one
  pub is : text ≡ journal_text es

-- how a journal whose last event this is ends
abbrev pub end_by : Event → AuditEnd
end_by event.End = Ended
end_by (event.Fault s) = Fault
end_by e = Open

-- the same of its last entry, where it has one
abbrev pub end_at : Option Entry → AuditEnd
end_at None = Open
end_at (Some e) = end_by e.event

-- how a journal ends: with the end of the run, with a fault, or neither
abbrev pub end_of : List Entry → AuditEnd
end_of es = end_at (slice_get es (length es - 1))

-- ---- refused lines

-- the line of an entry is at the front of a text, and this stands behind it
pub record BeginsWith (text : List ℕ) (e : Entry) (rest : List ℕ) : Type 0 where
  -- the numbers of the entry are those that entries may have
  pub entry : IsEntry e
  -- its line and the rest
  pub split : text ≡ line_text e ++ rest

-- the line of no entry is at the front of the text: its first line has another form, or no LF ends it
abbrev pub HasNoForm : List ℕ → Type 0
HasNoForm text = (e : Entry) (rest : List ℕ) → BeginsWith text e rest → ⊥

-- the line of an entry is at the front of the text, and the entry may not come next
pub record IsIllegal (plan : Plan) (m : State) (text : List ℕ) : Type 0 where
  -- the entry
  pub entry : Entry
  -- what stands behind its line
  pub rest : List ℕ
  -- its line is at the front
  pub begins : BeginsWith text entry rest
  -- it may not come next
  pub refused : fits plan m entry ≡ false

-- why the line at the front of a text is refused: 1 for its form, 2 for its entry
abbrev pub IsWhy : Plan → State → List ℕ → ℕ → Type 0
IsWhy plan m text why = ((why ≡ 1) × HasNoForm text) ⊎ ((why ≡ 2) × IsIllegal plan m text)

-- the line with this number is the first that is refused
pub record IsRefused (plan : Plan) (text : List ℕ) (line why : ℕ) : Type 0 where
  -- the lines before it
  pub front : List ℕ
  -- and their entries
  pub before : List Entry
  -- they are a legal journal
  pub legal : IsJournal plan front before
  -- the line, and what stands behind it
  pub rest : List ℕ
  -- it is there
  pub some : 0 < length rest
  -- the lines are those of the text
  pub split : text ≡ front ++ rest
  -- lines are numbered from 1
  pub number : line ≡ length before + 1
  -- why it is refused
  pub cause : IsWhy plan (after plan (beginning plan 0 0) before) rest why

-- ---- verdicts

-- what may be told of a text: its journal, or the line that is refused and why
pub data Verdict : Type 0 where
  Legal : List Entry → Verdict
  Refused : (line why : ℕ) → Verdict

-- the verdict on a text
abbrev pub IsVerdict : Plan → List ℕ → Verdict → Type 0
IsVerdict plan text (Legal es) = IsJournal plan text es
IsVerdict plan text (Refused line why) = IsRefused plan text line why

-- what was told has P, where what was found is seen as a journal; for want of memory nothing was told
abbrev pub Told : {X : Type 0} → (X → List Entry) → Result X AuditRefusal → (Verdict → Type 0) → Type 0
Told journal_of (Ok found) P = P (Legal (journal_of found))
Told journal_of (Err (Line line why)) P = P (Refused line why)
Told journal_of (Err Memory) P = ⊤
