-- The text of a journal: a line for each entry, which ends with LF.
--
-- A line has the worker, the name of the event and its numbers, one space apart. Numbers are decimal, without a leading
-- zero. So `0 start 1 0 3` is the line of worker 0, who began window 3 of partition 0 of operator 1.
--     line_text e        the line of an entry
--     journal_text es    the text of a journal
use Rattle.std.specs.Prelude.{◌≡◌, ℕ, ◌^◌, ◌<◌, List, ◌++◌, codes, decimal}
use Rattle.std.specs.List.{flat_map}
use Rattle.apx_history.specs.declared.Entry.{Entry}
use Rattle.apx_history.specs.declared.Event.{Event}
use Rattle.apx_history.specs.declared.Event.TheVariants.{Start, Write, Finish, Save, Advance, Commit, Purge, Kill, Repartition, End, Fault}

-- a partition, by its operator and its number there, and a window
unfoldable pub place_text : ℕ → ℕ → ℕ → List ℕ
place_text o i w = decimal o ++ (codes " " ++ (decimal i ++ (codes " " ++ decimal w)))

-- an event: its name and its numbers
unfoldable pub event_text : Event → List ℕ
event_text (Start o i w) = codes "start " ++ place_text o i w
event_text (Write w) = codes "write " ++ decimal w
event_text (Finish o i w) = codes "finish " ++ place_text o i w
event_text (Save o i w) = codes "save " ++ place_text o i w
event_text (Advance o i w) = codes "advance " ++ place_text o i w
event_text (Commit w) = codes "commit " ++ decimal w
event_text (Purge o i w) = codes "purge " ++ place_text o i w
event_text (Kill l) = codes "kill " ++ decimal l
event_text (Repartition l) = codes "repartition " ++ decimal l
event_text End = codes "end"
event_text (Fault s) = codes "fault " ++ decimal s

-- an entry: its worker and its event
unfoldable pub entry_text : Entry → List ℕ
entry_text e = decimal e.worker ++ (codes " " ++ event_text e.event)

-- the line of an entry
abbrev pub line_text : Entry → List ℕ
line_text e = entry_text e ++ codes "\n"

-- the text of a journal
abbrev pub journal_text : List Entry → List ℕ
journal_text es = flat_map line_text es

-- ---- the numbers that an entry may have

-- those of a partition and a window
pub record IsPlace (o i w : ℕ) : Type 0 where
  -- the operator's number has 16 bits
  pub op : o < 2 ^ 16
  -- the partition's has 8
  pub part : i < 2 ^ 8
  -- the window has 32
  pub window : w < 2 ^ 32

-- those of an event: windows and lines have 32 bits, statuses 8
abbrev pub IsEvent : Event → Type 0
IsEvent (Start o i w) = IsPlace o i w
IsEvent (Write w) = w < 2 ^ 32
IsEvent (Finish o i w) = IsPlace o i w
IsEvent (Save o i w) = IsPlace o i w
IsEvent (Advance o i w) = IsPlace o i w
IsEvent (Commit w) = w < 2 ^ 32
IsEvent (Purge o i w) = IsPlace o i w
IsEvent (Kill l) = l < 2 ^ 32
IsEvent (Repartition l) = l < 2 ^ 32
IsEvent End = Unit {0}
IsEvent (Fault s) = s < 2 ^ 8

-- those of an entry
pub record IsEntry (e : Entry) : Type 0 where
  -- the worker's number has 8 bits
  pub worker : e.worker < 2 ^ 8
  -- the event's are those of an event
  pub event : IsEvent e.event
