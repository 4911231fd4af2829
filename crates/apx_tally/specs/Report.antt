-- The report of a run: eight lines, each a word, a space, a decimal number and LF.
--     count_of kind es            how many of the entries have an event of the kind
--     committed es                the window of the last Commit, or 0
--     report_text n rows es       the report of a run of n windows with so many rows, whose journal this is
use Rattle.std.specs.Prelude.{ℕ, Bool, true, false, List, ◌++◌, count_by, Option, None, Some, unwrap_or, codes, decimal}
use Rattle.std.specs.List.{filter_map, last_or}
use Rattle.apx_history.specs.declared.Entry.{Entry}
use Rattle.apx_history.specs.declared.Event.{Event}
use Rattle.apx_history.specs.declared.Event.TheVariants.{Start, Write, Save, Commit, Kill, Repartition}
use Rattle.apx_tally.specs.declared.report.Counted.{Counted}
use Rattle.apx_tally.specs.declared.report.Counted.TheVariants.{Starts, Writes, Saves, Kills, Repartitions}

-- the event is of the kind
abbrev pub counts : Counted → Event → Bool
counts Starts (Start o i w) = true
counts Writes (Write w) = true
counts Saves (Save o i w) = true
counts Kills (Kill l) = true
counts Repartitions (Repartition l) = true
counts kind e = false

-- how many of the entries have an event of the kind
abbrev pub count_of : Counted → List Entry → ℕ
count_of kind es = count_by (λ e. counts kind e.event) es

-- the window up to which a Commit drops
abbrev pub commit_in : Event → Option ℕ
commit_in (Commit w) = Some w
commit_in e = None

-- the window of the last Commit, or 0
unfoldable pub committed : List Entry → ℕ
committed es = unwrap_or (last_or None (filter_map (λ e. commit_in e.event) es)) 0

-- a line: a word, a space and a number
unfoldable pub line_text : List ℕ → ℕ → List ℕ
line_text word n = word ++ (codes " " ++ (decimal n ++ codes "\n"))

-- the word of the line that tells how many events of the kind there are
unfoldable pub word_of : Counted → List ℕ
word_of Starts = codes "starts"
word_of Writes = codes "writes"
word_of Saves = codes "saves"
word_of Kills = codes "kills"
word_of Repartitions = codes "repartitions"

-- that line
abbrev pub count_text : Counted → List Entry → List ℕ
count_text kind es = line_text (word_of kind) (count_of kind es)

-- the lines of what stands in a journal, but for the last
unfoldable pub counts_text : List Entry → List ℕ
counts_text es =
    count_text Starts es
    ++ (count_text Writes es ++ (count_text Saves es ++ (count_text Kills es ++ count_text Repartitions es)))

-- the report of a run of n windows with so many rows, whose journal this is
unfoldable pub report_text : ℕ → ℕ → List Entry → List ℕ
report_text n rows es =
    line_text (codes "windows") n
    ++ (line_text (codes "rows") rows ++ (counts_text es ++ line_text (codes "committed") (committed es)))
