-- What a file spells as a sink log: the rows of windows 1, 2 and so on, a record for each.
-- A record's body is the window in four bytes, how many rows it has in four bytes, and the rows.
use Rattle.std.specs.Prelude.{ℕ, ◌+◌, Bool, List, [], ◌∷◌, ◌++◌, length, take, drop, Option, Some, None, Result, Ok, Err, nat_le, ◌==◌, ◌&&◌, if◌then◌else◌}
use Rattle.std.specs.Int.{w32, to_be_bytes, from_be_bytes}
use Rattle.apx_tuple.specs.declared.tuple.Tuple.{Tuple}
use Rattle.apx_device.specs.Rows.{rows_bytes, rows_in}
use Rattle.apx_disk.specs.Log.{Entry, Log, read_log}

-- the body of a window's record
abbrev pub body_bytes : ℕ → List Tuple → List ℕ
body_bytes window rows = to_be_bytes w32 window ++ (to_be_bytes w32 (length rows) ++ rows_bytes rows)

-- whether a body is that of this window, as far as its first eight bytes say
abbrev pub is_window : ℕ → List ℕ → Bool
is_window window body = nat_le 8 (length body) && (from_be_bytes w32 (take 4 body) == window)

-- the rows behind the first eight bytes, if there are as many as these say and nothing else
abbrev pub body_rows : List ℕ → Option (List Tuple)
body_rows body = rows_in (from_be_bytes w32 (take 4 (drop 4 body))) (drop 8 body)

-- the rows of a window, if the body is that of this window
abbrev pub window_in : ℕ → List ℕ → Option (List Tuple)
window_in window body = if is_window window body then body_rows body else None

-- one window more in front; Err is the gate of the first body that isn't that of its window
abbrev pub before : Option (List Tuple) → ℕ → Result (List (List Tuple)) ℕ → Result (List (List Tuple)) ℕ
before None gate windows = Err gate
before (Some rows) gate (Ok windows) = Ok (rows ∷ windows)
before (Some rows) gate (Err place) = Err place

-- the windows of some records, the first of which is to have this window
abbrev pub windows_in : ℕ → List Entry → Result (List (List Tuple)) ℕ
windows_in window [] = Ok []
windows_in window (entry ∷ entries) = before (window_in window entry.body) entry.gate (windows_in (window + 1) entries)

-- the windows of a list of records
abbrev pub windows_of_log : Result Log ℕ → Result (List (List Tuple)) ℕ
windows_of_log (Ok log) = windows_in 1 log.entries
windows_of_log (Err place) = Err place

-- the windows that the file spells; Err is the place of a gate that is open without a whole record of this form behind it
abbrev pub sink_of : List ℕ → Result (List (List Tuple)) ℕ
sink_of file = windows_of_log (read_log file)
