-- What a run prints of its windows.
use Rattle.std.specs.Prelude.{ℕ, ◌+◌, List, [], ◌∷◌, ◌++◌, codes, decimal, length}
use Rattle.std.specs.List.{flat_map}
use Rattle.std.specs.Fmt.{signed_decimal}
use Rattle.apx_tuple.specs.declared.tuple.Tuple.{Tuple}
use Rattle.apx_window.specs.Identifier.{identifier_of}

-- a row: its key, a tab, its value in decimal, LF
unfoldable pub row_text : Tuple → List ℕ
row_text row = row.key ++ (codes "\t" ++ (signed_decimal row.value ++ codes "\n"))

-- the rows, one after the other
abbrev pub rows_text : List Tuple → List ℕ
rows_text rows = flat_map row_text rows

-- the line over a window's rows: its ordinal, its identifier over a base second, and how many rows it has
unfoldable pub head_text : ℕ → ℕ → ℕ → List ℕ
head_text base w rows =
    codes "window " ++ (decimal w
    ++ (codes " " ++ (decimal (identifier_of base w)
    ++ (codes " " ++ (decimal rows ++ codes "\n")))))

-- a window's text: the line over it and its rows
unfoldable pub window_text : ℕ → ℕ → List Tuple → List ℕ
window_text base w rows = head_text base w (length rows) ++ rows_text rows

-- the windows' texts one after the other, from window w on
unfoldable pub windows_text : ℕ → ℕ → List (List Tuple) → List ℕ
windows_text base w [] = []
windows_text base w (rows ∷ windows) = window_text base w rows ++ windows_text base (w + 1) windows
