-- The windows that a sink log keeps in memory.
use Rattle.std.specs.Prelude.{List, [], map, unwrap_or}
use Rattle.apx_tuple.specs.declared.tuple.Tuple.{Tuple}
use Rattle.apx_sinklog.specs.Windows.{body_rows}
use Rattle.apx_sinklog.specs.declared.logged.LoggedWindow.{LoggedWindow}

-- the rows of a window
abbrev pub logged_rows : LoggedWindow → List Tuple
logged_rows window = unwrap_or (body_rows window.body.items) []

-- the rows of each window
abbrev pub logged_windows : List LoggedWindow → List (List Tuple)
logged_windows windows = map logged_rows windows
