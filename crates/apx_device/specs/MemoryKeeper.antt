-- The windows of a keeper in memory.
use Rattle.std.specs.Prelude.{List, [], map, unwrap_or}
use Rattle.apx_tuple.specs.declared.tuple.Tuple.{Tuple}
use Rattle.apx_device.specs.Rows.{rows_in}
use Rattle.apx_device.specs.declared.memory_keeper.StoredWindow.{StoredWindow}
use Rattle.apx_device.specs.declared.memory_keeper.MemoryKeeper.{MemoryKeeper}
use Rattle.apx_device.specs.declared.memory_keeper.FailingKeeper.{FailingKeeper}

-- the rows of a window
abbrev pub rows_of : StoredWindow → List Tuple
rows_of window = unwrap_or (rows_in window.count window.bytes.items) []

-- the rows of each window
abbrev pub windows_of : MemoryKeeper → List (List Tuple)
windows_of keeper = map rows_of keeper.windows.items

-- the same of a keeper whose calls may fail
abbrev pub failing_windows_of : FailingKeeper → List (List Tuple)
failing_windows_of keeper = windows_of keeper.keeper
