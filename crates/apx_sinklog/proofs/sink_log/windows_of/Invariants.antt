use Rattle.std.proofs.Common.{◌≡◌, ◌+◌, ◌^◌, ◌<◌, length, map, drop}
use Rattle.apx_disk.specs.Entries.{entry_of}
use Rattle.apx_sinklog.specs.Logged.{logged_windows}
use Rattle.apx_sinklog.specs.Windows.{windows_in}
use Rattle.apx_sinklog.proofs.Reading.{behind}
use Rattle.apx_sinklog.proofs.sink_log.windows_of.Given as goal

abbrev pub invariant-loop-number : goal.invariant-loop-number
invariant-loop-number l = record {
  read : windows_in 1 (map entry_of l.read) ≡ behind (logged_windows l.windows.items) (windows_in (l.number + 1) (map entry_of (drop l.number l.read)));
  few : l.number < 2 ^ 32;
  count : length l.windows.items ≡ l.number;
}
