use Rattle.std.proofs.Common.{◌≡◌, drop, true, None}
use Rattle.std.specs.Str.{all_ascii_digits}
use Rattle.apx_pass.specs.Pairs.{at_last_tab}
use Rattle.apx_input.proofs.pair.is_plain.Given as goal

abbrev pub invariant-loop-place : goal.invariant-loop-place
invariant-loop-place l = record {
  digits : all_ascii_digits (drop l.place l.line) ≡ true;
  tabless : at_last_tab (drop l.place l.line) ≡ None;
}
