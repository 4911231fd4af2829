use Rattle.std.proofs.Common.{◌≡◌, ◌≤◌, ◌++◌, ◌-◌, length, take, All, filter_map}
use Rattle.apx_pass.specs.Lines.{lines}
use Rattle.apx_pass.specs.Pairs.{tuple_of}
use Rattle.apx_input.proofs.window.tuples_of.Given as goal

abbrev pub invariant-loop : goal.invariant-loop
invariant-loop l = record {
  tuples : l.tuples.items ++ filter_map (tuple_of l.kind) (take (l.count - l.counter) (lines l.rest)) ≡ filter_map (tuple_of l.kind) (take l.count (lines l.text));
  short : All (λ line. length line ≤ 1024) (lines l.rest);
}
