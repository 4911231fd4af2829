-- What was appended, with the lines that are yet to come, is all.
use Rattle.std.proofs.Common.{◌≡◌, ◌≤◌, ◌-◌, ◌++◌}
use Rattle.apx_gen.specs.Generated.{lines_text}
use Rattle.apx_gen.proofs.lines.Given as goal

abbrev pub invariant-loop : goal.invariant-loop
invariant-loop l =
    (l.counter ≤ l.size) × (l.lines.items ++ lines_text (l.size - l.counter) l.generator ≡ lines_text l.size l.initial.generator)
