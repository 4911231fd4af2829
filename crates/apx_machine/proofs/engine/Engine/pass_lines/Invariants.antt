use Rattle.std.proofs.Common.{◌≡◌}
use Rattle.std.specs.List.{filter}
use Rattle.apx_history.specs.Enabled.{can}
use Rattle.apx_history.specs.Choices.{list_below}
use Rattle.apx_machine.specs.Listed.{of_line}
use Rattle.apx_machine.specs.Picked.{wants, sought_in}
use Rattle.apx_machine.proofs.engine.Engine.pass_lines.Given as goal

abbrev pub invariant-loop-line : goal.invariant-loop-line
invariant-loop-line l =
    l.reached ≡ sought_in (wants l.self.plan l.self.state l.want) (filter (can l.self.plan l.self.state) (list_below l.line (of_line l.row))) l.fn.sought
