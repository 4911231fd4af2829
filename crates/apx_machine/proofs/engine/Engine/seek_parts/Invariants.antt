use Rattle.std.proofs.Common.{◌≡◌}
use Rattle.std.specs.List.{filter}
use Rattle.apx_history.specs.Enabled.{can}
use Rattle.apx_history.specs.Choices.{list_below}
use Rattle.apx_machine.specs.Listed.{candidate}
use Rattle.apx_machine.specs.Picked.{wants, sought_in}
use Rattle.apx_machine.proofs.engine.Engine.seek_parts.Given as goal

abbrev pub invariant-loop-part : goal.invariant-loop-part
invariant-loop-part l =
    l.reached ≡ sought_in (wants l.self.plan l.self.state l.want) (filter (can l.self.plan l.self.state) (list_below l.part (candidate l.self.plan l.self.state l.row l.op))) l.fn.sought
