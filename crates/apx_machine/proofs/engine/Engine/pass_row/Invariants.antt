use Rattle.std.proofs.Common.{◌≡◌}
use Rattle.std.specs.List.{filter}
use Rattle.apx_history.specs.State.{parts}
use Rattle.apx_history.specs.Enabled.{can}
use Rattle.apx_history.specs.Choices.{list_below, lists_below}
use Rattle.apx_machine.specs.Listed.{candidate}
use Rattle.apx_machine.specs.Picked.{wants, sought_in}
use Rattle.apx_machine.proofs.engine.Engine.pass_row.Given as goal

abbrev pub invariant-loop-op : goal.invariant-loop-op
invariant-loop-op l =
    l.reached ≡ sought_in (wants l.self.plan l.self.state l.want) (filter (can l.self.plan l.self.state) (lists_below l.op (λ o. list_below (parts l.self.state o) (candidate l.self.plan l.self.state l.row o)))) l.fn.sought
