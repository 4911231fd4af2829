use Rattle.apx_history.specs.State.{parts}
use Rattle.apx_history.specs.Enabled.{can}
use Rattle.apx_history.specs.Choices.{list_below}
use Rattle.apx_machine.specs.Listed.{candidate}
use Rattle.apx_machine.proofs.Rows.{no_lists, one_list}
use Rattle.apx_machine.proofs.engine.Engine.add_row.Goals as goal

pub loop-op-init : goal.loop-op-init
loop-op-init c = no_lists (can c.args.self.now.plan c.args.self.now.state)
    (λ o. list_below (parts c.args.self.now.state o) (candidate c.args.self.now.plan c.args.self.now.state c.args.row o)) c.args.into.now.items

pub loop-op-preserved : goal.loop-op-preserved
loop-op-preserved c = one_list (can c.args.self.now.plan c.args.self.now.state)
    (λ o. list_below (parts c.args.self.now.state o) (candidate c.args.self.now.plan c.args.self.now.state c.args.row o)) c.loop-op.op
    c.args.into.now.items c.loop-op.into.items c.add_parts.new.into.items c.loop-op.invariant c.in_ok-add_parts.ensures
