use Rattle.apx_history.specs.State.{parts}
use Rattle.apx_history.specs.Enabled.{can}
use Rattle.apx_history.specs.Choices.{list_below}
use Rattle.apx_machine.specs.Listed.{candidate}
use Rattle.apx_machine.specs.Picked.{wants}
use Rattle.apx_machine.proofs.Seeking.{no_lists_sought, one_list_sought}
use Rattle.apx_machine.proofs.engine.Engine.pass_row.Goals as goal

pub loop-op-init : goal.loop-op-init
loop-op-init c = no_lists_sought (wants c.args.self.now.plan c.args.self.now.state c.args.want) (can c.args.self.now.plan c.args.self.now.state)
    (λ o. list_below (parts c.args.self.now.state o) (candidate c.args.self.now.plan c.args.self.now.state c.args.row o)) c.args.sought

pub loop-op-preserved : goal.loop-op-preserved
loop-op-preserved c =
    one_list_sought (wants c.args.self.now.plan c.args.self.now.state c.args.want) (can c.args.self.now.plan c.args.self.now.state)
    (λ o. list_below (parts c.args.self.now.state o) (candidate c.args.self.now.plan c.args.self.now.state c.args.row o)) c.loop-op.op
    c.args.sought c.loop-op.reached c.seek_parts-reached.result c.loop-op.invariant c.seek_parts-reached.ensures
