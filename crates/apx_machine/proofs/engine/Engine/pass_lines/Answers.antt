use Rattle.std.proofs.Common.{[], ◌∷◌, ap, ◌∙◌}
use Rattle.std.specs.List.{filter}
use Rattle.apx_history.specs.declared.Event.{Event}
use Rattle.apx_history.specs.Enabled.{can}
use Rattle.apx_machine.specs.Listed.{of_line}
use Rattle.apx_machine.specs.Picked.{wants, sought_in}
use Rattle.apx_machine.proofs.Seeking.{none_sought, one_sought}
use Rattle.apx_machine.proofs.engine.Engine.pass_lines.Goals as goal

pub loop-line-init : goal.loop-line-init
loop-line-init c = none_sought (wants c.args.self.now.plan c.args.self.now.state c.args.want) (can c.args.self.now.plan c.args.self.now.state) (of_line c.args.row) c.args.sought

pub loop-line-preserved : goal.loop-line-preserved
loop-line-preserved c =
    one_sought (wants c.args.self.now.plan c.args.self.now.state c.args.want) (can c.args.self.now.plan c.args.self.now.state) (of_line c.args.row) c.loop-line.line
    c.args.sought c.loop-line.reached c.seek-reached.result c.loop-line.invariant
    (c.seek-reached.ensures ∙ ap (λ (e : Event). sought_in (wants c.args.self.now.plan c.args.self.now.state c.args.want) (filter (can c.args.self.now.plan c.args.self.now.state) (e ∷ [])) c.loop-line.reached) c.event_of.ensures)
