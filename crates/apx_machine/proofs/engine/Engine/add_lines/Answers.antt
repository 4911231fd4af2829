use Rattle.std.proofs.Common.{[], ◌∷◌, ◌++◌, ap, ◌∙◌}
use Rattle.std.specs.List.{filter}
use Rattle.apx_history.specs.declared.Event.{Event}
use Rattle.apx_history.specs.Enabled.{can}
use Rattle.apx_machine.specs.Listed.{of_line}
use Rattle.apx_machine.proofs.Rows.{none_listed, one_listed}
use Rattle.apx_machine.proofs.engine.Engine.add_lines.Goals as goal

pub loop-line-init : goal.loop-line-init
loop-line-init c = none_listed (can c.args.self.now.plan c.args.self.now.state) (of_line c.args.row) c.args.into.now.items

pub loop-line-preserved : goal.loop-line-preserved
loop-line-preserved c =
    one_listed (can c.args.self.now.plan c.args.self.now.state) (of_line c.args.row) c.loop-line.line
    c.args.into.now.items c.loop-line.into.items c.add.new.into.items c.loop-line.invariant
    (c.in_ok-add.ensures ∙ ap (λ (e : Event). c.loop-line.into.items ++ filter (can c.args.self.now.plan c.args.self.now.state) (e ∷ [])) c.event_of.ensures)
