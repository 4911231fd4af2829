use Rattle.std.proofs.Common.{[], ◌∷◌, ◌++◌, ap, ◌∙◌}
use Rattle.std.specs.List.{filter}
use Rattle.apx_history.specs.declared.Event.{Event}
use Rattle.apx_history.specs.Enabled.{can}
use Rattle.apx_machine.specs.Listed.{candidate}
use Rattle.apx_machine.proofs.Rows.{none_listed, one_listed}
use Rattle.apx_machine.proofs.engine.Engine.add_parts.Goals as goal

pub loop-part-init : goal.loop-part-init
loop-part-init c = none_listed (can c.args.self.now.plan c.args.self.now.state) (candidate c.args.self.now.plan c.args.self.now.state c.args.row c.args.op) c.args.into.now.items

pub loop-part-preserved : goal.loop-part-preserved
loop-part-preserved c =
    one_listed (can c.args.self.now.plan c.args.self.now.state) (candidate c.args.self.now.plan c.args.self.now.state c.args.row c.args.op) c.loop-part.part
    c.args.into.now.items c.loop-part.into.items c.add.new.into.items c.loop-part.invariant
    (c.in_ok-add.ensures ∙ ap (λ (e : Event). c.loop-part.into.items ++ filter (can c.args.self.now.plan c.args.self.now.state) (e ∷ [])) c.candidate.ensures)
