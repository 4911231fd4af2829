use Rattle.std.proofs.Common.{[], ◌∷◌, ap, ◌∙◌}
use Rattle.std.specs.List.{filter}
use Rattle.apx_history.specs.declared.Event.{Event}
use Rattle.apx_history.specs.Enabled.{can}
use Rattle.apx_machine.specs.Listed.{candidate}
use Rattle.apx_machine.specs.Picked.{wants, sought_in}
use Rattle.apx_machine.proofs.Seeking.{none_sought, one_sought}
use Rattle.apx_machine.proofs.engine.Engine.seek_parts.Goals as goal

pub loop-part-init : goal.loop-part-init
loop-part-init c = none_sought (wants c.args.self.now.plan c.args.self.now.state c.args.want) (can c.args.self.now.plan c.args.self.now.state)
    (candidate c.args.self.now.plan c.args.self.now.state c.args.row c.args.op) c.args.sought

pub loop-part-preserved : goal.loop-part-preserved
loop-part-preserved c =
    one_sought (wants c.args.self.now.plan c.args.self.now.state c.args.want) (can c.args.self.now.plan c.args.self.now.state)
    (candidate c.args.self.now.plan c.args.self.now.state c.args.row c.args.op) c.loop-part.part
    c.args.sought c.loop-part.reached c.seek-reached.result c.loop-part.invariant
    (c.seek-reached.ensures ∙ ap (λ (e : Event). sought_in (wants c.args.self.now.plan c.args.self.now.state c.args.want) (filter (can c.args.self.now.plan c.args.self.now.state) (e ∷ [])) c.loop-part.reached) c.candidate.ensures)
