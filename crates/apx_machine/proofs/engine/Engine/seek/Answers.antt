use Rattle.std.proofs.Common.{◌≡◌, Bool, [], ◌∷◌, sym, ap, subst, ◌∙◌}
use Rattle.std.specs.List.{filter}
use Rattle.apx_history.specs.Enabled.{can}
use Rattle.apx_machine.specs.declared.picking.Sought.{Sought}
use Rattle.apx_machine.specs.declared.picking.Sought.TheVariants.{Ahead}
use Rattle.apx_machine.specs.Picked.{wants, taken, sought_in}
use Rattle.apx_machine.proofs.Seeking.{sought_found, seek_is}
use Rattle.apx_machine.proofs.engine.Engine.seek.Goals as goal

pub returns-in-Found : goal.returns-in-Found
returns-in-Found c =
    subst (λ (s : Sought). s ≡ sought_in (wants c.args.self.now.plan c.args.self.now.state c.args.want) (filter (can c.args.self.now.plan c.args.self.now.state) (c.args.event ∷ [])) s) (sym c.in-Found.is)
    (sought_found (wants c.args.self.now.plan c.args.self.now.state c.args.want) (filter (can c.args.self.now.plan c.args.self.now.state) (c.args.event ∷ [])) c.in-Found.event)

pub returns-in-Ahead : goal.returns-in-Ahead
returns-in-Ahead c =
    c.taken.ensures ∙ ap (λ (b : Bool). taken b c.args.event (Ahead c.in-Ahead.left)) c.is_sought.ensures
    ∙ seek_is (wants c.args.self.now.plan c.args.self.now.state c.args.want) (can c.args.self.now.plan c.args.self.now.state) c.args.event c.in-Ahead.left
    ∙ ap (λ (s : Sought). sought_in (wants c.args.self.now.plan c.args.self.now.state c.args.want) (filter (can c.args.self.now.plan c.args.self.now.state) (c.args.event ∷ [])) s) (sym c.in-Ahead.is)
