use Rattle.std.proofs.Common.{◌≡◌, sym, subst}
use Rattle.apx_machine.specs.declared.picking.Sought.{Sought}
use Rattle.apx_machine.specs.Listed.{of_lines}
use Rattle.apx_machine.specs.Picked.{wants, sought_in}
use Rattle.apx_machine.proofs.Seeking.{sought_found}
use Rattle.apx_machine.proofs.engine.Engine.seek_lines.Goals as goal

pub returns-in-Found : goal.returns-in-Found
returns-in-Found c =
    subst (λ (s : Sought). s ≡ sought_in (wants c.args.self.now.plan c.args.self.now.state c.args.want) (of_lines c.args.self.now.plan c.args.self.now.state c.args.row) s) (sym c.in-Found.is)
    (sought_found (wants c.args.self.now.plan c.args.self.now.state c.args.want) (of_lines c.args.self.now.plan c.args.self.now.state c.args.row) c.in-Found.event)
