use Rattle.std.proofs.Common.{sym, ◌∙◌}
use Rattle.apx_dag.proofs.Building.{place_of}
use Rattle.apx_dag.proofs.dag.Dag.find.Goals as goal

pub returns : goal.returns
returns c = rw (← c.self.view_is) (sym c.in_ok-number.was ∙ c.get_index_of.ensures.index ∙ place_of c.args.name.now c.self.inside.nodes.entries c.self.invariant.named)

pub returns-in_err-number : goal.returns-in_err-number
returns-in_err-number c = c.from_residual.ensures ∙ rw (← c.self.view_is) (sym c.in_err-number.was ∙ c.get_index_of.ensures.index ∙ place_of c.args.name.now c.self.inside.nodes.entries c.self.invariant.named)
