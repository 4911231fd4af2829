use Rattle.std.proofs.Common.{List, subst, arith}
use Rattle.apx_dag.specs.Valid.{IsGraph}
use Rattle.apx_pass.specs.Graph.{Node}
use Rattle.apx_part.proofs.Forces.{in-force}
use Rattle.apx_part.proofs.window.parts_in.Goals as goal

pub returns-clause-few : goal.returns-clause-few
returns-clause-few c =
    let few = (in-force c.args.job.now c.windows.ensures.job (subst (λ (ns : List Node). IsGraph ns) c.dag.ensures c.len.ensures.valid) c.args.op c.args.window c.requires.op).1 in
    omega (arith, few, c.in_force.ensures)
