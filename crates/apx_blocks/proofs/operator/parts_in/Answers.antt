use Rattle.std.proofs.Common.{List, subst, arith}
use Rattle.apx_dag.specs.Valid.{IsGraph}
use Rattle.apx_pass.specs.Graph.{Node}
use Rattle.apx_blocks.proofs.Cutting.{forces}
use Rattle.apx_blocks.proofs.operator.parts_in.Goals as goal

pub returns-clause-some : goal.returns-clause-some
returns-clause-some c =
    let force = forces c.args.job.now c.windows.ensures.job (subst (λ (ns : List Node). IsGraph ns) c.dag.ensures c.len.ensures.valid) c.args.op c.args.window c.requires.op in
    omega (arith, force.0, c.in_force.ensures)

pub returns-clause-few : goal.returns-clause-few
returns-clause-few c =
    let force = forces c.args.job.now c.windows.ensures.job (subst (λ (ns : List Node). IsGraph ns) c.dag.ensures c.len.ensures.valid) c.args.op c.args.window c.requires.op in
    omega (arith, force.1, c.in_force.ensures)
