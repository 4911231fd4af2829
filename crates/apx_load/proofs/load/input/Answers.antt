use Rattle.std.proofs.Common.{rules, ◌≡◌, false}
use Rattle.apx_pass.specs.Graph.{is_input}
use Rattle.apx_load.proofs.Heard.{heard_none}
use Rattle.apx_load.proofs.Loading.{no_input}
use Rattle.apx_load.proofs.load.input.Goals as goal

pub returns-in-Inner-clause-heard : goal.returns-in-Inner-clause-heard
returns-in-Inner-clause-heard g c =
    let other : false ≡ is_input c.args.node.now.role = search rules in
    heard_none _ _ _ _ (no_input _ c.args.node.now.role other)

pub returns-in-Sink-clause-heard : goal.returns-in-Sink-clause-heard
returns-in-Sink-clause-heard g c =
    let other : false ≡ is_input c.args.node.now.role = search rules in
    heard_none _ _ _ _ (no_input _ c.args.node.now.role other)
