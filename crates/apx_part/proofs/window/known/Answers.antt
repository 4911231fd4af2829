use Rattle.std.proofs.Common.{arith}
use Rattle.apx_part.proofs.Parting.{sources-there}
use Rattle.apx_part.proofs.window.known.Goals as goal

pub returns-clause-sources : goal.returns-clause-sources
returns-clause-sources c = sources-there c.args.dag.now c.order.result.now c.order.ensures.goes c.args.op c.requires

pub returns-clause-app_windows : goal.returns-clause-app_windows
returns-clause-app_windows c = let node = c.len.ensures.valid.each c.args.op c.requires in omega (arith, node.app_windows.0)
