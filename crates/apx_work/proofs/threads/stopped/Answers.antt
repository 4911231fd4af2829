use Rattle.std.proofs.Common.{ap, ◌∙◌}
use Rattle.apx_history.specs.State.{running}
use Rattle.apx_work.proofs.Stopping.{begins}
use Rattle.apx_work.proofs.threads.stopped.Goals as goal

pub fail-requires-clause-runs : goal.fail-requires-clause-runs
fail-requires-clause-runs g c =
    let k = g.S.Shop in ap running c.facts.ensures.now ∙ begins k.plan k.stored k.from (k.journal c.args.shop) c.requires
