use Rattle.std.proofs.Common.{[], get_or}
use Rattle.apx_part.specs.Fed.{plan_in}
use Rattle.apx_held.specs.Holding.{no_holding}
use Rattle.apx_core.proofs.ports.lend_port.Goals as goal

pub returns-in-Err-clause-cause : goal.returns-in-Err-clause-cause
returns-in-Err-clause-cause g c =
    let why = c.in-Err.ensures.unlent in
    let part = c.in-Err.why.part in
    c.unlent.ensures g.S.Spool.tells (plan_in g.J.Naming.run.job) (get_or (get_or c.args.contents.now c.args.op []) part no_holding).list
    ((c.requires.lends c.if-not-there.false).cuts part why.there) why.fault
