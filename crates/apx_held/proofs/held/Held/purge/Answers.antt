use Rattle.std.proofs.Common.{ap}
use Rattle.apx_held.proofs.Blocks.{purged_list}
use Rattle.apx_held.proofs.held.Held.purge.Goals as goal

pub returns : goal.returns
returns g c = rw (← c.self.view_is) (ap (λ l. record { state = c.self.inside.state; list = l }) (purged_list c.self.inside.list c.purge.new.self c.args.to c.purge.ensures))
