use Rattle.std.proofs.Common.{rules}
use Rattle.apx_mean.proofs.Keeping.{held-at, held-some}
use Rattle.apx_mean.proofs.pass.taken.Goals as goal

pub returns : goal.returns
returns c = search (rules, held-at, held-some)
