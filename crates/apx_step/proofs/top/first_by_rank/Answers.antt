use Rattle.apx_step.proofs.Ranking.{first-cut}
use Rattle.apx_step.proofs.top.first_by_rank.Goals as goal

pub returns : goal.returns
returns c = first-cut c.args.k _ _ _ c.in_ok-first.ensures c.truncate.ensures.items
