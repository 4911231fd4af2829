use Rattle.apx_mean.proofs.Keeping.{no-rows}
use Rattle.apx_mean.proofs.rows.Rows.new.Goals as goal

pub returns : goal.returns
returns c = no-rows c.new.result.items c.new.ensures.items
