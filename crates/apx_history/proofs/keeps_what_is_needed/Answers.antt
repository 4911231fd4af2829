use Rattle.apx_history.proofs.Held.{keeps-needed}
use Rattle.apx_history.proofs.keeps_what_is_needed.Goals as goal

pub returns : goal.returns
returns c = keeps-needed
