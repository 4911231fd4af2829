use Rattle.apx_promise.proofs.Saving.{last-saves-are-exact}
use Rattle.apx_promise.proofs.Ascending.{last-saves-ascend}
use Rattle.apx_promise.proofs.Saved.{last-are-saved}
use Rattle.apx_promise.proofs.last_checkpoints_are_left.Goals as goal

pub returns-clause-listed : goal.returns-clause-listed
returns-clause-listed c = last-saves-are-exact

pub returns-clause-saved : goal.returns-clause-saved
returns-clause-saved c = last-are-saved

pub returns-clause-ordered : goal.returns-clause-ordered
returns-clause-ordered c = last-saves-ascend
