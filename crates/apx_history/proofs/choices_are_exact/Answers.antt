use Rattle.apx_history.proofs.Listed.{choices-exact}
use Rattle.apx_history.proofs.choices_are_exact.Goals as goal

pub returns : goal.returns
returns c = choices-exact
