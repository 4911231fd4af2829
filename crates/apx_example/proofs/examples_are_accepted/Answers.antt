use Rattle.apx_example.proofs.Accepting.{accepted}
use Rattle.apx_example.proofs.examples_are_accepted.Goals as goal

pub returns : goal.returns
returns c = accepted
