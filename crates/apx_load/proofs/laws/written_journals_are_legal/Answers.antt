use Rattle.apx_load.proofs.Writing.{written-is-legal}
use Rattle.apx_load.proofs.laws.written_journals_are_legal.Goals as goal

pub returns : goal.returns
returns c = λ job app script settings es numbers history. written-is-legal job app script settings es numbers history
