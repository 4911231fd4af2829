use Rattle.apx_audit.proofs.Ending.{ended-is-whole}
use Rattle.apx_audit.proofs.laws.ended_journals_are_whole.Goals as goal

pub returns : goal.returns
returns c = λ plan text es journal is. ended-is-whole plan text es journal is
