use Rattle.apx_tally.proofs.Reporting.{reports-are-true, ended-reports-are-whole}
use Rattle.apx_tally.proofs.laws.reports_are_true.Goals as goal

pub returns-clause-told : goal.returns-clause-told
returns-clause-told c = reports-are-true

pub returns-clause-whole : goal.returns-clause-whole
returns-clause-whole c = ended-reports-are-whole
