use Rattle.apx_audit.proofs.Deciding.{some-verdict, one-verdict}
use Rattle.apx_audit.proofs.laws.texts_are_decided.Goals as goal

pub returns-clause-some : goal.returns-clause-some
returns-clause-some c = λ plan is text. some-verdict plan is text

pub returns-clause-one : goal.returns-clause-one
returns-clause-one c = λ plan text v w a b. one-verdict plan text v w a b
