use Rattle.apx_load.specs.Refusals.{by_files}
use Rattle.apx_load.proofs.Auditing.{audited-of-legal}
use Rattle.apx_load.proofs.Unique.{accepted-or-refused, never-neither, refusal-unique}
use Rattle.apx_load.proofs.laws.words_and_files_are_decided.Goals as goal

pub returns-clause-both : goal.returns-clause-both
returns-clause-both c = λ told words refusal are is. accepted-or-refused told words refusal are is

pub returns-clause-neither : goal.returns-clause-neither
returns-clause-neither c = λ told words none unrefused. never-neither told words none unrefused

pub returns-clause-one : goal.returns-clause-one
returns-clause-one c = λ told words refusal other p q. refusal-unique told words refusal other p q

pub returns-clause-legal : goal.returns-clause-legal
returns-clause-legal c = λ told app journal script settings es is. audited-of-legal (by_files told) app journal script settings es is
