use Rattle.apx_promise.proofs.Making.{saves-are-made, made-may-be, none-at-first}
use Rattle.apx_promise.proofs.checkpoints_are_made_by_events.Goals as goal

pub returns-clause-must : goal.returns-clause-must
returns-clause-must c = saves-are-made

pub returns-clause-may : goal.returns-clause-may
returns-clause-may c = made-may-be

pub returns-clause-first : goal.returns-clause-first
returns-clause-first c = none-at-first
