use Rattle.apx_promise.proofs.Calling.{put-is-save, puts-are-repartition, drop-is-commit, others-leave}
use Rattle.apx_promise.proofs.calls_change_stores_as_events_do.Goals as goal

pub returns-clause-save : goal.returns-clause-save
returns-clause-save c = put-is-save

pub returns-clause-repartition : goal.returns-clause-repartition
returns-clause-repartition c = puts-are-repartition

pub returns-clause-commit : goal.returns-clause-commit
returns-clause-commit c = drop-is-commit

pub returns-clause-others : goal.returns-clause-others
returns-clause-others c = others-leave
