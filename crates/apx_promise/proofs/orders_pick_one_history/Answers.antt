use Rattle.apx_promise.proofs.Picking.{picks-are-histories, some-is-picked, picks-are-fronts, one-is-picked}
use Rattle.apx_promise.proofs.orders_pick_one_history.Goals as goal

pub returns-clause-histories : goal.returns-clause-histories
returns-clause-histories c = picks-are-histories

pub returns-clause-some : goal.returns-clause-some
returns-clause-some c = some-is-picked

pub returns-clause-fronts : goal.returns-clause-fronts
returns-clause-fronts c = picks-are-fronts

pub returns-clause-one : goal.returns-clause-one
returns-clause-one c = one-is-picked
