-- What the numbers of a report are, where the journal is a history of a plan, over a store that began with s windows, from
-- window c on.
use Rattle.std.specs.Prelude.{◌≡◌, ℕ, ◌+◌, max, not, List, count_by}
use Rattle.apx_history.specs.declared.Entry.{Entry}
use Rattle.apx_history.specs.declared.Event.TheVariants.{End}
use Rattle.apx_history.specs.Plan.{Plan, splits}
use Rattle.apx_history.specs.Laws.{IsHistory}
use Rattle.apx_promise.specs.Histories.{state_after, EndsWith}
use Rattle.apx_tally.specs.declared.report.Counted.TheVariants.{Writes, Kills, Repartitions}
use Rattle.apx_tally.specs.Report.{count_of, committed}

-- What is told of the stored windows and of what is committed is so.
pub record IsTold (plan : Plan) (s c : ℕ) (es : List Entry) : Type 0 where
  -- the Writes and the windows that the store began with are all that is stored
  pub writes : s + count_of Writes es ≡ (state_after plan s c es).stored
  -- the last Commit is what is committed; where there is none, that is where the run began
  pub committed : max c (committed es) ≡ (state_after plan s c es).committed

-- What is told of the script is all of it.
pub record IsToldWhole (plan : Plan) (es : List Entry) : Type 0 where
  -- there are as many Kills as lines that kill
  pub kills : count_of Kills es ≡ count_by (λ l. not (splits l.act)) plan.lines
  -- and as many Repartitions as lines that repartition
  pub repartitions : count_of Repartitions es ≡ count_by (λ l. splits l.act) plan.lines

-- so it is with each history
abbrev pub ReportsAreTrue : Type 0
ReportsAreTrue = (plan : Plan) (s c : ℕ) (es : List Entry) → IsHistory plan s c es → IsTold plan s c es

-- and with each one that has ended
abbrev pub EndedReportsAreWhole : Type 0
EndedReportsAreWhole = (plan : Plan) (s c : ℕ) (es : List Entry) → IsHistory plan s c es → EndsWith End es → IsToldWhole plan es
