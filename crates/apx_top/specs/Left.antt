-- What a command leaves beside the devices: how it ended, what happened, and what stopped it.
use Rattle.std.specs.Prelude.{◌≡◌, List, Option, None, Some, Result, Err, ⊤}
use Rattle.apx_history.specs.declared.Entry.{Entry}
use Rattle.apx_course.specs.declared.faults.CoreFault.{CoreFault}
use Rattle.apx_load.specs.declared.stop.Stop.{Stop}
use Rattle.apx_top.specs.declared.ended.History.{History}
use Rattle.apx_top.specs.declared.ended.History.TheVariants.{Nothing, Core}
use Rattle.apx_top.specs.declared.ended.Shown.{Shown}
use Rattle.apx_top.specs.declared.ended.Outcome.{Outcome}
use Rattle.apx_top.specs.declared.ended.Ended.{Ended}
use Rattle.apx_top.specs.Faults.{stop_of, shown_of, spool_of}

-- how a command ended
pub record Left (F : Type 0) : Type 0 where
  -- why it stopped, unless it came to its end
  pub end : Result ⊤ Stop
  -- what happened
  pub journal : History
  -- the bytes that spelled nothing
  pub shown : Option Shown
  -- how a spool failed
  pub spool : Option F

-- what an outcome tells
abbrev pub left_of : {K V P F : Type 0} → Outcome K V P F → Left F
left_of outcome = record { end = outcome.end; journal = outcome.journal; shown = outcome.shown; spool = outcome.spool }

-- what the end of the program tells
abbrev pub left_by : {K V P F : Type 0} → Ended K V P F → Left F
left_by ended = record { end = ended.end; journal = ended.journal; shown = ended.shown; spool = ended.spool }

-- nothing happened
abbrev pub without_run : {F : Type 0} → Result ⊤ Stop → Left F
without_run end = record { end = end; journal = Nothing; shown = None; spool = None }

-- a run stopped with this fault
abbrev pub stopped_with : {F : Type 0} → List Entry → CoreFault F → Left F
stopped_with es fault = record { end = Err (stop_of fault); journal = Core es; shown = shown_of fault; spool = spool_of fault }

-- a run came to its end, and printing it ended so
abbrev pub ran_to : {F : Type 0} → List Entry → Result ⊤ Stop → Left F
ran_to es end = record { end = end; journal = Core es; shown = None; spool = None }

-- a run with this journal and this fault is left so: a fault stopped it
pub record HasStoppedWith {F : Type 0} (es : List Entry) (fault : Option (CoreFault F)) (left : Left F) : Type 0 where
  -- the fault
  pub met : CoreFault F
  -- the run met it
  pub is : fault ≡ Some met
  -- and is left so
  pub left_is : left ≡ stopped_with es met
