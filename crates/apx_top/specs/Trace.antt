-- What `trace` prints of a run, and that an audit takes it for a legal journal.
--     HasTraced         what `trace` prints of a run that came to its end
--     TracesLegally     with status 0 it has printed a journal that audits take for a legal one
use Rattle.std.specs.Prelude.{◌≡◌, ℕ, ◌⊎◌, List, Option, Some, Result, Ok, Err, ⊤}
use Rattle.std.specs.List.{AllByRecursion}
use Rattle.apx_cause.specs.Cause.{Rose}
use Rattle.apx_history.specs.declared.Entry.{Entry}
use Rattle.apx_script.specs.declared.settings.Settings.{Settings}
use Rattle.apx_pass.specs.Job.{Job}
use Rattle.apx_audit.specs.Text.{journal_text, IsEntry}
use Rattle.apx_cmd.specs.declared.commands.Command.TheVariants.{Trace}
use Rattle.apx_cmd.specs.Commands.{command_of}
use Rattle.apx_load.specs.declared.stop.Stop.{Stop}
use Rattle.apx_load.specs.declared.stop.Stop.TheVariants.{StoreFailed, OutputFailed}
use Rattle.apx_load.specs.Jobs.{IsJob}
use Rattle.apx_load.specs.Laws.{IsAuditedAsLegal}
use Rattle.apx_load.specs.Refusals.{Reading}
use Rattle.apx_load.specs.Stops.{IsCaused}
use Rattle.apx_top.specs.declared.ended.History.TheVariants.{Core}
use Rattle.apx_top.specs.Changes.{DevicesChange, OutputChange}
use Rattle.apx_top.specs.Left.{Left}
use Rattle.apx_top.specs.Run.{report_text, GotText, GotAll, IsOfPass, IsUnprinted, printing_causes}

-- What `trace` prints of a run that came to its end: its journal on the output, and behind it the report on the error output.
pub record HasTraced (job : Job) (es : List Entry) (devices : DevicesChange) (output errors : OutputChange)
    (end : Result ⊤ Stop) : Type 0 where
  -- the whole journal, where printing came to its end
  pub journal : end ≡ Ok tt → GotAll (journal_text es) output
  -- whose entries have numbers that entries may have
  pub entries : end ≡ Ok tt → AllByRecursion IsEntry es
  -- and the whole report
  pub report : end ≡ Ok tt → IsOfPass job devices → GotAll (report_text job es) errors
  -- else a front of the journal
  pub front : (stop : Stop) → end ≡ Err stop → GotText (journal_text es) output
  -- which is empty where the sink's store failed
  pub unprinted : end ≡ Err StoreFailed → IsUnprinted output
  -- and a front of the report, where an output stopped it
  pub report_front : end ≡ Err OutputFailed → IsOfPass job devices → GotText (report_text job es) errors
  -- why it stopped
  pub cause : (stop : Stop) → end ≡ Err stop →
      IsCaused (printing_causes (Rose devices.before.keeper devices.now.keeper) (output.rose ⊎ errors.rose)) stop

-- With status 0, over a sink's store that began empty, what `trace` has printed is a journal that every audit of the same files
-- takes for a legal one, with its entries.
pub record IsTracedLegally {F : Type 0} (app : List ℕ) (script : Option (List ℕ)) (settings : Settings) (job : Job) (left : Left F)
    (output : OutputChange) : Type 0 where
  -- what happened
  pub es : List Entry
  -- it is the journal of the run
  pub happened : left.journal ≡ Core es
  -- its text is printed, and nothing else
  pub printed : GotAll (journal_text es) output
  -- an audit takes it for a legal journal
  pub legal : IsAuditedAsLegal job app script settings es

-- What is promised of each `trace`.
pub record TracesLegally {F : Type 0} (reading : Reading) (words : List (List ℕ)) (left : Left F) (devices : DevicesChange)
    (output : OutputChange) : Type 0 where
  -- with status 0 it has printed a legal journal
  pub legal :
      (app : List ℕ) (script : Option (List ℕ)) (settings : Settings) (order : ℕ) (job : Job) →
      command_of words ≡ Some (Trace app script settings order) → IsJob reading app script settings job →
      left.end ≡ Ok tt → devices.store.last_before ≡ 0 → IsTracedLegally app script settings job left output
  -- a sink's store that failed leaves nothing on the output
  pub unprinted :
      (app : List ℕ) (script : Option (List ℕ)) (settings : Settings) (order : ℕ) →
      command_of words ≡ Some (Trace app script settings order) → left.end ≡ Err StoreFailed → IsUnprinted output
