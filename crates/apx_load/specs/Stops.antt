-- Why a run stops, and when it may.
use Rattle.std.specs.Prelude.{◌≡◌, ℕ, List, ⊤}
use Rattle.apx_json.specs.declared.refusal.JsonRefusal.{JsonRefusal}
use Rattle.apx_json.specs.declared.refusal.JsonRefusal.TheVariants as json
use Rattle.apx_dag.specs.declared.refusal.AppRefusal.{AppRefusal}
use Rattle.apx_dag.specs.declared.refusal.AppRefusal.TheVariants as graph
use Rattle.apx_cmd.specs.declared.refusal.CommandRefusal.{CommandRefusal}
use Rattle.apx_cmd.specs.declared.refusal.CommandRefusal.TheVariants as words
use Rattle.apx_script.specs.declared.refusal.ScriptRefusal.{ScriptRefusal}
use Rattle.apx_script.specs.declared.refusal.ScriptRefusal.TheVariants as script
use Rattle.apx_audit.specs.declared.audited.AuditRefusal.{AuditRefusal}
use Rattle.apx_audit.specs.declared.audited.AuditRefusal.TheVariants as journal
use Rattle.apx_tuple.specs.declared.refusal.Short.{Short}
use Rattle.apx_tuple.specs.declared.refusal.Short.TheVariants as short
use Rattle.apx_device.specs.declared.keeper.KeepRefusal.{KeepRefusal}
use Rattle.apx_device.specs.declared.keeper.KeepRefusal.TheVariants as keep
use Rattle.apx_device.specs.declared.folder.ReadRefusal.{ReadRefusal}
use Rattle.apx_device.specs.declared.folder.ReadRefusal.TheVariants as read
use Rattle.apx_device.specs.declared.folder.ReadRefusal.TheVariants.{Absent, TooLong, Failed}
use Rattle.apx_device.specs.Folder.{Answer, StopsAt}
use Rattle.apx_load.specs.declared.refusal.Refusal.{Refusal}
use Rattle.apx_load.specs.declared.refusal.Refusal.TheVariants.{NotACommand, NoFile, FileTooLong, NoJson, WrongShape, BrokenRule, RefusedCommand, RefusedEntry}
use Rattle.apx_load.specs.declared.stop.Stop.{Stop}
use Rattle.apx_load.specs.declared.stop.Stop.TheVariants.{Refused, CannotRead, VaultFailed, StoreFailed, SpoolFailed, StateDamaged, BlockDamaged, OutputFailed, Memory, Large}

-- for each kind of stop, when it may come
pub record Causes : Type 1 where
  -- the words or a file may be refused so
  pub refuses : Refusal → Type 0
  -- the folder may have failed at the file of this name
  pub unread : List ℕ → Type 0
  -- the checkpoint store may have failed
  pub vault : Type 0
  -- the sink's store may have failed
  pub store : Type 0
  -- a spool may have failed, or none could be made
  pub spool : Type 0
  -- the checkpoint store may have given bytes that spell no state
  pub state : Type 0
  -- a spool may have given bytes that are not the block it was asked for
  pub block : Type 0
  -- the output may have failed
  pub output : Type 0
  -- a bag or a state may be too large
  pub large : Type 0

-- the table of stops: a stop has its cause, and want of memory needs none
abbrev pub IsCaused : Causes → Stop → Type 0
IsCaused causes (Refused refusal) = causes.refuses refusal
IsCaused causes (CannotRead name) = causes.unread name
IsCaused causes VaultFailed = causes.vault
IsCaused causes StoreFailed = causes.store
IsCaused causes SpoolFailed = causes.spool
IsCaused causes StateDamaged = causes.state
IsCaused causes BlockDamaged = causes.block
IsCaused causes OutputFailed = causes.output
IsCaused causes Large = causes.large
IsCaused causes Memory = ⊤

-- nothing may come, but for want of memory
abbrev pub no_causes : Causes
no_causes = record {
  refuses = λ refusal. ⊥;
  unread = λ name. ⊥;
  vault = ⊥;
  store = ⊥;
  spool = ⊥;
  state = ⊥;
  block = ⊥;
  output = ⊥;
  large = ⊥;
}

-- a stop at a file of this name, by why it wasn't read
abbrev pub IsUnread : List ℕ → ReadRefusal → Stop → Type 0
IsUnread name Absent = IsCaused (record no_causes { refuses = λ refusal. refusal ≡ NoFile name })
IsUnread name TooLong = IsCaused (record no_causes { refuses = λ refusal. refusal ≡ FileTooLong name })
IsUnread name Failed = IsCaused (record no_causes { unread = λ file. file ≡ name })
IsUnread name read.Memory = IsCaused no_causes

-- Reading files may stop at a refusal, and at a file whose read failed, where the folder's count of faults rose.
abbrev pub reading_causes : (Refusal → Type 0) → List Answer → Type 0 → Causes
reading_causes refuses answers rose =
    record no_causes { refuses = refuses; unread = λ name. rose × StopsAt answers name Failed }

-- ---- the stop for a refusal of words, of an application's text or graph, of a script, of a journal, of the store, or for a size

-- the stop for a refusal of words
abbrev pub stop_of_words : CommandRefusal → Stop
stop_of_words words.Usage = Refused NotACommand
stop_of_words words.Memory = Memory

-- the stop for a refusal of an application's text
abbrev pub stop_of_json : JsonRefusal → Stop
stop_of_json json.Syntax = Refused NoJson
stop_of_json (json.Shape place) = Refused (WrongShape place)
stop_of_json json.Memory = Memory

-- the stop for a refusal of its graph
abbrev pub stop_of_graph : AppRefusal → Stop
stop_of_graph (graph.Refused code place) = Refused (BrokenRule code place)
stop_of_graph graph.Memory = Memory

-- the stop for a refusal of a script
abbrev pub stop_of_script : ScriptRefusal → Stop
stop_of_script (script.Line line why) = Refused (RefusedCommand line why)
stop_of_script script.Memory = Memory

-- the stop for a refusal of a journal
abbrev pub stop_of_journal : AuditRefusal → Stop
stop_of_journal (journal.Line line why) = Refused (RefusedEntry line why)
stop_of_journal journal.Memory = Memory

-- the stop for a refusal of the sink's store
abbrev pub stop_of_store : KeepRefusal → Stop
stop_of_store keep.Failed = StoreFailed
stop_of_store keep.Memory = Memory

-- the stop for a bag or a state that wasn't made
abbrev pub stop_of_short : Short → Stop
stop_of_short short.Memory = Memory
stop_of_short short.Large = Large
