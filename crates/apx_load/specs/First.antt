-- What words and files are accepted, and the first thing that is refused of the others.
--     AreAccepted reading words          the words are a command, and the files that it needs are accepted
--     IsRefusal reading words refusal    the first thing that is refused
use Rattle.std.specs.Prelude.{◌≡◌, ℕ, List, Some, None, ⊤}
use Rattle.apx_pass.specs.Graph.{Node}
use Rattle.apx_cmd.specs.declared.commands.Command.{Command}
use Rattle.apx_cmd.specs.declared.commands.Command.TheVariants.{Check, Plan, Mean, Sim, Run, Gen, Trace, Audit}
use Rattle.apx_cmd.specs.Commands.{command_of}
use Rattle.apx_pass.specs.Job.{Job}
use Rattle.apx_pass.specs.Pass.{Dataflow}
use Rattle.apx_load.specs.declared.refusal.Refusal.{Refusal}
use Rattle.apx_load.specs.declared.refusal.Refusal.TheVariants.{NotACommand, NotBuilt}
use Rattle.apx_load.specs.Refusals.{Reading, IsApplication, IsApplicationRefusal, IsAcceptedRun, IsRunRefusal}
use Rattle.apx_load.specs.Jobs.{IsJob, IsJobRefusal}
use Rattle.apx_load.specs.Audits.{IsAudited, IsAuditRefusal}

-- what a command needs of its files is accepted: the application where it is judged or planned, its inputs too where one
-- pass goes over it, a job where it is run, and a job with the journal where that is judged; an example needs none
abbrev pub IsAcceptedBy : Reading → Command → Type 0
IsAcceptedBy reading (Check app) = (nodes : List Node) × IsApplication reading app nodes
IsAcceptedBy reading (Plan app) = (nodes : List Node) × IsApplication reading app nodes
IsAcceptedBy reading (Mean app base) = (flow : Dataflow) × IsAcceptedRun reading app flow
IsAcceptedBy reading (Sim app script settings order) = (job : Job) × IsJob reading app script settings job
IsAcceptedBy reading (Run app script settings threads) = (job : Job) × IsJob reading app script settings job
IsAcceptedBy reading (Gen number size) = ⊤
IsAcceptedBy reading (Trace app script settings order) = (job : Job) × IsJob reading app script settings job
IsAcceptedBy reading (Audit app journal script settings) = (text : List ℕ) × IsAudited reading app journal script settings text
IsAcceptedBy reading _ = ⊥

-- what is refused of it first; the other command isn't built yet
abbrev pub IsRefusedBy : Reading → Command → Refusal → Type 0
IsRefusedBy reading (Check app) refusal = IsApplicationRefusal reading app refusal
IsRefusedBy reading (Plan app) refusal = IsApplicationRefusal reading app refusal
IsRefusedBy reading (Mean app base) refusal = IsRunRefusal reading app refusal
IsRefusedBy reading (Sim app script settings order) refusal = IsJobRefusal reading app script settings refusal
IsRefusedBy reading (Run app script settings threads) refusal = IsJobRefusal reading app script settings refusal
IsRefusedBy reading (Gen number size) refusal = ⊥
IsRefusedBy reading (Trace app script settings order) refusal = IsJobRefusal reading app script settings refusal
IsRefusedBy reading (Audit app journal script settings) refusal = IsAuditRefusal reading app journal script settings refusal
IsRefusedBy reading _ refusal = refusal ≡ NotBuilt

-- the words are a command, and the files that it needs are accepted
pub record AreAccepted (reading : Reading) (words : List (List ℕ)) : Type 0 where
  -- the command
  pub command : Command
  -- the words are this command
  pub words_are : command_of words ≡ Some command
  -- its files are accepted
  pub files : IsAcceptedBy reading command

-- the first refusal: the words are no command, or else what the command needs is refused
pub data IsRefusal (reading : Reading) (words : List (List ℕ)) : Refusal → Type 0 where
  of_words : command_of words ≡ None → IsRefusal reading words NotACommand
  of_files :
      (command : Command) (refusal : Refusal) → command_of words ≡ Some command →
      IsRefusedBy reading command refusal → IsRefusal reading words refusal
