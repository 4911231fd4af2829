-- Commands whose numbers are within their limits.
use Rattle.std.specs.Prelude.{ℕ, ◌≤◌, ⊤}
use Rattle.apx_script.specs.Settings.{IsSettings}
use Rattle.apx_cmd.specs.declared.commands.Command.{Command}
use Rattle.apx_cmd.specs.declared.commands.Command.TheVariants.{Check, Plan, Mean, Sim, Run, Gen, Group, Trace, Audit}

-- a number is within limits
pub record IsWithin (low high number : ℕ) : Type 0 where
  -- it is at least the lower one
  pub least : low ≤ number
  -- and at most the upper one
  pub most : number ≤ high

-- what the numbers of a command that is read keep
abbrev pub IsBounded : Command → Type 0
IsBounded (Check app) = ⊤
IsBounded (Plan app) = ⊤
IsBounded (Mean app base) = base ≤ 4294959295
IsBounded (Sim app script settings order) = IsSettings settings
IsBounded (Run app script settings threads) = IsSettings settings × IsWithin 1 16 threads
IsBounded (Gen number size) = IsWithin 1 200000 size
IsBounded (Group app groups script settings) = IsSettings settings
IsBounded (Trace app script settings order) = IsSettings settings
IsBounded (Audit app journal script settings) = IsSettings settings
