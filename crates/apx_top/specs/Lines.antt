-- The status of a run that stopped, and the line that says why.
use Rattle.std.specs.Prelude.{ℕ, ◌==◌, if◌then◌else◌, length, List, [], ◌++◌, codes, decimal}
use Rattle.apx_load.specs.declared.refusal.LineCause.{LineCause}
use Rattle.apx_load.specs.declared.refusal.LineCause.TheVariants.{TooMany, TooLong, BadPair}
use Rattle.apx_load.specs.declared.refusal.Refusal.{Refusal}
use Rattle.apx_load.specs.declared.refusal.Refusal.TheVariants.{NotACommand, NoFile, FileTooLong, NoJson, WrongShape, BrokenRule, RefusedLine, RefusedCommand, RefusedEntry, NotBuilt}
use Rattle.apx_load.specs.declared.stop.Stop.{Stop}
use Rattle.apx_load.specs.declared.stop.Stop.TheVariants.{Refused, CannotRead, VaultFailed, StoreFailed, SpoolFailed, StateDamaged, BlockDamaged, OutputFailed, Memory, Large}

-- the exit status of a refusal
abbrev pub refusal_status : Refusal → ℕ
refusal_status NotACommand = 1
refusal_status (NoFile name) = 3
refusal_status (FileTooLong name) = 4
refusal_status NoJson = 5
refusal_status (WrongShape place) = 5
refusal_status (BrokenRule code place) = 5
refusal_status (RefusedLine file line cause) = 6
refusal_status (RefusedCommand line why) = 7
refusal_status (RefusedEntry line why) = 16
refusal_status NotBuilt = 1

-- the exit status of a stop
abbrev pub status_of : Stop → ℕ
status_of (Refused refusal) = refusal_status refusal
status_of (CannotRead name) = 2
status_of VaultFailed = 8
status_of StoreFailed = 9
status_of SpoolFailed = 10
status_of StateDamaged = 11
status_of BlockDamaged = 11
status_of OutputFailed = 12
status_of Memory = 13
status_of Large = 19

-- the end of the line that refuses a line
abbrev pub cause_text : LineCause → List ℕ
cause_text TooLong = codes " refused: too long\n"
cause_text BadPair = codes " refused: no pair\n"
cause_text TooMany = codes " refused: too many windows\n"

-- a blank before a place, where there is one
abbrev pub blank_before : List ℕ → List ℕ
blank_before place = if length place == 0 then [] else codes " "

-- the line that says why something was refused; what isn't built yet is told as no command
abbrev pub refusal_line : Refusal → List ℕ
refusal_line NotACommand = codes "apex: not a command\n"
refusal_line (NoFile name) = codes "apex: no file " ++ (name ++ codes "\n")
refusal_line (FileTooLong name) = codes "apex: file too long " ++ (name ++ codes "\n")
refusal_line NoJson = codes "apex: application refused: Syntax\n"
refusal_line (WrongShape place) = codes "apex: application refused: Shape " ++ (place ++ codes "\n")
refusal_line (BrokenRule code place) =
    codes "apex: application refused: A" ++ (decimal code ++ (blank_before place ++ (place ++ codes "\n")))
refusal_line (RefusedLine file line cause) = codes "apex: line " ++ (decimal line ++ (codes " of " ++ (file ++ cause_text cause)))
refusal_line (RefusedCommand line why) =
    codes "apex: script line " ++ (decimal line ++ (codes " refused: S" ++ (decimal why ++ codes "\n")))
refusal_line (RefusedEntry line why) =
    codes "apex: journal line " ++ (decimal line ++ (codes " refused: J" ++ (decimal why ++ codes "\n")))
refusal_line NotBuilt = codes "apex: not a command\n"

-- nothing is said of an output that failed
abbrev pub line_of : Stop → List ℕ
line_of (Refused refusal) = refusal_line refusal
line_of (CannotRead name) = codes "apex: cannot read " ++ (name ++ codes "\n")
line_of VaultFailed = codes "apex: checkpoint store failed\n"
line_of StoreFailed = codes "apex: sink store failed\n"
line_of SpoolFailed = codes "apex: spool failed\n"
line_of StateDamaged = codes "apex: checkpoint damaged\n"
line_of BlockDamaged = codes "apex: block damaged\n"
line_of OutputFailed = []
line_of Memory = codes "apex: out of memory\n"
line_of Large = codes "apex: too large\n"
