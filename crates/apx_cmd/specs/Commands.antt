-- The words of commands, after the program's name. The first one is the command's name.
--     check APP    plan APP                 mean APP, base
--     sim APP      trace APP                script, base, checkpoint, block, keep, order
--     run APP                               script, base, checkpoint, block, keep, threads
--     group APP GROUPS                      script, base, checkpoint, block, keep
--     audit APP JOURNAL                     script, checkpoint
--     gen NUMBER SIZE
--     resume APP DIR                        base, checkpoint, block, keep, order
--     record PER DIR
use Rattle.std.specs.Prelude.{ℕ, Bool, true, false, List, [], ◌∷◌, Option, Some, None, option_and_then, option_map, codes, if◌then◌else◌}
use Rattle.std.specs.Str.{bytes_eq}
use Rattle.apx_json.specs.FileName.{is_file_name}
use Rattle.apx_cmd.specs.declared.option.Number.{Number}
use Rattle.apx_cmd.specs.declared.option.Number.TheVariants.{Base, Checkpoint, Block, Keep, Order, Threads}
use Rattle.apx_cmd.specs.declared.commands.Command.{Command}
use Rattle.apx_cmd.specs.declared.commands.Command.TheVariants.{Check, Plan, Mean, Sim, Run, Gen, Group, Trace, Audit}
use Rattle.apx_cmd.specs.declared.commands.ResumeWords.{ResumeWords}
use Rattle.apx_cmd.specs.Options.{are_options, given_number, given_script, settings_of, number_within}

-- the name of a file, and the words after it
unfoldable pub file_of : List (List ℕ) → Option (List ℕ × List (List ℕ))
file_of [] = None
file_of (name ∷ words) = if is_file_name name then Some (name, words) else None

-- the name of a file, and the words after it, where these are options that the command has
unfoldable pub file_and_options : Bool → List Number → List (List ℕ) → Option (List ℕ × List (List ℕ))
file_and_options script numbers words =
    option_and_then (λ f. if are_options script numbers f.1 then Some f else None) (file_of words)

-- ---- each command, by the words after its name

-- check APP
unfoldable pub check_of : List (List ℕ) → Option Command
check_of words = option_map (λ app. Check app.0) (file_and_options false [] words)

-- plan APP
unfoldable pub plan_of : List (List ℕ) → Option Command
plan_of words = option_map (λ app. Plan app.0) (file_and_options false [] words)

-- mean APP
unfoldable pub mean_of : List (List ℕ) → Option Command
mean_of words = option_map (λ app. Mean app.0 (given_number Base app.1)) (file_and_options false (Base ∷ []) words)

-- the numbers that a simulation may be given
abbrev pub sim_numbers : List Number
sim_numbers = Base ∷ Checkpoint ∷ Block ∷ Keep ∷ Order ∷ []

-- sim APP
unfoldable pub sim_of : List (List ℕ) → Option Command
sim_of words =
    option_map (λ app. Sim app.0 (given_script app.1) (settings_of app.1) (given_number Order app.1))
    (file_and_options true sim_numbers words)

-- trace APP
unfoldable pub trace_of : List (List ℕ) → Option Command
trace_of words =
    option_map (λ app. Trace app.0 (given_script app.1) (settings_of app.1) (given_number Order app.1))
    (file_and_options true sim_numbers words)

-- run APP
unfoldable pub run_of : List (List ℕ) → Option Command
run_of words =
    option_map (λ app. Run app.0 (given_script app.1) (settings_of app.1) (given_number Threads app.1))
    (file_and_options true (Base ∷ Checkpoint ∷ Block ∷ Keep ∷ Threads ∷ []) words)

-- group APP GROUPS
unfoldable pub group_of : List (List ℕ) → Option Command
group_of words =
    option_and_then (λ app.
    option_map (λ groups. Group app.0 groups.0 (given_script groups.1) (settings_of groups.1))
    (file_and_options true (Base ∷ Checkpoint ∷ Block ∷ Keep ∷ []) app.1))
    (file_of words)

-- audit APP JOURNAL
unfoldable pub audit_of : List (List ℕ) → Option Command
audit_of words =
    option_and_then (λ app.
    option_map (λ journal. Audit app.0 journal.0 (given_script journal.1) (settings_of journal.1))
    (file_and_options true (Checkpoint ∷ []) app.1))
    (file_of words)

-- gen NUMBER SIZE
unfoldable pub gen_of : List (List ℕ) → Option Command
gen_of (number ∷ size ∷ []) =
    option_and_then (λ n. option_map (λ s. Gen n s) (number_within 1 200000 size)) (number_within 0 18446744073709551615 number)
gen_of _ = None

-- what a command's name calls for, of the words after it
abbrev pub called : List ℕ → List (List ℕ) → Option Command
called name words =
    if bytes_eq name (codes "check") then check_of words else
    if bytes_eq name (codes "plan") then plan_of words else
    if bytes_eq name (codes "mean") then mean_of words else
    if bytes_eq name (codes "sim") then sim_of words else
    if bytes_eq name (codes "run") then run_of words else
    if bytes_eq name (codes "gen") then gen_of words else
    if bytes_eq name (codes "group") then group_of words else
    if bytes_eq name (codes "trace") then trace_of words else
    if bytes_eq name (codes "audit") then audit_of words else None

-- the command that the words are, if they are one
unfoldable pub command_of : List (List ℕ) → Option Command
command_of [] = None
command_of (name ∷ words) = called name words

-- ---- the two commands that are read apart

-- resume APP DIR
unfoldable pub resume_told : List (List ℕ) → Option ResumeWords
resume_told words =
    option_and_then (λ app.
    option_map (λ dir. record { app = app.0; settings = settings_of dir.1; order = given_number Order dir.1 })
    (file_and_options false sim_numbers app.1))
    (file_of words)

-- what the words of a resumed run tell, if they are such
unfoldable pub resume_of : List (List ℕ) → Option ResumeWords
resume_of [] = None
resume_of (name ∷ words) = if bytes_eq name (codes "resume") then resume_told words else None

-- record PER DIR
unfoldable pub record_told : List (List ℕ) → Option ℕ
record_told (per ∷ dir ∷ []) = option_and_then (λ n. if is_file_name dir then Some n else None) (number_within 1 1000000 per)
record_told _ = None

-- how many lines the words of a record make a window of, if they are such
unfoldable pub record_of : List (List ℕ) → Option ℕ
record_of [] = None
record_of (name ∷ words) = if bytes_eq name (codes "record") then record_told words else None
