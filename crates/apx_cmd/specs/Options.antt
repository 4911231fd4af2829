-- The options of commands, and what they are given.
use Rattle.std.specs.Prelude.{ℕ, ◌-◌, ◌^◌, ◌&&◌, ◌||◌, nat_le, not, Bool, true, false, cond, List, [], ◌∷◌, length, Option, Some, None, is_some, is_none, option_and_then, unwrap_or, codes, if◌then◌else◌}
use Rattle.std.specs.List.{list_any}
use Rattle.std.specs.Str.{bytes_eq}
use Rattle.apx_decimal.specs.Decimal.{number_up_to}
use Rattle.apx_json.specs.FileName.{is_file_name}
use Rattle.apx_script.specs.declared.settings.Settings.{Settings}
use Rattle.apx_cmd.specs.declared.option.Number.{Number}
use Rattle.apx_cmd.specs.declared.option.Number.TheVariants.{Base, Checkpoint, Block, Keep, Order, Threads}

-- ---- the options that are given a number

-- the name of the option
abbrev pub name_of : Number → List ℕ
name_of Base = codes "--base"
name_of Checkpoint = codes "--checkpoint"
name_of Block = codes "--block"
name_of Keep = codes "--keep"
name_of Order = codes "--order"
name_of Threads = codes "--threads"

-- its least value
abbrev pub low_of : Number → ℕ
low_of Base = 0
low_of Checkpoint = 1
low_of Block = 1040
low_of Keep = 1
low_of Order = 0
low_of Threads = 1

-- its greatest value
abbrev pub high_of : Number → ℕ
high_of Base = 4294959295
high_of Checkpoint = 1000
high_of Block = 1048576
high_of Keep = 1000000
high_of Order = 18446744073709551615
high_of Threads = 16

-- its value where it isn't given
abbrev pub usual_of : Number → ℕ
usual_of Base = 1000000000
usual_of Checkpoint = 60
usual_of Block = 65536
usual_of Keep = 64
usual_of Order = 0
usual_of Threads = 4

-- the number from low to high that 1 to 20 decimal digits write, leading zeros allowed
unfoldable pub number_within : ℕ → ℕ → List ℕ → Option ℕ
number_within low high text =
    option_and_then (λ number. if nat_le low number then Some number else None)
    (cond (nat_le (length text) 20) (number_up_to high text) None)

-- ---- options in pairs of a name and a value

-- the name is that of the number's option, and the value is within its limits
abbrev pub takes_number : List ℕ → List ℕ → Number → Bool
takes_number option value number =
    bytes_eq option (name_of number) && is_some (number_within (low_of number) (high_of number) value)

-- one of the options that a command has takes this name and value: those of numbers, and that of a script where it has one
abbrev pub takes : Bool → List Number → List ℕ → List ℕ → Bool
takes script numbers option value =
    script && bytes_eq option (codes "--script") && is_file_name value || list_any (takes_number option value) numbers

-- what the first option of this name is given
unfoldable pub given : List ℕ → List (List ℕ) → Option (List ℕ)
given option [] = None
given option (name ∷ []) = None
given option (name ∷ value ∷ words) = if bytes_eq name option then Some value else given option words

-- the words are pairs of an option that the command has and a value that it takes, and no option stands again
unfoldable pub are_options : Bool → List Number → List (List ℕ) → Bool
are_options script numbers [] = true
are_options script numbers (option ∷ []) = false
are_options script numbers (option ∷ value ∷ words) =
    takes script numbers option value && is_none (given option words) && are_options script numbers words

-- the number that an option is given, or its usual value
abbrev pub given_number : Number → List (List ℕ) → ℕ
given_number number words =
    unwrap_or (option_and_then (number_within (low_of number) (high_of number)) (given (name_of number) words)) (usual_of number)

-- the file of the script that is given
abbrev pub given_script : List (List ℕ) → Option (List ℕ)
given_script words = given (codes "--script") words

-- the settings that are given
abbrev pub settings_of : List (List ℕ) → Settings
settings_of words = record {
  base = given_number Base words;
  every = given_number Checkpoint words;
  block = given_number Block words;
  keep = given_number Keep words;
}
