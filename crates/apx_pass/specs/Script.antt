-- Scripts: the commands that a run is to meet, and the first line of a script that is refused.
--
-- A line that is empty or begins with a hash, byte 35, is passed over but counted. Each other line is a command, in
-- one of two forms. There is one space between words, and the name of the operator is the rest of the line, so it may
-- be empty or begin with a space. A number has 1 to 9 decimal digits.
--     kill POINT WINDOW PART NAME       POINT is `before`, `staged`, `written` or `done`
--     repartition WINDOW COUNT NAME
--
--     act_of line        the command of a line, where the line has one of the forms
--     script_of bytes    the commands of a script, or its first line that is refused
use Rattle.std.specs.Prelude.{ℕ, ◌+◌, ◌==◌, ◌≤◌, nat_le, nat_lt, min, Bool, true, cond, List, [], ◌∷◌, length, take, drop, position, Option, Some, None, Result, Ok, Err, codes, if◌then◌else◌}
use Rattle.std.specs.Option.{option_map, option_and_then}
use Rattle.std.specs.Str.{bytes_eq, is_utf8}
use Rattle.apx_pass.specs.Lines as texts
use Rattle.apx_decimal.specs.Decimal.{number_up_to}

-- ---- commands as plain data

-- where in its window a partition is killed: before it begins the window; while it has it open; where the window's rows
-- are stored; after it has finished it
pub data Point : Type 0 where
  Before : Point
  Staged : Point
  Written : Point
  Done : Point

-- A partition of an operator is killed at a point of a window, or an operator has another number of partitions from
-- the window after this one on. The operator goes by its name, and partitions count from 0.
pub data Act : Type 0 where
  Kill : (point : Point) (window : ℕ) (part : ℕ) (operator : List ℕ) → Act
  Repartition : (window : ℕ) (count : ℕ) (operator : List ℕ) → Act

-- a command of a script, with where it stands
pub record Line : Type 0 where
  -- the number of the line, from 1
  pub number : ℕ
  -- what the line commands
  pub act : Act

-- ---- the command of a line

-- what stands before the first space of a text, and what stands after it
unfoldable pub at_space : List ℕ → Option (List ℕ × List ℕ)
at_space text = option_map (λ at. (take at text, drop (at + 1) text)) (position (λ byte. byte == 32) text)

-- what the rest of a text is read as, where its first word is read
unfoldable pub after_word : {X Y : Type 0} → (List ℕ → Option X) → (X → List ℕ → Option Y) → List ℕ → Option Y
after_word word_of rest_of text =
    option_and_then (λ parts. option_and_then (λ x. rest_of x parts.1) (word_of parts.0)) (at_space text)

-- a number of 1 to 9 digits
unfoldable pub script_number : List ℕ → Option ℕ
script_number digits = cond (nat_le (length digits) 9) (number_up_to 999999999 digits) None

-- a number of partitions, or of one; above 255 it is held as 255, which a job refuses
unfoldable pub script_part : List ℕ → Option ℕ
script_part digits = option_map (min 255) (script_number digits)

-- the point that a word names
abbrev pub point_of : List ℕ → Option Point
point_of word =
    if bytes_eq word (codes "before") then Some Before else
    if bytes_eq word (codes "staged") then Some Staged else
    if bytes_eq word (codes "written") then Some Written else
    if bytes_eq word (codes "done") then Some Done else None

-- what POINT WINDOW PART NAME commands
unfoldable pub kill_of : List ℕ → Option Act
kill_of =
    after_word point_of (λ point.
    after_word script_number (λ window.
    after_word script_part (λ part name. Some (Kill point window part name))))

-- what WINDOW COUNT NAME commands
unfoldable pub repartition_of : List ℕ → Option Act
repartition_of =
    after_word script_number (λ window.
    after_word script_part (λ count name. Some (Repartition window count name)))

-- the two forms, each by its first word
abbrev pub form_of : List ℕ → Option (List ℕ → Option Act)
form_of word =
    if bytes_eq word (codes "kill") then Some kill_of else
    if bytes_eq word (codes "repartition") then Some repartition_of else None

-- the command of a line; one that isn't UTF-8 has neither form
unfoldable pub act_of : List ℕ → Option Act
act_of line = cond (is_utf8 line) (after_word form_of (λ form rest. form rest) line) None

-- ---- the commands of a script

-- A refused line, and why. The lines of a text are refused for 1, it has neither form, and 2, it is a command past the
-- thousandth; a job refuses for 3 to 10.
pub record RefusedLine : Type 0 where
  -- the number of the line
  pub line : ℕ
  -- the reason, from 1 to 10
  pub why : ℕ

-- whether a line is empty or begins with a hash
abbrev pub is_passed_over : List ℕ → Bool
is_passed_over [] = true
is_passed_over (byte ∷ bytes) = byte == 35

-- the command of the line with this number, which so many commands stand before
unfoldable pub command_at : ℕ → ℕ → Option Act → Result Line RefusedLine
command_at number before None = Err (record { line = number; why = 1 })
command_at number before (Some act) =
    if nat_lt before 1000 then Ok (record { number = number; act = act }) else Err (record { line = number; why = 2 })

-- the first refused one of two parts, or the commands of both
abbrev pub in_front : Result Line RefusedLine → Result (List Line) RefusedLine → Result (List Line) RefusedLine
in_front (Err refused) others = Err refused
in_front (Ok line) (Err refused) = Err refused
in_front (Ok line) (Ok lines) = Ok (line ∷ lines)

-- the commands of some lines, which are numbered from `number` on and which so many commands stand before
unfoldable pub script_from : ℕ → ℕ → List (List ℕ) → Result (List Line) RefusedLine
script_from number before [] = Ok []
script_from number before (line ∷ lines) =
    if is_passed_over line
    then script_from (number + 1) before lines
    else in_front (command_at number before (act_of line)) (script_from (number + 1) (before + 1) lines)

-- the commands of a script, or its first line that is refused
unfoldable pub script_of : List ℕ → Result (List Line) RefusedLine
script_of bytes = script_from 1 0 (texts.lines bytes)

-- what the commands of each script that is read keep
pub record IsScript (lines : List Line) : Type 0 where
  -- there are at most 1,000
  pub few : length lines ≤ 1000
