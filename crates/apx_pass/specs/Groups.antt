-- The windows of an input operator, and the first line that it refuses. Windows and lines count from 1.
--     input_of kind n bytes  what an operator reads from the bytes of a file
--     group input w          the lines of window w: the w-th group of `per_window` lines
--     groups input           how many windows there are
--     window_bag input w     the bag of the tuples of window w
--     first_refused input    the first refused line, with its cause, if there is one
use Rattle.std.specs.Prelude.{◌≡◌, ℕ, ◌+◌, ◌-◌, ◌*◌, ◌/◌, ◌≤◌, ◌==◌, nat_lt, cond, is_some, List, [], ◌∷◌, length, take, drop, filter_map, Option, Some, None}
use Rattle.std.specs.Option.{option_map, option_or}
use Rattle.apx_tuple.specs.declared.kind.InputKind.{InputKind}
use Rattle.apx_tuple.specs.declared.tuple.Tuple.{Tuple}
use Rattle.apx_tuple.specs.Tuple.{bag_of}
use Rattle.apx_pass.specs.Lines.{lines}
use Rattle.apx_pass.specs.Pairs.{tuple_of}

-- what an input operator reads: how lines become tuples, how many lines make a window, and the lines of its file
pub record Input : Type 0 where
  -- how a line becomes a tuple
  pub kind : InputKind
  -- how many lines make a window
  pub per_window : ℕ
  -- the lines of the file
  pub lines : List (List ℕ)

-- what an operator reads from the bytes of a file
abbrev pub input_of : InputKind → ℕ → List ℕ → Input
input_of kind per_window bytes = record { kind = kind; per_window = per_window; lines = lines bytes }

-- of the first w times `per_window` lines, those past the windows before; so it is empty past the last window
unfoldable pub group : Input → ℕ → List (List ℕ)
group input w = drop ((w - 1) * input.per_window) (take (w * input.per_window) input.lines)

-- the last window may have fewer lines than the others
unfoldable pub groups : Input → ℕ
groups input = (length input.lines + (input.per_window - 1)) / input.per_window

-- the bag of the tuples of window w
unfoldable pub window_bag : Input → ℕ → List Tuple
window_bag input w = bag_of (filter_map (tuple_of input.kind) (group input w))

-- why a line is refused: it would begin window 20,001; it has more than 1,024 bytes; it should be a pair and is none
pub data Cause : Type 0 where
  TooMany : Cause
  TooLong : Cause
  BadPair : Cause

-- a refused line, by its number, and the cause
pub record Refused : Type 0 where
  -- the number of the line
  pub line : ℕ
  -- why it is refused
  pub cause : Cause

-- the first of the causes that holds of the line with this number
unfoldable pub cause_of : InputKind → ℕ → ℕ → List ℕ → Option Cause
cause_of kind per_window number line =
    cond (number == 20000 * per_window + 1) (Some TooMany)
    (cond (nat_lt 1024 (length line)) (Some TooLong)
    (cond (is_some (tuple_of kind line)) None (Some BadPair)))

-- a line refused for its cause, if it is refused
unfoldable pub refused_at : InputKind → ℕ → ℕ → List ℕ → Option Refused
refused_at kind per_window number line =
    option_map (λ cause. record { line = number; cause = cause }) (cause_of kind per_window number line)

-- the first refused one of some lines, which are numbered from `number` on
unfoldable pub first_refused_from : InputKind → ℕ → ℕ → List (List ℕ) → Option Refused
first_refused_from kind per_window number [] = None
first_refused_from kind per_window number (line ∷ lines) =
    option_or (refused_at kind per_window number line) (first_refused_from kind per_window (number + 1) lines)

-- the first refused line of an input, with its cause, if there is one
unfoldable pub first_refused : Input → Option Refused
first_refused input = first_refused_from input.kind input.per_window 1 input.lines

-- what each accepted input is: a window has 1 to 1,000,000 lines, and no line is refused
pub record IsInput (input : Input) : Type 0 where
  -- a window has a line or more
  pub low : 1 ≤ input.per_window
  -- and not too many
  pub high : input.per_window ≤ 1000000
  -- no line is refused
  pub accepted : first_refused input ≡ None
