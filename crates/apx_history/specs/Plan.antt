-- What the machine needs of a job, as plain data: the graph, the number of windows, the script.
--
-- Operators, partitions and lines of the script are numbered from 0, windows from 1. An epoch of an operator
-- is the windows between two of its boundaries. Its boundaries are 0 and the windows of its repartitions.
pub use Rattle.apx_history.specs.declared.Point.{Point}
pub use Rattle.apx_history.specs.declared.Point.TheVariants.{Before, Staged, Written, Done}
pub use Rattle.apx_history.specs.declared.Act.{Act}
pub use Rattle.apx_history.specs.declared.Act.TheVariants.{Fails, Splits}
pub use Rattle.apx_history.specs.declared.Line.{Line}
use Rattle.std.specs.Prelude.{ℕ, ◌*◌, ◌/◌, ◌%◌, max, Bool, true, false, cond, ◌&&◌, ◌||◌, ◌==◌, nat_lt, List, [], ◌∷◌, length, get_or}

-- an operator: those that it reads, all that are downstream of it, and its number of partitions at first
pub record Operator : Type 0 where
  -- the operators that it reads
  pub sources : List ℕ
  -- all operators that are downstream of it
  pub under : List ℕ
  -- its number of partitions before any repartition
  pub first : ℕ

-- the plan of a job: `every` is the checkpoint interval
pub record Plan : Type 0 where
  -- how many windows the job has
  pub windows : ℕ
  -- a checkpoint is made after each so many windows
  pub every : ℕ
  -- the number of the sink
  pub sink : ℕ
  -- the operators, in the order of the application
  pub operators : List Operator
  -- the commands of the script, in order
  pub lines : List Line

-- x stands in xs
unfoldable pub has : List ℕ → ℕ → Bool
has [] x = false
has (y ∷ ys) x = y == x || has ys x

-- an operator that isn't there: it reads nothing
abbrev pub no_operator : Operator
no_operator = record { sources = []; under = []; first = 0 }

-- a line that isn't there
abbrev pub no_line : Line
no_line = record { op = 0; window = 0; act = Splits 0 }

-- operator o, one that reads nothing where it isn't there
abbrev pub operator : Plan → ℕ → Operator
operator plan o = get_or plan.operators o no_operator

-- line l of the script, one that does nothing where it isn't there
abbrev pub line : Plan → ℕ → Line
line plan l = get_or plan.lines l no_line

-- operator o reads operator s
abbrev pub reads : Plan → ℕ → ℕ → Bool
reads plan o s = has (operator plan o).sources s

-- operator o is downstream of operator s
abbrev pub below : Plan → ℕ → ℕ → Bool
below plan s o = has (operator plan s).under o

-- the greatest multiple of the checkpoint interval that is at most n
abbrev pub last_checkpoint : Plan → ℕ → ℕ
last_checkpoint plan n = plan.every * (n / plan.every)

-- a checkpoint is due at window w
abbrev pub is_checkpoint : Plan → ℕ → Bool
is_checkpoint plan w = w % plan.every == 0

-- the act repartitions
abbrev pub splits : Act → Bool
splits (Splits count) = true
splits (Fails point part) = false

-- the line repartitions operator o
abbrev pub splits_op : ℕ → Line → Bool
splits_op o l = splits l.act && l.op == o

-- the number that the line repartitions to, or n
abbrev pub count_or : ℕ → Act → ℕ
count_or n (Splits count) = count
count_or n (Fails point part) = n

-- the boundary of the epoch of operator o that holds window w: the greatest window of its repartitions below w, or 0
unfoldable pub boundary_in : List Line → ℕ → ℕ → ℕ
boundary_in [] o w = 0
boundary_in (l ∷ ls) o w = cond (splits_op o l && nat_lt l.window w) (max l.window (boundary_in ls o w)) (boundary_in ls o w)

-- the boundary of the epoch of operator o that holds window w, by the plan
abbrev pub boundary_at : Plan → ℕ → ℕ → ℕ
boundary_at plan o w = boundary_in plan.lines o w

-- the number of partitions that a repartition of operator o at window b gives, or n
unfoldable pub number_in : List Line → ℕ → ℕ → ℕ → ℕ
number_in [] o b n = n
number_in (l ∷ ls) o b n = cond (splits_op o l && l.window == b) (count_or n l.act) (number_in ls o b n)

-- how many partitions operator o has in the epoch with boundary b
abbrev pub number : Plan → ℕ → ℕ → ℕ
number plan o b = number_in plan.lines o b (operator plan o).first

-- the greatest number of partitions that the repartitions of operator o give, or n where that is more
unfoldable pub most_in : List Line → ℕ → ℕ → ℕ
most_in [] o n = n
most_in (l ∷ ls) o n = cond (splits_op o l) (max (count_or n l.act) (most_in ls o n)) (most_in ls o n)

-- the greatest number of partitions of operator o in any epoch
abbrev pub most : Plan → ℕ → ℕ
most plan o = most_in plan.lines o (operator plan o).first

-- the act kills partition i
abbrev pub fails_part : ℕ → Act → Bool
fails_part i (Fails point part) = part == i
fails_part i (Splits count) = false

-- the line kills partition i of operator o
abbrev pub kills : ℕ → ℕ → Line → Bool
kills o i l = l.op == o && fails_part i l.act
