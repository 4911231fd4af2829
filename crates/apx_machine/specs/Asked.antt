-- What the table asks of each partition or of each line, by what is asked.
use Rattle.std.specs.Prelude.{ℕ, min, cond, Bool, not, ◌&&◌, ◌||◌, ◌==◌, is_none}
use Rattle.apx_history.specs.Plan.{Plan, line, kills, splits_op, last_checkpoint}
use Rattle.apx_history.specs.State.{State, slot, is_left}
use Rattle.apx_history.specs.Enabled.{in_tree}
use Rattle.apx_machine.specs.declared.conditions.Ask.{Ask}
use Rattle.apx_machine.specs.declared.conditions.Ask.TheVariants.{Outside, Rests, Over}

-- partition i of operator o meets what is asked
abbrev pub meets : Plan → State → Ask → ℕ → ℕ → Bool
meets plan m (Outside l) o i = not (in_tree plan l o i) || kills o i (line plan l) || is_none (slot m o i).opened
meets plan m (Rests w) o i = (slot m o i).rc == w && is_none (slot m o i).opened
meets plan m Over o i = is_none (slot m o i).opened && (slot m o i).at == plan.windows
    && (slot m o i).rc == last_checkpoint plan plan.windows

-- the lesser of n and the window of line l, where the line is left and repartitions operator o
abbrev pub nearer : Plan → State → ℕ → ℕ → ℕ → ℕ
nearer plan m l o n = cond (is_left m l && splits_op o (line plan l)) (min (line plan l).window n) n
