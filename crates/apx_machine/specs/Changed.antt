-- What changes of one partition take no memory.
use Rattle.std.specs.Prelude.{ℕ, Bool, cond, ◌||◌, get_or, set}
use Rattle.apx_history.specs.declared.Line.{Line}
use Rattle.apx_history.specs.Plan.{Plan, count_or, kills, below}
use Rattle.apx_history.specs.State.{Slot, Oper, State, fresh, map_from}
use Rattle.apx_history.specs.Effects.{started, finished, advanced, purged, back, split}
use Rattle.apx_machine.specs.declared.partition.Change.{Change}
use Rattle.apx_machine.specs.declared.partition.Change.TheVariants.{Start, Finish, Advance, Purge}

-- the partition after the change
abbrev pub changed : Change → Slot → Slot
changed (Start w worker) x = started w worker x
changed (Finish w) x = finished w x
changed (Advance w) x = advanced w x
changed (Purge w) x = purged w x

-- the operator of a line begins its next epoch
abbrev pub split_by : Line → State → State
split_by l m = split l.op l.window (count_or 0 l.act) m

-- partition i of operator p
abbrev pub part_of : Oper → ℕ → Slot
part_of p i = get_or p.parts i (fresh 0)

-- operator p, with x as its partition i
abbrev pub with_part : Oper → ℕ → Slot → Oper
with_part p i x = record { boundary = p.boundary; parts = set p.parts i x }

-- operator o, with the partition that line l kills back at its recovery checkpoint, and all where it is downstream
abbrev pub gone_back_if : Line → ℕ → Bool → Oper → Oper
gone_back_if l o under p = record { boundary = p.boundary; parts = map_from 0 (λ i x. cond (kills o i l || under) (back x) x) p.parts }

-- operator o, with its partitions in the tree of a line back at their recovery checkpoints
abbrev pub gone_back : Plan → Line → ℕ → Oper → Oper
gone_back plan l o p = gone_back_if l o (below plan l.op o) p
