-- What a plan is, and what every state keeps.
use Rattle.std.specs.Prelude.{◌≡◌, ℕ, zero, suc, ◌+◌, ◌*◌, ◌<◌, ◌≤◌, ◌⊎◌, max, min, Bool, true, false, cond, List, [], ◌∷◌, length, Option, None, Some}
use Rattle.apx_history.specs.Plan.{Point, Before, Staged, Written, Done, Act, Fails, Splits, Plan, has, operator, line, reads, below, is_checkpoint, splits, splits_op, boundary_at, number, most}
use Rattle.apx_history.specs.State.{Slot, State, Oper, oper, parts, slot, IsPart, is_left, open_window}
use Rattle.apx_history.specs.Enabled.{limit, readers_rc}
use Rattle.apx_history.specs.Effects.{next}

-- What a line of the script says of an operator o and a window w. A kill names a partition that is there in the
-- epoch of its window, and only the sink's windows are written. A repartition names a window at which checkpoints
-- are made, some partitions, and not the sink.
abbrev pub IsAct : Plan → ℕ → ℕ → Act → Type 0
IsAct plan o w (Fails point part) = (part < number plan o (boundary_at plan o w)) × (point ≡ Written → o ≡ plan.sink)
IsAct plan o w (Splits count) = (is_checkpoint plan w ≡ true) × (o ≡ plan.sink → ⊥) × (0 < count)

-- a plan of a job: a graph without cycles, whose sink has one partition, and a script that names what is there
pub record IsPlan (plan : Plan) : Type 0 where
  -- checkpoints are made after each so many windows
  pub every : 0 < plan.every
  -- the sink is an operator
  pub sink : plan.sink < length plan.operators
  -- it has one partition
  pub single : (operator plan plan.sink).first ≡ 1
  -- each operator has a partition
  pub some : (o : ℕ) → o < length plan.operators → 0 < (operator plan o).first
  -- who reads and who is read is there
  pub there : (o s : ℕ) → reads plan o s ≡ true → (o < length plan.operators) × (s < length plan.operators)
  -- so is who is downstream
  pub under : (s o : ℕ) → below plan s o ≡ true → (s < length plan.operators) × (o < length plan.operators)
  -- downstream is what reads, and what is downstream of that
  pub direct : (o s : ℕ) → reads plan o s ≡ true → below plan s o ≡ true
  -- and what is downstream of what is downstream
  pub further : (s t o : ℕ) → below plan s t ≡ true → below plan t o ≡ true → below plan s o ≡ true
  -- and nothing else
  pub only : (s o : ℕ) → below plan s o ≡ true → (reads plan o s ≡ true) ⊎ ((t : ℕ) × (reads plan t s ≡ true) × (below plan t o ≡ true))
  -- no operator is downstream of itself
  pub acyclic : (o : ℕ) → below plan o o ≡ false
  -- each line
  pub op : (l : ℕ) → l < length plan.lines → (line plan l).op < length plan.operators
  -- and a window of the job
  pub window : (l : ℕ) → l < length plan.lines → (0 < (line plan l).window) × ((line plan l).window ≤ plan.windows)
  -- what it does fits its epoch
  pub act : (l : ℕ) → l < length plan.lines → IsAct plan (line plan l).op (line plan l).window (line plan l).act
  -- no two repartitions of an operator at one window
  pub once : (o k l : ℕ) → k < length plan.lines → l < length plan.lines →
      splits_op o (line plan k) ≡ true → splits_op o (line plan l) ≡ true → (line plan k).window ≡ (line plan l).window → k ≡ l

-- each member is more than the one before it
abbrev pub IsAscending : List ℕ → Type 0
IsAscending [] = Unit {0}
IsAscending (x ∷ xs) = ((w : ℕ) → has xs w ≡ true → x < w) × IsAscending xs

-- What each partition keeps: c is what is committed, b the boundary and n the limit of its operator.
pub record Sound (plan : Plan) (c b n : ℕ) (x : Slot) : Type 0 where
  -- it does not go back before what is committed
  pub committed : c ≤ x.rc
  -- its recovery checkpoint is a window that it has finished
  pub rc : x.rc ≤ x.at
  -- it does not pass the next repartition
  pub at : x.at ≤ n
  -- only finished windows are dropped
  pub floor : x.floor ≤ x.at
  -- the saved windows are the multiples of the interval from c and b on, up to `at`, which may still be absent
  pub rc_saved : has x.saved x.rc ≡ true
  -- each saved window is one of those
  pub saved : (w : ℕ) → has x.saved w ≡ true → (is_checkpoint plan w ≡ true) × (c ≤ w) × (b ≤ w) × (w ≤ x.at)
  -- and each of those below its last window is saved
  pub whole : (w : ℕ) → is_checkpoint plan w ≡ true → c ≤ w → b ≤ w → w < x.at → has x.saved w ≡ true
  -- in ascending order
  pub ascending : IsAscending x.saved
  -- an open window is the next one, and what was due before it is saved
  pub opened : (w : ℕ) → open_window x.opened ≡ Some w →
      (w ≡ x.at + 1) × (w ≤ n) × (is_checkpoint plan x.at ≡ true → has x.saved x.at ≡ true)

-- what a partition q and a partition p that reads it keep
pub record Ordered (q p : Slot) : Type 0 where
  -- who is read goes back at least as far
  pub rc : q.rc ≤ p.rc
  -- what a reader may read again is not dropped
  pub floor : q.floor ≤ p.rc
  -- a reader's open window is finished by who is read
  pub opened : (w : ℕ) → open_window p.opened ≡ Some w → w ≤ q.at

-- a kill that is left hasn't been passed: its window is yet to come, or it is due once the window is done
abbrev pub IsAhead : Point → ℕ → Slot → Type 0
IsAhead point w x =
    ((x.at < w) × (point ≡ Before → open_window x.opened ≡ Some w → ⊥))
    ⊎ ((point ≡ Done) × (x.at ≡ w) × (x.opened ≡ None) × (has x.saved w ≡ false))

-- a kill within the limit n is ahead of the partition that it names
abbrev pub ActAhead : State → ℕ → ℕ → ℕ → Act → Type 0
ActAhead m n o w (Fails point part) = w ≤ n → IsAhead point w (slot m o part)
ActAhead m n o w (Splits count) = Unit {0}

-- what every state keeps
pub record Kept (plan : Plan) (m : State) : Type 0 where
  -- the operators are those of the plan
  pub ops : length m.ops ≡ length plan.operators
  -- each line has a flag
  pub flags : length m.left ≡ length plan.lines
  -- each partition is sound
  pub each : (o i : ℕ) → IsPart m o i → Sound plan m.committed (oper m o).boundary (limit plan m o) (slot m o i)
  -- each two of which one reads the other are in order
  pub ordered : (o s : ℕ) → reads plan o s ≡ true → (i j : ℕ) → IsPart m o i → IsPart m s j →
      Ordered (slot m s j) (slot m o i)
  -- the sink does not pass the store
  pub sink : (slot m plan.sink 0).at ≤ m.stored
  -- no more is stored than there is
  pub stored : m.stored ≤ plan.windows
  -- a line that is left has its window above the boundary of its operator
  pub lines : (l : ℕ) → is_left m l ≡ true → (oper m (line plan l).op).boundary < (line plan l).window
  -- a kill that is left has not been passed
  pub ahead : (l : ℕ) → is_left m l ≡ true →
      ActAhead m (limit plan m (line plan l).op) (line plan l).op (line plan l).window (line plan l).act
  -- a repartition whose window is above the boundary is left
  pub still : (l : ℕ) → l < length plan.lines → splits (line plan l).act ≡ true →
      (oper m (line plan l).op).boundary < (line plan l).window → is_left m l ≡ true
  -- the boundary is 0 or that of a repartition, and the operator has the number of partitions of that epoch
  pub boundary : (o : ℕ) → o < length m.ops →
      ((oper m o).boundary ≡ 0)
      ⊎ ((l : ℕ) × (l < length plan.lines) × (splits_op o (line plan l) ≡ true) × ((line plan l).window ≡ (oper m o).boundary))
  -- the number of partitions is that of the epoch
  pub number : (o : ℕ) → o < length m.ops → parts m o ≡ number plan o (oper m o).boundary

-- the blocks of window w of partition i of operator o may still be read: some reader may go back to before it
abbrev pub IsNeeded : Plan → State → ℕ → ℕ → ℕ → Type 0
IsNeeded plan m o i w = (readers_rc plan m o (slot m o i).at < w) × (w ≤ (slot m o i).at)

-- Where a run may begin: the store has the windows up to s, which are windows of the job, and the run begins behind
-- window c, which is stored; c is 0, or a window at which checkpoints are made where there is no script.
pub record IsStart (plan : Plan) (s c : ℕ) : Type 0 where
  -- what is stored are windows of the job
  pub stored : s ≤ plan.windows
  -- the run begins behind windows that are stored
  pub behind : c ≤ s
  -- checkpoints are made there
  pub checkpoint : is_checkpoint plan c ≡ true
  -- a run with a script begins from 0
  pub script : (c ≡ 0) ⊎ (plan.lines ≡ [])
