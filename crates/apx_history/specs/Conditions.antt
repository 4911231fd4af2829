-- What it means that an event may come next, as facts: what the tests of the table tell.
use Rattle.std.specs.Prelude.{◌≡◌, ℕ, ◌+◌, ◌*◌, ◌<◌, ◌≤◌, ◌⊎◌, Bool, true, false, length, Option, None, Some}
use Rattle.apx_history.specs.declared.Event.{Event}
use Rattle.apx_history.specs.declared.Event.TheVariants.{Start, Write, Finish, Save, Advance, Commit, Purge, Kill, Repartition, End, Fault}
use Rattle.apx_history.specs.Plan.{Plan, has, line, reads, is_checkpoint, last_checkpoint, splits, kills}
use Rattle.apx_history.specs.State.{State, oper, parts, slot, IsPart, is_left, open_window}
use Rattle.apx_history.specs.Enabled.{limit, due, in_tree, advance_to, least_rc, at_act, is_status}

-- no kill is due for partition i of operator o
abbrev pub IsCalm : Plan → State → ℕ → ℕ → Type 0
IsCalm plan m o i = (l : ℕ) → l < length plan.lines → due plan m l ≡ true → kills o i (line plan l) ≡ true → ⊥

-- nor for a partition whose tree has it
abbrev pub IsCalmAbove : Plan → State → ℕ → ℕ → Type 0
IsCalmAbove plan m o i = (l : ℕ) → l < length plan.lines → due plan m l ≡ true → in_tree plan l o i ≡ true → ⊥

-- the kill of line l is due
pub record IsDue (plan : Plan) (m : State) (l : ℕ) : Type 0 where
  -- the line is left
  pub left : is_left m l ≡ true
  -- its window is above the boundary of the epoch
  pub above : (oper m (line plan l).op).boundary < (line plan l).window
  -- and comes before the next repartition, or at it
  pub within : (line plan l).window ≤ limit plan m (line plan l).op
  -- the line kills, and its partition is there and at its point
  pub point : at_act plan m (line plan l).op (line plan l).window (line plan l).act ≡ true

-- partition i of operator o may begin window w
pub record CanStart (plan : Plan) (m : State) (o i w : ℕ) : Type 0 where
  -- the partition is there
  pub part : IsPart m o i
  -- the window is its next
  pub next : w ≡ (slot m o i).at + 1
  -- no window is open
  pub closed : (slot m o i).opened ≡ None
  -- the window is one of the job
  pub windows : w ≤ plan.windows
  -- it is at most four intervals ahead of what is committed
  pub ahead : w ≤ m.committed + 4 * plan.every
  -- it does not pass the next repartition
  pub limit : w ≤ limit plan m o
  -- a checkpoint that was due is saved
  pub saved : is_checkpoint plan (slot m o i).at ≡ true → has (slot m o i).saved (slot m o i).at ≡ true
  -- all that it reads have finished the window
  pub sources : (s j : ℕ) → IsPart m s j → reads plan o s ≡ true → w ≤ (slot m s j).at
  -- no kill is due for it or above it
  pub calm : IsCalmAbove plan m o i

-- the sink's window w may be stored
pub record CanWrite (plan : Plan) (m : State) (w : ℕ) : Type 0 where
  -- the sink's partition is there
  pub part : IsPart m plan.sink 0
  -- it has the window open
  pub opened : open_window (slot m plan.sink 0).opened ≡ Some w
  -- the window is the next of the store
  pub next : w ≡ m.stored + 1
  -- no kill of the sink is due
  pub calm : IsCalm plan m plan.sink 0

-- partition i of operator o may finish window w
pub record CanFinish (plan : Plan) (m : State) (o i w : ℕ) : Type 0 where
  -- the partition is there
  pub part : IsPart m o i
  -- it has the window open
  pub opened : open_window (slot m o i).opened ≡ Some w
  -- the sink finishes what is stored
  pub stored : o ≡ plan.sink → w ≤ m.stored
  -- no kill of it is due
  pub calm : IsCalm plan m o i

-- the state of partition i of operator o after window w may be saved
pub record CanSave (plan : Plan) (m : State) (o i w : ℕ) : Type 0 where
  -- the partition is there
  pub part : IsPart m o i
  -- the window is its last
  pub now : w ≡ (slot m o i).at
  -- window 0 needs no checkpoint
  pub positive : 0 < w
  -- a checkpoint is made after the window
  pub checkpoint : is_checkpoint plan w ≡ true
  -- it is not saved yet
  pub unsaved : has (slot m o i).saved w ≡ false
  -- no window is open
  pub closed : (slot m o i).opened ≡ None
  -- no kill of it is due
  pub calm : IsCalm plan m o i

-- the recovery checkpoint of partition i of operator o may become window w
pub record CanAdvance (plan : Plan) (m : State) (o i w : ℕ) : Type 0 where
  -- the partition is there
  pub part : IsPart m o i
  -- the window is the greatest saved one that no reader's checkpoint is before
  pub to : w ≡ advance_to plan m o i
  -- it is later than the checkpoint now
  pub above : (slot m o i).rc < w
  -- no kill of it is due
  pub calm : IsCalm plan m o i

-- what was saved below window w may be dropped
pub record CanCommit (plan : Plan) (m : State) (w : ℕ) : Type 0 where
  -- the window is the least recovery checkpoint
  pub to : w ≡ least_rc plan m
  -- it is later than what is committed
  pub above : m.committed < w

-- the blocks of partition i of operator o up to window w may be dropped
pub record CanPurge (plan : Plan) (m : State) (o i w : ℕ) : Type 0 where
  -- the partition is there
  pub part : IsPart m o i
  -- it is not the sink's
  pub inner : o ≡ plan.sink → ⊥
  -- there is something to drop
  pub above : (slot m o i).floor < w
  -- the window is finished
  pub within : w ≤ (slot m o i).at
  -- no reader may go back before it
  pub readers : (r j : ℕ) → IsPart m r j → reads plan r o ≡ true → w ≤ (slot m r j).rc

-- line l may kill its partition
pub record CanKill (plan : Plan) (m : State) (l : ℕ) : Type 0 where
  -- its kill is due
  pub due : due plan m l ≡ true
  -- all below it are closed
  pub closed : (o i : ℕ) → IsPart m o i → in_tree plan l o i ≡ true → (kills o i (line plan l) ≡ true) ⊎ ((slot m o i).opened ≡ None)

-- line l may repartition its operator
pub record CanRepartition (plan : Plan) (m : State) (l : ℕ) : Type 0 where
  -- the line is left
  pub left : is_left m l ≡ true
  -- the line repartitions
  pub splits : splits (line plan l).act ≡ true
  -- it is the operator's next repartition
  pub window : (line plan l).window ≡ limit plan m (line plan l).op
  -- each partition rests at its window
  pub rests : (i : ℕ) → i < parts m (line plan l).op →
      ((slot m (line plan l).op i).rc ≡ (line plan l).window) × ((slot m (line plan l).op i).opened ≡ None)

-- the run may end
pub record CanEnd (plan : Plan) (m : State) : Type 0 where
  -- no window is open
  pub closed : (o i : ℕ) → IsPart m o i → (slot m o i).opened ≡ None
  -- each partition is at the last window
  pub at : (o i : ℕ) → IsPart m o i → (slot m o i).at ≡ plan.windows
  -- its recovery checkpoint is the last
  pub rc : (o i : ℕ) → IsPart m o i → (slot m o i).rc ≡ last_checkpoint plan plan.windows
  -- that is committed
  pub committed : m.committed ≡ last_checkpoint plan plan.windows
  -- no line is left
  pub met : (l : ℕ) → is_left m l ≡ false

-- what it means that the event may come next
abbrev pub Enabled : Plan → State → Event → Type 0
Enabled plan m (Start o i w) = CanStart plan m o i w
Enabled plan m (Write w) = CanWrite plan m w
Enabled plan m (Finish o i w) = CanFinish plan m o i w
Enabled plan m (Save o i w) = CanSave plan m o i w
Enabled plan m (Advance o i w) = CanAdvance plan m o i w
Enabled plan m (Commit w) = CanCommit plan m w
Enabled plan m (Purge o i w) = CanPurge plan m o i w
Enabled plan m (Kill l) = CanKill plan m l
Enabled plan m (Repartition l) = CanRepartition plan m l
Enabled plan m End = CanEnd plan m
Enabled plan m (Fault s) = is_status s ≡ true
