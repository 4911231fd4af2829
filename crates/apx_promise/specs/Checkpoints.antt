-- Which checkpoints are there when a run has ended: those after the last window at which checkpoints are made, of each epoch
-- that has that window, or begins behind it.
--     reach plan o b         the last window of an epoch
--     IsLastSave plan id     the checkpoint is one of those
--     last_saves plan        all of them, in the order of their ids
--     MustBeSaved plan m id  a state of the run has the checkpoint
--     MayBeSaved plan c id   the checkpoint is one that may be there where window c is committed
--     IsMadeBy plan m e id   an event makes the checkpoint
use Rattle.std.specs.Prelude.{◌≡◌, ℕ, ◌<◌, ◌≤◌, ◌⊎◌, Bool, true, false, cond, ◌&&◌, ◌==◌, nat_lt, List, [], ◌++◌, length, map}
use Rattle.std.specs.List.{list_any, flat_map, range_with_len}
use Rattle.apx_device.specs.declared.vault.SaveId.{SaveId}
use Rattle.apx_history.specs.declared.Event.{Event}
use Rattle.apx_history.specs.declared.Event.TheVariants.{Save, Repartition}
use Rattle.apx_history.specs.Plan.{Plan, has, line, is_checkpoint, last_checkpoint, splits_op, count_or, boundary_at, number}
use Rattle.apx_history.specs.State.{State, oper, slot, IsPart, is_left}
use Rattle.apx_history.specs.Enabled.{limit_in}

-- ---- epochs

-- operator o is repartitioned at window b
abbrev pub is_split_at : Plan → ℕ → ℕ → Bool
is_split_at plan o b = list_any (λ l. splits_op o l && l.window == b) plan.lines

-- the last window of the epoch of operator o with boundary b: the least window behind b at which it is repartitioned, or the
-- last one of the job
abbrev pub reach : Plan → ℕ → ℕ → ℕ
reach plan o b = limit_in plan.lines (map (λ l. nat_lt b l.window) plan.lines) o plan.windows

-- The checkpoint is of a partition that is there in an epoch: an operator, a boundary of it, and one of so many partitions.
pub record IsOfPart (plan : Plan) (id : SaveId) : Type 0 where
  -- the operator is there
  pub op : id.op < length plan.operators
  -- its epoch begins at window 0, or where it is repartitioned
  pub boundary : (id.boundary ≡ 0) ⊎ (is_split_at plan id.op id.boundary ≡ true)
  -- the partition is there in the epoch
  pub part : id.part < number plan id.op id.boundary
  -- the window isn't before the epoch
  pub begun : id.boundary ≤ id.window
  -- nor behind it
  pub reached : id.window ≤ reach plan id.op id.boundary

-- ---- at the end

-- the checkpoint is there when a run has ended
pub record IsLastSave (plan : Plan) (id : SaveId) : Type 0 where
  -- it is of a partition in an epoch
  pub of_part : IsOfPart plan id
  -- after the last window at which checkpoints are made
  pub last : id.window ≡ last_checkpoint plan plan.windows
  -- which isn't window 0
  pub positive : 0 < id.window

-- the checkpoints of the partitions of operator o after window w, in the epoch with boundary b
abbrev pub saves_in : Plan → ℕ → ℕ → ℕ → List SaveId
saves_in plan w o b = map (λ (i : ℕ). record { op = o; boundary = b; part = i; window = w }) (range_with_len 0 (number plan o b))

-- those in the epoch that has window w, and in the one that begins behind it, where there is one
abbrev pub saves_after : Plan → ℕ → ℕ → List SaveId
saves_after plan w o = saves_in plan w o (boundary_at plan o w) ++ cond (is_split_at plan o w) (saves_in plan w o w) []

-- those of all operators, in the order of their ids; after window 0 there is none
abbrev pub all_saves : Plan → ℕ → List SaveId
all_saves plan w = cond (nat_lt 0 w) (flat_map (saves_after plan w) (range_with_len 0 (length plan.operators))) []

-- the checkpoints that are there when a run has ended
abbrev pub last_saves : Plan → List SaveId
last_saves plan = all_saves plan (last_checkpoint plan plan.windows)

-- ---- while a run goes on

-- an epoch of operator o was left at window w: a repartition at w was met, and b is the boundary before it
pub record WasLeft (plan : Plan) (m : State) (o b w : ℕ) : Type 0 where
  -- the line of the script
  pub by : ℕ
  -- it is there
  pub there : by < length plan.lines
  -- it repartitions the operator
  pub splits : splits_op o (line plan by) ≡ true
  -- at the window
  pub window : (line plan by).window ≡ w
  -- it was met
  pub met : is_left m by ≡ false
  -- the epoch is the one that has the window
  pub epoch : boundary_at plan o w ≡ b

-- A checkpoint that a state of a run has: its partition has saved the window, or its epoch was left at the window, which
-- isn't below what is committed.
abbrev pub MustBeSaved : Plan → State → SaveId → Type 0
MustBeSaved plan m id =
    (IsPart m id.op id.part × (id.boundary ≡ (oper m id.op).boundary) × (has (slot m id.op id.part).saved id.window ≡ true))
    ⊎ (WasLeft plan m id.op id.boundary id.window × (id.part < number plan id.op id.boundary) × (m.committed ≤ id.window))

-- A checkpoint that may be there where window c is committed.
pub record MayBeSaved (plan : Plan) (c : ℕ) (id : SaveId) : Type 0 where
  -- it is of a partition in an epoch
  pub of_part : IsOfPart plan id
  -- checkpoints are made after the window
  pub checkpoint : is_checkpoint plan id.window ≡ true
  -- which isn't window 0
  pub positive : 0 < id.window
  -- nor below what is committed
  pub committed : c ≤ id.window

-- The checkpoints that an event makes: a Save the one of its partition, a Repartition one for each new partition.
abbrev pub IsMadeBy : Plan → State → Event → SaveId → Type 0
IsMadeBy plan m (Save o i w) id = id ≡ record { op = o; boundary = (oper m o).boundary; part = i; window = w }
IsMadeBy plan m (Repartition l) id =
    (i : ℕ) × (i < count_or 0 (line plan l).act)
    × (id ≡ record { op = (line plan l).op; boundary = (line plan l).window; part = i; window = (line plan l).window })
IsMadeBy plan m e id = ⊥
