-- What contracts see of a claim, and what is so of each.
use Rattle.std.specs.Prelude.{◌≡◌, ℕ, ◌-◌, ◌<◌, ◌≤◌, true, false, List, [], Option, None, Some, length, IsTrue, IfSome, IfNone}
use Rattle.apx_tuple.specs.declared.progress.Progress.{Progress}
use Rattle.apx_tuple.specs.declared.tuple.Tuple.{Tuple}
use Rattle.apx_tuple.specs.Progress.{progress_size}
use Rattle.apx_history.specs.declared.Event.TheVariants.{Kill}
use Rattle.apx_history.specs.Plan.{Plan, line, kills}
use Rattle.apx_history.specs.State.{State, slot}
use Rattle.apx_history.specs.Journals.{owed}
use Rattle.apx_list.specs.declared.block.Block.{Block}
use Rattle.apx_pass.specs.Graph.{node_at}
use Rattle.apx_pass.specs.Pass.{windows}
use Rattle.apx_job.specs.Job.{in_force}
use Rattle.apx_shares.specs.Given.{part_progress}
use Rattle.apx_part.specs.declared.window.Done.{Done}
use Rattle.apx_part.specs.Fed.{plan_in, AreWindows, IsFedAll}
use Rattle.apx_part.specs.Made.{HasBlocks, IsPart}
use Rattle.apx_course.specs.Run.{Run}
use Rattle.apx_core.specs.Ports.{reads_left, reads_right}

-- a worker's claim on a window of a partition
pub record Claimed : Type 0 where
  -- the operator
  pub op : ℕ
  -- the partition
  pub part : ℕ
  -- the window
  pub window : ℕ
  -- the worker
  pub worker : ℕ
  -- what the partition carries into the window, until the work takes it
  pub state : Option Progress
  -- the blocks of the window of each partition of the source on the left
  pub left : List (List Block)
  -- the same on the right
  pub right : List (List Block)

-- each of the lists has all blocks of the window, of some tuples
abbrev pub AreWhole : Run → ℕ → List (List Block) → Type 0
AreWhole run w lists = (bags : List (List Tuple)) × AreWindows (plan_in run.job) w lists bags

-- What is so of each claim. It has what a window's work asks for; where the checkpoint store and the spools tell, what the partition
-- carries and what comes to it is that of the one pass.
pub record IsClaim (run : Run) (c : Claimed) : Type 0 where
  -- the operator is there
  pub there : c.op < length run.job.flow.nodes
  -- windows count from 1
  pub low : 1 ≤ c.window
  -- the window is one of the job
  pub high : c.window ≤ windows run.job.flow
  -- the partition is there in that epoch
  pub in_epoch : c.part < in_force run.job c.op c.window
  -- what it carries isn't large
  pub small : IfSome c.state (λ g. progress_size g < 4294967232)
  -- the blocks on the left are those of the window
  pub left_whole : AreWhole run c.window c.left
  -- and so are those on the right
  pub right_whole : AreWhole run c.window c.right
  -- where there is no left port there are none on the left
  pub left_none : reads_left (node_at run.job.flow.nodes c.op).role ≡ false → c.left ≡ []
  -- and so it is on the right
  pub right_none : reads_right (node_at run.job.flow.nodes c.op).role ≡ false → c.right ≡ []
  -- it is what the partition carries from the window before
  pub carried : IsTrue run.told →
      IfSome c.state (λ g. g ≡ part_progress run.job.flow (in_force run.job c.op c.window) c.part (c.window - 1) c.op)
  -- they are the blocks of its sources
  pub fed : IsTrue run.told → IsFedAll run.job c.op c.window c.left c.right

-- a claim whose work has taken what the partition carries
abbrev pub worked : Claimed → Claimed
worked c = record { op = c.op; part = c.part; window = c.window; worker = c.worker; state = None; left = c.left; right = c.right }

-- the claim's partition has its window open, begun by its worker
abbrev pub IsOpenFor : State → Claimed → Type 0
IsOpenFor m c = (slot m c.op c.part).opened ≡ Some (c.window, c.worker)

-- A kill takes the claim of the partition that its line names, where that has a window open: who kills is the worker of the claim.
pub record TakesClaim (plan : Plan) (m : State) (l worker : ℕ) (claim : Option Claimed) : Type 0 where
  -- a claim that is taken is that of the line's partition, which is open for the worker
  pub taken : IfSome claim (λ c. (kills c.op c.part (line plan l) ≡ true) × IsOpenFor m c × (c.worker ≡ worker))
  -- where none is taken, nobody has the partition open
  pub none : IfNone claim (owed plan m (Kill l) ≡ None)

-- What a claim's work makes. Where the checkpoint store and the spools tell, it is what the partition makes of the window in the
-- one pass.
pub record IsWork (run : Run) (c : Claimed) (done : Done) : Type 0 where
  -- the blocks are those of the rows; the sink has none
  pub blocks : HasBlocks (plan_in run.job) (node_at run.job.flow.nodes c.op).role c.window done.rows done.blocks.items
  -- what is carried on isn't large
  pub small : progress_size done.state < 4294967232
  -- all of it is the partition's
  pub part : IsTrue run.told → IsPart run.job c.op c.part c.window done.state done.rows done.blocks.items
