-- What is held for a window between its begin and its end.
use Rattle.std.specs.Prelude.{◌≡◌, ℕ, Option, None, Some, IsSome}
use Rattle.apx_part.specs.declared.window.Done.{Done}
use Rattle.apx_course.specs.Run.{Run}
use Rattle.apx_core.specs.Claim.{Claimed, IsWork}

-- a claim, and what its work made once that is done
pub record Handed : Type 0 where
  -- the claim
  pub claim : Claimed
  -- what its work made
  pub done : Option Done

-- before its work a claim has what the partition carries, and behind it what was made is the claim's work
abbrev pub IsHand : Run → Claimed → Option Done → Type 0
IsHand run claim None = IsSome claim.state
IsHand run claim (Some done) = IsWork run claim done

-- two claims are on the same window of the same partition, for the same worker
pub record IsOfClaim (c d : Claimed) : Type 0 where
  -- the operator
  pub op : d.op ≡ c.op
  -- the partition
  pub part : d.part ≡ c.part
  -- the window
  pub window : d.window ≡ c.window
  -- the worker
  pub worker : d.worker ≡ c.worker

-- the claim is on window w of partition i of operator o, for worker u
pub record IsFor (o i w u : ℕ) (h : Handed) : Type 0 where
  -- the operator
  pub op : h.claim.op ≡ o
  -- the partition
  pub part : h.claim.part ≡ i
  -- the window
  pub window : h.claim.window ≡ w
  -- the worker
  pub worker : h.claim.worker ≡ u
