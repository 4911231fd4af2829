-- The first choice for a worker, and a search for the choice at a place.
use Rattle.std.specs.Prelude.{ℕ, ◌-◌, Bool, true, false, cond, ◌&&◌, ◌==◌, List, [], ◌∷◌, Option, None, Some}
use Rattle.apx_history.specs.declared.Act.{Act}
use Rattle.apx_history.specs.declared.Act.TheVariants.{Fails, Splits}
use Rattle.apx_history.specs.declared.Event.{Event}
use Rattle.apx_history.specs.declared.Event.TheVariants.{Write, Finish, Kill}
use Rattle.apx_history.specs.Plan.{Plan, line}
use Rattle.apx_history.specs.State.{State}
use Rattle.apx_history.specs.Journals.{owed, bears}
use Rattle.apx_history.specs.Choices.{choices}
use Rattle.apx_machine.specs.declared.picking.Want.{Want}
use Rattle.apx_machine.specs.declared.picking.Want.TheVariants.{Any, For}
use Rattle.apx_machine.specs.declared.picking.Sought.{Sought}
use Rattle.apx_machine.specs.declared.picking.Sought.TheVariants.{Ahead, Found}

-- the partition that the act kills
abbrev pub killed : ℕ → Act → Option (ℕ × ℕ)
killed o (Fails point part) = Some (o, part)
killed o (Splits count) = None

-- the partition that the event writes, finishes or kills
abbrev pub ended_by : Plan → Event → Option (ℕ × ℕ)
ended_by plan (Write w) = Some (plan.sink, 0)
ended_by plan (Finish o i w) = Some (o, i)
ended_by plan (Kill l) = killed (line plan l).op (line plan l).act
ended_by plan e = None

-- with a claim the partition is that of the claim
abbrev pub is_claimed : Option (ℕ × ℕ) → Option (ℕ × ℕ) → Bool
is_claimed None x = true
is_claimed (Some c) None = false
is_claimed (Some c) (Some p) = c.0 == p.0 && c.1 == p.1

-- A worker may do the event: it is no Write, Finish or Kill of a partition that is open for another worker, and with a
-- claim it is a Write, Finish or Kill of the claimed partition.
abbrev pub may_do : Plan → State → ℕ → Option (ℕ × ℕ) → Event → Bool
may_do plan m worker claim e = bears (owed plan m e) worker && is_claimed claim (ended_by plan e)

-- the first member that passes
unfoldable pub first_that : (Event → Bool) → List Event → Option Event
first_that p [] = None
first_that p (e ∷ es) = cond (p e) (Some e) (first_that p es)

-- the first choice that a worker may do
abbrev pub first_for : Plan → State → ℕ → Option (ℕ × ℕ) → Option Event
first_for plan m worker claim = first_that (may_do plan m worker claim) (choices plan m)

-- the event is wanted
abbrev pub wants : Plan → State → Want → Event → Bool
wants plan m Any e = true
wants plan m (For worker claim) e = may_do plan m worker claim e

-- the search once a wanted event was passed, with k before the one that is sought
abbrev pub passed : ℕ → Event → Sought
passed k e = cond (k == 0) (Found e) (Ahead (k - 1))

-- the search once an event was passed
abbrev pub taken : Bool → Event → Sought → Sought
taken wanted e (Found x) = Found x
taken wanted e (Ahead k) = cond wanted (passed k e) (Ahead k)

-- the search once a list of events was passed
unfoldable pub sought_in : (Event → Bool) → List Event → Sought → Sought
sought_in p [] s = s
sought_in p (e ∷ es) s = sought_in p es (taken (p e) e s)

-- what a search found
abbrev pub found : Sought → Option Event
found (Found e) = Some e
found (Ahead k) = None

-- what a search found, else d
abbrev pub found_or : Event → Sought → Event
found_or d (Found e) = e
found_or d (Ahead k) = d

-- how many more are sought
abbrev pub ahead : Sought → ℕ
ahead (Found e) = 0
ahead (Ahead k) = k
