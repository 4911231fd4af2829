-- What is so of what a worker has in hand.
use Rattle.std.specs.Prelude.{◌≡◌, ℕ, true, List, None, Some}
use Rattle.apx_history.specs.declared.Entry.{Entry}
use Rattle.apx_history.specs.declared.Event.TheVariants.{Start, Write, Finish, Kill}
use Rattle.apx_history.specs.Plan.{Plan, line, kills}
use Rattle.apx_history.specs.State.{State}
use Rattle.apx_history.specs.Enabled.{can}
use Rattle.apx_history.specs.Journals.{owed, bears}
use Rattle.apx_work.specs.declared.hands.OpenWindow.{OpenWindow}
use Rattle.apx_work.specs.declared.hands.Hand.{Hand}
use Rattle.apx_work.specs.declared.hands.Hand.TheVariants.{Free, Ready, Refused}
use Rattle.apx_work.specs.declared.hands.Next.{Next}
use Rattle.apx_work.specs.declared.hands.Next.TheVariants.{Over, Wait, Go, Work}
use Rattle.apx_work.specs.declared.hands.Task.{Task}
use Rattle.apx_work.specs.declared.hands.Task.TheVariants.{Rest, Begin, Strike, Alone}
use Rattle.apx_work.specs.declared.hands.Due.{Due}
use Rattle.apx_work.specs.declared.hands.Due.TheVariants.{Nothing, Store, Close, Drop}
use Rattle.apx_work.specs.Own.{own}
use Rattle.apx_work.specs.Claims.{AreOneByOne, Claims}
use Rattle.apx_work.specs.Turns.{goes_alone, IsOver}

-- claimed: what a claim is on; whole: its work is still to be done; made: its work made this; may: a run may stop with this
module _ {C D F : Type 0} (claimed : C → OpenWindow) (whole : C → Type 0) (made : C → D → Type 0) (may : F → Type 0)
    (plan : Plan) (worker : ℕ) where
  -- a worker with such entries of its own has this in hand
  abbrev pub Holds : List Entry → Hand C D F → Type 0
  Holds mine Free = Claims plan worker mine None
  Holds mine (Ready claim done) = Claims plan worker mine (Some (claimed claim)) × made claim done
  Holds mine (Refused why) = AreOneByOne plan worker None mine × may why

  -- a worker left a turn with this, behind which the journal is es
  abbrev pub LeavesWith : List Entry → Next C D F → Type 0
  LeavesWith es Over = IsOver es × AreOneByOne plan worker None (own worker es)
  LeavesWith es (Wait hand) = Holds (own worker es) hand
  LeavesWith es (Go hand) = Holds (own worker es) hand
  LeavesWith es (Work claim) = Claims plan worker (own worker es) (Some (claimed claim)) × whole claim

-- the work of a claim on a window was done, or refused
abbrev pub IsWorked : {C D F : Type 0} → (C → OpenWindow) → (C → D → Type 0) → (F → Type 0) → OpenWindow → Hand C D F → Type 0
IsWorked claimed made may x Free = ⊥
IsWorked claimed made may x (Ready claim done) = (claimed claim ≡ x) × made claim done
IsWorked claimed made may x (Refused why) = may why

-- what a worker with nothing open is to do
abbrev pub IsTask : Plan → State → ℕ → Task → Type 0
IsTask plan m worker Rest = Unit {0}
IsTask plan m worker (Begin o i w) = can plan m (Start o i w) ≡ true
IsTask plan m worker (Strike l) = (can plan m (Kill l) ≡ true) × (owed plan m (Kill l) ≡ None)
IsTask plan m worker (Alone e) = (can plan m e ≡ true) × (goes_alone e ≡ true)

-- what a worker is to do with the window that it has open
abbrev pub IsDue : Plan → State → ℕ → OpenWindow → Due → Type 0
IsDue plan m worker x Nothing = Unit {0}
IsDue plan m worker x Store =
    (can plan m (Write x.window) ≡ true) × (bears (owed plan m (Write x.window)) worker ≡ true) × (x.op ≡ plan.sink) × (x.part ≡ 0)
IsDue plan m worker x Close =
    (can plan m (Finish x.op x.part x.window) ≡ true) × (bears (owed plan m (Finish x.op x.part x.window)) worker ≡ true)
IsDue plan m worker x (Drop l) =
    (can plan m (Kill l) ≡ true) × (bears (owed plan m (Kill l)) worker ≡ true) × (kills x.op x.part (line plan l) ≡ true)
