-- When what is held goes with what the machine has open.
use Rattle.std.specs.Prelude.{◌≡◌, ℕ, true, List, Option, IsSome}
use Rattle.apx_history.specs.declared.Event.TheVariants.{Kill}
use Rattle.apx_history.specs.Plan.{Plan, line, kills}
use Rattle.apx_history.specs.State.{State, slot, IsPart, open_worker, running}
use Rattle.apx_history.specs.Journals.{owed}
use Rattle.apx_course.specs.Course.{Standing}
use Rattle.apx_drive.specs.Driven.{Place}
use Rattle.apx_hands.specs.Opened.{Covers}
use Rattle.apx_sim.specs.Hand.{Handed, IsFor}

-- while the run goes on there is a claim for each window that is open
abbrev pub AreHands : State → List (List (Option Handed)) → Type 0
AreHands m hands = running m ≡ true → Covers IsFor m hands

-- line l kills partition i of operator o, which has a window open
pub record IsVictim (plan : Plan) (m : State) (l o i : ℕ) : Type 0 where
  -- the partition is there
  pub part : IsPart m o i
  -- the line names it
  pub named : kills o i (line plan l) ≡ true
  -- it has a window open
  pub opened : IsSome (slot m o i).opened
  -- the kill is owed by the worker who began that
  pub owed_by : owed plan m (Kill l) ≡ open_worker (slot m o i).opened

-- where a run stands, as its driver sees it
abbrev pub place_of : {F : Type 0} → Standing F → Place
place_of course = record { machine = course.machine; journal = course.journal }
