-- What a worker leaves a turn with.
use Rattle.std.proofs.Common.{◌≡◌, ℕ, inr, true, List, None, Some, sym, subst}
use Rattle.apx_history.specs.declared.Entry.{Entry}
use Rattle.apx_history.specs.declared.Event.{Event}
use Rattle.apx_history.specs.declared.Event.TheVariants.{Write, Finish, Kill, Fault}
use Rattle.apx_history.specs.Plan.{Plan, line, kills}
use Rattle.apx_work.specs.declared.hands.OpenWindow.{OpenWindow}
use Rattle.apx_work.specs.declared.hands.Hand.{Hand}
use Rattle.apx_work.specs.declared.hands.Hand.TheVariants.{Free, Ready, Refused}
use Rattle.apx_work.specs.Own.{own}
use Rattle.apx_work.specs.Claims.{AreOneByOne, Claims}
use Rattle.apx_work.specs.Turns.{Adds, Stops, Changes, IsOver}
use Rattle.apx_work.specs.Hands.{Holds, IsWorked}
use Rattle.apx_work.proofs.Holding.{claims_by, stops_push, write_push, finish_push, kill_push}
use Rattle.apx_work.proofs.Stopping.{stops_over}

-- whatever a worker has in hand, it had one claim after the other
pub holds_one : {C D F : Type 0} (claimed : C → OpenWindow) (whole : C → Type 0) (made : C → D → Type 0) (may : F → Type 0) (plan : Plan) (u : ℕ) (mine : List Entry) (hand : Hand C D F)
    → Holds claimed whole made may plan u mine hand → AreOneByOne plan u None mine
holds_one claimed whole made may plan u mine Free h = h.0
holds_one claimed whole made may plan u mine (Ready claim done) h = h.0.0
holds_one claimed whole made may plan u mine (Refused why) h = h.0

-- a claim whose work was done, or refused
pub worked_holds : {C D F : Type 0} (claimed : C → OpenWindow) (whole : C → Type 0) (made : C → D → Type 0) (may : F → Type 0) (plan : Plan) (u : ℕ) (mine : List Entry) (x : OpenWindow) (hand : Hand C D F)
    → Claims plan u mine (Some x) → IsWorked claimed made may x hand → Holds claimed whole made may plan u mine hand
worked_holds claimed whole made may plan u mine x Free h w = absurd w
worked_holds claimed whole made may plan u mine x (Ready claim done) h w = (subst (λ (y : OpenWindow). Claims plan u mine (Some y)) (sym w.0) h, w.1)
worked_holds claimed whole made may plan u mine x (Refused why) h w = (h.0, w)

-- a stop is a change
pub stops_change : (u : ℕ) (old new : List Entry) → Stops u old new → Changes u old new
stops_change u old new stops = inr (Fault stops.0, stops.1)

-- where a run stopped it is over
pub stops_leaves : (plan : Plan) (u : ℕ) (old new : List Entry) → AreOneByOne plan u None (own u old) → Stops u old new
    → IsOver new × AreOneByOne plan u None (own u new)
stops_leaves plan u old new one stops = (stops_over u old new stops, stops_push plan u old new one stops)

-- the claim of a worker is its own
module _ (plan : Plan) (u : ℕ) (old new : List Entry) (x : OpenWindow) (one : Claims plan u (own u old) (Some x)) where
  pub own_adds : (e : Event) → Adds x.worker e old new → Adds u e old new
  own_adds e adds = subst (λ (k : ℕ). Adds k e old new) (claims_by plan u (own u old) x one) adds

  pub own_stops : Stops x.worker old new → Stops u old new
  own_stops stops = subst (λ (k : ℕ). Stops k old new) (claims_by plan u (own u old) x one) stops

  pub stored : x.op ≡ plan.sink → x.part ≡ 0 → Adds x.worker (Write x.window) old new → Changes u old new × Claims plan u (own u new) (Some x)
  stored sink first adds =
      let a = own_adds (Write x.window) adds in
      (inr (Write x.window, a), write_push plan u old new x one sink first a)

  pub closed : Adds x.worker (Finish x.op x.part x.window) old new → Changes u old new × Claims plan u (own u new) None
  closed adds =
      let a = own_adds (Finish x.op x.part x.window) adds in
      (inr (Finish x.op x.part x.window, a), finish_push plan u old new x one a)

  pub dropped : (l : ℕ) → kills x.op x.part (line plan l) ≡ true → Adds x.worker (Kill l) old new → Changes u old new × Claims plan u (own u new) None
  dropped l killed adds =
      let a = own_adds (Kill l) adds in
      (inr (Kill l, a), kill_push plan u old new x l one killed a)

  pub stopped_claim : Stops x.worker old new → Changes u old new × (IsOver new × AreOneByOne plan u None (own u new))
  stopped_claim stops = let a = own_stops stops in (stops_change u old new a, stops_leaves plan u old new one.0 a)
