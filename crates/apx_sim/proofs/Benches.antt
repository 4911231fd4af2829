-- What is held goes with what is open after each event.
use Rattle.std.proofs.Common.{◌≡◌, ℕ, ◌<◌, Bool, true, false, cond, List, Option, None, Some, Result, Ok, Err, OnOk, OnErr, is_none, refl, sym, subst}
use Rattle.apx_history.specs.declared.Event.{Event}
use Rattle.apx_history.specs.declared.Event.TheVariants.{Start, Write, Finish, Kill, Fault}
use Rattle.apx_history.specs.Plan.{Plan, line, kills}
use Rattle.apx_history.specs.State.{State, slot, running}
use Rattle.apx_history.specs.Enabled.{can}
use Rattle.apx_history.specs.Effects.{next}
use Rattle.apx_history.specs.Journals.{beginning}
use Rattle.apx_history.proofs.Conditions.{all_true, equal_by}
use Rattle.apx_history.proofs.Legal.{can_runs}
use Rattle.apx_course.specs.Course.{Standing, Did, Stops}
use Rattle.apx_hands.specs.Table.{put_cell, IsTable}
use Rattle.apx_hands.specs.Opened.{Covers}
use Rattle.apx_hands.proofs.Opening.{closes-it}
use Rattle.apx_hands.proofs.Covering.{start_covers, other_covers, closed_covers, again_covers}
use Rattle.apx_sim.specs.Hand.{Handed, IsFor}
use Rattle.apx_sim.proofs.Opened.{opened_one}
use Rattle.apx_sim.specs.Bench.{AreHands}

-- the event is no Start
abbrev pub StartsNone : Event → Type 0
StartsNone e = (o i w : ℕ) → e ≡ Start o i w → ⊥

-- a fault stops the run
stood : (plan : Plan) (m : State) (u s : ℕ) → running (next plan m u (Fault s)) ≡ true → ⊥
stood plan m u s = by m.ended
  where
    by : (b : Bool) → cond b false (is_none (Some s)) ≡ true → ⊥
    by true h = absurd (let e : false ≡ true = h in cc)
    by false h = absurd (let e : false ≡ true = h in cc)

module _ (plan : Plan) (m n : State) (u : ℕ) where
  -- where the run stopped nothing is owed
  pub hands_stopped : (s : ℕ) (hands : List (List (Option Handed))) → n ≡ next plan m u (Fault s) → AreHands n hands
  hands_stopped s hands is runs = absurd (stood plan m u s (subst (λ (k : State). running k ≡ true) is runs))

  module _ (hands : List (List (Option Handed))) (all : AreHands m hands) where
    -- an event that is no Start leaves what is held as it was
    pub hands_other : (e : Event) → StartsNone e → can plan m e ≡ true → n ≡ next plan m u e → AreHands n hands
    hands_other e other may is runs = subst (λ (k : State). Covers IsFor k hands) (sym is)
        (other_covers IsFor plan m u hands (all (can_runs plan m e may)) e other may)

    module _ (table : IsTable hands) (o i w : ℕ) (row : o < 16) where
      -- a Start puts its claim there
      pub hands_start : (hand : Handed) → i < 8 → can plan m (Start o i w) ≡ true → IsFor o i w u hand → n ≡ next plan m u (Start o i w) →
          AreHands n (put_cell hands o i (Some hand))
      hands_start hand place may fits is runs = subst (λ (k : State). Covers IsFor k (put_cell hands o i (Some hand))) (sym is)
          (start_covers IsFor plan m u hands (all (can_runs plan m (Start o i w) may)) o i w hand table row place may fits)

      -- a Finish takes it out
      pub hands_finish : can plan m (Finish o i w) ≡ true → n ≡ next plan m u (Finish o i w) → AreHands n (put_cell hands o i None)
      hands_finish may is runs = subst (λ (k : State). Covers IsFor k (put_cell hands o i None)) (sym is)
          (closed_covers IsFor (next plan m u (Finish o i w)) hands
          (other_covers IsFor plan m u hands (all (can_runs plan m (Finish o i w) may)) (Finish o i w) (λ p j v e. cc) may)
          o i table row (closes-it plan m u (Finish o i w) may o i (all_true (equal_by o o refl) (equal_by i i refl))))

      -- a Write leaves its claim there, with what the work made
      pub hands_write : (hand : Handed) (v : ℕ) → i < 8 → can plan m (Write v) ≡ true → (slot m o i).opened ≡ Some (w, u) → IsFor o i w u hand → n ≡ next plan m u (Write v) →
          AreHands n (put_cell (put_cell hands o i None) o i (Some hand))
      hands_write hand v place may opened fits is runs = subst (λ (k : State). Covers IsFor k (put_cell (put_cell hands o i None) o i (Some hand))) (sym is)
          (again_covers IsFor (next plan m u (Write v)) hands
          (other_covers IsFor plan m u hands (all (can_runs plan m (Write v) may)) (Write v) (λ p j x e. cc) may)
          o i table row hand place only)
        where
          only : (x y : ℕ) → (slot m o i).opened ≡ Some (x, y) → IsFor o i x y hand
          only x y is_open =
              let same = opened_one (slot m o i).opened w u x y opened is_open in
              subst (λ (k : ℕ). IsFor o i k y hand) same.0 (subst (λ (k : ℕ). IsFor o i w k hand) same.1 fits)

      -- a kill of the partition takes out what is held for it
      pub hands_kill : (l : ℕ) → kills o i (line plan l) ≡ true → can plan m (Kill l) ≡ true → n ≡ next plan m u (Kill l) → AreHands n (put_cell hands o i None)
      hands_kill l named may is runs = subst (λ (k : State). Covers IsFor k (put_cell hands o i None)) (sym is)
          (closed_covers IsFor (next plan m u (Kill l)) hands
          (other_covers IsFor plan m u hands (all (can_runs plan m (Kill l) may)) (Kill l) (λ p j x e. cc) may)
          o i table row (closes-it plan m u (Kill l) may o i named))

-- so of a call that answers whether it did an event, where what is held goes with the state that the event leaves
pub answered : {A E F : Type 0} (plan : Plan) (old new : Standing F) (u : ℕ) (e : Event) (hands : List (List (Option Handed))) (r : Result A E) →
    OnOk r (Did plan old new u e) → OnErr r (Stops plan old new u) → (new.machine ≡ next plan old.machine u e → AreHands new.machine hands) → AreHands new.machine hands
answered plan old new u e hands (Ok a) did stops goes = goes did.machine
answered plan old new u e hands (Err a) did stops goes = hands_stopped plan old.machine new.machine u _ hands stops.1.machine

-- and of one whose event is no Start, and leaves what is held as it was
pub passed : {A E F : Type 0} (plan : Plan) (old new : Standing F) (u : ℕ) (hands : List (List (Option Handed))) → AreHands old.machine hands →
    (e f : Event) → StartsNone f → can plan old.machine e ≡ true → e ≡ f → (r : Result A E) → OnOk r (Did plan old new u f) → OnErr r (Stops plan old new u) → AreHands new.machine hands
passed plan old new u hands all e f other may same r did stops =
    answered plan old new u f hands r did stops
    (hands_other plan old.machine new.machine u hands all f other (subst (λ (k : Event). can plan old.machine k ≡ true) same may))

-- before its first event a run goes on
pub begins_running : (plan : Plan) (s c : ℕ) → running (beginning plan s c) ≡ true
unfolding beginning
begins_running plan s c = refl
