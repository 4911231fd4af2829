-- What turns leave of a worker's seat, and what is so of the seats of all workers.
use Rattle.std.specs.Prelude.{◌≡◌, ℕ, ◌<◌, ◌⊎◌, false, List, [], ◌∷◌, None}
use Rattle.atomic_table.specs.Seated.{TableId}
use Rattle.apx_history.specs.declared.Entry.{Entry}
use Rattle.apx_history.specs.Plan.{Plan}
use Rattle.apx_history.specs.Laws.{IsHistory}
use Rattle.apx_lock.specs.declared.rule.Terms.{Terms}
use Rattle.apx_lock.specs.declared.view.View.{View}
use Rattle.apx_lock.specs.Logs.{Every, StartsWith}
use Rattle.apx_lock.specs.Views.{HasNumber}
use Rattle.apx_lock.specs.Seats.{Seated, IsSeatOf}
use Rattle.apx_lock.specs.Steps.{IsSameSeat}
use Rattle.apx_work.specs.Own.{own}
use Rattle.apx_work.specs.Claims.{AreOneByOne}
use Rattle.apx_work.specs.Turns.{IsOver}

module _ {N : Type 0} where
  -- the seat of a worker behind some turns
  pub record IsTurned (old new : View N Entry) : Type 0 where
    -- it has the number, the kept entries and the marks that it had, and gives out numbers as before
    pub same : IsSameSeat old new
    -- it holds no turn
    pub idle : new.holds ≡ false
    -- it has seen more
    pub seen : StartsWith new.seen old.seen
    -- its own entries are all those of its worker, each once
    pub mine : new.mine ≡ own new.number new.seen

  -- the seat of a worker whose run is over
  pub record Worked (plan : Plan) (s c : ℕ) (old new : View N Entry) : Type 0 where
    -- it is the worker's seat behind some turns
    pub turned : IsTurned old new
    -- what it has seen is a history
    pub history : IsHistory plan s c new.seen
    -- which is over
    pub over : IsOver new.seen
    -- it had one claim after the other
    pub single : AreOneByOne plan new.number None new.mine

  -- a seat that a worker begins with: one of the lock's, which holds no turn and has no entry
  pub record IsReady (table : TableId) (terms : Terms N) (seat : Seated N Entry) : Type 0 where
    -- it is one of the lock's
    pub of : IsSeatOf table terms seat
    -- it holds no turn
    pub idle : seat.view.holds ≡ false
    -- its worker did nothing yet
    pub fresh : seat.view.mine ≡ []

  -- such a seat, which gives out no numbers
  abbrev pub IsOther : TableId → Terms N → Seated N Entry → Type 0
  IsOther table terms seat = IsReady table terms seat × (seat.view.given ≡ 0)

  -- the seat of a worker whose run is over, of the lock
  pub record IsDone (table : TableId) (terms : Terms N) (old new : Seated N Entry) : Type 0 where
    -- it is one of the lock's
    pub of : IsSeatOf table terms new
    -- it has the number and the kept entries that it had, and gives out numbers as before
    pub same : IsSameSeat old.view new.view
    -- it holds no turn
    pub idle : new.view.holds ≡ false
    -- what it has seen is over
    pub over : IsOver new.view.seen

  -- what is done with a seat may be done with each that begins, and leaves it done
  pub record MayWork (table : TableId) (terms : Terms N) (may : Seated N Entry → Type 0) (does : Seated N Entry → Seated N Entry → Type 0)
      : Type 0 where
    -- it may be done
    pub able : (seat : Seated N Entry) → IsReady table terms seat → may seat
    -- and leaves it done
    pub done : (old new : Seated N Entry) → IsReady table terms old → does old new → IsDone table terms old new

  -- one of the seats has the number
  abbrev pub OneHas : List (Seated N Entry) → ℕ → Type 0
  OneHas [] k = ⊥
  OneHas (seat ∷ seats) k = HasNumber seat.view k ⊎ OneHas seats k

  -- the first seat and so many others were dealt, which have the numbers below n
  pub record AreDealt (table : TableId) (terms : Terms N) (n : ℕ) (first : Seated N Entry) (others : List (Seated N Entry))
      : Type 0 where
    -- the first one may begin
    pub ready : IsReady table terms first
    -- it gave out so many numbers
    pub given : first.view.given ≡ n
    -- each of the others may begin
    pub each : Every (IsOther table terms) others
    -- they have each of the numbers
    pub all : (k : ℕ) → k < n → OneHas (first ∷ others) k
    -- and no other
    pub below : (k : ℕ) → OneHas (first ∷ others) k → k < n

  -- the seats of workers whose run is over were joined into one
  pub record AreGathered (table : TableId) (terms : Terms N) (first : Seated N Entry) (others : List (Seated N Entry))
      (seat : Seated N Entry) : Type 0 where
    -- it is one of the lock's
    pub of : IsSeatOf table terms seat
    -- it holds no turn
    pub idle : seat.view.holds ≡ false
    -- it gave out as many numbers as the first one
    pub given : seat.view.given ≡ first.view.given
    -- it has the number of each
    pub all : (k : ℕ) → OneHas (first ∷ others) k → HasNumber seat.view k
    -- and no other
    pub only : (k : ℕ) → HasNumber seat.view k → OneHas (first ∷ others) k
    -- what it has seen is over
    pub over : IsOver seat.view.seen
