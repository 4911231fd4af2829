-- A worker that has one claim after the other, by its own entries.
use Rattle.std.specs.Prelude.{◌≡◌, ℕ, ◌⊎◌, true, false, cond, ◌&&◌, ◌==◌, List, [], ◌∷◌, Option, None, Some}
use Rattle.apx_history.specs.declared.Entry.{Entry}
use Rattle.apx_history.specs.declared.Event.{Event}
use Rattle.apx_history.specs.declared.Event.TheVariants.{Start, Finish, Kill}
use Rattle.apx_history.specs.Plan.{Plan, line, kills}
use Rattle.apx_history.specs.State.{State, slot}
use Rattle.apx_course.specs.Faults.{is_fault}
use Rattle.apx_work.specs.declared.hands.OpenWindow.{OpenWindow}
use Rattle.apx_work.specs.Own.{Ends, ends_window, open_in}

-- a window of a partition that a worker has open
abbrev pub open_window : ℕ → ℕ → ℕ → ℕ → OpenWindow
open_window o i w worker = record { op = o; part = i; window = w; worker = worker }

-- the window is open for its worker
abbrev pub IsOpenFor : State → OpenWindow → Type 0
IsOpenFor m x = (slot m x.op x.part).opened ≡ Some (x.window, x.worker)

-- the claim that is left where a line of the script kills
abbrev pub unless_killed : Plan → ℕ → Option OpenWindow → Option OpenWindow
unless_killed plan l None = None
unless_killed plan l (Some x) = cond (kills x.op x.part (line plan l)) None (Some x)

-- what a worker claims behind an event of its own, where it claimed x
abbrev pub claim_after : Plan → ℕ → Option OpenWindow → Event → Option OpenWindow
claim_after plan worker x (Start o i w) = Some (open_window o i w worker)
claim_after plan worker x (Finish o i w) = None
claim_after plan worker x (Kill l) = unless_killed plan l x
claim_after plan worker x e = x

-- what it claims behind so many entries of its own
abbrev pub claim_behind : Plan → ℕ → Option OpenWindow → List Entry → Option OpenWindow
claim_behind plan worker x [] = x
claim_behind plan worker x (e ∷ es) = claim_behind plan worker (claim_after plan worker x e.event) es

-- A worker without a claim writes and finishes nothing, and one with a claim does nothing but write its window, finish it, or kill its
-- partition. In place of that the run may stop.
abbrev pub IsAllowed : Plan → Option OpenWindow → Event → Type 0
IsAllowed plan None e = ends_window e ≡ false
IsAllowed plan (Some x) e = Ends plan x.op x.part x.window e ⊎ (is_fault e ≡ true)

-- each of a worker's own entries is allowed, where it claimed x before them: so it never has two claims
abbrev pub AreOneByOne : Plan → ℕ → Option OpenWindow → List Entry → Type 0
AreOneByOne plan worker x [] = Unit {0}
AreOneByOne plan worker x (e ∷ es) = IsAllowed plan x e.event × AreOneByOne plan worker (claim_after plan worker x e.event) es

-- by its own entries, each of which is allowed, a worker claims x
abbrev pub Claims : Plan → ℕ → List Entry → Option OpenWindow → Type 0
Claims plan worker mine x = AreOneByOne plan worker None mine × (claim_behind plan worker None mine ≡ x)

-- the window that is claimed of partition i of operator o, if any
abbrev pub claimed_at : ℕ → ℕ → Option OpenWindow → Option ℕ
claimed_at o i None = None
claimed_at o i (Some x) = cond (x.op == o && x.part == i) (Some x.window) None

-- What a worker claims is what it has open.
abbrev pub ClaimIsOpen : Type 0
ClaimIsOpen = (plan : Plan) (worker : ℕ) (mine : List Entry) (x : Option OpenWindow) → Claims plan worker mine x → (o i : ℕ) →
    open_in plan o i mine ≡ claimed_at o i x
