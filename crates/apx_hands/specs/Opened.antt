-- What an event opens and what it closes, and how a table goes with what is open.
use Rattle.std.specs.Prelude.{◌≡◌, ℕ, ◌⊎◌, true, List, Option, None, Some}
use Rattle.apx_history.specs.declared.Event.{Event}
use Rattle.apx_history.specs.declared.Event.TheVariants.{Start}
use Rattle.apx_history.specs.Plan.{Plan}
use Rattle.apx_history.specs.State.{State, slot}
use Rattle.apx_history.specs.Enabled.{can}
use Rattle.apx_history.specs.Effects.{next}
use Rattle.apx_history.specs.Laws.{closes}
use Rattle.apx_hands.specs.Table.{cell}

-- A window that is open behind an event was open before it, for the same worker, or the event is its Start by the worker.
abbrev pub OpensByStart : Type 0
OpensByStart = (plan : Plan) (m : State) (worker : ℕ) (e : Event) → can plan m e ≡ true → (o i w u : ℕ) →
    (slot (next plan m worker e) o i).opened ≡ Some (w, u) → ((slot m o i).opened ≡ Some (w, u)) ⊎ ((e ≡ Start o i w) × (u ≡ worker))

-- A partition that an event finishes or kills is closed behind it.
abbrev pub Closes : Type 0
Closes = (plan : Plan) (m : State) (worker : ℕ) (e : Event) → can plan m e ≡ true → (o i : ℕ) →
    closes plan o i e ≡ true → (slot (next plan m worker e) o i).opened ≡ None

-- The table covers what is open: for each window that a worker has open something stands at its partition, of which P holds.
pub record Covers {T : Type 0} (P : ℕ → ℕ → ℕ → ℕ → T → Type 0) (m : State) (t : List (List (Option T))) : Type 0 where
  -- what stands there
  pub each : (o i w u : ℕ) → (slot m o i).opened ≡ Some (w, u) → (x : T) × (cell t o i ≡ Some x) × P o i w u x
