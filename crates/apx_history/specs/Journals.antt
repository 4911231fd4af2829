-- What a history is: a list of entries, each of which may come next, by a worker who may do it.
use Rattle.std.specs.Prelude.{◌≡◌, ℕ, ◌+◌, Bool, true, false, cond, ◌&&◌, ◌==◌, List, [], ◌∷◌, map, replicate, get_or, Option, None, Some}
use Rattle.apx_history.specs.declared.Entry.{Entry}
use Rattle.apx_history.specs.declared.Event.{Event}
use Rattle.apx_history.specs.declared.Event.TheVariants.{Start, Write, Finish, Save, Advance, Commit, Purge, Kill, Repartition, End, Fault}
use Rattle.apx_history.specs.Plan.{Act, Fails, Splits, Plan, line}
use Rattle.apx_history.specs.State.{State, fresh, slot, open_worker}
use Rattle.apx_history.specs.Enabled.{can}
use Rattle.apx_history.specs.Effects.{next}

-- The state before anything has happened: the store has the windows up to `stored`, and every partition has
-- finished and saved window c. A run that isn't resumed begins from c = 0.
unfoldable pub beginning : Plan → ℕ → ℕ → State
beginning plan stored c = record {
  ops = map (λ o. record { boundary = 0; parts = replicate o.first (fresh c) }) plan.operators;
  committed = c;
  stored = stored;
  left = map (λ l. true) plan.lines;
  ended = false;
  fault = None;
}

-- the worker who has the partition open that the act kills
abbrev pub owed_act : State → ℕ → Act → Option ℕ
owed_act m o (Fails point part) = open_worker (slot m o part).opened
owed_act m o (Splits count) = None

-- the worker who began what the event ends: of an open partition nobody else writes, finishes or kills it
abbrev pub owed : Plan → State → Event → Option ℕ
owed plan m (Write w) = open_worker (slot m plan.sink 0).opened
owed plan m (Finish o i w) = open_worker (slot m o i).opened
owed plan m (Kill l) = owed_act m (line plan l).op (line plan l).act
owed plan m e = None

-- the worker may do what is owed
abbrev pub bears : Option ℕ → ℕ → Bool
bears None worker = true
bears (Some owner) worker = owner == worker

-- the entry may come next
abbrev pub fits : Plan → State → Entry → Bool
fits plan m e = can plan m e.event && bears (owed plan m e.event) e.worker

-- the entries may follow one another from state m on
abbrev pub is_legal : Plan → State → List Entry → Bool
is_legal plan m [] = true
is_legal plan m (e ∷ es) = fits plan m e && is_legal plan (next plan m e.worker e.event) es

-- the state after the entries
abbrev pub after : Plan → State → List Entry → State
after plan m [] = m
after plan m (e ∷ es) = after plan (next plan m e.worker e.event) es

-- the entry meets line l
abbrev pub meets : ℕ → Event → Bool
meets l (Kill k) = k == l
meets l (Repartition k) = k == l
meets l e = false

-- how many of the entries meet line l
abbrev pub times_met : ℕ → List Entry → ℕ
times_met l [] = 0
times_met l (e ∷ es) = cond (meets l e.event) 1 0 + times_met l es
