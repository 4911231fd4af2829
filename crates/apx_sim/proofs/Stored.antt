-- How many windows are stored, from event to event.
use Rattle.std.proofs.Common.{◌≡◌, ℕ, ◌≤◌, true, arith, ap}
use Rattle.apx_history.specs.declared.Event.{Event}
use Rattle.apx_history.specs.declared.Event.TheVariants.{Start, Write, Finish, Save, Advance, Commit, Purge, Kill, Repartition, End, Fault}
use Rattle.apx_history.specs.Plan.{Plan}
use Rattle.apx_history.specs.State.{State, put, map_slots}
use Rattle.apx_history.specs.Enabled.{can}
use Rattle.apx_history.specs.Effects.{next, meet, split}
use Rattle.apx_history.specs.Conditions.{CanWrite}
use Rattle.apx_history.specs.Journals.{beginning}
use Rattle.apx_history.proofs.Legal.{can_facts}

-- no event makes them fewer
pub stored_grows : (plan : Plan) (m : State) (u : ℕ) (e : Event) → can plan m e ≡ true → m.stored ≤ (next plan m u e).stored
unfolding put map_slots meet split
stored_grows plan m u (Write w) h = let may : CanWrite plan m w = can_facts plan m (Write w) h in let a = may.next in omega (arith, a)
stored_grows plan m u (Start o i w) h = omega arith
stored_grows plan m u (Finish o i w) h = omega arith
stored_grows plan m u (Save o i w) h = omega arith
stored_grows plan m u (Advance o i w) h = omega arith
stored_grows plan m u (Commit w) h = omega arith
stored_grows plan m u (Purge o i w) h = omega arith
stored_grows plan m u (Kill l) h = omega arith
stored_grows plan m u (Repartition l) h = omega arith
stored_grows plan m u End h = omega arith
stored_grows plan m u (Fault s) h = omega arith

-- a run begins with those of its store
pub begins_stored : (plan : Plan) (s c : ℕ) → (beginning plan s c).stored ≡ s
unfolding beginning
begins_stored plan s c = let e : s ≡ s = ap (λ (n : ℕ). n) (λ i. s) in e
