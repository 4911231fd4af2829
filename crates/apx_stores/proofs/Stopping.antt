-- A stop, and an event, of a run that stood as it did before.
use Rattle.std.proofs.Common.{◌≡◌, ℕ, ◌++◌, ◌∷◌, [], ap, ◌∙◌, refl, false}
use Rattle.apx_history.specs.declared.Event.{Event}
use Rattle.apx_history.specs.declared.Event.TheVariants.{Start, Write, Finish, Save, Advance, Commit, Purge, Kill, Repartition, End, Fault}
use Rattle.apx_history.specs.Plan.{Plan}
use Rattle.apx_history.specs.State.{State, put, map_slots}
use Rattle.apx_history.specs.Effects.{next, meet, split}
use Rattle.apx_course.specs.Faults.{status}
use Rattle.apx_course.specs.Course.{Standing, entry, Did, Stops}
use Rattle.apx_stores.specs.Plain.{writes}

-- a stop from where the machine and the journal were the same
pub stops_from : {F : Type 0} (plan : Plan) (old mid new : Standing F) (u : ℕ) → mid.machine ≡ old.machine → mid.journal ≡ old.journal
    → Stops plan mid new u → Stops plan old new u
stops_from plan old mid new u machine journal stops = (
  stops.0,
  record {
    machine = stops.1.machine ∙ ap (λ (m : State). next plan m u (Fault (status stops.0))) machine;
    journal = stops.1.journal ∙ ap (λ es. es ++ entry u (Fault (status stops.0)) ∷ []) journal;
    fault = stops.1.fault;
  },
)

-- so of an event
pub did_from : {F : Type 0} (plan : Plan) (old mid new : Standing F) (u : ℕ) (e : Event) → mid.machine ≡ old.machine → mid.journal ≡ old.journal
    → mid.fault ≡ old.fault → Did plan mid new u e → Did plan old new u e
did_from plan old mid new u e machine journal fault did = record {
  machine = did.machine ∙ ap (λ (m : State). next plan m u e) machine;
  journal = did.journal ∙ ap (λ es. es ++ entry u e ∷ []) journal;
  fault = did.fault ∙ fault;
}

-- an event that stores nothing leaves what is stored
pub stored_stays : (plan : Plan) (m : State) (u : ℕ) (e : Event) → writes e ≡ false → (next plan m u e).stored ≡ m.stored
unfolding put map_slots meet split
stored_stays plan m u (Start o i w) h = refl
stored_stays plan m u (Write w) h = absurd (cc h)
stored_stays plan m u (Finish o i w) h = refl
stored_stays plan m u (Save o i w) h = refl
stored_stays plan m u (Advance o i w) h = refl
stored_stays plan m u (Commit w) h = refl
stored_stays plan m u (Purge o i w) h = refl
stored_stays plan m u (Kill l) h = refl
stored_stays plan m u (Repartition l) h = refl
stored_stays plan m u End h = refl
stored_stays plan m u (Fault s) h = refl
