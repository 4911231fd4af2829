-- A core after a call: it did its event and what is kept fits again, also in the checkpoint store, or it has stopped.
use Rattle.std.proofs.Common.{◌≡◌, ℕ, Bool, List, None, Some, IsTrue, Result, Ok, Err, OnOk, OnErr, sym, subst, ◌∙◌}
use Rattle.apx_history.specs.declared.Event.{Event}
use Rattle.apx_history.specs.State.{State}
use Rattle.apx_history.specs.Effects.{next}
use Rattle.apx_device.specs.Vault.{Entry, entry_at}
use Rattle.apx_course.specs.Run.{Run}
use Rattle.apx_course.specs.Course.{Standing, Did, Stops}
use Rattle.apx_held.specs.Holding.{Holding}
use Rattle.apx_held.specs.Fits.{Fits}
use Rattle.apx_core.specs.Core.{telling, HasRunSaves, IsCore}
use Rattle.apx_core.proofs.Checkpoints.{Changes, saves_next}

module _ {F : Type 0} (run : Run) (vt : Bool) (entries : List Entry) (old new : Standing F) (hs : List (List Holding)) (core : IsCore run vt entries old hs) where
  -- a core that has stopped owes no contents
  pub core_stops : (entries' : List Entry) (hs' : List (List Holding)) (u : ℕ) → Stops run.plan old new u → IsCore run vt entries' new hs'
  core_stops entries' hs' u stops = record {
    planned = core.planned;
    fits = λ none. absurd (let e : Some stops.0 ≡ None = sym stops.1.fault ∙ none in cc);
    saves = λ none. absurd (let e : Some stops.0 ≡ None = sym stops.1.fault ∙ none in cc);
  }

  -- where nothing happened all is as it was
  pub core_stays : new.machine ≡ old.machine → new.fault ≡ None → old.fault ≡ None → IsCore run vt entries new hs
  core_stays machine none was = record {
    planned = core.planned;
    fits = λ n. subst (λ (m : State). Fits run.job (telling run vt) (entry_at entries) m hs) (sym machine) (core.fits was);
    saves = λ n tells. subst (λ (m : State). HasRunSaves run m (entry_at entries)) (sym machine) (core.saves was tells);
  }

  -- an event was done, and what is kept fits the state that it leaves
  pub core_did : (entries' : List Entry) (hs' : List (List Holding)) (u : ℕ) (e : Event) → Did run.plan old new u e
      → (old.fault ≡ None → Fits run.job (telling run vt) (entry_at entries) old.machine hs → Fits run.job (telling run vt) (entry_at entries') (next run.plan old.machine u e) hs')
      → (IsTrue vt → Changes run old.machine e entries entries') → IsCore run vt entries' new hs'
  core_did entries' hs' u e did fits changes = record {
    planned = core.planned;
    fits = λ none.
        let was : old.fault ≡ None = sym did.fault ∙ none in
        subst (λ (m : State). Fits run.job (telling run vt) (entry_at entries') m hs') (sym did.machine) (fits was (core.fits was));
    saves = λ none tells.
        let was : old.fault ≡ None = sym did.fault ∙ none in
        subst (λ (m : State). HasRunSaves run m (entry_at entries')) (sym did.machine) (saves_next run old.machine u e entries entries' (changes tells) (core.saves was tells));
  }

  -- so of a call that answers which of them it was, and says Y of an event that was done
  pub core_answers : {A E : Type 0} {Y : Type 0} (entries' : List Entry) (hs' : List (List Holding)) (u : ℕ) (e : Event) (r : Result A E)
      → OnOk r (Did run.plan old new u e) → OnErr r (Stops run.plan old new u) → OnOk r Y
      → (Y → Fits run.job (telling run vt) (entry_at entries) old.machine hs → Fits run.job (telling run vt) (entry_at entries') (next run.plan old.machine u e) hs')
      → (Y → IsTrue vt → Changes run old.machine e entries entries') → IsCore run vt entries' new hs'
  core_answers entries' hs' u e (Ok x) did stops y fits changes = core_did entries' hs' u e did (λ was. fits y) (changes y)
  core_answers entries' hs' u e (Err x) did stops y fits changes = core_stops entries' hs' u stops

-- a call took the place of its event, and went on from there
module _ {F : Type 0} (run : Run) (vt : Bool) (entries : List Entry) (old mid : Standing F) (hs : List (List Holding)) (core : IsCore run vt entries old hs)
    (machine : mid.machine ≡ old.machine) (fault : mid.fault ≡ None) (none : old.fault ≡ None) where
  -- what is kept fits as before
  pub still_fits : Fits run.job (telling run vt) (entry_at entries) mid.machine hs
  still_fits = subst (λ (m : State). Fits run.job (telling run vt) (entry_at entries) m hs) (sym machine) (core.fits none)

  still : IsCore run vt entries mid hs
  still = core_stays run vt entries old mid hs core machine fault none

  -- then it stopped
  pub later_stops : (new : Standing F) (entries' : List Entry) (hs' : List (List Holding)) (u : ℕ) → Stops run.plan mid new u → IsCore run vt entries' new hs'
  later_stops new entries' hs' u stops = core_stops run vt entries mid new hs still entries' hs' u stops

  -- or did its event, and what is kept fits the state that it leaves
  pub later_did : (new : Standing F) (entries' : List Entry) (hs' : List (List Holding)) (u : ℕ) (e : Event) → Did run.plan mid new u e
      → Fits run.job (telling run vt) (entry_at entries') (next run.plan mid.machine u e) hs' → (IsTrue vt → Changes run old.machine e entries entries')
      → IsCore run vt entries' new hs'
  later_did new entries' hs' u e did fits changes = core_did run vt entries mid new hs still entries' hs' u e did (λ _ _. fits)
      (λ tells. subst (λ (m : State). Changes run m e entries entries') (sym machine) (changes tells))

  -- or one of them, as it answers
  pub later_answers : {A E : Type 0} (new : Standing F) (entries' : List Entry) (hs' : List (List Holding)) (u : ℕ) (e : Event) (r : Result A E)
      → OnOk r (Did run.plan mid new u e) → OnErr r (Stops run.plan mid new u)
      → Fits run.job (telling run vt) (entry_at entries') (next run.plan mid.machine u e) hs' → (IsTrue vt → Changes run old.machine e entries entries')
      → IsCore run vt entries' new hs'
  later_answers new entries' hs' u e (Ok x) did stops fits changes = later_did new entries' hs' u e did fits changes
  later_answers new entries' hs' u e (Err x) did stops fits changes = later_stops new entries' hs' u stops
