-- What the steps of one call tell together.
use Rattle.std.proofs.Common.{◌≡◌, ℕ, zero, suc, ◌+◌, ◌≤◌, ◌≢◌, true, List, [], ◌∷◌, ◌++◌, length, take, Option, Some, sym, refl, ap, ◌∙◌, subst, ⊎_elim, arith, length-append, le_refl, le_trans}
use Rattle.atomic_table.specs.Table.{Me, rest}
use Rattle.apx_lock.specs.declared.view.View.{View}
use Rattle.apx_lock.specs.Logs.{StartsWith}
use Rattle.apx_lock.specs.Seats.{carried}
use Rattle.apx_lock.specs.Views.{zeros, after_take, after_look, after_refusal}
use Rattle.apx_lock.specs.Steps.{IsWhole, MayAdd, MayLeave, Counts, Entered}

module _ {N E : Type 0} (seat bound : E → ℕ) where
  entered_at : (old : View N E) (log : List E) → StartsWith log old.seen → IsWhole seat bound (after_take log old) → Entered seat bound old (after_look (after_take log old))
  entered_at old log begins whole = record { view = refl; tries = le_refl old.refused; seen = begins; whole = record { own = whole.own; parts = whole.parts; bounds = whole.bounds } }

  -- who took the turn and then read the count has entered
  pub entered : (old took new : View N E) → took ≡ after_take took.seen old → StartsWith took.seen old.seen → IsWhole seat bound took → new ≡ after_look took → Entered seat bound old new
  entered old took new view begins whole look =
      subst (λ (v : View N E). Entered seat bound old v) (sym (look ∙ ap after_look view)) (entered_at old took.seen begins (subst (λ (v : View N E). IsWhole seat bound v) view whole))

  -- a seat that only waits: nothing changed but the number of its tries
  pub record Waits (old new : View N E) : Type 0 where
    pub view : new ≡ record old { refused = new.refused }
    pub tries : old.refused ≤ new.refused

  pub waits_still : (old : View N E) → Waits old old
  waits_still old = record { view = refl; tries = le_refl old.refused }

  waits_at : (old : View N E) (r : ℕ) → old.refused ≤ r → Waits old (after_refusal (record old { refused = r }))
  waits_at old r more = record { view = refl; tries = omega arith }

  pub waits_on : (old now new : View N E) → Waits old now → new ≡ after_refusal now → Waits old new
  waits_on old now new w e = subst (λ (v : View N E). Waits old v) (sym (e ∙ ap after_refusal w.view)) (waits_at old now.refused w.tries)

  enters_at : (old new : View N E) (r : ℕ) → old.refused ≤ r → Entered seat bound (record old { refused = r }) new → Entered seat bound old new
  enters_at old new r more x = record { view = x.view; tries = le_trans more x.tries; seen = x.seen; whole = x.whole }

  pub enters : (old now new : View N E) → Waits old now → Entered seat bound now new → Entered seat bound old new
  enters old now new w x = enters_at old new now.refused w.tries (subst (λ (v : View N E). Entered seat bound v new) w.view x)

module _ {V N E : Type 0} (stands : V → N → List E → Type 0) (seat bound : E → ℕ) where
  -- where the value counts one entry more than the seat has seen, there is one
  pub one_added : (name : N) (value : V) (v : View N E) (count : ℕ) → ((n : N) (log : List E) → stands value n log → count ≡ length log) → MayLeave stands seat bound name value v → count ≢ length v.seen
      → (e : E) × stands value name (v.seen ++ e ∷ []) × MayAdd seat bound v e
  one_added name value v count counts may longer = ⊎_elim (λ (s : stands value name v.seen). absurd (longer (counts name v.seen s)))
      (λ (t : (e : E) × stands value name (v.seen ++ e ∷ []) × MayAdd seat bound v e). t) may

  -- where it counts as many, there is none
  pub none_added : (name : N) (value : V) (v : View N E) (count : ℕ) → ((n : N) (log : List E) → stands value n log → count ≡ length log) → MayLeave stands seat bound name value v → count ≡ length v.seen → stands value name v.seen
  none_added name value v count counts may same = ⊎_elim (λ (s : stands value name v.seen). s)
      (λ (t : (e : E) × stands value name (v.seen ++ e ∷ []) × MayAdd seat bound v e). let c = counts name (v.seen ++ t.0 ∷ []) t.1 in absurd (omega (arith, length-append v.seen (t.0 ∷ [])))) may

  -- the value lies in the slot that the seat carries, and stands for what the seat has seen
  pub record IsReady (name : N) (value : V) (m : Me (Option V) (View N E)) : Type 0 where
    pub named : m.0.name ≡ Some name
    pub holds : m.0.holds ≡ true
    pub slot : m.1 ≡ (0, Some value) ∷ []
    pub stand : stands value name m.0.seen

  -- the slot, once the value was put into it
  pub placed : (m n : Me (Option V) (View N E)) (value : V) → m.1 ≡ carried m.0.holds → m.0.holds ≡ true → n ≡ (m.0, (0, Some value) ∷ rest m.1) → n ≡ (m.0, (0, Some value) ∷ [])
  placed m n value carries holds put = put ∙ ap (λ (l : List (ℕ × Option V)). (m.0, (0, Some value) ∷ rest l)) (carries ∙ ap (carried {V = V}) holds)

  pub ready : (name : N) (value : V) (v : View N E) (m : Me (Option V) (View N E)) → m ≡ (v, (0, Some value) ∷ []) → v.name ≡ Some name → v.holds ≡ true → stands value name v.seen → IsReady name value m
  ready name value v m put named holds stand = subst (λ (n : Me (Option V) (View N E)). IsReady name value n) (sym put) (record { named = named; holds = holds; slot = refl; stand = stand })

  pub ready_counted : (name : N) (value : V) (m n : Me (Option V) (View N E)) → m.0.name ≡ Some name → m.0.holds ≡ true → m.1 ≡ (0, Some value) ∷ [] → Counts stands seat bound m n → IsReady name value n
  ready_counted name value m n named holds slot c = subst (λ (k : Me (Option V) (View N E)). IsReady name value k) (sym c.after) (record { named = named; holds = holds; slot = slot; stand = c.stand value name slot named })

-- the first of zeros are zeros
take_zeros : (n m : ℕ) → n ≤ m → take n (zeros m) ≡ zeros n
take_zeros zero m h = refl
take_zeros (suc n) zero h = absurd (omega arith)
take_zeros (suc n) (suc m) h = ap (λ (l : List ℕ). 0 ∷ l) (take_zeros n m (omega arith))

pub first_zeros : (n m : ℕ) → n + 2 ≤ m → take (n + 2) (zeros m) ≡ 0 ∷ 0 ∷ zeros n
first_zeros n m h = take_zeros (n + 2) m h ∙ ap zeros two
  where
    two : n + 2 ≡ suc (suc n)
    two = omega arith
