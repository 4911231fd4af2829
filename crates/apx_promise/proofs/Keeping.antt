-- What a checkpoint store has, from event to event.
use Rattle.std.proofs.Common.{◌≡◌, ℕ, ◌≤◌, ◌⊎◌, inl, inr, true, false, nat_lt, List, Option, None, Some, refl, sym, ap, subst, ◌∙◌, arith}
use Rattle.std.proofs.lemmas.Bool.Decides.{nat_tests}
use Rattle.apx_device.specs.declared.vault.SaveId.{SaveId}
use Rattle.apx_history.specs.declared.Entry.{Entry}
use Rattle.apx_history.specs.declared.Event.{Event}
use Rattle.apx_history.specs.declared.Event.TheVariants.{Start, Write, Finish, Save, Advance, Commit, Purge, Kill, Repartition, End, Fault}
use Rattle.apx_history.specs.Plan.{Plan, line, count_or}
use Rattle.apx_history.specs.State.{State, oper, put, map_slots}
use Rattle.apx_history.specs.Effects.{meet, split, next}
use Rattle.apx_history.specs.Enabled.{can}
use Rattle.apx_history.specs.Journals.{beginning}
use Rattle.apx_history.specs.Kept.{IsPlan, Kept}
use Rattle.apx_history.specs.Laws.{IsHistory}
use Rattle.apx_history.proofs.Tests.{test, alike}
use Rattle.apx_promise.specs.Histories.{state_after, EndsWith}
use Rattle.apx_promise.specs.Checkpoints.{IsMadeBy}
use Rattle.apx_promise.specs.Contents.{IsRight, HasSaved, HasNoMore, drops, ChangesBy, HasLastSaves}
use Rattle.apx_promise.specs.Laws.{Passes, SavedStays, NoMoreStays, SavedAtFirst, LastAtEnd}
use Rattle.apx_promise.proofs.Making.{same_id, saves-are-made, made-may-be, none-at-first}
use Rattle.apx_promise.proofs.Saved.{last-are-saved}

-- ---- whether an event makes a checkpoint

-- an id is the one of these parts, or not
is_id : (id : SaveId) (o b i w : ℕ) → (id ≡ record { op = o; boundary = b; part = i; window = w }) ⊎ (id ≡ record { op = o; boundary = b; part = i; window = w } → ⊥)
is_id id o b i w = elim (alike id.op o) [
  | inr other ↦ inr (λ e. other (ap (λ (x : SaveId). x.op) e))
  | inl op ↦ elim (alike id.boundary b) [
    | inr other ↦ inr (λ e. other (ap (λ (x : SaveId). x.boundary) e))
    | inl boundary ↦ elim (alike id.part i) [
      | inr other ↦ inr (λ e. other (ap (λ (x : SaveId). x.part) e))
      | inl part ↦ elim (alike id.window w) [
        | inr other ↦ inr (λ e. other (ap (λ (x : SaveId). x.window) e))
        | inl window ↦ inl (same_id id o b i w op boundary part window)
      ]
    ]
  ]
]

Decided : Type 0 → Type 0
Decided A = A ⊎ (A → ⊥)

split_makes : (plan : Plan) (m : State) (l : ℕ) (id : SaveId) → Decided (IsMadeBy plan m (Repartition l) id)
unfolding Decided
split_makes plan m l id = elim (test (nat_lt id.part (count_or 0 (line plan l).act))) [
  | inr many ↦ inr (λ made. (let e : id.part ≡ made.0 = ap (λ (x : SaveId). x.part) made.2 in let a = made.1 in let h : nat_lt id.part (count_or 0 (line plan l).act) ≡ true = grind (arith, nat_tests) in let k : true ≡ false = sym h ∙ many in cc))
  | inl few ↦ elim (is_id id (line plan l).op (line plan l).window id.part (line plan l).window) [
    | inl is ↦ inl (id.part, grind (arith, nat_tests), is)
    | inr other ↦ inr (λ made. other (made.2 ∙ ap (λ (i : ℕ). record { op = (line plan l).op; boundary = (line plan l).window; part = i; window = (line plan l).window }) (sym (ap (λ (x : SaveId). x.part) made.2))))
  ]
]

makes : (plan : Plan) (m : State) (e : Event) (id : SaveId) → Decided (IsMadeBy plan m e id)
unfolding Decided
makes plan m (Save o i w) id = is_id id o (oper m o).boundary i w
makes plan m (Repartition l) id = split_makes plan m l id
makes plan m (Start o i w) id = inr (λ made. made)
makes plan m (Write w) id = inr (λ made. made)
makes plan m (Finish o i w) id = inr (λ made. made)
makes plan m (Advance o i w) id = inr (λ made. made)
makes plan m (Commit w) id = inr (λ made. made)
makes plan m (Purge o i w) id = inr (λ made. made)
makes plan m (Kill l) id = inr (λ made. made)
makes plan m End id = inr (λ made. made)
makes plan m (Fault s) id = inr (λ made. made)

-- ---- what is dropped

-- what isn't below what is committed isn't dropped
keeps : (plan : Plan) (m : State) (u : ℕ) (e : Event) (id : SaveId) → (next plan m u e).committed ≤ id.window → drops e id ≡ false
unfolding put map_slots meet split
keeps plan m u (Commit w) id h = grind (arith, nat_tests)
keeps plan m u (Start o i w) id h = refl
keeps plan m u (Write w) id h = refl
keeps plan m u (Finish o i w) id h = refl
keeps plan m u (Save o i w) id h = refl
keeps plan m u (Advance o i w) id h = refl
keeps plan m u (Purge o i w) id h = refl
keeps plan m u (Kill l) id h = refl
keeps plan m u (Repartition l) id h = refl
keeps plan m u End id h = refl
keeps plan m u (Fault s) id h = refl

-- what isn't dropped isn't below what is committed
stays_above : (plan : Plan) (m : State) (u : ℕ) (e : Event) (id : SaveId) → drops e id ≡ false → m.committed ≤ id.window → (next plan m u e).committed ≤ id.window
unfolding put map_slots meet split
stays_above plan m u (Commit w) id kept low = grind (arith, nat_tests)
stays_above plan m u (Start o i w) id kept low = low
stays_above plan m u (Write w) id kept low = low
stays_above plan m u (Finish o i w) id kept low = low
stays_above plan m u (Save o i w) id kept low = low
stays_above plan m u (Advance o i w) id kept low = low
stays_above plan m u (Purge o i w) id kept low = low
stays_above plan m u (Kill l) id kept low = low
stays_above plan m u (Repartition l) id kept low = low
stays_above plan m u End id kept low = low
stays_above plan m u (Fault s) id kept low = low

-- ---- what is right is any fact of an id and of what is there

module _ (P : SaveId → List ℕ → Type 0) where
  pub saved_stays : (plan : Plan) (m : State) (u : ℕ) (e : Event) (at new : SaveId → Option (List ℕ)) → IsPlan plan → Kept plan m → can plan m e ≡ true →
      ChangesBy P plan m e at new → HasSaved P plan m at → HasSaved P plan (next plan m u e) new
  unfolding Decided
  saved_stays plan m u e at new is kept may change saved id positive must =
      let was = saves-are-made plan m u e is kept may id must in
      elim (makes plan m e id) [
        | inl made ↦ change.made id made
        | inr other ↦ elim was.0 [
          | inr made ↦ absurd (other made)
          | inl before ↦ subst (λ found. IsRight P id found) (sym (change.rest id other (keeps plan m u e id was.1))) (saved id positive before)
        ]
      ]

  -- what was found is what is right
  found : (id : SaveId) (x : List ℕ) (y : Option (List ℕ)) → IsRight P id y → y ≡ Some x → P id x
  found id x y right is = let same : Some right.0 ≡ Some x = sym right.1 ∙ is in let e : right.0 ≡ x = cc in subst (P id) e right.2

  pub no_more_stays : (plan : Plan) (m : State) (u : ℕ) (e : Event) (at new : SaveId → Option (List ℕ)) → IsPlan plan → Kept plan m → can plan m e ≡ true →
      ChangesBy P plan m e at new → HasNoMore P plan m at → HasNoMore P plan (next plan m u e) new
  unfolding Decided
  no_more_stays plan m u e at new is kept may change only id x there = elim (makes plan m e id) [
    | inl made ↦ (made-may-be plan m u e is kept may id made, found id x (new id) (change.made id made) there)
    | inr other ↦ elim (test (drops e id)) [
      | inl gone ↦ absurd (let none : None ≡ Some x = sym (change.dropped id gone) ∙ there in cc)
      | inr stays ↦
          let old = only id x (sym (change.rest id other stays) ∙ there) in (
            record { of_part = old.0.of_part; checkpoint = old.0.checkpoint; positive = old.0.positive; committed = stays_above plan m u e id stays old.0.committed },
            old.1,
          )
    ]
  ]

  pub saved_at_first : (plan : Plan) (s : ℕ) (at : SaveId → Option (List ℕ)) → HasSaved P plan (beginning plan s 0) at
  saved_at_first plan s at id positive must = absurd (let e = none-at-first plan s 0 id must in omega arith)

  pub last_at_end : (plan : Plan) (s c : ℕ) (es : List Entry) (at : SaveId → Option (List ℕ)) → IsHistory plan s c es → EndsWith End es →
      HasSaved P plan (state_after plan s c es) at → HasNoMore P plan (state_after plan s c es) at → HasLastSaves P plan at
  last_at_end plan s c es at h end saved only = record {
    each = λ id last. saved id last.positive ((last-are-saved plan s c es h end id).0 last);
    only = λ id x there. let may = only id x there in ((last-are-saved plan s c es h end id).1 may.0, may.1);
  }

-- ---- the laws, where what is right passes a test

pub saved-stays : SavedStays
saved-stays right plan m u e at new = saved_stays (Passes right) plan m u e at new

pub no-more-stays : NoMoreStays
no-more-stays right plan m u e at new = no_more_stays (Passes right) plan m u e at new

pub saved-at-first : SavedAtFirst
saved-at-first right plan s at = saved_at_first (Passes right) plan s at

pub last-at-end : LastAtEnd
last-at-end right plan s c es at = last_at_end (Passes right) plan s c es at
