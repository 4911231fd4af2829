-- Windows are stored one after the other, each once.
use Rattle.std.proofs.Common.{◌≡◌, ℕ, ◌+◌, true, List, [], ◌∷◌, length, refl, ap, ◌∙◌, arith}
use Rattle.std.specs.List.{cons_option, range_with_len}
use Rattle.apx_history.specs.declared.Entry.{Entry}
use Rattle.apx_history.specs.declared.Event.{Event}
use Rattle.apx_history.specs.declared.Event.TheVariants.{Start, Write, Finish, Save, Advance, Commit, Purge, Kill, Repartition, End, Fault}
use Rattle.apx_history.specs.Plan.{Plan}
use Rattle.apx_history.specs.State.{State, put, map_slots}
use Rattle.apx_history.specs.Effects.{meet, split, next}
use Rattle.apx_history.specs.Conditions.{Enabled}
use Rattle.apx_history.specs.Journals.{beginning, is_legal, after}
use Rattle.apx_history.proofs.Legal.{can_facts, fits_parts}
use Rattle.apx_promise.specs.Histories.{stored_by, windows_stored}
use Rattle.apx_promise.specs.Laws.{AllStoreInOrder}

-- the windows from n + 1 on, one after the other
abbrev pub AreFrom : ℕ → List ℕ → Type 0
AreFrom n xs = xs ≡ range_with_len (n + 1) (length xs)

-- with the window of an event before them
with_event : (plan : Plan) (m : State) (u : ℕ) (e : Event) → Enabled plan m e → (xs : List ℕ) → AreFrom (next plan m u e).stored xs →
    AreFrom m.stored (cons_option (stored_by e) xs)
unfolding put map_slots meet split
with_event plan m u (Start o i w) h xs is = is
with_event plan m u (Write w) h xs is =
    ap (λ v. v ∷ xs) h.next ∙ ap (λ ys. (m.stored + 1) ∷ ys) (is ∙ ap (λ v. range_with_len (v + 1) (length xs)) h.next)
with_event plan m u (Finish o i w) h xs is = is
with_event plan m u (Save o i w) h xs is = is
with_event plan m u (Advance o i w) h xs is = is
with_event plan m u (Commit w) h xs is = is
with_event plan m u (Purge o i w) h xs is = is
with_event plan m u (Kill l) h xs is = is
with_event plan m u (Repartition l) h xs is = is
with_event plan m u End h xs is = is
with_event plan m u (Fault s) h xs is = is

-- how many windows are stored with that of an event
one_more : (plan : Plan) (m : State) (u : ℕ) (e : Event) → Enabled plan m e → (xs : List ℕ) →
    (next plan m u e).stored + length xs ≡ m.stored + length (cons_option (stored_by e) xs)
unfolding put map_slots meet split
one_more plan m u (Start o i w) h xs = refl
one_more plan m u (Write w) h xs = let a = h.next in omega arith
one_more plan m u (Finish o i w) h xs = refl
one_more plan m u (Save o i w) h xs = refl
one_more plan m u (Advance o i w) h xs = refl
one_more plan m u (Commit w) h xs = refl
one_more plan m u (Purge o i w) h xs = refl
one_more plan m u (Kill l) h xs = refl
one_more plan m u (Repartition l) h xs = refl
one_more plan m u End h xs = refl
one_more plan m u (Fault s) h xs = refl

module _ (plan : Plan) where
  pub stored_from : (m : State) (es : List Entry) → is_legal plan m es ≡ true → AreFrom m.stored (windows_stored es)
  stored_from m [] h = refl
  stored_from m (e ∷ es) h =
      let p = fits_parts plan m e es h in
      with_event plan m e.worker e.event (can_facts plan m e.event p.0) (windows_stored es)
      (stored_from (next plan m e.worker e.event) es p.2)

  pub stored_to : (m : State) (es : List Entry) → is_legal plan m es ≡ true → (after plan m es).stored ≡ m.stored + length (windows_stored es)
  stored_to m [] h = omega arith
  stored_to m (e ∷ es) h =
      let p = fits_parts plan m e es h in
      stored_to (next plan m e.worker e.event) es p.2
      ∙ one_more plan m e.worker e.event (can_facts plan m e.event p.0) (windows_stored es)

pub stores : AllStoreInOrder
unfolding beginning
stores plan s c es h = record {
  in_order = stored_from plan (beginning plan s c) es h.legal;
  up_to = stored_to plan (beginning plan s c) es h.legal;
}
