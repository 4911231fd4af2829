-- Raising a mark and loading it keep the rule.
use Rattle.std.proofs.Common.{◌≡◌, ℕ, suc, ◌≤◌, ◌≢◌, max, true, List, ◌∷◌, length, set, slice_index, slice_set, Option, Some, sym, refl, ap, ◌∙◌, subst, ⊎_elim, arith, length-set, le_trans, le_of_eq}
use mathlib.Core.Option.{none, some}
use lib.ListN.{get_elem?}
use lib.Seq.{set-get_or}
use Rattle.atomic_table.specs.Table.{State, Me, step, keeps, Allows}
use Rattle.atomic_table.proofs.Lists.{at_set}
use Rattle.apx_lock.specs.declared.view.Mark.{Mark}
use Rattle.apx_lock.specs.declared.view.View.{View}
use Rattle.apx_lock.specs.Views.{Owns, raised_mark, loaded_mark, after_raise, after_load}
use Rattle.apx_lock.specs.Keeps.{Books, turn_word, Sits}
use Rattle.apx_lock.specs.Steps.{Raises, Loads}
use Rattle.apx_lock.proofs.Lists.{Every-weaker, at_inside, at_some, at_same, at_default, set_there}
use Rattle.apx_lock.proofs.Marks.{length-with_mark, at_with_mark, owned_before, owned_after}
use Rattle.apx_lock.proofs.Places.{rewritten, Rule, acting, next, calm}

-- another view, where a mark that it doesn't own is raised
other_raised : {N E : Type 0} (seat : E → ℕ) (name : N) (b : Books E) (id k j level to : ℕ) (v u : View N E) → Sits seat name b id v → Owns v j → get_elem? b.levels j ≡ some level → level ≤ to → k ≢ id → Sits seat name b k u
    → Sits seat name (rewritten b b.log (set b.levels j to) b.holder) k u
other_raised seat name b id k j level to v u x owned there up ne y = record {
  named = y.named;
  begins = y.begins;
  own = y.own;
  parts = y.parts;
  apart = y.apart;
  numbers = y.numbers;
  wide = y.wide ∙ sym (length-set b.levels j to);
  marks = λ i m l at at'. ⊎_elim
      (λ (t : (i ≡ j) × (to ≡ l)).
      let here : get_elem? u.marks j ≡ some m = subst (λ (n : ℕ). get_elem? u.marks n ≡ some m) t.0 at in
      let fits = y.marks j m level here there in
      (subst (λ (n : ℕ). m.lower ≤ n) t.1 (le_trans fits.0 up), λ e. absurd (ne (sym (y.owns j (m, here, e)) ∙ x.owns j owned))))
      (λ (t : (i ≢ j) × (get_elem? b.levels i ≡ some l)). y.marks i m l at t.1) (at_set b.levels j i to l at');
  owns = y.owns;
  holds = y.holds;
  deals = y.deals;
}

-- the owner's view
self_raised : {N E : Type 0} (seat : E → ℕ) (name : N) (b : Books E) (id j level to : ℕ) (v : View N E) → Sits seat name b id v → get_elem? b.levels j ≡ some level → level ≤ to
    → Sits seat name (rewritten b b.log (set b.levels j to) b.holder) id (after_raise j to v)
self_raised seat name b id j level to v x there up = record {
  named = x.named;
  begins = x.begins;
  own = x.own;
  parts = x.parts;
  apart = x.apart;
  numbers = x.numbers;
  wide = length-with_mark (raised_mark to) j v.marks ∙ (x.wide ∙ sym (length-set b.levels j to));
  marks = λ i m l at at'. ⊎_elim
      (λ (t : (i ≡ j) × (to ≡ l)). ⊎_elim
      (λ (p : (i ≡ j) × ((n : Mark) × (get_elem? v.marks i ≡ some n) × (raised_mark to n ≡ m))).
      let here : get_elem? v.marks j ≡ some p.1.0 = subst (λ (n : ℕ). get_elem? v.marks n ≡ some p.1.0) t.0 p.1.1 in
      let low : p.1.0.lower ≤ l = subst (λ (n : ℕ). p.1.0.lower ≤ n) t.1 (le_trans (x.marks j p.1.0 level here there).0 up) in
      (subst (λ (n : Mark). n.lower ≤ l) p.1.2 low, λ _. ap (λ (n : Mark). n.at) (sym p.1.2) ∙ t.1))
      (λ (p : (i ≢ j) × (get_elem? v.marks i ≡ some m)). absurd (p.0 t.0)) (at_with_mark (raised_mark to) j v.marks i m at))
      (λ (t : (i ≢ j) × (get_elem? b.levels i ≡ some l)). ⊎_elim
      (λ (p : (i ≡ j) × ((n : Mark) × (get_elem? v.marks i ≡ some n) × (raised_mark to n ≡ m))). absurd (t.0 p.0))
      (λ (p : (i ≢ j) × (get_elem? v.marks i ≡ some m)). x.marks i m l p.1 t.1) (at_with_mark (raised_mark to) j v.marks i m at)) (at_set b.levels j i to l at');
  owns = λ i o. x.owns i (owned_before (raised_mark to) j v.marks (λ m. refl) i o);
  holds = x.holds;
  deals = x.deals;
}

self_loaded : {N E : Type 0} (seat : E → ℕ) (name : N) (b : Books E) (id j found : ℕ) (v : View N E) → Sits seat name b id v → get_elem? b.levels j ≡ some found → Sits seat name b id (after_load j found v)
self_loaded seat name b id j found v x there = record {
  named = x.named;
  begins = x.begins;
  own = x.own;
  parts = x.parts;
  apart = x.apart;
  numbers = x.numbers;
  wide = length-with_mark (loaded_mark found) j v.marks ∙ x.wide;
  marks = λ i m l at at'. ⊎_elim
      (λ (p : (i ≡ j) × ((n : Mark) × (get_elem? v.marks i ≡ some n) × (loaded_mark found n ≡ m))).
      let same : l ≡ found = at_same b.levels j l found (subst (λ (n : ℕ). get_elem? b.levels n ≡ some l) p.0 at') there in
      let fits = x.marks i p.1.0 l p.1.1 at' in
      (subst (λ (n : Mark). n.lower ≤ l) p.1.2 (le_of_eq (sym same)), λ e. ap (λ (n : Mark). n.at) (sym p.1.2) ∙ fits.1 (ap (λ (n : Mark). n.owned) p.1.2 ∙ e)))
      (λ (p : (i ≢ j) × (get_elem? v.marks i ≡ some m)). x.marks i m l p.1 at') (at_with_mark (loaded_mark found) j v.marks i m at);
  owns = λ i o. x.owns i (owned_before (loaded_mark found) j v.marks (λ m. refl) i o);
  holds = x.holds;
  deals = x.deals;
}

module _ {V N E : Type 0} (stands : V → N → List E → Type 0) (seat bound : E → ℕ) (name : N) (marks : ℕ) where
  abbrev M : Type 0
  M = Me (Option V) (View N E)

  abbrev R : State (Option V) (View N E) → Type 0
  R = Rule stands seat bound name marks

  pub raises : (slots id : ℕ) (m : M) (i j to : ℕ) (mark : Mark) → i ≡ suc (suc j) → m.0.name ≡ Some name → get_elem? m.0.marks j ≡ some mark → mark.owned ≡ true → mark.at ≤ to
      → Allows R slots id m i (λ n. max n to) (Raises stands seat bound (step slots i to 0 none) m)
  raises slots id m i j to mark word is owned_at owned up = subst (λ (k : ℕ). Allows R slots id m k (λ n. max n to) (Raises stands seat bound (step slots k to 0 none) m)) (sym word) (λ s r sized at small.
      let b = r.0 in let h = r.1 in
      let x = acting stands seat bound name marks b s id m.0 h at is in
      let wide = x.wide in
      let level = at_some b.levels j (let inside = at_inside m.0.marks j mark owned_at in omega arith) in
      let fits = (x.marks j mark level.0 owned_at level.1).1 owned in
      let found : slice_index s.words (suc (suc j)) ≡ level.0 = ap (λ (ws : List ℕ). slice_index ws (suc (suc j))) h.words ∙ at_default b.levels j level.0 0 level.1 in
      let higher : max (slice_index s.words (suc (suc j))) to ≡ to = omega arith in
      let above : level.0 ≤ to = omega arith in
      let w : View N E = after_raise j to m.0 in (
        w,
        keeps,
        tt,
        next stands seat bound name marks b s h id m.0 w b.log (set b.levels j to) b.holder (slice_set s.words (suc (suc j)) (max (slice_index s.words (suc (suc j))) to)) s.homes at
            (ap (λ (ws : List ℕ). slice_set ws (suc (suc j)) (max (slice_index s.words (suc (suc j))) to)) h.words ∙ ap (λ (n : ℕ). turn_word b.holder ∷ length b.log ∷ set b.levels j n) higher) h.value (length-set b.levels j to ∙ h.wide)
            (λ k l there. ⊎_elim
            (λ (t : (k ≡ j) × (to ≡ l)). Every-weaker (λ (e : E). bound e ≤ level.0) (λ (e : E). bound e ≤ l) (λ e le. subst (λ (n : ℕ). bound e ≤ n) t.1 (le_trans le above)) b.log (h.bounds j level.0 level.1))
            (λ (t : (k ≢ j) × (get_elem? b.levels k ≡ some l)). h.bounds k l t.1) (at_set b.levels j k to l there))
            h.numbered (self_raised seat name b id j level.0 to m.0 x level.1 above) (λ k u ne y. other_raised seat name b id k j level.0 to m.0 u x (mark, owned_at, owned) level.1 above ne y)
            (λ k e. set_there s.views id k m.0 w (λ u. u.holds ≡ true) (λ u. u.holds ≡ true) at (λ z. z) (λ u o. o) (h.holder k e))
            (λ d. d) (owned_after (raised_mark to) j m.0.marks (λ n. refl)),
        λ k same. let k' : j ≡ k = omega arith in ap (λ (n : ℕ). (after_raise n to m.0, m.1)) k',
      ))

  pub loads : (slots id : ℕ) (m : M) (i j : ℕ) (mark : Mark) → i ≡ suc (suc j) → m.0.name ≡ Some name → get_elem? m.0.marks j ≡ some mark
      → Allows R slots id m i (λ n. n) (Loads stands seat bound (step slots i 0 0 none) m)
  loads slots id m i j mark word is known = subst (λ (k : ℕ). Allows R slots id m k (λ n. n) (Loads stands seat bound (step slots k 0 0 none) m)) (sym word) (λ s r sized at small.
      let b = r.0 in let h = r.1 in
      let x = acting stands seat bound name marks b s id m.0 h at is in
      let wide = x.wide in
      let level = at_some b.levels j (let inside = at_inside m.0.marks j mark known in omega arith) in
      let fits = (x.marks j mark level.0 known level.1).0 in
      let n : ℕ = slice_index s.words (suc (suc j)) in
      let found : n ≡ level.0 = ap (λ (ws : List ℕ). slice_index ws (suc (suc j))) h.words ∙ at_default b.levels j level.0 0 level.1 in
      let there : get_elem? b.levels j ≡ some n = level.1 ∙ ap some (sym found) in
      let w : View N E = after_load j n m.0 in (
        w,
        keeps,
        tt,
        calm stands seat bound name marks b s h id m.0 w (slice_set s.words (suc (suc j)) n) at (set-get_or s.words (suc (suc j)) 0 ∙ h.words) (self_loaded seat name b id j n m.0 x there) (λ z. z) (λ d. d) (owned_after (loaded_mark n) j m.0.marks (λ k. refl)),
        λ k same. let k' : j ≡ k = omega arith in subst (λ (q : ℕ). (◌≡◌ {A = M} (w, m.1) (after_load q n m.0, m.1)) × ((o : Mark) → get_elem? m.0.marks q ≡ some o → o.lower ≤ n)) k'
            (refl, λ o e. let same' : o ≡ mark = at_same m.0.marks j o mark e known in subst (λ (z : Mark). z.lower ≤ n) (sym same') (subst (λ (z : ℕ). mark.lower ≤ z) (sym found) fits)),
      ))
