-- The rule holds as a lock is made, and what it says as one is closed.
use Rattle.std.proofs.Common.{◌≡◌, ℕ, zero, suc, ◌<◌, ◌≤◌, true, false, List, [], ◌∷◌, replicate, Option, Some, sym, refl, ap, ◌∙◌, subst, inl, inr, ⊎_elim, arith, true≢false}
use mathlib.Core.Option.{none, some, some-injective, some-ne-none}
use Rattle.std.proofs.lemmas.List.{length-replicate}
use lib.ListN.{get_elem?}
use Rattle.atomic_table.specs.Table.{State, opening, Final, Seen}
use Rattle.apx_lock.specs.declared.view.Mark.{Mark}
use Rattle.apx_lock.specs.declared.view.View.{View}
use Rattle.apx_lock.specs.Views.{HasNumber, spent, first_view, zeros, first_mark}
use Rattle.apx_lock.specs.Keeps.{Books, Sits, IsAtHome, Holds}
use Rattle.apx_lock.specs.Steps.{Ends}
use Rattle.apx_lock.proofs.Lists.{Every-weaker, at_same, at_replicate}
use Rattle.apx_lock.proofs.Places.{Rule, acting}

replicated : {A : Type 0} (n : ℕ) (x : A) (i : ℕ) → i < n → get_elem? (replicate n x) i ≡ some x
replicated zero x i h = absurd (omega arith)
replicated (suc n) x zero h = refl
replicated (suc n) x (suc i) h = replicated n x i (omega arith)

at_one : {A : Type 0} (x : A) (k : ℕ) (a : A) → get_elem? (x ∷ []) k ≡ some a → (k ≡ 0) × (x ≡ a)
at_one x zero a e = (refl, some-injective x a e)
at_one x (suc k) a e = absurd (some-ne-none a (sym e))

abbrev first_books : (E : Type 0) → ℕ → Books E
first_books E marks = record { log = []; levels = zeros marks; holder = none; given = 1; dealer = 0; home = λ _. 0; owner = λ _. 0 }

first_sits : {N E : Type 0} (seat : E → ℕ) (name : N) (marks : ℕ) → Sits seat name (first_books E marks) 0 (first_view name marks)
first_sits seat name marks = record {
  named = refl;
  begins = ([], refl);
  own = refl;
  parts = tt;
  apart = λ i. i;
  numbers = λ n. ⊎_elim (λ (e : 0 ≡ n). (omega arith, refl)) (λ (i : ⊥). absurd i);
  wide = length-replicate marks first_mark ∙ sym (length-replicate marks 0);
  marks = λ j m level at at'. let e = at_replicate marks first_mark j m at in let z = at_replicate marks 0 j level at' in
      (subst (λ (k : Mark). k.lower ≤ level) e (omega arith), λ _. ap (λ (k : Mark). k.at) (sym e) ∙ z);
  owns = λ j o. refl;
  holds = λ e. absurd (true≢false (sym e));
  deals = λ _. (refl, refl);
}

module _ {V N E : Type 0} (stands : V → N → List E → Type 0) (seat bound : E → ℕ) (name : N) (marks : ℕ) where
  pub opens : (value : V) → stands value name [] → Rule stands seat bound name marks (opening (0 ∷ 0 ∷ zeros marks) (Some value ∷ []) (first_view name marks))
  opens value stand = (
    first_books E marks,
    record {
      words = refl;
      value = (value, refl, stand);
      wide = length-replicate marks 0;
      bounds = λ j level at. tt;
      numbered = tt;
      views = λ k v at. let t = at_one (first_view name marks) k v at in inr (subst (λ (p : ℕ × View N E). Sits seat name (first_books E marks) p.0 p.1) (λ i. (sym t.0 i, t.1 i)) (first_sits seat name marks));
      holder = λ k e. absurd (some-ne-none k (sym e));
      dealer = (first_view name marks, refl, omega arith);
      owner = λ j l. (first_view name marks, refl, (first_mark, replicated marks first_mark j l, refl));
    },
  )

  -- where the seat has each number that was given out and doesn't hold the turn, no other does
  nobody_holds : (b : Books E) (s : State (Option V) (View N E)) → Holds stands seat bound name marks b s → (id : ℕ) (v : View N E) → get_elem? s.views id ≡ some v → v.name ≡ Some name → v.holds ≡ false → 0 < v.given
      → ((n : ℕ) → n < v.given → HasNumber v n) → (k : ℕ) → b.holder ≡ some k → ⊥
  nobody_holds b s h id v at is idle deals all k e =
      let x = acting stands seat bound name marks b s id v h at is in
      let held = h.holder k e in
      ⊎_elim (λ (z : held.0 ≡ spent). true≢false (sym held.2 ∙ ap (λ (u : View N E). u.holds) z))
      (λ (y : Sits seat name b k held.0).
      let mine = y.numbers held.0.number (inl refl) in
      let given = (x.deals deals).1 in
      let here : b.home held.0.number ≡ id = (x.numbers held.0.number (all held.0.number (subst (λ (n : ℕ). held.0.number < n) (sym given) mine.0))).1 in
      let same : held.0 ≡ v = at_same s.views id held.0 v (subst (λ (i : ℕ). get_elem? s.views i ≡ some held.0) (sym mine.1 ∙ here) held.1) at in
      true≢false (sym held.2 ∙ (ap (λ (u : View N E). u.holds) same ∙ idle)))
      (h.views k held.0 held.1)

  closed_home : (b : Books E) (s : State (Option V) (View N E)) (o : mathlib.Core.Option.Option ℕ) → b.holder ≡ o → ((k : ℕ) → b.holder ≡ some k → ⊥) → IsAtHome stands name b.log o s.homes
      → (value : V) × (s.homes ≡ some (Some value) ∷ []) × stands value name b.log
  closed_home b s none e nobody h = h
  closed_home b s (some k) e nobody h = absurd (nobody k e)

  -- what is known of the value and of the seat that closes the lock
  pub closes : (id : ℕ) (v : View N E) → v.name ≡ Some name → v.holds ≡ false → 0 < v.given → ((n : ℕ) → n < v.given → HasNumber v n) → (ws : List ℕ) (xs : List (Option V))
      → Final (Seen (Rule stands seat bound name marks) id v) ws xs → (value : V) × (get_elem? xs 0 ≡ some (Some value)) × Ends stands seat bound name value v
  closes id v is idle deals all ws xs f =
      let s = f.0 in
      let b = f.1.0.0 in let h = f.1.0.1 in
      let at = f.1.1 in
      let x = acting stands seat bound name marks b s id v h at is in
      let given = (x.deals deals).1 in
      let home = closed_home b s b.holder refl (nobody_holds b s h id v at is idle deals all) h.value in (
        home.0,
        f.4 0 (Some home.0) (ap (λ (hs : List (mathlib.Core.Option.Option (Option V))). get_elem? hs 0) home.1),
        record {
          log = b.log;
          stand = home.2;
          seen = x.begins;
          own = x.own;
          parts = x.parts;
          numbered = Every-weaker (λ (e : E). seat e < b.given) (λ (e : E). HasNumber v (seat e)) (λ e low. all (seat e) (subst (λ (n : ℕ). seat e < n) (sym given) low)) b.log h.numbered;
        },
      )
