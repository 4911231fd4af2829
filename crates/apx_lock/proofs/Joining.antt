-- Joining a seat to another keeps the rule.
use Rattle.std.proofs.Common.{◌≡◌, ℕ, ◌<◌, ◌≢◌, ◌⊎◌, ◌==◌, Bool, true, false, cond, List, ◌∷◌, length, set, Some, sym, refl, ap, ◌∙◌, subst, inl, inr, ⊎_elim, arith, eq-eqb, ne_eqb, true≢false, nat_lt, ltb-true, ltb-false}
use mathlib.Core.Option.{some}
use mathlib.Core.Logic.{dite}
use native.Mathlib.Decide.{ℕ_discrete}
use lib.ListN.{get_elem?}
use Rattle.atomic_table.specs.Table.{Joins}
use Rattle.atomic_table.proofs.Lists.{set_here, set_else}
use Rattle.apx_lock.specs.declared.view.Mark.{Mark}
use Rattle.apx_lock.specs.declared.view.Part.{Part}
use Rattle.apx_lock.specs.declared.view.View.{View}
use Rattle.apx_lock.specs.Logs.{longer, entries_of}
use Rattle.apx_lock.specs.Views.{IsPart, Owns, HasNumber, spent, joined_mark, after_join}
use Rattle.apx_lock.specs.Keeps.{Books, HoldsOf, MarkFits, Sits}
use Rattle.apx_lock.proofs.Lists.{Every-append, at_inside, at_some, at_same, set_each, set_there, starts_longest, longest_whole}
use Rattle.apx_lock.proofs.Marks.{length-joined_marks, at_joined_marks, joined_marks_at}
use Rattle.apx_lock.proofs.Entries.{part_of_append}
use Rattle.apx_lock.proofs.Places.{Rule, acting}

-- a place, where what was at one place is at another from now on
abbrev moved : ℕ → ℕ → ℕ → ℕ
moved other id k = cond (k == other) id k

moved_here : (other id k : ℕ) → k ≡ other → moved other id k ≡ id
moved_here other id k e = ap (λ (b : Bool). cond b id k) (eq-eqb k other e)

moved_else : (other id k : ℕ) → k ≢ other → moved other id k ≡ k
moved_else other id k ne = ap (λ (b : Bool). cond b id k) (ne_eqb k other ne)

abbrev joined_books : {E : Type 0} → ℕ → ℕ → Books E → Books E
joined_books other id b = record { log = b.log; levels = b.levels; holder = b.holder; given = b.given; dealer = moved other id b.dealer; home = λ n. moved other id (b.home n); owner = λ i. moved other id (b.owner i) }

-- a joined mark is owned where either was
joined_owned : (m n : Mark) → (joined_mark m n).owned ≡ true → (m.owned ≡ true) ⊎ (n.owned ≡ true)
joined_owned m n e = pick n.owned refl
  where
    pick : (b : Bool) → n.owned ≡ b → (m.owned ≡ true) ⊎ (n.owned ≡ true)
    pick true p = inr p
    pick false p = inl (ap (λ (b : Bool). (cond b (record m { owned = true; at = n.at }) m).owned) (sym p) ∙ e)

owned_either : (m n : Mark) → (m.owned ≡ true) ⊎ (n.owned ≡ true) → (joined_mark m n).owned ≡ true
owned_either m n e = pick n.owned refl
  where
    pick : (b : Bool) → n.owned ≡ b → (joined_mark m n).owned ≡ true
    pick true p = ap (λ (b : Bool). (cond b (record m { owned = true; at = n.at }) m).owned) p
    pick false p = ap (λ (b : Bool). (cond b (record m { owned = true; at = n.at }) m).owned) p ∙ ⊎_elim (λ (q : m.owned ≡ true). q) (λ (q : n.owned ≡ true). absurd (true≢false (sym q ∙ p))) e

joined_fits : (level : ℕ) (m n : Mark) → MarkFits level m → MarkFits level n → MarkFits level (joined_mark m n)
joined_fits level m n f g = pick n.owned refl
  where
    pick : (b : Bool) → n.owned ≡ b → MarkFits level (cond n.owned (record m { owned = true; at = n.at }) m)
    pick true p = subst (λ (b : Bool). MarkFits level (cond b (record m { owned = true; at = n.at }) m)) (sym p) (f.0, λ _. g.1 p)
    pick false p = subst (λ (b : Bool). MarkFits level (cond b (record m { owned = true; at = n.at }) m)) (sym p) f

-- how many numbers were given out is known to the joined seat where either knew it
abbrev given_of : ℕ → ℕ → ℕ
given_of g k = cond (nat_lt 0 k) k g

given_cases : (g k : ℕ) → 0 < given_of g k → ((0 < k) × (given_of g k ≡ k)) ⊎ ((0 < g) × (given_of g k ≡ g))
given_cases g k = pick (nat_lt 0 k) refl
  where
    pick : (b : Bool) → nat_lt 0 k ≡ b → 0 < cond b k g → ((0 < k) × (cond b k g ≡ k)) ⊎ ((0 < g) × (cond b k g ≡ g))
    pick true e h = inl (ltb-true 0 k e, refl)
    pick false e h = inr (h, refl)

given_some : (g k : ℕ) → (0 < g) ⊎ (0 < k) → 0 < given_of g k
given_some g k some_given = pick (nat_lt 0 k) refl
  where
    pick : (b : Bool) → nat_lt 0 k ≡ b → 0 < cond b k g
    pick true e = ltb-true 0 k e
    pick false e = let none_k = ltb-false 0 k e in ⊎_elim (λ (h : 0 < g). h) (λ (h : 0 < k). absurd (omega arith)) some_given

module _ {N E : Type 0} (seat : E → ℕ) (name : N) (b : Books E) where
  joined_number : (v w : View N E) (n : ℕ) → HasNumber (after_join v w) n → HasNumber v n ⊎ HasNumber w n
  joined_number v w n (inl e) = inl (inl e)
  joined_number v w n (inr i) = ⊎_elim (λ (p : IsPart n v.kept). inl (inr p)) (⊎_elim (λ (e : w.number ≡ n). inr (inl e)) (λ (p : IsPart n w.kept). inr (inr p))) (part_of_append n v.kept ((record { number = w.number; entries = w.mine }) ∷ w.kept) i)

  joined_owns : (v w : View N E) (i : ℕ) → length v.marks ≡ length w.marks → Owns (after_join v w) i → Owns v i ⊎ Owns w i
  joined_owns v w i same o =
      let t = at_joined_marks v.marks w.marks i o.0 same o.1 in
      ⊎_elim (λ (e : t.0.owned ≡ true). inl (t.0, t.2, e)) (λ (e : t.1.owned ≡ true). inr (t.1, t.3, e)) (joined_owned t.0 t.1 (ap (λ (m : Mark). m.owned) t.4 ∙ o.2))

  owns_joined : (v w : View N E) (i : ℕ) → length v.marks ≡ length w.marks → Owns v i ⊎ Owns w i → Owns (after_join v w) i
  owns_joined v w i same o =
      let inside : i < length v.marks = ⊎_elim (λ (p : Owns v i). at_inside v.marks i p.0 p.1) (λ (p : Owns w i). let k = at_inside w.marks i p.0 p.1 in omega arith) o in
      let m = at_some v.marks i inside in
      let n = at_some w.marks i (omega arith) in (
        joined_mark m.0 n.0,
        joined_marks_at v.marks w.marks i m.0 n.0 m.1 n.1,
        owned_either m.0 n.0 (⊎_elim
            (λ (p : Owns v i). inl (ap (λ (k : Mark). k.owned) (at_same v.marks i m.0 p.0 m.1 p.1) ∙ p.2))
            (λ (p : Owns w i). inr (ap (λ (k : Mark). k.owned) (at_same w.marks i n.0 p.0 n.1 p.1) ∙ p.2)) o),
      )

  join_sits : (id other : ℕ) (v w : View N E) → other ≢ id → Sits seat name b id v → Sits seat name b other w → Sits seat name (joined_books other id b) id (after_join v w)
  join_sits id other v w ne x y =
      let ne' : id ≢ other = (λ e. ne (sym e)) in
      let wide : length v.marks ≡ length w.marks = x.wide ∙ sym y.wide in
      let own_number : b.home v.number ≡ id = (x.numbers v.number (inl refl)).1 in record {
        named = x.named;
        begins = starts_longest b.log v.seen w.seen x.begins y.begins;
        own = x.own;
        parts = Every-append (λ (p : Part E). p.entries ≡ entries_of seat p.number b.log) v.kept ((record { number = w.number; entries = w.mine }) ∷ w.kept) x.parts (y.own, y.parts);
        apart = λ i. ⊎_elim (λ (p : IsPart v.number v.kept). x.apart p) (⊎_elim
            (λ (e : w.number ≡ v.number). ne (sym (y.numbers w.number (inl refl)).1 ∙ (ap b.home e ∙ own_number)))
            (λ (p : IsPart v.number w.kept). ne (sym (y.numbers v.number (inr p)).1 ∙ own_number))) (part_of_append v.number v.kept ((record { number = w.number; entries = w.mine }) ∷ w.kept) i);
        numbers = λ n has. ⊎_elim
            (λ (p : HasNumber v n). ((x.numbers n p).0, ap (moved other id) (x.numbers n p).1 ∙ moved_else other id id ne'))
            (λ (p : HasNumber w n). ((y.numbers n p).0, moved_here other id (b.home n) (y.numbers n p).1)) (joined_number v w n has);
        wide = length-joined_marks v.marks w.marks ∙ x.wide;
        marks = λ i m level at at'. let t = at_joined_marks v.marks w.marks i m wide at in
            subst (λ (k : Mark). MarkFits level k) t.4 (joined_fits level t.0 t.1 (x.marks i t.0 level t.2 at') (y.marks i t.1 level t.3 at'));
        owns = λ i o. ⊎_elim (λ (p : Owns v i). ap (moved other id) (x.owns i p) ∙ moved_else other id id ne') (λ (p : Owns w i). moved_here other id (b.owner i) (y.owns i p)) (joined_owns v w i wide o);
        holds = λ e. let all = (x.holds e).1 in ((x.holds e).0, ap (λ (l : List E). longer l w.seen) all ∙ longest_whole b.log w.seen y.begins);
        deals = λ d. ⊎_elim
            (λ (p : (0 < w.given) × (given_of v.given w.given ≡ w.given)). (moved_here other id b.dealer (y.deals p.0).0, p.1 ∙ (y.deals p.0).1))
            (λ (p : (0 < v.given) × (given_of v.given w.given ≡ v.given)). (ap (moved other id) (x.deals p.0).0 ∙ moved_else other id id ne', p.1 ∙ (x.deals p.0).1)) (given_cases v.given w.given d);
      }

  other_joined : (id other k : ℕ) (u : View N E) → k ≢ other → Sits seat name b k u → Sits seat name (joined_books other id b) k u
  other_joined id other k u ne y = record {
    named = y.named;
    begins = y.begins;
    own = y.own;
    parts = y.parts;
    apart = y.apart;
    numbers = λ n has. ((y.numbers n has).0, ap (moved other id) (y.numbers n has).1 ∙ moved_else other id k ne);
    wide = y.wide;
    marks = y.marks;
    owns = λ i o. ap (moved other id) (y.owns i o) ∙ moved_else other id k ne;
    holds = y.holds;
    deals = λ d. (ap (moved other id) (y.deals d).0 ∙ moved_else other id k ne, (y.deals d).1);
  }

module _ {V N E : Type 0} (stands : V → N → List E → Type 0) (seat bound : E → ℕ) (name : N) (marks : ℕ) where
  -- what holds of one of the views holds of the joined one, or of one that is as it was
  join_there : (views : List (View N E)) (id other k : ℕ) (v w both : View N E) (P : View N E → Type 0) → get_elem? views id ≡ some v → get_elem? views other ≡ some w → other ≢ id → (P v ⊎ P w → P both) → (k ≢ other → P w → ⊥)
      → HoldsOf views k P → HoldsOf (set (set views id both) other spent) (moved other id k) P
  join_there views id other k v w both P at at' ne to gone h = dite (ℕ_discrete k other)
      (λ (e : k ≡ other). subst (λ (i : ℕ). HoldsOf (set (set views id both) other spent) i P) (sym (moved_here other id k e)) (
        both,
        set_else (set views id both) other id spent (λ i. ne (sym i)) ∙ set_here views id both (at_inside views id v at),
        to (inr (subst P (at_same views other h.0 w (subst (λ (i : ℕ). get_elem? views i ≡ some h.0) e h.1) at') h.2)),
      ))
      (λ (n : k ≢ other). subst (λ (i : ℕ). HoldsOf (set (set views id both) other spent) i P) (sym (moved_else other id k n))
      (set_there (set views id both) other k w spent P P (set_else views id other both ne ∙ at') (λ p. absurd (gone n p)) (λ u p. p)
      (set_there views id k v both P P at (λ p. to (inl p)) (λ u p. p) h)))

  pub joins : (id other : ℕ) (v w : View N E) → v.name ≡ Some name → w.name ≡ Some name → w.holds ≡ false → Joins (Rule stands seat bound name marks) id v other w (after_join v w) spent
  joins id other v w is is' idle s r at ne at_both =
      let b = r.0 in let h = r.1 in
      let at' : get_elem? s.views other ≡ some w = sym (set_else s.views id other (after_join v w) ne) ∙ at_both in
      let x = acting stands seat bound name marks b s id v h at is in
      let y = acting stands seat bound name marks b s other w h at' is' in
      let both : View N E = after_join v w in
      let c : Books E = joined_books other id b in
      let wide : length v.marks ≡ length w.marks = x.wide ∙ sym y.wide in
      let each = set_each s.views id both (λ k u. (u ≡ spent) ⊎ Sits seat name b k u) (λ k u. k ≢ other → (u ≡ spent) ⊎ Sits seat name c k u) h.views (λ _. inr (join_sits seat name b id other v w ne x y))
      (λ k u n t m. ⊎_elim (λ (e : u ≡ spent). inl e) (λ (z : Sits seat name b k u). inr (other_joined seat name b id other k u m z)) t) in (
        c,
        record {
          words = h.words;
          value = h.value;
          wide = h.wide;
          bounds = h.bounds;
          numbered = h.numbered;
          views = set_each (set s.views id both) other spent (λ k u. k ≢ other → (u ≡ spent) ⊎ Sits seat name c k u) (λ k u. (u ≡ spent) ⊎ Sits seat name c k u) each (inl refl) (λ k u n t. t n);
          holder = λ k e. set_there (set s.views id both) other k w spent (λ u. u.holds ≡ true) (λ u. u.holds ≡ true) at_both (λ p. absurd (true≢false (sym p ∙ idle))) (λ u p. p)
              (set_there s.views id k v both (λ u. u.holds ≡ true) (λ u. u.holds ≡ true) at (λ p. p) (λ u p. p) (h.holder k e));
          dealer = join_there s.views id other b.dealer v w both (λ u. 0 < u.given) at at' ne (given_some v.given w.given) (λ n p. n (y.deals p).0) h.dealer;
          owner = λ j l. join_there s.views id other (b.owner j) v w both (λ u. Owns u j) at at' ne (owns_joined seat name b v w j wide) (λ n p. n (y.owns j p)) (h.owner j l);
        },
      )
