-- Splitting a seat keeps the rule.
use Rattle.std.proofs.Common.{◌≡◌, ℕ, ◌+◌, ◌<◌, ◌≤◌, ◌≢◌, ◌⊎◌, ◌==◌, Bool, true, false, cond, List, [], ◌∷◌, ◌++◌, map, length, set, Option, Some, None, sym, refl, ap, ◌∙◌, subst, inl, inr, ⊎_elim, arith, length-set, eq-eqb, ne_eqb, true≢false, zero-le}
use mathlib.Core.Option.{some}
use mathlib.Core.Logic.{dite}
use Rattle.std.proofs.lemmas.List.{length-map}
use native.Mathlib.Decide.{ℕ_discrete}
use lib.ListN.{get_elem?}
use Rattle.atomic_table.specs.Table.{Splits}
use Rattle.atomic_table.proofs.Lists.{at_longer, at_last}
use Rattle.apx_lock.specs.declared.view.Mark.{Mark}
use Rattle.apx_lock.specs.declared.view.View.{View}
use Rattle.apx_lock.specs.Logs.{Every}
use Rattle.apx_lock.specs.Views.{Owns, spent, owned_mark, new_mark, handed, MayHand, after_split, dealt_view}
use Rattle.apx_lock.specs.Keeps.{Books, HoldsOf, Sits}
use Rattle.apx_lock.proofs.Lists.{Every-weaker, at_same, at_end, at_map_inv, set_each, set_there}
use Rattle.apx_lock.proofs.Marks.{length-with_mark, at_with_mark, with_mark_here, with_mark_else}
use Rattle.apx_lock.proofs.Entries.{none_of}
use Rattle.apx_lock.proofs.Places.{Rule, acting}

pub length-handed : (b : Bool) (hand : Option ℕ) (ms : List Mark) → length (handed b hand ms) ≡ length ms
length-handed b None ms = refl
length-handed b (Some j) ms = length-with_mark (owned_mark b) j ms

-- the owners, where the mark goes to another view
abbrev owners : Option ℕ → (ℕ → ℕ) → ℕ → ℕ → ℕ
owners None owner to i = owner i
owners (Some j) owner to i = cond (i == j) to (owner i)

owners_here : (j : ℕ) (owner : ℕ → ℕ) (to i : ℕ) → i ≡ j → owners (Some j) owner to i ≡ to
owners_here j owner to i e = ap (λ (b : Bool). cond b to (owner i)) (eq-eqb i j e)

owners_else : (j : ℕ) (owner : ℕ → ℕ) (to i : ℕ) → i ≢ j → owners (Some j) owner to i ≡ owner i
owners_else j owner to i ne = ap (λ (b : Bool). cond b to (owner i)) (ne_eqb i j ne)

-- the books after a split
abbrev dealt_books : {E : Type 0} → Option ℕ → ℕ → Books E → Books E
dealt_books hand to b = record { log = b.log; levels = b.levels; holder = b.holder; given = b.given + 1; dealer = b.dealer; home = λ n. cond (n == b.given) to (b.home n); owner = owners hand b.owner to }

module _ {N E : Type 0} (seat : E → ℕ) (name : N) (b : Books E) where
  -- a mark that is given away isn't owned any more, and the others are as they were
  owned_left : (hand : Option ℕ) (v : View N E) (to k : ℕ) → ((i : ℕ) → Owns v i → b.owner i ≡ k) → (i : ℕ) → Owns (after_split hand v) i → owners hand b.owner to i ≡ k
  owned_left None v to k owner i o = owner i o
  owned_left (Some j) v to k owner i o = ⊎_elim
      (λ (t : (i ≡ j) × ((m : Mark) × (get_elem? v.marks i ≡ some m) × (owned_mark false m ≡ o.0))). absurd (true≢false (sym o.2 ∙ ap (λ (m : Mark). m.owned) (sym t.1.2))))
      (λ (t : (i ≢ j) × (get_elem? v.marks i ≡ some o.0)). owners_else j b.owner to i t.0 ∙ owner i (o.0, t.1, o.2)) (at_with_mark (owned_mark false) j v.marks i o.0 o.1)

  left_fits : (hand : Option ℕ) (v : View N E) (i : ℕ) (m : Mark) (level : ℕ) → ((n : Mark) → get_elem? v.marks i ≡ some n → (n.lower ≤ level) × (n.owned ≡ true → n.at ≡ level)) → get_elem? (after_split hand v).marks i ≡ some m
      → (m.lower ≤ level) × (m.owned ≡ true → m.at ≡ level)
  left_fits None v i m level fits at = fits m at
  left_fits (Some j) v i m level fits at = ⊎_elim
      (λ (t : (i ≡ j) × ((n : Mark) × (get_elem? v.marks i ≡ some n) × (owned_mark false n ≡ m))).
      (subst (λ (n : Mark). n.lower ≤ level) t.1.2 (fits t.1.0 t.1.1).0, λ e. absurd (true≢false (sym e ∙ ap (λ (n : Mark). n.owned) (sym t.1.2)))))
      (λ (t : (i ≢ j) × (get_elem? v.marks i ≡ some m)). fits m t.1) (at_with_mark (owned_mark false) j v.marks i m at)

  split_sits : (hand : Option ℕ) (id to : ℕ) (v : View N E) → Sits seat name b id v → 0 < v.given → Sits seat name (dealt_books hand to b) id (after_split hand v)
  split_sits hand id to v x deals = record {
    named = x.named;
    begins = x.begins;
    own = x.own;
    parts = x.parts;
    apart = x.apart;
    numbers = λ n has. let low = (x.numbers n has).0 in let ne : n ≢ b.given = (λ e. omega arith) in (omega arith, ap (λ (t : Bool). cond t to (b.home n)) (ne_eqb n b.given ne) ∙ (x.numbers n has).1);
    wide = length-handed false hand v.marks ∙ x.wide;
    marks = λ i m level at at'. left_fits hand v i m level (λ n p. x.marks i n level p at') at;
    owns = owned_left hand v to id x.owns;
    holds = x.holds;
    deals = λ _. ((x.deals deals).0, ap (λ (n : ℕ). n + 1) (x.deals deals).1);
  }

  -- what the new seat knows of its marks
  dealt_fits : (hand : Option ℕ) (v : View N E) → MayHand hand v → (i : ℕ) (m : Mark) (level : ℕ) → ((n : Mark) → get_elem? v.marks i ≡ some n → (n.lower ≤ level) × (n.owned ≡ true → n.at ≡ level))
      → get_elem? (dealt_view hand v).marks i ≡ some m → (m.lower ≤ level) × (m.owned ≡ true → m.at ≡ level)
  dealt_fits None v may i m level fits at = let t = at_map_inv new_mark v.marks i m at in
      (subst (λ (n : Mark). n.lower ≤ level) t.2 zero-le, λ e. absurd (true≢false (sym e ∙ ap (λ (n : Mark). n.owned) (sym t.2))))
  dealt_fits (Some j) v may i m level fits at = ⊎_elim
      (λ (t : (i ≡ j) × ((n : Mark) × (get_elem? (map new_mark v.marks) i ≡ some n) × (owned_mark true n ≡ m))).
      let q = at_map_inv new_mark v.marks i t.1.0 t.1.1 in
      let same : q.0 ≡ may.0 = at_same v.marks i q.0 may.0 q.1 (subst (λ (n : ℕ). get_elem? v.marks n ≡ some may.0) (sym t.0) may.1) in
      let here : q.0.at ≡ level = (fits q.0 q.1).1 (ap (λ (n : Mark). n.owned) same ∙ may.2) in
      let at_is : m.at ≡ q.0.at = ap (λ (n : Mark). n.at) (sym t.1.2) ∙ ap (λ (n : Mark). n.at) (sym q.2) in
      let low_is : m.lower ≡ 0 = ap (λ (n : Mark). n.lower) (sym t.1.2) ∙ ap (λ (n : Mark). n.lower) (sym q.2) in
      (subst (λ (n : ℕ). n ≤ level) (sym low_is) zero-le, λ _. at_is ∙ here))
      (λ (t : (i ≢ j) × (get_elem? (map new_mark v.marks) i ≡ some m)). let q = at_map_inv new_mark v.marks i m t.1 in
      (subst (λ (n : Mark). n.lower ≤ level) q.2 zero-le, λ e. absurd (true≢false (sym e ∙ ap (λ (n : Mark). n.owned) (sym q.2))))) (at_with_mark (owned_mark true) j (map new_mark v.marks) i m at)

  dealt_owns : (hand : Option ℕ) (v : View N E) (to i : ℕ) → Owns (dealt_view hand v) i → owners hand b.owner to i ≡ to
  dealt_owns None v to i o = let t = at_map_inv new_mark v.marks i o.0 o.1 in absurd (true≢false (sym o.2 ∙ ap (λ (n : Mark). n.owned) (sym t.2)))
  dealt_owns (Some j) v to i o = ⊎_elim
      (λ (t : (i ≡ j) × ((n : Mark) × (get_elem? (map new_mark v.marks) i ≡ some n) × (owned_mark true n ≡ o.0))). owners_here j b.owner to i t.0)
      (λ (t : (i ≢ j) × (get_elem? (map new_mark v.marks) i ≡ some o.0)). let q = at_map_inv new_mark v.marks i o.0 t.1 in absurd (true≢false (sym o.2 ∙ ap (λ (n : Mark). n.owned) (sym q.2))))
      (at_with_mark (owned_mark true) j (map new_mark v.marks) i o.0 o.1)

  dealt_sits : (hand : Option ℕ) (id to : ℕ) (v : View N E) → Sits seat name b id v → Every (λ e. seat e < b.given) b.log → 0 < v.given → MayHand hand v → Sits seat name (dealt_books hand to b) to (dealt_view hand v)
  dealt_sits hand id to v x numbered deals may = let all = (x.deals deals).1 in record {
    named = x.named;
    begins = x.begins;
    own = sym (none_of seat v.given b.log (Every-weaker (λ (e : E). seat e < b.given) (λ (e : E). seat e ≢ v.given) (λ e low same. omega arith) b.log numbered));
    parts = tt;
    apart = λ i. i;
    numbers = λ n. ⊎_elim (λ (e : v.given ≡ n). (omega arith, ap (λ (t : Bool). cond t to (b.home n)) (eq-eqb n b.given (sym e ∙ all)))) (λ (i : ⊥). absurd i);
    wide = length-handed true hand (map new_mark v.marks) ∙ (length-map v.marks new_mark ∙ x.wide);
    marks = λ i m level at at'. dealt_fits hand v may i m level (λ n p. x.marks i n level p at') at;
    owns = dealt_owns hand v to;
    holds = λ e. absurd (true≢false (sym e));
    deals = λ d. absurd (omega arith);
  }

  other_owns : (hand : Option ℕ) (id to k : ℕ) (v u : View N E) → Sits seat name b id v → MayHand hand v → k ≢ id → ((i : ℕ) → Owns u i → b.owner i ≡ k) → (i : ℕ) → Owns u i → owners hand b.owner to i ≡ k
  other_owns None id to k v u x may ne owns i o = owns i o
  other_owns (Some j) id to k v u x may ne owns i o = dite (ℕ_discrete i j)
      (λ (e : i ≡ j). absurd (ne (sym (owns i o) ∙ (ap b.owner e ∙ x.owns j may))))
      (λ (other : i ≢ j). owners_else j b.owner to i other ∙ owns i o)

  other_sits : (hand : Option ℕ) (id to k : ℕ) (v u : View N E) → Sits seat name b id v → 0 < v.given → MayHand hand v → k ≢ id → Sits seat name b k u → Sits seat name (dealt_books hand to b) k u
  other_sits hand id to k v u x deals may ne y = record {
    named = y.named;
    begins = y.begins;
    own = y.own;
    parts = y.parts;
    apart = y.apart;
    numbers = λ n has. let low = (y.numbers n has).0 in let other : n ≢ b.given = (λ e. omega arith) in (omega arith, ap (λ (t : Bool). cond t to (b.home n)) (ne_eqb n b.given other) ∙ (y.numbers n has).1);
    wide = y.wide;
    marks = y.marks;
    owns = other_owns hand id to k v u x may ne y.owns;
    holds = y.holds;
    deals = λ d. absurd (ne (sym (y.deals d).0 ∙ (x.deals deals).0));
  }

-- a fact of a view at some place, among more views
there_too : {N E : Type 0} (views : List (View N E)) (w : View N E) (k : ℕ) (P : View N E → Type 0) → HoldsOf views k P → HoldsOf (views ++ w ∷ []) k P
there_too views w k P h = (h.0, at_longer views (w ∷ []) k h.0 h.1, h.2)

module _ {V N E : Type 0} (stands : V → N → List E → Type 0) (seat bound : E → ℕ) (name : N) (marks : ℕ) where
  -- each mark has its owner after the split
  split_owner : (hand : Option ℕ) (b : Books E) (views : List (View N E)) (id : ℕ) (v : View N E) → get_elem? views id ≡ some v → MayHand hand v → (i : ℕ) → HoldsOf views (b.owner i) (λ u. Owns u i)
      → HoldsOf (set views id (after_split hand v) ++ dealt_view hand v ∷ []) (owners hand b.owner (length views) i) (λ u. Owns u i)
  split_owner None b views id v at may i h = there_too (set views id (after_split None v)) (dealt_view None v) (b.owner i) (λ u. Owns u i) (set_there views id (b.owner i) v (after_split None v) (λ u. Owns u i) (λ u. Owns u i) at (λ o. o) (λ u o. o) h)
  split_owner (Some j) b views id v at may i h = dite (ℕ_discrete i j)
      (λ (e : i ≡ j). subst (λ (k : ℕ). HoldsOf (set views id (after_split (Some j) v) ++ dealt_view (Some j) v ∷ []) k (λ u. Owns u i)) (sym (owners_here j b.owner (length views) i e)) (
        dealt_view (Some j) v,
        at_last (set views id (after_split (Some j) v)) (dealt_view (Some j) v) (length views) (length-set views id (after_split (Some j) v)),
        subst (λ (k : ℕ). Owns (dealt_view (Some j) v) k) (sym e) (owned_mark true (new_mark may.0), with_mark_here (owned_mark true) j (map new_mark v.marks) (new_mark may.0) (at_mapped v.marks j may.0 may.1), refl),
      ))
      (λ (ne : i ≢ j). subst (λ (k : ℕ). HoldsOf (set views id (after_split (Some j) v) ++ dealt_view (Some j) v ∷ []) k (λ u. Owns u i)) (sym (owners_else j b.owner (length views) i ne))
      (there_too (set views id (after_split (Some j) v)) (dealt_view (Some j) v) (b.owner i) (λ u. Owns u i)
      (set_there views id (b.owner i) v (after_split (Some j) v) (λ u. Owns u i) (λ u. Owns u i) at (λ o. (o.0, with_mark_else (owned_mark false) j v.marks i ne ∙ o.1, o.2)) (λ u o. o) h)))
    where
      at_mapped : (ms : List Mark) (k : ℕ) (m : Mark) → get_elem? ms k ≡ some m → get_elem? (map new_mark ms) k ≡ some (new_mark m)
      at_mapped = Rattle.atomic_table.proofs.Lists.at_map new_mark

  pub splits : (id : ℕ) (v : View N E) (hand : Option ℕ) → v.name ≡ Some name → 0 < v.given → MayHand hand v → Splits (Rule stands seat bound name marks) id v (after_split hand v) (dealt_view hand v)
  splits id v hand is deals may s r at =
      let b = r.0 in let h = r.1 in
      let to : ℕ = length s.views in
      let x = acting stands seat bound name marks b s id v h at is in
      let left : View N E = after_split hand v in
      let right : View N E = dealt_view hand v in
      let n : ℕ = length s.views in
      let c : Books E = dealt_books hand to b in
      let each = set_each s.views id left (λ k u. (u ≡ spent) ⊎ Sits seat name b k u) (λ k u. (u ≡ spent) ⊎ Sits seat name c k u) h.views (inr (split_sits seat name b hand id to v x deals))
      (λ k u ne. ⊎_elim (λ (e : u ≡ spent). inl e) (λ (y : Sits seat name b k u). inr (other_sits seat name b hand id to k v u x deals may ne y))) in (
        c,
        record {
          words = h.words;
          value = h.value;
          wide = h.wide;
          bounds = h.bounds;
          numbered = Every-weaker (λ (e : E). seat e < b.given) (λ (e : E). seat e < b.given + 1) (λ e low. omega arith) b.log h.numbered;
          views = λ k u there. ⊎_elim (λ (t : (k < length (set s.views id left)) × (get_elem? (set s.views id left) k ≡ some u)). each k u t.1)
              (λ (t : (k ≡ length (set s.views id left)) × (right ≡ u)). inr (subst (λ (p : ℕ × View N E). Sits seat name c p.0 p.1) (λ i. (sym (t.0 ∙ length-set s.views id left) i, t.1 i)) (dealt_sits seat name b hand id to v x h.numbered deals may)))
              (at_end (set s.views id left) right u k there);
          holder = λ k e. there_too (set s.views id left) right k (λ u. u.holds ≡ true) (set_there s.views id k v left (λ u. u.holds ≡ true) (λ u. u.holds ≡ true) at (λ z. z) (λ u o. o) (h.holder k e));
          dealer = there_too (set s.views id left) right b.dealer (λ u. 0 < u.given) (set_there s.views id b.dealer v left (λ u. 0 < u.given) (λ u. 0 < u.given) at (λ z. omega arith) (λ u o. o) h.dealer);
          owner = λ j l. split_owner hand b s.views id v at may j (h.owner j l);
        },
      )
