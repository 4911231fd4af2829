-- The steps of a turn keep the rule: taking it or finding it taken, reading the count, counting an entry, giving it back.
use Rattle.std.proofs.Common.{◌≡◌, ℕ, ◌+◌, ◌%◌, ◌^◌, ◌<◌, ◌≤◌, ◌≢◌, true, List, [], ◌∷◌, ◌++◌, length, set, slice_index, slice_set, Option, Some, sym, refl, ap, ◌∙◌, subst, inl, inr, arith, ◌==◌, length-append, mod-eq_of_lt, le_trans, append-nil}
use mathlib.Core.Option.{none, some, some-injective, some-ne-none}
use lib.ListN.{get_elem?}
use lib.Seq.{set-get_or}
use prog.Atomic.{either}
use Rattle.atomic_table.specs.Table.{State, Me, Act, step, keeps, takes, gives, Allows, Valid, homes_after, carried_after, put_back}
use Rattle.apx_lock.specs.declared.view.View.{View}
use Rattle.apx_lock.specs.Views.{IsPart, HasNumber, after_take, after_refusal, after_look, after_entry, after_leave}
use Rattle.apx_lock.specs.Keeps.{Books, turn_word, Sits, IsAtHome, Holds}
use Rattle.apx_lock.specs.Steps.{MayAdd, Tries, Looks, CountsOne, GivesBack}
use Rattle.apx_lock.proofs.Lists.{Every-append, at_inside, at_some, starts_longer, starts_itself}
use Rattle.apx_lock.proofs.Entries.{one_own, one_other, parts_other}
use Rattle.apx_lock.proofs.Places.{rewritten, Rule, acting, is_whole, next, calm, counting, another_holder, one_holder}
use Rattle.atomic_table.proofs.Lists.{set_here}

module _ {V N E : Type 0} (stands : V → N → List E → Type 0) (seat bound : E → ℕ) (name : N) (marks : ℕ) where
  abbrev M : Type 0
  M = Me (Option V) (View N E)

  abbrev R : State (Option V) (View N E) → Type 0
  R = Rule stands seat bound name marks

  abbrev T : Type 0
  T = State (Option V) (View N E)

  -- what is owed of a try, at these words
  abbrev TryAt : (slots id : ℕ) → M → T → List ℕ → Type 0
  TryAt slots id m s ws = (w : View N E) × (a : Act (Option V)) × Valid s.homes m.1 a
      × R record { words = slice_set ws 0 (either (slice_index ws 0 == 0) 1 (slice_index ws 0)); homes = homes_after s.homes m.1 a; views = slice_set s.views id w }
      × Tries stands seat bound (step slots 0 0 1 none) m (slice_index ws 0) (w, carried_after m.1 a)

  try_free : (slots id : ℕ) (m : M) (s : T) (b : Books E) → Holds stands seat bound name marks b s → get_elem? s.views id ≡ some m.0 → m.0.name ≡ Some name → b.holder ≡ none → TryAt slots id m s (0 ∷ length b.log ∷ b.levels)
  try_free slots id m s b h at is free =
      let x = acting stands seat bound name marks b s id m.0 h at is in
      let home = subst (λ (o : mathlib.Core.Option.Option ℕ). IsAtHome stands name b.log o s.homes) free h.value in
      let w : View N E = after_take b.log m.0 in
      let idle : (k : ℕ) (u : View N E) → Sits seat name b k u → u.holds ≡ true → ⊥ = λ k u y e. some-ne-none k (sym (y.holds e).0 ∙ free) in
      let sits : Sits seat name (rewritten b b.log b.levels (some id)) id w = record { named = x.named; begins = starts_itself b.log; own = x.own; parts = x.parts; apart = x.apart; numbers = x.numbers; wide = x.wide; marks = x.marks; owns = x.owns; holds = λ _. (refl, refl); deals = x.deals } in (
        w,
        takes 0 (Some home.0),
        ap (λ (hs : List (mathlib.Core.Option.Option (Option V))). get_elem? hs 0) home.1,
        next stands seat bound name marks b s h id m.0 w b.log b.levels (some id) (1 ∷ length b.log ∷ b.levels) (slice_set s.homes 0 none) at refl (ap (λ (hs : List (mathlib.Core.Option.Option (Option V))). slice_set hs 0 none) home.1) h.wide h.bounds h.numbered sits
            (λ k u ne y. another_holder seat name b k (some id) u (idle k u y) y)
            (λ k e. (w, subst (λ (i : ℕ). get_elem? (set s.views id w) i ≡ some w) (some-injective id k e) (set_here s.views id w (at_inside s.views id m.0 at)), refl))
            (λ d. d) (λ j o. o),
        (
          λ _. record {
            value = home.0;
            slot = refl;
            stand = λ n e. subst (λ (i : N). stands home.0 i b.log) (let f : ◌≡◌ {A = Option N} (Some name) (Some n) = sym is ∙ e in cc) home.2;
            view = refl;
            seen = x.begins;
            whole = is_whole stands seat bound name marks b s id m.0 h x;
          },
          λ ne. absurd (ne refl),
        ),
      )

  try_taken : (slots id : ℕ) (m : M) (s : T) (b : Books E) (k : ℕ) → Holds stands seat bound name marks b s → get_elem? s.views id ≡ some m.0 → m.0.name ≡ Some name → b.holder ≡ some k → TryAt slots id m s (1 ∷ length b.log ∷ b.levels)
  try_taken slots id m s b k h at is held =
      let x = acting stands seat bound name marks b s id m.0 h at is in
      let w : View N E = after_refusal m.0 in (
        w,
        keeps,
        tt,
        calm stands seat bound name marks b s h id m.0 w (1 ∷ length b.log ∷ b.levels) at (ap (λ (o : mathlib.Core.Option.Option ℕ). turn_word o ∷ length b.log ∷ b.levels) (sym held)) (counting seat name b id (m.0.refused + 1) m.0.looks m.0 x) (λ e. e) (λ d. d) (λ j o. o),
        (λ z. absurd (omega arith), λ _. refl),
      )

  try_at : (slots id : ℕ) (m : M) (s : T) (b : Books E) → Holds stands seat bound name marks b s → get_elem? s.views id ≡ some m.0 → m.0.name ≡ Some name → (o : mathlib.Core.Option.Option ℕ) → b.holder ≡ o
      → TryAt slots id m s (turn_word o ∷ length b.log ∷ b.levels)
  try_at slots id m s b h at is none e = try_free slots id m s b h at is e
  try_at slots id m s b h at is (some k) e = try_taken slots id m s b k h at is e

  pub tries : (slots id : ℕ) (m : M) → m.0.name ≡ Some name → Allows R slots id m 0 (λ n. either (n == 0) 1 n) (Tries stands seat bound (step slots 0 0 1 none) m)
  tries slots id m is s r sized at small = subst (TryAt slots id m s) (sym r.1.words) (try_at slots id m s r.0 r.1 at is r.0.holder refl)

  pub looks : (slots id : ℕ) (m : M) → m.0.name ≡ Some name → m.0.holds ≡ true → Allows R slots id m 1 (λ n. n) (Looks stands seat bound (step slots 1 0 0 none) m)
  looks slots id m is holds s r sized at small =
      let b = r.0 in let h = r.1 in
      let x = acting stands seat bound name marks b s id m.0 h at is in
      let w : View N E = after_look m.0 in (
        w,
        keeps,
        tt,
        calm stands seat bound name marks b s h id m.0 w (slice_set s.words 1 (slice_index s.words 1)) at (set-get_or s.words 1 0 ∙ h.words) (counting seat name b id m.0.refused (m.0.looks + 1) m.0 x) (λ e. e) (λ d. d) (λ j o. o),
        (ap (λ (ws : List ℕ). slice_index ws 1) h.words ∙ ap (λ (l : List E). length l) (sym (x.holds holds).1), refl),
      )

  -- the views of the others, once an entry of another number is counted
  other_counted : (b : Books E) (id k : ℕ) (v u : View N E) (e : E) → Sits seat name b id v → v.holds ≡ true → seat e ≡ v.number → k ≢ id → Sits seat name b k u → Sits seat name (rewritten b (b.log ++ e ∷ []) b.levels (some id)) k u
  other_counted b id k v u e x holds own ne y =
      let apart : (n : ℕ) → HasNumber u n → seat e ≢ n = λ n has same. ne (sym (y.numbers n has).1 ∙ (ap b.home (sym same ∙ own) ∙ (x.numbers v.number (inl refl)).1)) in record {
        named = y.named;
        begins = starts_longer b.log u.seen (e ∷ []) y.begins;
        own = y.own ∙ sym (one_other seat u.number b.log e (apart u.number (inl refl)));
        parts = parts_other seat b.log e u.kept (λ n i. apart n (inr i)) y.parts;
        apart = y.apart;
        numbers = y.numbers;
        wide = y.wide;
        marks = y.marks;
        owns = y.owns;
        holds = λ z. absurd (one_holder seat name b id k v u x holds ne y z);
        deals = y.deals;
      }

  self_counted : (b : Books E) (id : ℕ) (v : View N E) (e : E) → Sits seat name b id v → v.holds ≡ true → seat e ≡ v.number → Sits seat name (rewritten b (b.log ++ e ∷ []) b.levels (some id)) id (after_entry e v)
  self_counted b id v e x holds own = let all = (x.holds holds).1 in record {
    named = x.named;
    begins = ([], ap (λ (l : List E). l ++ e ∷ []) (sym all) ∙ sym (append-nil (v.seen ++ e ∷ [])));
    own = ap (λ (l : List E). l ++ e ∷ []) x.own ∙ sym (one_own seat v.number b.log e own);
    parts = parts_other seat b.log e v.kept (λ n i same. x.apart (subst (λ (k : ℕ). IsPart k v.kept) (sym same ∙ own) i)) x.parts;
    apart = x.apart;
    numbers = x.numbers;
    wide = x.wide;
    marks = x.marks;
    owns = x.owns;
    holds = λ _. (refl, ap (λ (l : List E). l ++ e ∷ []) all);
    deals = x.deals;
  }

  pub counts : (slots id : ℕ) (m : M) (value : V) (e : E) → m.0.name ≡ Some name → m.0.holds ≡ true → m.1 ≡ (0, Some value) ∷ [] → stands value name (m.0.seen ++ e ∷ []) → MayAdd seat bound m.0 e → length m.0.seen + 1 < 2 ^ 64
      → Allows R slots id m 1 (λ n. (n + 1) % 2 ^ 64) (CountsOne stands seat bound (step slots 1 1 0 none) m)
  counts slots id m value e is holds slot stand may few s r sized at small =
      let b = r.0 in let h = r.1 in
      let x = acting stands seat bound name marks b s id m.0 h at is in
      let held = (x.holds holds).0 in
      let all = (x.holds holds).1 in
      let out : s.homes ≡ none ∷ [] = subst (λ (o : mathlib.Core.Option.Option ℕ). IsAtHome stands name b.log o s.homes) held h.value in
      let w : View N E = after_entry e m.0 in
      let fits : length b.log + 1 < 2 ^ 64 = subst (λ (l : List E). length l + 1 < 2 ^ 64) all few in
      let more : (length b.log + 1) % 2 ^ 64 ≡ length (b.log ++ e ∷ []) = mod-eq_of_lt fits ∙ sym (length-append b.log (e ∷ [])) in
      let words : s.words ≡ 1 ∷ length b.log ∷ b.levels = h.words ∙ ap (λ (o : mathlib.Core.Option.Option ℕ). turn_word o ∷ length b.log ∷ b.levels) held in (
        w,
        keeps,
        tt,
        next stands seat bound name marks b s h id m.0 w (b.log ++ e ∷ []) b.levels (some id) (slice_set s.words 1 ((slice_index s.words 1 + 1) % 2 ^ 64)) s.homes at
            (ap (λ (ws : List ℕ). slice_set ws 1 ((slice_index ws 1 + 1) % 2 ^ 64)) words ∙ ap (λ (n : ℕ). 1 ∷ n ∷ b.levels) more) out h.wide
            (λ j level there. let wide = x.wide in let mark = at_some m.0.marks j (let i = at_inside b.levels j level there in omega arith) in
            Every-append (λ (i : E). bound i ≤ level) b.log (e ∷ []) (h.bounds j level there) (le_trans (may.bounded j mark.0 mark.1) (x.marks j mark.0 level mark.1 there).0, tt))
            (Every-append (λ (i : E). seat i < b.given) b.log (e ∷ []) h.numbered (subst (λ (n : ℕ). n < b.given) (sym may.own) (x.numbers m.0.number (inl refl)).0, tt))
            (self_counted b id m.0 e x holds may.own) (λ k u ne y. other_counted b id k m.0 u e x holds may.own ne y)
            (λ k i. (w, subst (λ (j : ℕ). get_elem? (set s.views id w) j ≡ some w) (some-injective id k i) (set_here s.views id w (at_inside s.views id m.0 at)), holds))
            (λ d. d) (λ j o. o),
        record {
          entry = e;
          may = may;
          stand = λ other n i j. let p : ◌≡◌ {A = List (ℕ × Option V)} ((0, Some value) ∷ []) ((0, Some other) ∷ []) = sym slot ∙ i in let q : ◌≡◌ {A = Option N} (Some name) (Some n) = sym is ∙ j in
              let p' : ◌≡◌ {A = Option V} (Some value) (Some other) = ap (λ (l : List (ℕ × Option V)). held_first l value) p in
              let p'' : value ≡ other = cc in let q' : name ≡ n = cc in
              subst (λ (z : V). stands z n (m.0.seen ++ e ∷ [])) p'' (subst (λ (z : N). stands value z (m.0.seen ++ e ∷ [])) q' stand);
          after = refl;
        },
      )
    where
      held_first : List (ℕ × Option V) → V → Option V
      held_first [] v = Some v
      held_first (x ∷ xs) v = x.1

  pub gives_back : (slots id : ℕ) (m : M) (value : V) → m.0.name ≡ Some name → m.0.holds ≡ true → m.1 ≡ (0, Some value) ∷ [] → stands value name m.0.seen
      → Allows R slots id m 0 (λ _. 0) (GivesBack stands seat bound (step slots 0 0 0 none) m)
  gives_back slots id m value is holds slot stand s r sized at small =
      let b = r.0 in let h = r.1 in
      let x = acting stands seat bound name marks b s id m.0 h at is in
      let held = (x.holds holds).0 in
      let all = (x.holds holds).1 in
      let out : s.homes ≡ none ∷ [] = subst (λ (o : mathlib.Core.Option.Option ℕ). IsAtHome stands name b.log o s.homes) held h.value in
      let w : View N E = after_leave m.0 in
      let home : put_back s.homes m.1 ≡ some (Some value) ∷ [] = ap (λ (c : List (ℕ × Option V)). put_back s.homes c) slot ∙ ap (λ (hs : List (mathlib.Core.Option.Option (Option V))). slice_set hs 0 (some (Some value))) out in
      let sits : Sits seat name (rewritten b b.log b.levels none) id w = record { named = x.named; begins = x.begins; own = x.own; parts = x.parts; apart = x.apart; numbers = x.numbers; wide = x.wide; marks = x.marks; owns = x.owns; holds = λ e. absurd (cc); deals = x.deals } in (
        w,
        gives,
        tt,
        next stands seat bound name marks b s h id m.0 w b.log b.levels none (slice_set s.words 0 0) (put_back s.homes m.1) at (ap (λ (ws : List ℕ). slice_set ws 0 0) h.words)
            (value, home, subst (λ (l : List E). stands value name l) all stand) h.wide h.bounds h.numbered sits
            (λ k u ne y. another_holder seat name b k none u (one_holder seat name b id k m.0 u x holds ne y) y)
            (λ k e. absurd (some-ne-none k (sym e))) (λ d. d) (λ j o. o),
        refl,
      )
