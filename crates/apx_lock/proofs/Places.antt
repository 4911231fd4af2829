-- What a step that changes one view keeps.
use Rattle.std.proofs.Common.{◌≡◌, ℕ, ◌<◌, ◌≤◌, ◌≢◌, ◌⊎◌, true, List, ◌∷◌, length, set, Option, Some, None, sym, ap, ◌∙◌, subst, inl, inr, ⊎_elim, arith}
use mathlib.Core.Option.{none, some, some-injective, some-ne-none}
use lib.ListN.{get_elem?}
use Rattle.atomic_table.specs.Table.{State}
use Rattle.apx_lock.specs.declared.view.View.{View}
use Rattle.apx_lock.specs.Logs.{Every}
use Rattle.apx_lock.specs.Views.{Owns, spent}
use Rattle.apx_lock.specs.Keeps.{Books, turn_word, HoldsOf, Sits, IsAtHome, Holds, Keeps}
use Rattle.apx_lock.specs.Steps.{IsWhole}
use Rattle.apx_lock.proofs.Lists.{set_each, set_there, at_inside, at_some}

-- the books with another log, other marks and another holder
abbrev pub rewritten : {E : Type 0} → Books E → List E → List ℕ → mathlib.Core.Option.Option ℕ → Books E
rewritten b log levels holder = record { log = log; levels = levels; holder = holder; given = b.given; dealer = b.dealer; home = b.home; owner = b.owner }

module _ {V N E : Type 0} (stands : V → N → List E → Type 0) (seat bound : E → ℕ) (name : N) (marks : ℕ) where
  abbrev pub S : Type 0
  S = State (Option V) (View N E)

  abbrev pub Rule : S → Type 0
  Rule = Keeps stands seat bound name marks

  abbrev pub Held : Books E → S → Type 0
  Held b s = Holds stands seat bound name marks b s

  -- the view of a seat that wasn't joined away
  pub acting : (b : Books E) (s : S) (id : ℕ) (v : View N E) → Held b s → get_elem? s.views id ≡ some v → v.name ≡ Some name → Sits seat name b id v
  acting b s id v h at is = ⊎_elim (λ (e : v ≡ spent). let n : ◌≡◌ {A = Option N} None (Some name) = ap (λ (u : View N E). u.name) (sym e) ∙ is in absurd (cc)) (λ (x : Sits seat name b id v). x) (h.views id v at)

  -- a view that holds the whole log knows which entries are whose, and what its marks bound
  pub is_whole : (b : Books E) (s : S) (id : ℕ) (v : View N E) → Held b s → Sits seat name b id v → IsWhole seat bound (record v { holds = true; seen = b.log })
  is_whole b s id v h x = record {
    own = x.own;
    parts = x.parts;
    bounds = λ j m at owned. let wide = x.wide in let l = at_some b.levels j (let i = at_inside v.marks j m at in omega arith) in let fits = x.marks j m l.0 at l.1 in
        subst (λ (n : ℕ). Every (λ (e : E). bound e ≤ n) b.log) (sym (fits.1 owned)) (h.bounds j l.0 l.1);
  }

  pub next : (b : Books E) (s : S) (h : Held b s) (id : ℕ) (v w : View N E) (log : List E) (levels : List ℕ) (holder : mathlib.Core.Option.Option ℕ) (ws : List ℕ) (hs : List (mathlib.Core.Option.Option (Option V)))
      → get_elem? s.views id ≡ some v → ws ≡ turn_word holder ∷ length log ∷ levels → IsAtHome stands name log holder hs → length levels ≡ marks
      → ((j level : ℕ) → get_elem? levels j ≡ some level → Every (λ e. bound e ≤ level) log) → Every (λ e. seat e < b.given) log
      → Sits seat name (rewritten b log levels holder) id w → ((k : ℕ) (u : View N E) → k ≢ id → Sits seat name b k u → Sits seat name (rewritten b log levels holder) k u)
      → ((k : ℕ) → holder ≡ some k → HoldsOf (set s.views id w) k (λ u. u.holds ≡ true)) → (0 < v.given → 0 < w.given) → ((j : ℕ) → Owns v j → Owns w j)
      → Rule record { words = ws; homes = hs; views = set s.views id w }
  next b s h id v w log levels holder ws hs at words value wide bounds numbered mine others held deals owns = (
    rewritten b log levels holder,
    record {
      words = words;
      value = value;
      wide = wide;
      bounds = bounds;
      numbered = numbered;
      views = set_each s.views id w (λ k u. (u ≡ spent) ⊎ Sits seat name b k u) (λ k u. (u ≡ spent) ⊎ Sits seat name (rewritten b log levels holder) k u) h.views (inr mine)
          (λ k u ne. ⊎_elim (λ (e : u ≡ spent). inl e) (λ (x : Sits seat name b k u). inr (others k u ne x)));
      holder = held;
      dealer = set_there s.views id b.dealer v w (λ u. 0 < u.given) (λ u. 0 < u.given) at deals (λ u d. d) h.dealer;
      owner = λ j l. set_there s.views id (b.owner j) v w (λ u. Owns u j) (λ u. Owns u j) at (owns j) (λ u o. o) (h.owner j l);
    },
  )

  -- the same, where neither the log nor a mark nor the holder changes
  pub calm : (b : Books E) (s : S) (h : Held b s) (id : ℕ) (v w : View N E) (ws : List ℕ) → get_elem? s.views id ≡ some v → ws ≡ turn_word b.holder ∷ length b.log ∷ b.levels
      → Sits seat name b id w → (v.holds ≡ true → w.holds ≡ true) → (0 < v.given → 0 < w.given) → ((j : ℕ) → Owns v j → Owns w j)
      → Rule record { words = ws; homes = s.homes; views = set s.views id w }
  calm b s h id v w ws at words mine held deals owns = next b s h id v w b.log b.levels b.holder ws s.homes at words h.value h.wide h.bounds h.numbered mine (λ k u ne x. x)
      (λ k e. set_there s.views id k v w (λ u. u.holds ≡ true) (λ u. u.holds ≡ true) at held (λ u o. o) (h.holder k e)) deals owns

-- a view in which nothing but a count changed
pub counting : {N E : Type 0} (seat : E → ℕ) (name : N) (b : Books E) (k r l : ℕ) (v : View N E) → Sits seat name b k v → Sits seat name b k (record v { refused = r; looks = l })
counting seat name b k r l v x = record { named = x.named; begins = x.begins; own = x.own; parts = x.parts; apart = x.apart; numbers = x.numbers; wide = x.wide; marks = x.marks; owns = x.owns; holds = x.holds; deals = x.deals }

-- a view that doesn't hold the turn, where another holder comes
pub another_holder : {N E : Type 0} (seat : E → ℕ) (name : N) (b : Books E) (k : ℕ) (holder : mathlib.Core.Option.Option ℕ) (v : View N E) → (v.holds ≡ true → ⊥) → Sits seat name b k v
    → Sits seat name (rewritten b b.log b.levels holder) k v
another_holder seat name b k holder v idle x = record { named = x.named; begins = x.begins; own = x.own; parts = x.parts; apart = x.apart; numbers = x.numbers; wide = x.wide; marks = x.marks; owns = x.owns; holds = λ e. absurd (idle e); deals = x.deals }

-- one view holds the turn at most
pub one_holder : {N E : Type 0} (seat : E → ℕ) (name : N) (b : Books E) (id k : ℕ) (v u : View N E) → Sits seat name b id v → v.holds ≡ true → k ≢ id → Sits seat name b k u → u.holds ≡ true → ⊥
one_holder seat name b id k v u x holds ne y e = ne (some-injective k id (sym (y.holds e).0 ∙ (x.holds holds).0))
