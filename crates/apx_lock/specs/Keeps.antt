-- What holds between any two steps of a lock.
use Rattle.std.specs.Prelude.{◌≡◌, ℕ, ◌<◌, ◌≤◌, true, ◌⊎◌, List, [], ◌∷◌, length, Option, Some}
use mathlib.Core.Option.{none, some}
use lib.ListN.{get_elem?}
use Rattle.atomic_table.specs.Table.{State}
use Rattle.apx_lock.specs.declared.view.Mark.{Mark}
use Rattle.apx_lock.specs.declared.view.View.{View}
use Rattle.apx_lock.specs.Logs.{Every, StartsWith, entries_of}
use Rattle.apx_lock.specs.Views.{IsPart, Owns, HasNumber, spent}

-- What no word or view tells by itself. A view is named by its place among the views
pub record Books (E : Type 0) : Type 0 where
  -- the entries so far
  pub log : List E
  -- where each mark is
  pub levels : List ℕ
  -- the view that holds the turn, if it is taken
  pub holder : mathlib.Core.Option.Option ℕ
  -- how many numbers were given out
  pub given : ℕ
  -- the view that gives them out
  pub dealer : ℕ
  -- the view that has a number
  pub home : ℕ → ℕ
  -- the view that owns a mark
  pub owner : ℕ → ℕ

-- the turn word: 1 where the turn is taken
abbrev pub turn_word : mathlib.Core.Option.Option ℕ → ℕ
turn_word none = 0
turn_word (some k) = 1

-- what a seat knows of a mark fits where the mark is: it isn't below what was loaded, and is where its owner raised it to
abbrev pub MarkFits : ℕ → Mark → Type 0
MarkFits level m = (m.lower ≤ level) × (m.owned ≡ true → m.at ≡ level)

module _ {N E : Type 0} where
  -- P holds of the view at place k
  abbrev pub HoldsOf : List (View N E) → ℕ → (View N E → Type 0) → Type 0
  HoldsOf views k P = (v : View N E) × (get_elem? views k ≡ some v) × P v

  -- what holds of a seat's view, at place k of the views
  pub record Sits (seat : E → ℕ) (name : N) (b : Books E) (k : ℕ) (v : View N E) : Type 0 where
    pub named : v.name ≡ Some name
    -- the log begins with what it has seen
    pub begins : StartsWith b.log v.seen
    -- its own entries are all those with its number
    pub own : v.mine ≡ entries_of seat v.number b.log
    -- and so are those of each seat that was joined to it
    pub parts : Every (λ p. p.entries ≡ entries_of seat p.number b.log) v.kept
    pub apart : ¬ IsPart v.number v.kept
    -- its numbers were given out, and no other view has them
    pub numbers : (n : ℕ) → HasNumber v n → (n < b.given) × (b.home n ≡ k)
    -- it knows of each mark, and no other view owns those that it owns
    pub wide : length v.marks ≡ length b.levels
    pub marks : (j : ℕ) (m : Mark) (level : ℕ) → get_elem? v.marks j ≡ some m → get_elem? b.levels j ≡ some level
        → MarkFits level m
    pub owns : (j : ℕ) → Owns v j → b.owner j ≡ k
    -- where it holds the turn, no other does, and it has seen all
    pub holds : v.holds ≡ true → (b.holder ≡ some k) × (v.seen ≡ b.log)
    -- where it gives out the numbers, no other does
    pub deals : 0 < v.given → (b.dealer ≡ k) × (v.given ≡ b.given)

module _ {V N E : Type 0} (stands : V → N → List E → Type 0) where
  -- the value is at home and stands for the log; or it is out, with the view that holds the turn
  abbrev pub IsAtHome : N → List E → mathlib.Core.Option.Option ℕ → List (mathlib.Core.Option.Option (Option V)) → Type 0
  IsAtHome name log none homes = (value : V) × (homes ≡ some (Some value) ∷ []) × stands value name log
  IsAtHome name log (some k) homes = homes ≡ none ∷ []

  -- what holds of the table's words, its slot and its views
  pub record Holds (seat bound : E → ℕ) (name : N) (marks : ℕ) (b : Books E) (s : State (Option V) (View N E)) : Type 0 where
    -- the turn, the number of entries, and the marks
    pub words : s.words ≡ turn_word b.holder ∷ length b.log ∷ b.levels
    pub value : IsAtHome name b.log b.holder s.homes
    pub wide : length b.levels ≡ marks
    -- no entry has a bound above a mark
    pub bounds : (j level : ℕ) → get_elem? b.levels j ≡ some level → Every (λ e. bound e ≤ level) b.log
    -- a number that wasn't given out has no entry
    pub numbered : Every (λ e. seat e < b.given) b.log
    pub views : (k : ℕ) (v : View N E) → get_elem? s.views k ≡ some v → (v ≡ spent) ⊎ Sits seat name b k v
    -- the holder holds, the dealer deals, and each mark has an owner
    pub holder : (k : ℕ) → b.holder ≡ some k → HoldsOf s.views k (λ v. v.holds ≡ true)
    pub dealer : HoldsOf s.views b.dealer (λ v. 0 < v.given)
    pub owner : (j : ℕ) → j < marks → HoldsOf s.views (b.owner j) (λ v. Owns v j)

  -- there is such a log, with its books
  abbrev pub Keeps : (E → ℕ) → (E → ℕ) → N → ℕ → State (Option V) (View N E) → Type 0
  Keeps seat bound name marks s = (b : Books E) × Holds seat bound name marks b s
