-- What each kind of step tells the thread that makes it.
use Rattle.std.specs.Prelude.{◌≡◌, ℕ, ◌+◌, ◌≤◌, ◌≢◌, true, ◌⊎◌, List, [], ◌∷◌, ◌++◌, length, Option, Some}
use mathlib.Core.Option.{some}
use lib.ListN.{get_elem?}
use Rattle.atomic_table.specs.Table.{Me, Step, rest}
use Rattle.apx_lock.specs.declared.view.Mark.{Mark}
use Rattle.apx_lock.specs.declared.view.View.{View}
use Rattle.apx_lock.specs.Logs.{Every, StartsWith, entries_of}
use Rattle.apx_lock.specs.Views.{HasNumber, after_take, after_refusal, after_look, after_entry, after_leave, after_raise, after_load}

module _ {N E : Type 0} where
  -- What a seat knows of the log that it has seen, where that is the whole log
  pub record IsWhole (seat bound : E → ℕ) (v : View N E) : Type 0 where
    -- its own entries are all those with its number, and so are those of each seat that was joined to it
    pub own : v.mine ≡ entries_of seat v.number v.seen
    pub parts : Every (λ p. p.entries ≡ entries_of seat p.number v.seen) v.kept
    -- no entry has a bound above a mark that it owns
    pub bounds : (j : ℕ) (m : Mark) → get_elem? v.marks j ≡ some m → m.owned ≡ true → Every (λ e. bound e ≤ m.at) v.seen

  -- the entry may be added: it bears the seat's number, and its bound isn't above what the seat loaded of any mark
  pub record MayAdd (seat bound : E → ℕ) (v : View N E) (e : E) : Type 0 where
    pub own : seat e ≡ v.number
    pub bounded : (j : ℕ) (m : Mark) → get_elem? v.marks j ≡ some m → bound e ≤ m.lower

  -- the same seat: its name, numbers, marks and what it gives out stayed, whatever it has seen and added
  pub record IsSameSeat (old new : View N E) : Type 0 where
    pub name : new.name ≡ old.name
    pub number : new.number ≡ old.number
    pub kept : new.kept ≡ old.kept
    pub marks : new.marks ≡ old.marks
    pub given : new.given ≡ old.given

  -- the seat that entered: it holds the turn, has seen the whole log, and looked once more
  pub record Entered (seat bound : E → ℕ) (old new : View N E) : Type 0 where
    pub view : new ≡ record (after_look (after_take new.seen old)) { refused = new.refused }
    pub tries : old.refused ≤ new.refused
    pub seen : StartsWith new.seen old.seen
    pub whole : IsWhole seat bound new

module _ {V N E : Type 0} (stands : V → N → List E → Type 0) (seat bound : E → ℕ) where
  abbrev Sat : Type 0
  Sat = Me (Option V) (View N E)

  -- the value stands for the log that the seat has seen, or for that log with one entry that may be added
  abbrev pub MayLeave : N → V → View N E → Type 0
  MayLeave name value v = stands value name v.seen ⊎ ((e : E) × stands value name (v.seen ++ e ∷ []) × MayAdd seat bound v e)

  -- the seat that left: it doesn't hold the turn, and nothing else changed, or one entry was added, which is its own
  abbrev pub Leaves : View N E → View N E → Type 0
  Leaves old new = (new ≡ after_leave old) ⊎ ((e : E) × MayAdd seat bound old e × (new ≡ after_leave (after_entry e old)))

  -- the turn was taken, and the value with it
  pub record Takes (m n : Me (Option V) (View N E)) : Type 0 where
    pub value : V
    pub slot : n.1 ≡ (0, Some value) ∷ m.1
    pub stand : (name : N) → m.0.name ≡ Some name → stands value name n.0.seen
    pub view : n.0 ≡ after_take n.0.seen m.0
    pub seen : StartsWith n.0.seen m.0.seen
    pub whole : IsWhole seat bound n.0

  -- kinds 1 and 2: the turn was taken, or it was found taken
  abbrev pub Tries : Step (Option V) → Sat → ℕ → Sat → Type 0
  Tries st m found n = (found ≡ 0 → Takes m n) × (found ≢ 0 → n ≡ (after_refusal m.0, m.1))

  -- the number of entries, read while the seat holds the turn
  abbrev pub Looks : Step (Option V) → Sat → ℕ → Sat → Type 0
  Looks st m found n = (found ≡ length m.0.seen) × (n ≡ (after_look m.0, m.1))

  -- one entry was counted: the value that lies in the slot stands for the log with it
  pub record Counts (m n : Me (Option V) (View N E)) : Type 0 where
    pub entry : E
    pub may : MayAdd seat bound m.0 entry
    pub stand : (value : V) (name : N) → m.1 ≡ (0, Some value) ∷ [] → m.0.name ≡ Some name
        → stands value name (m.0.seen ++ entry ∷ [])
    pub after : n ≡ (after_entry entry m.0, m.1)

  abbrev pub CountsOne : Step (Option V) → Sat → ℕ → Sat → Type 0
  CountsOne st m found n = Counts m n

  -- the turn was given back
  abbrev pub GivesBack : Step (Option V) → Sat → ℕ → Sat → Type 0
  GivesBack st m found n = n ≡ (after_leave m.0, rest m.1)

  -- a mark was raised
  abbrev pub Raises : Step (Option V) → Sat → ℕ → Sat → Type 0
  Raises st m found n = (j : ℕ) → st.word ≡ 2 + j → n ≡ (after_raise j st.first m.0, m.1)

  -- a mark was loaded: it isn't below what an earlier load found
  abbrev pub Loads : Step (Option V) → Sat → ℕ → Sat → Type 0
  Loads st m found n = (j : ℕ) → st.word ≡ 2 + j
      → (n ≡ (after_load j found m.0, m.1)) × ((k : Mark) → get_elem? m.0.marks j ≡ some k → k.lower ≤ found)

  -- What is known of a lock that was closed by the seat that has every number: there was one log
  pub record Ends (name : N) (value : V) (v : View N E) : Type 0 where
    pub log : List E
    -- the value stands for it
    pub stand : stands value name log
    pub seen : StartsWith log v.seen
    -- the seat's own entries, and those that it keeps, are all that bear these numbers
    pub own : v.mine ≡ entries_of seat v.number log
    pub parts : Every (λ p. p.entries ≡ entries_of seat p.number log) v.kept
    -- and no other number has an entry
    pub numbered : Every (λ e. HasNumber v (seat e)) log
