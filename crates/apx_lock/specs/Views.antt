-- What a seat knows, and how each kind of step changes it.
use Rattle.std.specs.Prelude.{◌≡◌, ℕ, zero, suc, ◌+◌, ◌≤◌, Bool, true, false, ◌⊎◌, List, [], ◌∷◌, ◌++◌, map, replicate, Option, Some, None, if◌then◌else◌, nat_lt}
use mathlib.Core.Option.{some}
use lib.ListN.{get_elem?}
use Rattle.apx_lock.specs.declared.view.Mark.{Mark}
use Rattle.apx_lock.specs.declared.view.Part.{Part}
use Rattle.apx_lock.specs.declared.view.View.{View}
use Rattle.apx_lock.specs.Logs.{longer}

-- so many zeros
abbrev pub zeros : ℕ → List ℕ
zeros n = replicate n 0

-- the number is that of one of the parts
abbrev pub IsPart : {E : Type 0} → ℕ → List (Part E) → Type 0
IsPart n [] = ⊥
IsPart n (p ∷ ps) = (p.number ≡ n) ⊎ IsPart n ps

-- the marks, with f made of mark j
abbrev pub with_mark : (Mark → Mark) → ℕ → List Mark → List Mark
with_mark f j [] = []
with_mark f zero (m ∷ ms) = f m ∷ ms
with_mark f (suc j) (m ∷ ms) = m ∷ with_mark f j ms

-- a mark of a new lock, which its first seat owns
abbrev pub first_mark : Mark
first_mark = record { owned = true; at = 0; lower = 0; loads = 0 }

-- a mark that is owned from now on, or no longer
abbrev pub owned_mark : Bool → Mark → Mark
owned_mark b m = record m { owned = b }

-- a mark that was raised
abbrev pub raised_mark : ℕ → Mark → Mark
raised_mark to m = record m { at = to }

-- a mark that was loaded and found at a number
abbrev pub loaded_mark : ℕ → Mark → Mark
loaded_mark found m = record m { lower = found; loads = m.loads + 1 }

-- what a new seat knows of a mark: where the seat that it was split from had raised it to, and nothing else
abbrev pub new_mark : Mark → Mark
new_mark m = record { owned = false; at = m.at; lower = 0; loads = 0 }

-- a mark that is owned where the other seat owned it, and there is where that seat raised it to
abbrev pub joined_mark : Mark → Mark → Mark
joined_mark m other = if other.owned then record m { owned = true; at = other.at } else m

-- each mark joined with the other seat's
abbrev pub joined_marks : List Mark → List Mark → List Mark
joined_marks [] others = []
joined_marks (m ∷ ms) [] = m ∷ ms
joined_marks (m ∷ ms) (other ∷ others) = joined_mark m other ∷ joined_marks ms others

-- the marks, of which the one that is handed over is owned from now on, or no longer
abbrev pub handed : Bool → Option ℕ → List Mark → List Mark
handed b None ms = ms
handed b (Some j) ms = with_mark (owned_mark b) j ms

module _ {N E : Type 0} where
  -- the seat owns mark j
  abbrev pub Owns : View N E → ℕ → Type 0
  Owns v j = (m : Mark) × (get_elem? v.marks j ≡ some m) × (m.owned ≡ true)

  -- the seat owns mark j, which it hasn't raised above `to`
  abbrev pub OwnsUpTo : View N E → ℕ → ℕ → Type 0
  OwnsUpTo v j to = (m : Mark) × (get_elem? v.marks j ≡ some m) × (m.owned ≡ true) × (m.at ≤ to)

  -- the mark that is handed over, if there is one, is the seat's
  abbrev pub MayHand : Option ℕ → View N E → Type 0
  MayHand None v = Unit {0}
  MayHand (Some j) v = Owns v j

  -- the number is the seat's own, or that of a seat that was joined to it
  abbrev pub HasNumber : View N E → ℕ → Type 0
  HasNumber v n = (v.number ≡ n) ⊎ IsPart n v.kept

  -- the first seat: it has number 0, owns every mark, each of which is 0, and gives out the numbers
  abbrev pub first_view : N → ℕ → View N E
  first_view name marks = record {
    name = Some name;
    number = 0;
    kept = [];
    seen = [];
    mine = [];
    marks = replicate marks first_mark;
    holds = false;
    refused = 0;
    looks = 0;
    given = 1;
  }

  -- what is left of a seat that was joined to another
  abbrev pub spent : View N E
  spent = record {
    name = None;
    number = 0;
    kept = [];
    seen = [];
    mine = [];
    marks = [];
    holds = false;
    refused = 0;
    looks = 0;
    given = 0;
  }

  -- after it took the turn: it has seen the whole log
  abbrev pub after_take : List E → View N E → View N E
  after_take log v = record v { holds = true; seen = log }

  -- after it found the turn taken
  abbrev pub after_refusal : View N E → View N E
  after_refusal v = record v { refused = v.refused + 1 }

  -- after it read the count
  abbrev pub after_look : View N E → View N E
  after_look v = record v { looks = v.looks + 1 }

  -- after it counted an entry
  abbrev pub after_entry : E → View N E → View N E
  after_entry e v = record v { seen = v.seen ++ e ∷ []; mine = v.mine ++ e ∷ [] }

  -- after it gave the turn back
  abbrev pub after_leave : View N E → View N E
  after_leave v = record v { holds = false }

  -- after it raised mark j
  abbrev pub after_raise : ℕ → ℕ → View N E → View N E
  after_raise j to v = record v { marks = with_mark (raised_mark to) j v.marks }

  -- after it loaded mark j
  abbrev pub after_load : ℕ → ℕ → View N E → View N E
  after_load j found v = record v { marks = with_mark (loaded_mark found) j v.marks }

  -- after a seat was split from it: one number more is given out, and the mark that goes to the new seat isn't its own
  abbrev pub after_split : Option ℕ → View N E → View N E
  after_split hand v = record v { marks = handed false hand v.marks; given = v.given + 1 }

  -- the seat that was split from it: it has the next number, has seen as much, and owns the mark that was handed over
  abbrev pub dealt_view : Option ℕ → View N E → View N E
  dealt_view hand v = record {
    name = v.name;
    number = v.given;
    kept = [];
    seen = v.seen;
    mine = [];
    marks = handed true hand (map new_mark v.marks);
    holds = false;
    refused = 0;
    looks = 0;
    given = 0;
  }

  -- the parts of both seats, and the other seat's own entries as one more
  abbrev pub joined_parts : View N E → View N E → List (Part E)
  joined_parts v other = v.kept ++ (record { number = other.number; entries = other.mine }) ∷ other.kept

  -- after another seat was joined to it
  abbrev pub after_join : View N E → View N E → View N E
  after_join v other = record v {
    kept = joined_parts v other;
    seen = longer v.seen other.seen;
    marks = joined_marks v.marks other.marks;
    given = if nat_lt 0 other.given then other.given else v.given;
  }
