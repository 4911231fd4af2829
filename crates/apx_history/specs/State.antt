-- The state of the machine, and how it is read and changed.
use Rattle.std.specs.Prelude.{◌≡◌, ℕ, zero, suc, ◌+◌, ◌<◌, min, Bool, true, false, cond, ◌&&◌, ◌||◌, ◌==◌, List, [], ◌∷◌, length, get_or, set, Option, None, Some, is_none}

-- A partition: its last finished window; the window that it has open, with the worker who began it; the windows
-- whose states are saved; its recovery checkpoint; and the last window whose blocks were dropped.
pub record Slot : Type 0 where
  -- its last finished window
  pub at : ℕ
  -- the window that is open and the worker who began it, if any
  pub opened : Option (ℕ × ℕ)
  -- the windows whose states are saved, in ascending order
  pub saved : List ℕ
  -- its recovery checkpoint: the window to which a kill takes it back
  pub rc : ℕ
  -- the last window whose blocks were dropped
  pub floor : ℕ

-- an operator: the boundary of its epoch, and its partitions
pub record Oper : Type 0 where
  -- the window behind which its epoch began
  pub boundary : ℕ
  -- its partitions
  pub parts : List Slot

-- The machine: the operators; what every partition has behind it for good; the last stored window; which lines of
-- the script are left; whether the run is over; the status that it stopped with.
pub record State : Type 0 where
  -- the operators
  pub ops : List Oper
  -- the window that no partition may go back before
  pub committed : ℕ
  -- the last window in the store
  pub stored : ℕ
  -- for each line of the script whether it is left
  pub left : List Bool
  -- the run is over
  pub ended : Bool
  -- the status that the run stopped with, if any
  pub fault : Option ℕ

-- a partition that has just begun behind window w
abbrev pub fresh : ℕ → Slot
fresh w = record { at = w; opened = None; saved = w ∷ []; rc = w; floor = w }

-- an operator that isn't there
abbrev pub no_oper : Oper
no_oper = record { boundary = 0; parts = [] }

-- operator o, one without partitions where it isn't there
abbrev pub oper : State → ℕ → Oper
oper m o = get_or m.ops o no_oper

-- how many partitions operator o has
abbrev pub parts : State → ℕ → ℕ
parts m o = length (oper m o).parts

-- partition i of operator o
abbrev pub slot : State → ℕ → ℕ → Slot
slot m o i = get_or (oper m o).parts i (fresh 0)

-- partition i of operator o is there
abbrev pub IsPart : State → ℕ → ℕ → Type 0
IsPart m o i = (o < length m.ops) × (i < parts m o)

-- line l is left
abbrev pub is_left : State → ℕ → Bool
is_left m l = get_or m.left l false

-- the run goes on
abbrev pub running : State → Bool
running m = cond m.ended false (is_none m.fault)

-- the window that is open
abbrev pub open_window : Option (ℕ × ℕ) → Option ℕ
open_window None = None
open_window (Some w) = Some w.0

-- the worker who began the open window
abbrev pub open_worker : Option (ℕ × ℕ) → Option ℕ
open_worker None = None
open_worker (Some w) = Some w.1

-- w is the open window
abbrev pub opens : ℕ → Option (ℕ × ℕ) → Bool
opens w None = false
opens w (Some o) = o.0 == w

-- each number below n passes
unfoldable pub all_below : ℕ → (ℕ → Bool) → Bool
all_below zero p = true
all_below (suc n) p = p n && all_below n p

-- each partition of operator o passes
abbrev pub all_parts : State → ℕ → (ℕ → Bool) → Bool
all_parts m o p = all_below (parts m o) p

-- each partition passes
abbrev pub all_slots : State → (ℕ → ℕ → Bool) → Bool
all_slots m p = all_below (length m.ops) (λ o. all_parts m o (p o))

-- the least of n numbers and d
unfoldable pub lowest : ℕ → (ℕ → ℕ) → ℕ → ℕ
lowest zero f d = d
lowest (suc n) f d = min (f n) (lowest n f d)

-- the least of a number of each partition, and d
abbrev pub lowest_slot : State → (ℕ → ℕ → ℕ) → ℕ → ℕ
lowest_slot m f d = lowest (length m.ops) (λ o. lowest (parts m o) (f o) d) d

-- each member with its place made into another, the first place being n
unfoldable pub map_from : {X : Type 0} → ℕ → (ℕ → X → X) → List X → List X
map_from n f [] = []
map_from n f (x ∷ xs) = f n x ∷ map_from (n + 1) f xs

-- the state with x as partition i of operator o
unfoldable pub put : State → ℕ → ℕ → Slot → State
put m o i x = record m { ops = set m.ops o (record { boundary = (oper m o).boundary; parts = set (oper m o).parts i x }) }

-- the state with each partition made into another
unfoldable pub map_slots : (ℕ → ℕ → Slot → Slot) → State → State
map_slots f m = record m { ops = map_from 0 (λ o p. record { boundary = p.boundary; parts = map_from 0 (f o) p.parts }) m.ops }
