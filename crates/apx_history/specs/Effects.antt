-- What an event changes. What isn't named stays.
use Rattle.std.specs.Prelude.{◌≡◌, ℕ, ◌+◌, Bool, true, false, cond, nat_le, List, [], ◌∷◌, ◌++◌, length, map, set, replicate, Option, None, Some}
use Rattle.std.specs.List.{filter}
use Rattle.apx_history.specs.declared.Event.{Event}
use Rattle.apx_history.specs.declared.Event.TheVariants.{Start, Write, Finish, Save, Advance, Commit, Purge, Kill, Repartition, End, Fault}
use Rattle.apx_history.specs.Plan.{Plan, line, count_or}
use Rattle.apx_history.specs.State.{Slot, State, fresh, slot, put, map_slots}
use Rattle.apx_history.specs.Enabled.{in_tree}

-- a partition that began window w by a worker
abbrev pub started : ℕ → ℕ → Slot → Slot
started w worker x = record x { opened = Some (w, worker) }

-- a partition that finished window w
abbrev pub finished : ℕ → Slot → Slot
finished w x = record x { at = w; opened = None }

-- a partition whose state after window w is saved
abbrev pub saves : ℕ → Slot → Slot
saves w x = record x { saved = x.saved ++ w ∷ [] }

-- a partition with its recovery checkpoint at w
abbrev pub advanced : ℕ → Slot → Slot
advanced w x = record x { rc = w }

-- a partition whose blocks up to window w are dropped
abbrev pub purged : ℕ → Slot → Slot
purged w x = record x { floor = w }

-- a partition without what it saved below window w
abbrev pub trimmed : ℕ → Slot → Slot
trimmed w x = record x { saved = filter (λ v. nat_le w v) x.saved }

-- a partition that went back to its recovery checkpoint: what it saved above is gone, and so are its blocks
abbrev pub back : Slot → Slot
back x = record { at = x.rc; opened = None; saved = filter (λ v. nat_le v x.rc) x.saved; rc = x.rc; floor = x.rc }

-- line l is left no longer
unfoldable pub meet : ℕ → State → State
meet l m = record m { left = set m.left l false }

-- operator o begins the epoch with boundary b, with n partitions
unfoldable pub split : ℕ → ℕ → ℕ → State → State
split o b n m = record m { ops = set m.ops o (record { boundary = b; parts = replicate n (fresh b) }) }

-- the partition, back at its recovery checkpoint where it is in the tree of line l
abbrev pub back_in : Plan → ℕ → ℕ → ℕ → Slot → Slot
back_in plan l o i x = cond (in_tree plan l o i) (back x) x

-- the state after the event, which a worker did
abbrev pub next : Plan → State → ℕ → Event → State
next plan m worker (Start o i w) = put m o i (started w worker (slot m o i))
next plan m worker (Write w) = record m { stored = w }
next plan m worker (Finish o i w) = put m o i (finished w (slot m o i))
next plan m worker (Save o i w) = put m o i (saves w (slot m o i))
next plan m worker (Advance o i w) = put m o i (advanced w (slot m o i))
next plan m worker (Commit w) = record (map_slots (λ o i. trimmed w) m) { committed = w }
next plan m worker (Purge o i w) = put m o i (purged w (slot m o i))
next plan m worker (Kill l) = meet l (map_slots (back_in plan l) m)
next plan m worker (Repartition l) = meet l (split (line plan l).op (line plan l).window (count_or 0 (line plan l).act) m)
next plan m worker End = record m { ended = true }
next plan m worker (Fault s) = record m { fault = Some s }
