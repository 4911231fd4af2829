-- The table of events by examples: for each of its conditions an event that is refused by that condition alone, and may
-- come one change away. That a window is at most the last one follows from the limit.
use Rattle.std.proofs.Common.{◌≡◌, ℕ, Bool, true, false, List, [], ◌∷◌, ◌++◌, map, refl, Option, None, Some}
use Rattle.apx_history.specs.declared.Event.{Event}
use Rattle.apx_history.specs.declared.Event.TheVariants.{Start, Write, Finish, Save, Advance, Commit, Purge, Kill, Repartition, End, Fault}
use Rattle.apx_history.specs.Plan.{Before, Staged, Written, Done, Fails, Splits, Line, Operator, Plan, has}
use Rattle.apx_history.specs.State.{Slot, Oper, State, fresh, all_below, lowest, map_from, put, map_slots}
use Rattle.apx_history.specs.Enabled.{limit_in, at_point, due, in_tree, calm, calm_above, sources_have, readers_rc, readers_reach, greatest, advance_to, least_rc, tree_closed, rests_at, all_met, can_start, can_write, can_finish, can_save, can_advance, can_commit, can_purge, can_kill, can_repartition, can_end, can}
use Rattle.apx_history.specs.Effects.{meet, split, next}

-- a chain of three operators, of which the middle one has two partitions
abbrev chain : ℕ → ℕ → List Line → Plan
chain windows every lines = record {
  windows = windows;
  every = every;
  sink = 2;
  operators = record { sources = []; under = 1 ∷ 2 ∷ []; first = 1 } ∷ record { sources = 0 ∷ []; under = 2 ∷ []; first = 2 } ∷ record { sources = 1 ∷ []; under = []; first = 1 } ∷ [];
  lines = lines;
}

-- a closed partition, by its last window, its saved windows, its recovery checkpoint and its floor
abbrev rest : ℕ → List ℕ → ℕ → ℕ → Slot
rest at saved rc floor = record { at = at; opened = None; saved = saved; rc = rc; floor = floor }

-- the same with window w open
abbrev busy : ℕ → ℕ → List ℕ → ℕ → ℕ → Slot
busy at w saved rc floor = record { at = at; opened = Some (w, 0); saved = saved; rc = rc; floor = floor }

-- the first operator's partition, the two of the middle one, in the epoch with boundary b, and the sink's
abbrev state : ℕ → Slot → Slot → Slot → Slot → ℕ → ℕ → List Bool → State
state b x y z s committed stored left = record {
  ops = record { boundary = 0; parts = x ∷ [] } ∷ record { boundary = b; parts = y ∷ z ∷ [] } ∷ record { boundary = 0; parts = s ∷ [] } ∷ [];
  committed = committed;
  stored = stored;
  left = left;
  ended = false;
  fault = None;
}

-- the middle operator with a third partition, which has just begun
abbrev wider : State → State
wider m = record m { ops = record { boundary = 0; parts = rest 4 (0 ∷ 2 ∷ 4 ∷ []) 0 0 ∷ [] } ∷ record { boundary = 0; parts = fresh 0 ∷ fresh 0 ∷ fresh 0 ∷ [] } ∷ record { boundary = 0; parts = fresh 0 ∷ [] } ∷ [] }

abbrev kill : ℕ → ℕ → ℕ → List Line
kill op window part = record { op = op; window = window; act = Fails Before part } ∷ []

abbrev kill_staged : ℕ → ℕ → ℕ → List Line
kill_staged op window part = record { op = op; window = window; act = Fails Staged part } ∷ []

abbrev kill_written : ℕ → ℕ → ℕ → List Line
kill_written op window part = record { op = op; window = window; act = Fails Written part } ∷ []

abbrev kill_done : ℕ → ℕ → ℕ → List Line
kill_done op window part = record { op = op; window = window; act = Fails Done part } ∷ []

abbrev splits_at : ℕ → ℕ → ℕ → List Line
splits_at op window count = record { op = op; window = window; act = Splits count } ∷ []

abbrev on : List Bool
on = true ∷ []

abbrev off : List Bool
off = false ∷ []

-- Start: may come; not the next window; the window after, once it is next; no such partition; it is there; no such operator; open; more than four intervals ahead; a later commit; behind the next repartition; which was met; the last window; a checkpoint is owed; none is owed there; a source is behind; a source that has just finished it; its kill is due; its kill was met; a kill above is due; a kill above was met; a kill beside it is due
start_row : (can (chain 6 2 []) (state 0 (rest 4 (0 ∷ 2 ∷ 4 ∷ []) 0 0) (rest 2 (0 ∷ 2 ∷ []) 0 0) (rest 3 (0 ∷ 2 ∷ []) 0 0) (rest 2 (0 ∷ 2 ∷ []) 0 0) 0 2 []) (Start 1 0 3)
    ∷ can (chain 6 2 []) (state 0 (rest 4 (0 ∷ 2 ∷ 4 ∷ []) 0 0) (rest 2 (0 ∷ 2 ∷ []) 0 0) (rest 3 (0 ∷ 2 ∷ []) 0 0) (rest 2 (0 ∷ 2 ∷ []) 0 0) 0 2 []) (Start 1 0 4)
    ∷ can (chain 6 2 []) (state 0 (rest 4 (0 ∷ 2 ∷ 4 ∷ []) 0 0) (rest 3 (0 ∷ 2 ∷ []) 0 0) (rest 3 (0 ∷ 2 ∷ []) 0 0) (rest 2 (0 ∷ 2 ∷ []) 0 0) 0 2 []) (Start 1 0 4)
    ∷ can (chain 6 2 []) (state 0 (rest 4 (0 ∷ 2 ∷ 4 ∷ []) 0 0) (rest 2 (0 ∷ 2 ∷ []) 0 0) (rest 3 (0 ∷ 2 ∷ []) 0 0) (rest 2 (0 ∷ 2 ∷ []) 0 0) 0 2 []) (Start 1 2 1)
    ∷ can (chain 6 2 []) (wider (state 0 (rest 4 (0 ∷ 2 ∷ 4 ∷ []) 0 0) (rest 2 (0 ∷ 2 ∷ []) 0 0) (rest 3 (0 ∷ 2 ∷ []) 0 0) (rest 2 (0 ∷ 2 ∷ []) 0 0) 0 2 [])) (Start 1 2 1)
    ∷ can (chain 6 2 []) (state 0 (rest 4 (0 ∷ 2 ∷ 4 ∷ []) 0 0) (rest 2 (0 ∷ 2 ∷ []) 0 0) (rest 3 (0 ∷ 2 ∷ []) 0 0) (rest 2 (0 ∷ 2 ∷ []) 0 0) 0 2 []) (Start 3 0 1)
    ∷ can (chain 6 2 []) (state 0 (rest 4 (0 ∷ 2 ∷ 4 ∷ []) 0 0) (busy 2 3 (0 ∷ 2 ∷ []) 0 0) (rest 3 (0 ∷ 2 ∷ []) 0 0) (rest 2 (0 ∷ 2 ∷ []) 0 0) 0 2 []) (Start 1 0 3)
    ∷ can (chain 6 1 []) (state 0 (rest 5 (0 ∷ 1 ∷ 2 ∷ 3 ∷ 4 ∷ 5 ∷ []) 0 0) (rest 4 (0 ∷ 1 ∷ 2 ∷ 3 ∷ 4 ∷ []) 0 0) (rest 3 (0 ∷ 2 ∷ []) 0 0) (rest 2 (0 ∷ 2 ∷ []) 0 0) 0 2 []) (Start 1 0 5)
    ∷ can (chain 6 1 []) (state 0 (rest 5 (0 ∷ 1 ∷ 2 ∷ 3 ∷ 4 ∷ 5 ∷ []) 0 0) (rest 4 (0 ∷ 1 ∷ 2 ∷ 3 ∷ 4 ∷ []) 0 0) (rest 3 (0 ∷ 2 ∷ []) 0 0) (rest 2 (0 ∷ 2 ∷ []) 0 0) 1 2 []) (Start 1 0 5)
    ∷ can (chain 6 2 (splits_at 1 2 1)) (state 0 (rest 4 (0 ∷ 2 ∷ 4 ∷ []) 0 0) (rest 2 (0 ∷ 2 ∷ []) 0 0) (rest 3 (0 ∷ 2 ∷ []) 0 0) (rest 2 (0 ∷ 2 ∷ []) 0 0) 0 2 on) (Start 1 0 3)
    ∷ can (chain 6 2 (splits_at 1 2 1)) (state 0 (rest 4 (0 ∷ 2 ∷ 4 ∷ []) 0 0) (rest 2 (0 ∷ 2 ∷ []) 0 0) (rest 3 (0 ∷ 2 ∷ []) 0 0) (rest 2 (0 ∷ 2 ∷ []) 0 0) 0 2 off) (Start 1 0 3)
    ∷ can (chain 2 2 []) (state 0 (rest 4 (0 ∷ 2 ∷ 4 ∷ []) 0 0) (rest 2 (0 ∷ 2 ∷ []) 0 0) (rest 3 (0 ∷ 2 ∷ []) 0 0) (rest 2 (0 ∷ 2 ∷ []) 0 0) 0 2 []) (Start 1 0 3)
    ∷ can (chain 6 2 []) (state 0 (rest 4 (0 ∷ 2 ∷ 4 ∷ []) 0 0) (rest 2 (0 ∷ []) 0 0) (rest 3 (0 ∷ 2 ∷ []) 0 0) (rest 2 (0 ∷ 2 ∷ []) 0 0) 0 2 []) (Start 1 0 3)
    ∷ can (chain 6 2 []) (state 0 (rest 4 (0 ∷ 2 ∷ 4 ∷ []) 0 0) (rest 1 (0 ∷ []) 0 0) (rest 3 (0 ∷ 2 ∷ []) 0 0) (rest 2 (0 ∷ 2 ∷ []) 0 0) 0 2 []) (Start 1 0 2)
    ∷ can (chain 6 2 []) (state 0 (rest 2 (0 ∷ 2 ∷ []) 0 0) (rest 2 (0 ∷ 2 ∷ []) 0 0) (rest 3 (0 ∷ 2 ∷ []) 0 0) (rest 2 (0 ∷ 2 ∷ []) 0 0) 0 2 []) (Start 1 0 3)
    ∷ can (chain 6 2 []) (state 0 (rest 3 (0 ∷ 2 ∷ []) 0 0) (rest 2 (0 ∷ 2 ∷ []) 0 0) (rest 3 (0 ∷ 2 ∷ []) 0 0) (rest 2 (0 ∷ 2 ∷ []) 0 0) 0 2 []) (Start 1 0 3)
    ∷ can (chain 6 2 (kill 1 3 0)) (state 0 (rest 4 (0 ∷ 2 ∷ 4 ∷ []) 0 0) (rest 2 (0 ∷ 2 ∷ []) 0 0) (rest 3 (0 ∷ 2 ∷ []) 0 0) (rest 2 (0 ∷ 2 ∷ []) 0 0) 0 2 on) (Start 1 0 3)
    ∷ can (chain 6 2 (kill 1 3 0)) (state 0 (rest 4 (0 ∷ 2 ∷ 4 ∷ []) 0 0) (rest 2 (0 ∷ 2 ∷ []) 0 0) (rest 3 (0 ∷ 2 ∷ []) 0 0) (rest 2 (0 ∷ 2 ∷ []) 0 0) 0 2 off) (Start 1 0 3)
    ∷ can (chain 6 2 (kill_done 0 4 0)) (state 0 (rest 4 (0 ∷ 2 ∷ 4 ∷ []) 0 0) (rest 2 (0 ∷ 2 ∷ []) 0 0) (rest 3 (0 ∷ 2 ∷ []) 0 0) (rest 2 (0 ∷ 2 ∷ []) 0 0) 0 2 on) (Start 1 0 3)
    ∷ can (chain 6 2 (kill_done 0 4 0)) (state 0 (rest 4 (0 ∷ 2 ∷ 4 ∷ []) 0 0) (rest 2 (0 ∷ 2 ∷ []) 0 0) (rest 3 (0 ∷ 2 ∷ []) 0 0) (rest 2 (0 ∷ 2 ∷ []) 0 0) 0 2 off) (Start 1 0 3)
    ∷ can (chain 6 2 (kill_done 1 3 1)) (state 0 (rest 4 (0 ∷ 2 ∷ 4 ∷ []) 0 0) (rest 2 (0 ∷ 2 ∷ []) 0 0) (rest 3 (0 ∷ 2 ∷ []) 0 0) (rest 2 (0 ∷ 2 ∷ []) 0 0) 0 2 on) (Start 1 0 3) ∷ []) ≡ (true ∷ false ∷ true ∷ false ∷ true ∷ false ∷ false ∷ false ∷ true ∷ false ∷ true ∷ false ∷ false ∷ true ∷ false ∷ true ∷ false ∷ true ∷ false ∷ true ∷ true ∷ [])
unfolding has all_below lowest map_from put map_slots limit_in at_point due in_tree calm calm_above sources_have readers_rc readers_reach greatest advance_to least_rc tree_closed rests_at all_met can_start can_write can_finish can_save can_advance can_commit can_purge can_kill can_repartition can_end meet split
start_row = refl

-- Write: may come; closed; another window is open; a window before is not stored; stored already; its kill is due; its kill was met
write_row : (can (chain 6 2 []) (state 0 (rest 4 (0 ∷ 2 ∷ 4 ∷ []) 0 0) (rest 2 (0 ∷ 2 ∷ []) 0 0) (rest 3 (0 ∷ 2 ∷ []) 0 0) (busy 2 3 (0 ∷ 2 ∷ []) 0 0) 0 2 []) (Write 3)
    ∷ can (chain 6 2 []) (state 0 (rest 4 (0 ∷ 2 ∷ 4 ∷ []) 0 0) (rest 2 (0 ∷ 2 ∷ []) 0 0) (rest 3 (0 ∷ 2 ∷ []) 0 0) (rest 2 (0 ∷ 2 ∷ []) 0 0) 0 2 []) (Write 3)
    ∷ can (chain 6 2 []) (state 0 (rest 4 (0 ∷ 2 ∷ 4 ∷ []) 0 0) (rest 2 (0 ∷ 2 ∷ []) 0 0) (rest 3 (0 ∷ 2 ∷ []) 0 0) (busy 2 4 (0 ∷ 2 ∷ []) 0 0) 0 2 []) (Write 3)
    ∷ can (chain 6 2 []) (state 0 (rest 4 (0 ∷ 2 ∷ 4 ∷ []) 0 0) (rest 2 (0 ∷ 2 ∷ []) 0 0) (rest 3 (0 ∷ 2 ∷ []) 0 0) (busy 2 3 (0 ∷ 2 ∷ []) 0 0) 0 1 []) (Write 3)
    ∷ can (chain 6 2 []) (state 0 (rest 4 (0 ∷ 2 ∷ 4 ∷ []) 0 0) (rest 2 (0 ∷ 2 ∷ []) 0 0) (rest 3 (0 ∷ 2 ∷ []) 0 0) (busy 2 3 (0 ∷ 2 ∷ []) 0 0) 0 3 []) (Write 3)
    ∷ can (chain 6 2 (kill_staged 2 3 0)) (state 0 (rest 4 (0 ∷ 2 ∷ 4 ∷ []) 0 0) (rest 2 (0 ∷ 2 ∷ []) 0 0) (rest 3 (0 ∷ 2 ∷ []) 0 0) (busy 2 3 (0 ∷ 2 ∷ []) 0 0) 0 2 on) (Write 3)
    ∷ can (chain 6 2 (kill_staged 2 3 0)) (state 0 (rest 4 (0 ∷ 2 ∷ 4 ∷ []) 0 0) (rest 2 (0 ∷ 2 ∷ []) 0 0) (rest 3 (0 ∷ 2 ∷ []) 0 0) (busy 2 3 (0 ∷ 2 ∷ []) 0 0) 0 2 off) (Write 3) ∷ []) ≡ (true ∷ false ∷ false ∷ false ∷ false ∷ false ∷ true ∷ [])
unfolding has all_below lowest map_from put map_slots limit_in at_point due in_tree calm calm_above sources_have readers_rc readers_reach greatest advance_to least_rc tree_closed rests_at all_met can_start can_write can_finish can_save can_advance can_commit can_purge can_kill can_repartition can_end meet split
write_row = refl

-- Finish: may come; closed; another window; nothing stored, and not the sink; the sink before its window is stored; the sink after; its kill is due; its kill was met; a kill beside it is due
finish_row : (can (chain 6 2 []) (state 0 (rest 4 (0 ∷ 2 ∷ 4 ∷ []) 0 0) (busy 2 3 (0 ∷ 2 ∷ []) 0 0) (rest 3 (0 ∷ 2 ∷ []) 0 0) (rest 2 (0 ∷ 2 ∷ []) 0 0) 0 2 []) (Finish 1 0 3)
    ∷ can (chain 6 2 []) (state 0 (rest 4 (0 ∷ 2 ∷ 4 ∷ []) 0 0) (rest 2 (0 ∷ 2 ∷ []) 0 0) (rest 3 (0 ∷ 2 ∷ []) 0 0) (rest 2 (0 ∷ 2 ∷ []) 0 0) 0 2 []) (Finish 1 0 3)
    ∷ can (chain 6 2 []) (state 0 (rest 4 (0 ∷ 2 ∷ 4 ∷ []) 0 0) (busy 2 3 (0 ∷ 2 ∷ []) 0 0) (rest 3 (0 ∷ 2 ∷ []) 0 0) (rest 2 (0 ∷ 2 ∷ []) 0 0) 0 2 []) (Finish 1 0 4)
    ∷ can (chain 6 2 []) (state 0 (rest 4 (0 ∷ 2 ∷ 4 ∷ []) 0 0) (busy 2 3 (0 ∷ 2 ∷ []) 0 0) (rest 3 (0 ∷ 2 ∷ []) 0 0) (rest 2 (0 ∷ 2 ∷ []) 0 0) 0 0 []) (Finish 1 0 3)
    ∷ can (chain 6 2 []) (state 0 (rest 4 (0 ∷ 2 ∷ 4 ∷ []) 0 0) (rest 2 (0 ∷ 2 ∷ []) 0 0) (rest 3 (0 ∷ 2 ∷ []) 0 0) (busy 2 3 (0 ∷ 2 ∷ []) 0 0) 0 2 []) (Finish 2 0 3)
    ∷ can (chain 6 2 []) (state 0 (rest 4 (0 ∷ 2 ∷ 4 ∷ []) 0 0) (rest 2 (0 ∷ 2 ∷ []) 0 0) (rest 3 (0 ∷ 2 ∷ []) 0 0) (busy 2 3 (0 ∷ 2 ∷ []) 0 0) 0 3 []) (Finish 2 0 3)
    ∷ can (chain 6 2 (kill_staged 1 3 0)) (state 0 (rest 4 (0 ∷ 2 ∷ 4 ∷ []) 0 0) (busy 2 3 (0 ∷ 2 ∷ []) 0 0) (rest 3 (0 ∷ 2 ∷ []) 0 0) (rest 2 (0 ∷ 2 ∷ []) 0 0) 0 2 on) (Finish 1 0 3)
    ∷ can (chain 6 2 (kill_staged 1 3 0)) (state 0 (rest 4 (0 ∷ 2 ∷ 4 ∷ []) 0 0) (busy 2 3 (0 ∷ 2 ∷ []) 0 0) (rest 3 (0 ∷ 2 ∷ []) 0 0) (rest 2 (0 ∷ 2 ∷ []) 0 0) 0 2 off) (Finish 1 0 3)
    ∷ can (chain 6 2 (kill_done 1 3 1)) (state 0 (rest 4 (0 ∷ 2 ∷ 4 ∷ []) 0 0) (busy 2 3 (0 ∷ 2 ∷ []) 0 0) (rest 3 (0 ∷ 2 ∷ []) 0 0) (rest 2 (0 ∷ 2 ∷ []) 0 0) 0 2 on) (Finish 1 0 3) ∷ []) ≡ (true ∷ false ∷ false ∷ true ∷ false ∷ true ∷ false ∷ true ∷ true ∷ [])
unfolding has all_below lowest map_from put map_slots limit_in at_point due in_tree calm calm_above sources_have readers_rc readers_reach greatest advance_to least_rc tree_closed rests_at all_met can_start can_write can_finish can_save can_advance can_commit can_purge can_kill can_repartition can_end meet split
finish_row = refl

-- Save: may come; not its last window; that window, once it is the last; window 0; no checkpoint there; a checkpoint there by another interval; saved already; open; its kill is due; its kill was met
save_row : (can (chain 6 2 []) (state 0 (rest 4 (0 ∷ 2 ∷ 4 ∷ []) 0 0) (rest 2 (0 ∷ []) 0 0) (rest 3 (0 ∷ 2 ∷ []) 0 0) (rest 2 (0 ∷ 2 ∷ []) 0 0) 0 2 []) (Save 1 0 2)
    ∷ can (chain 6 2 []) (state 0 (rest 4 (0 ∷ 2 ∷ 4 ∷ []) 0 0) (rest 2 (0 ∷ []) 0 0) (rest 3 (0 ∷ 2 ∷ []) 0 0) (rest 2 (0 ∷ 2 ∷ []) 0 0) 0 2 []) (Save 1 0 4)
    ∷ can (chain 6 2 []) (state 0 (rest 4 (0 ∷ 2 ∷ 4 ∷ []) 0 0) (rest 4 (0 ∷ []) 0 0) (rest 3 (0 ∷ 2 ∷ []) 0 0) (rest 2 (0 ∷ 2 ∷ []) 0 0) 0 2 []) (Save 1 0 4)
    ∷ can (chain 6 2 []) (state 0 (rest 4 (0 ∷ 2 ∷ 4 ∷ []) 0 0) (rest 0 [] 0 0) (rest 3 (0 ∷ 2 ∷ []) 0 0) (rest 2 (0 ∷ 2 ∷ []) 0 0) 0 2 []) (Save 1 0 0)
    ∷ can (chain 6 2 []) (state 0 (rest 4 (0 ∷ 2 ∷ 4 ∷ []) 0 0) (rest 3 (0 ∷ 2 ∷ []) 0 0) (rest 3 (0 ∷ 2 ∷ []) 0 0) (rest 2 (0 ∷ 2 ∷ []) 0 0) 0 2 []) (Save 1 0 3)
    ∷ can (chain 6 3 []) (state 0 (rest 4 (0 ∷ 2 ∷ 4 ∷ []) 0 0) (rest 3 (0 ∷ []) 0 0) (rest 3 (0 ∷ 2 ∷ []) 0 0) (rest 2 (0 ∷ 2 ∷ []) 0 0) 0 2 []) (Save 1 0 3)
    ∷ can (chain 6 2 []) (state 0 (rest 4 (0 ∷ 2 ∷ 4 ∷ []) 0 0) (rest 2 (0 ∷ 2 ∷ []) 0 0) (rest 3 (0 ∷ 2 ∷ []) 0 0) (rest 2 (0 ∷ 2 ∷ []) 0 0) 0 2 []) (Save 1 0 2)
    ∷ can (chain 6 2 []) (state 0 (rest 4 (0 ∷ 2 ∷ 4 ∷ []) 0 0) (busy 2 3 (0 ∷ []) 0 0) (rest 3 (0 ∷ 2 ∷ []) 0 0) (rest 2 (0 ∷ 2 ∷ []) 0 0) 0 2 []) (Save 1 0 2)
    ∷ can (chain 6 2 (kill 1 3 0)) (state 0 (rest 4 (0 ∷ 2 ∷ 4 ∷ []) 0 0) (rest 2 (0 ∷ []) 0 0) (rest 3 (0 ∷ 2 ∷ []) 0 0) (rest 2 (0 ∷ 2 ∷ []) 0 0) 0 2 on) (Save 1 0 2)
    ∷ can (chain 6 2 (kill 1 3 0)) (state 0 (rest 4 (0 ∷ 2 ∷ 4 ∷ []) 0 0) (rest 2 (0 ∷ []) 0 0) (rest 3 (0 ∷ 2 ∷ []) 0 0) (rest 2 (0 ∷ 2 ∷ []) 0 0) 0 2 off) (Save 1 0 2) ∷ []) ≡ (true ∷ false ∷ true ∷ false ∷ false ∷ true ∷ false ∷ false ∷ false ∷ true ∷ [])
unfolding has all_below lowest map_from put map_slots limit_in at_point due in_tree calm calm_above sources_have readers_rc readers_reach greatest advance_to least_rc tree_closed rests_at all_met can_start can_write can_finish can_save can_advance can_commit can_purge can_kill can_repartition can_end meet split
save_row = refl

-- Advance: may come; not the greatest; above a reader; the greatest that the reader lets it have; not saved; there already; the sink has no reader; a reader of two is behind; neither is; its kill is due; its kill was met
advance_row : (can (chain 6 2 []) (state 0 (rest 4 (0 ∷ 2 ∷ 4 ∷ []) 0 0) (rest 4 (0 ∷ 2 ∷ 4 ∷ []) 0 0) (rest 3 (0 ∷ 2 ∷ []) 0 0) (rest 4 (0 ∷ 2 ∷ 4 ∷ []) 4 0) 0 2 []) (Advance 1 0 4)
    ∷ can (chain 6 2 []) (state 0 (rest 4 (0 ∷ 2 ∷ 4 ∷ []) 0 0) (rest 4 (0 ∷ 2 ∷ 4 ∷ []) 0 0) (rest 3 (0 ∷ 2 ∷ []) 0 0) (rest 4 (0 ∷ 2 ∷ 4 ∷ []) 4 0) 0 2 []) (Advance 1 0 2)
    ∷ can (chain 6 2 []) (state 0 (rest 4 (0 ∷ 2 ∷ 4 ∷ []) 0 0) (rest 4 (0 ∷ 2 ∷ 4 ∷ []) 0 0) (rest 3 (0 ∷ 2 ∷ []) 0 0) (rest 4 (0 ∷ 2 ∷ 4 ∷ []) 2 0) 0 2 []) (Advance 1 0 4)
    ∷ can (chain 6 2 []) (state 0 (rest 4 (0 ∷ 2 ∷ 4 ∷ []) 0 0) (rest 4 (0 ∷ 2 ∷ 4 ∷ []) 0 0) (rest 3 (0 ∷ 2 ∷ []) 0 0) (rest 4 (0 ∷ 2 ∷ 4 ∷ []) 2 0) 0 2 []) (Advance 1 0 2)
    ∷ can (chain 6 2 []) (state 0 (rest 4 (0 ∷ 2 ∷ 4 ∷ []) 0 0) (rest 4 (0 ∷ 2 ∷ 4 ∷ []) 0 0) (rest 3 (0 ∷ 2 ∷ []) 0 0) (rest 4 (0 ∷ 2 ∷ 4 ∷ []) 3 0) 0 2 []) (Advance 1 0 3)
    ∷ can (chain 6 2 []) (state 0 (rest 4 (0 ∷ 2 ∷ 4 ∷ []) 0 0) (rest 4 (0 ∷ 2 ∷ 4 ∷ []) 2 0) (rest 3 (0 ∷ 2 ∷ []) 0 0) (rest 4 (0 ∷ 2 ∷ 4 ∷ []) 2 0) 0 2 []) (Advance 1 0 2)
    ∷ can (chain 6 2 []) (state 0 (rest 4 (0 ∷ 2 ∷ 4 ∷ []) 0 0) (rest 4 (0 ∷ 2 ∷ 4 ∷ []) 0 0) (rest 3 (0 ∷ 2 ∷ []) 0 0) (rest 4 (0 ∷ 2 ∷ 4 ∷ []) 0 0) 0 2 []) (Advance 2 0 4)
    ∷ can (chain 6 2 []) (state 0 (rest 4 (0 ∷ 2 ∷ 4 ∷ []) 0 0) (rest 4 (0 ∷ 2 ∷ 4 ∷ []) 4 0) (rest 4 (0 ∷ 2 ∷ 4 ∷ []) 2 0) (rest 4 (0 ∷ 2 ∷ 4 ∷ []) 4 0) 0 2 []) (Advance 0 0 4)
    ∷ can (chain 6 2 []) (state 0 (rest 4 (0 ∷ 2 ∷ 4 ∷ []) 0 0) (rest 4 (0 ∷ 2 ∷ 4 ∷ []) 4 0) (rest 4 (0 ∷ 2 ∷ 4 ∷ []) 4 0) (rest 4 (0 ∷ 2 ∷ 4 ∷ []) 4 0) 0 2 []) (Advance 0 0 4)
    ∷ can (chain 6 2 (kill_done 1 4 0)) (state 0 (rest 4 (0 ∷ 2 ∷ 4 ∷ []) 0 0) (rest 4 (0 ∷ 2 ∷ 4 ∷ []) 0 0) (rest 3 (0 ∷ 2 ∷ []) 0 0) (rest 4 (0 ∷ 2 ∷ 4 ∷ []) 4 0) 0 2 on) (Advance 1 0 4)
    ∷ can (chain 6 2 (kill_done 1 4 0)) (state 0 (rest 4 (0 ∷ 2 ∷ 4 ∷ []) 0 0) (rest 4 (0 ∷ 2 ∷ 4 ∷ []) 0 0) (rest 3 (0 ∷ 2 ∷ []) 0 0) (rest 4 (0 ∷ 2 ∷ 4 ∷ []) 4 0) 0 2 off) (Advance 1 0 4) ∷ []) ≡ (true ∷ false ∷ false ∷ true ∷ false ∷ false ∷ true ∷ false ∷ true ∷ false ∷ true ∷ [])
unfolding has all_below lowest map_from put map_slots limit_in at_point due in_tree calm calm_above sources_have readers_rc readers_reach greatest advance_to least_rc tree_closed rests_at all_met can_start can_write can_finish can_save can_advance can_commit can_purge can_kill can_repartition can_end meet split
advance_row = refl

-- Commit: may come; one is behind; more than the least; less than the least; committed already
commit_row : (can (chain 6 2 []) (state 0 (rest 4 (0 ∷ 2 ∷ 4 ∷ []) 2 0) (rest 4 (0 ∷ 2 ∷ 4 ∷ []) 2 0) (rest 4 (0 ∷ 2 ∷ 4 ∷ []) 2 0) (rest 4 (0 ∷ 2 ∷ 4 ∷ []) 4 0) 0 4 []) (Commit 2)
    ∷ can (chain 6 2 []) (state 0 (rest 4 (0 ∷ 2 ∷ 4 ∷ []) 2 0) (rest 4 (0 ∷ 2 ∷ 4 ∷ []) 2 0) (rest 4 (0 ∷ 2 ∷ 4 ∷ []) 0 0) (rest 4 (0 ∷ 2 ∷ 4 ∷ []) 4 0) 0 4 []) (Commit 2)
    ∷ can (chain 6 2 []) (state 0 (rest 4 (0 ∷ 2 ∷ 4 ∷ []) 2 0) (rest 4 (0 ∷ 2 ∷ 4 ∷ []) 2 0) (rest 4 (0 ∷ 2 ∷ 4 ∷ []) 2 0) (rest 4 (0 ∷ 2 ∷ 4 ∷ []) 4 0) 0 4 []) (Commit 4)
    ∷ can (chain 6 2 []) (state 0 (rest 4 (0 ∷ 2 ∷ 4 ∷ []) 2 0) (rest 4 (0 ∷ 2 ∷ 4 ∷ []) 2 0) (rest 4 (0 ∷ 2 ∷ 4 ∷ []) 2 0) (rest 4 (0 ∷ 2 ∷ 4 ∷ []) 4 0) 0 4 []) (Commit 1)
    ∷ can (chain 6 2 []) (state 0 (rest 4 (0 ∷ 2 ∷ 4 ∷ []) 2 0) (rest 4 (0 ∷ 2 ∷ 4 ∷ []) 2 0) (rest 4 (0 ∷ 2 ∷ 4 ∷ []) 2 0) (rest 4 (0 ∷ 2 ∷ 4 ∷ []) 4 0) 2 4 []) (Commit 2) ∷ []) ≡ (true ∷ false ∷ false ∷ false ∷ false ∷ [])
unfolding has all_below lowest map_from put map_slots limit_in at_point due in_tree calm calm_above sources_have readers_rc readers_reach greatest advance_to least_rc tree_closed rests_at all_met can_start can_write can_finish can_save can_advance can_commit can_purge can_kill can_repartition can_end meet split
commit_row = refl

-- Purge: may come; a lesser one; the sink; not the sink of that plan; purged already; not finished yet; finished; a reader may go back before it; no reader may
purge_row : (can (chain 6 2 []) (state 0 (rest 4 (0 ∷ 2 ∷ 4 ∷ []) 0 0) (rest 3 (0 ∷ 2 ∷ []) 0 0) (rest 3 (0 ∷ 2 ∷ []) 0 0) (rest 4 (2 ∷ 4 ∷ []) 2 0) 0 2 []) (Purge 1 0 2)
    ∷ can (chain 6 2 []) (state 0 (rest 4 (0 ∷ 2 ∷ 4 ∷ []) 0 0) (rest 3 (0 ∷ 2 ∷ []) 0 0) (rest 3 (0 ∷ 2 ∷ []) 0 0) (rest 4 (2 ∷ 4 ∷ []) 2 0) 0 2 []) (Purge 1 0 1)
    ∷ can (chain 6 2 []) (state 0 (rest 4 (0 ∷ 2 ∷ 4 ∷ []) 0 0) (rest 3 (0 ∷ 2 ∷ []) 0 0) (rest 3 (0 ∷ 2 ∷ []) 0 0) (rest 4 (2 ∷ 4 ∷ []) 2 0) 0 2 []) (Purge 2 0 2)
    ∷ can (record (chain 6 2 []) { sink = 0 }) (state 0 (rest 4 (0 ∷ 2 ∷ 4 ∷ []) 0 0) (rest 3 (0 ∷ 2 ∷ []) 0 0) (rest 3 (0 ∷ 2 ∷ []) 0 0) (rest 4 (2 ∷ 4 ∷ []) 2 0) 0 2 []) (Purge 2 0 2)
    ∷ can (chain 6 2 []) (state 0 (rest 4 (0 ∷ 2 ∷ 4 ∷ []) 0 0) (rest 3 (0 ∷ 2 ∷ []) 0 2) (rest 3 (0 ∷ 2 ∷ []) 0 0) (rest 4 (2 ∷ 4 ∷ []) 2 0) 0 2 []) (Purge 1 0 2)
    ∷ can (chain 6 2 []) (state 0 (rest 4 (0 ∷ 2 ∷ 4 ∷ []) 0 0) (rest 3 (0 ∷ 2 ∷ []) 0 0) (rest 3 (0 ∷ 2 ∷ []) 0 0) (rest 4 (2 ∷ 4 ∷ []) 4 0) 0 2 []) (Purge 1 0 4)
    ∷ can (chain 6 2 []) (state 0 (rest 4 (0 ∷ 2 ∷ 4 ∷ []) 0 0) (rest 4 (0 ∷ 2 ∷ 4 ∷ []) 0 0) (rest 3 (0 ∷ 2 ∷ []) 0 0) (rest 4 (2 ∷ 4 ∷ []) 4 0) 0 2 []) (Purge 1 0 4)
    ∷ can (chain 6 2 []) (state 0 (rest 4 (0 ∷ 2 ∷ 4 ∷ []) 0 0) (rest 3 (0 ∷ 2 ∷ []) 0 0) (rest 3 (0 ∷ 2 ∷ []) 0 0) (rest 4 (2 ∷ 4 ∷ []) 2 0) 0 2 []) (Purge 1 0 3)
    ∷ can (chain 6 2 []) (state 0 (rest 4 (0 ∷ 2 ∷ 4 ∷ []) 0 0) (rest 3 (0 ∷ 2 ∷ []) 0 0) (rest 3 (0 ∷ 2 ∷ []) 0 0) (rest 4 (2 ∷ 4 ∷ []) 4 0) 0 2 []) (Purge 1 0 3) ∷ []) ≡ (true ∷ true ∷ false ∷ true ∷ false ∷ false ∷ true ∷ false ∷ true ∷ [])
unfolding has all_below lowest map_from put map_slots limit_in at_point due in_tree calm calm_above sources_have readers_rc readers_reach greatest advance_to least_rc tree_closed rests_at all_met can_start can_write can_finish can_save can_advance can_commit can_purge can_kill can_repartition can_end meet split
purge_row = refl

-- Kill, before a window: due; met; no such line; no kill; in an epoch that is over; behind the next repartition; which was met; not there yet; open; no such partition; it is there; one below it is open; one beside and one above are open
kill_before_row : (can (chain 6 2 (kill 1 3 0)) (state 0 (rest 4 (0 ∷ 2 ∷ 4 ∷ []) 0 0) (rest 2 (0 ∷ 2 ∷ []) 0 0) (rest 3 (0 ∷ 2 ∷ []) 0 0) (rest 2 (0 ∷ 2 ∷ []) 0 0) 0 2 on) (Kill 0)
    ∷ can (chain 6 2 (kill 1 3 0)) (state 0 (rest 4 (0 ∷ 2 ∷ 4 ∷ []) 0 0) (rest 2 (0 ∷ 2 ∷ []) 0 0) (rest 3 (0 ∷ 2 ∷ []) 0 0) (rest 2 (0 ∷ 2 ∷ []) 0 0) 0 2 off) (Kill 0)
    ∷ can (chain 6 2 (kill 1 3 0)) (state 0 (rest 4 (0 ∷ 2 ∷ 4 ∷ []) 0 0) (rest 2 (0 ∷ 2 ∷ []) 0 0) (rest 3 (0 ∷ 2 ∷ []) 0 0) (rest 2 (0 ∷ 2 ∷ []) 0 0) 0 2 on) (Kill 1)
    ∷ can (chain 6 2 (splits_at 1 4 1)) (state 0 (rest 4 (0 ∷ 2 ∷ 4 ∷ []) 0 0) (rest 2 (0 ∷ 2 ∷ []) 0 0) (rest 3 (0 ∷ 2 ∷ []) 0 0) (rest 2 (0 ∷ 2 ∷ []) 0 0) 0 2 on) (Kill 0)
    ∷ can (chain 6 2 (kill 1 3 0)) (state 3 (rest 4 (0 ∷ 2 ∷ 4 ∷ []) 0 0) (rest 2 (0 ∷ 2 ∷ []) 0 0) (rest 3 (0 ∷ 2 ∷ []) 0 0) (rest 2 (0 ∷ 2 ∷ []) 0 0) 0 2 on) (Kill 0)
    ∷ can (chain 6 2 (kill 1 3 0 ++ splits_at 1 2 1)) (state 0 (rest 4 (0 ∷ 2 ∷ 4 ∷ []) 0 0) (rest 2 (0 ∷ 2 ∷ []) 0 0) (rest 3 (0 ∷ 2 ∷ []) 0 0) (rest 2 (0 ∷ 2 ∷ []) 0 0) 0 2 (true ∷ true ∷ [])) (Kill 0)
    ∷ can (chain 6 2 (kill 1 3 0 ++ splits_at 1 2 1)) (state 0 (rest 4 (0 ∷ 2 ∷ 4 ∷ []) 0 0) (rest 2 (0 ∷ 2 ∷ []) 0 0) (rest 3 (0 ∷ 2 ∷ []) 0 0) (rest 2 (0 ∷ 2 ∷ []) 0 0) 0 2 (true ∷ false ∷ [])) (Kill 0)
    ∷ can (chain 6 2 (kill 1 3 0)) (state 0 (rest 4 (0 ∷ 2 ∷ 4 ∷ []) 0 0) (rest 1 (0 ∷ []) 0 0) (rest 3 (0 ∷ 2 ∷ []) 0 0) (rest 2 (0 ∷ 2 ∷ []) 0 0) 0 2 on) (Kill 0)
    ∷ can (chain 6 2 (kill 1 3 0)) (state 0 (rest 4 (0 ∷ 2 ∷ 4 ∷ []) 0 0) (busy 2 3 (0 ∷ 2 ∷ []) 0 0) (rest 3 (0 ∷ 2 ∷ []) 0 0) (rest 2 (0 ∷ 2 ∷ []) 0 0) 0 2 on) (Kill 0)
    ∷ can (chain 6 2 (kill 1 1 2)) (state 0 (rest 4 (0 ∷ 2 ∷ 4 ∷ []) 0 0) (rest 2 (0 ∷ 2 ∷ []) 0 0) (rest 3 (0 ∷ 2 ∷ []) 0 0) (rest 2 (0 ∷ 2 ∷ []) 0 0) 0 2 on) (Kill 0)
    ∷ can (chain 6 2 (kill 1 1 2)) (wider (state 0 (rest 4 (0 ∷ 2 ∷ 4 ∷ []) 0 0) (rest 2 (0 ∷ 2 ∷ []) 0 0) (rest 3 (0 ∷ 2 ∷ []) 0 0) (rest 2 (0 ∷ 2 ∷ []) 0 0) 0 2 on)) (Kill 0)
    ∷ can (chain 6 2 (kill 1 3 0)) (state 0 (rest 4 (0 ∷ 2 ∷ 4 ∷ []) 0 0) (rest 2 (0 ∷ 2 ∷ []) 0 0) (rest 3 (0 ∷ 2 ∷ []) 0 0) (busy 2 3 (0 ∷ 2 ∷ []) 0 0) 0 2 on) (Kill 0)
    ∷ can (chain 6 2 (kill 1 3 0)) (state 0 (busy 4 5 (0 ∷ 2 ∷ 4 ∷ []) 0 0) (rest 2 (0 ∷ 2 ∷ []) 0 0) (busy 3 4 (0 ∷ 2 ∷ []) 0 0) (rest 2 (0 ∷ 2 ∷ []) 0 0) 0 2 on) (Kill 0) ∷ []) ≡ (true ∷ false ∷ false ∷ false ∷ false ∷ false ∷ true ∷ false ∷ false ∷ false ∷ true ∷ false ∷ true ∷ [])
unfolding has all_below lowest map_from put map_slots limit_in at_point due in_tree calm calm_above sources_have readers_rc readers_reach greatest advance_to least_rc tree_closed rests_at all_met can_start can_write can_finish can_save can_advance can_commit can_purge can_kill can_repartition can_end meet split
kill_before_row = refl

-- Kill, while a window is open: due; closed; another window is open
kill_staged_row : (can (chain 6 2 (kill_staged 1 3 0)) (state 0 (rest 4 (0 ∷ 2 ∷ 4 ∷ []) 0 0) (busy 2 3 (0 ∷ 2 ∷ []) 0 0) (rest 3 (0 ∷ 2 ∷ []) 0 0) (rest 2 (0 ∷ 2 ∷ []) 0 0) 0 2 on) (Kill 0)
    ∷ can (chain 6 2 (kill_staged 1 3 0)) (state 0 (rest 4 (0 ∷ 2 ∷ 4 ∷ []) 0 0) (rest 2 (0 ∷ 2 ∷ []) 0 0) (rest 3 (0 ∷ 2 ∷ []) 0 0) (rest 2 (0 ∷ 2 ∷ []) 0 0) 0 2 on) (Kill 0)
    ∷ can (chain 6 2 (kill_staged 1 3 0)) (state 0 (rest 4 (0 ∷ 2 ∷ 4 ∷ []) 0 0) (busy 3 4 (0 ∷ 2 ∷ []) 0 0) (rest 3 (0 ∷ 2 ∷ []) 0 0) (rest 2 (0 ∷ 2 ∷ []) 0 0) 0 2 on) (Kill 0) ∷ []) ≡ (true ∷ false ∷ false ∷ [])
unfolding has all_below lowest map_from put map_slots limit_in at_point due in_tree calm calm_above sources_have readers_rc readers_reach greatest advance_to least_rc tree_closed rests_at all_met can_start can_write can_finish can_save can_advance can_commit can_purge can_kill can_repartition can_end meet split
kill_staged_row = refl

-- Kill, once a window is stored: due; not stored; closed; not the sink
kill_written_row : (can (chain 6 2 (kill_written 2 3 0)) (state 0 (rest 4 (0 ∷ 2 ∷ 4 ∷ []) 0 0) (rest 2 (0 ∷ 2 ∷ []) 0 0) (rest 3 (0 ∷ 2 ∷ []) 0 0) (busy 2 3 (0 ∷ 2 ∷ []) 0 0) 0 3 on) (Kill 0)
    ∷ can (chain 6 2 (kill_written 2 3 0)) (state 0 (rest 4 (0 ∷ 2 ∷ 4 ∷ []) 0 0) (rest 2 (0 ∷ 2 ∷ []) 0 0) (rest 3 (0 ∷ 2 ∷ []) 0 0) (busy 2 3 (0 ∷ 2 ∷ []) 0 0) 0 2 on) (Kill 0)
    ∷ can (chain 6 2 (kill_written 2 3 0)) (state 0 (rest 4 (0 ∷ 2 ∷ 4 ∷ []) 0 0) (rest 2 (0 ∷ 2 ∷ []) 0 0) (rest 3 (0 ∷ 2 ∷ []) 0 0) (rest 2 (0 ∷ 2 ∷ []) 0 0) 0 3 on) (Kill 0)
    ∷ can (chain 6 2 (kill_written 1 3 0)) (state 0 (rest 4 (0 ∷ 2 ∷ 4 ∷ []) 0 0) (busy 2 3 (0 ∷ 2 ∷ []) 0 0) (rest 3 (0 ∷ 2 ∷ []) 0 0) (rest 2 (0 ∷ 2 ∷ []) 0 0) 0 3 on) (Kill 0) ∷ []) ≡ (true ∷ false ∷ false ∷ false ∷ [])
unfolding has all_below lowest map_from put map_slots limit_in at_point due in_tree calm calm_above sources_have readers_rc readers_reach greatest advance_to least_rc tree_closed rests_at all_met can_start can_write can_finish can_save can_advance can_commit can_purge can_kill can_repartition can_end meet split
kill_written_row = refl

-- Kill, once a window is finished: due; not finished; the next is open
kill_done_row : (can (chain 6 2 (kill_done 1 3 1)) (state 0 (rest 4 (0 ∷ 2 ∷ 4 ∷ []) 0 0) (rest 2 (0 ∷ 2 ∷ []) 0 0) (rest 3 (0 ∷ 2 ∷ []) 0 0) (rest 2 (0 ∷ 2 ∷ []) 0 0) 0 2 on) (Kill 0)
    ∷ can (chain 6 2 (kill_done 1 3 0)) (state 0 (rest 4 (0 ∷ 2 ∷ 4 ∷ []) 0 0) (rest 2 (0 ∷ 2 ∷ []) 0 0) (rest 3 (0 ∷ 2 ∷ []) 0 0) (rest 2 (0 ∷ 2 ∷ []) 0 0) 0 2 on) (Kill 0)
    ∷ can (chain 6 2 (kill_done 1 3 1)) (state 0 (rest 4 (0 ∷ 2 ∷ 4 ∷ []) 0 0) (rest 2 (0 ∷ 2 ∷ []) 0 0) (busy 3 4 (0 ∷ 2 ∷ []) 0 0) (rest 2 (0 ∷ 2 ∷ []) 0 0) 0 2 on) (Kill 0) ∷ []) ≡ (true ∷ false ∷ false ∷ [])
unfolding has all_below lowest map_from put map_slots limit_in at_point due in_tree calm calm_above sources_have readers_rc readers_reach greatest advance_to least_rc tree_closed rests_at all_met can_start can_write can_finish can_save can_advance can_commit can_purge can_kill can_repartition can_end meet split
kill_done_row = refl

-- Repartition: may come; met; no repartition; another comes first; which was met; one may go back before it; one is open
repartition_row : (can (chain 6 2 (splits_at 1 2 3)) (state 0 (rest 4 (0 ∷ 2 ∷ 4 ∷ []) 0 0) (rest 2 (0 ∷ 2 ∷ []) 2 0) (rest 2 (0 ∷ 2 ∷ []) 2 0) (rest 2 (0 ∷ 2 ∷ []) 0 0) 0 2 on) (Repartition 0)
    ∷ can (chain 6 2 (splits_at 1 2 3)) (state 0 (rest 4 (0 ∷ 2 ∷ 4 ∷ []) 0 0) (rest 2 (0 ∷ 2 ∷ []) 2 0) (rest 2 (0 ∷ 2 ∷ []) 2 0) (rest 2 (0 ∷ 2 ∷ []) 0 0) 0 2 off) (Repartition 0)
    ∷ can (chain 6 2 (kill 1 2 0)) (state 0 (rest 4 (0 ∷ 2 ∷ 4 ∷ []) 0 0) (rest 2 (0 ∷ 2 ∷ []) 2 0) (rest 2 (0 ∷ 2 ∷ []) 2 0) (rest 2 (0 ∷ 2 ∷ []) 0 0) 0 2 on) (Repartition 0)
    ∷ can (chain 6 2 (splits_at 1 4 1 ++ splits_at 1 2 3)) (state 0 (rest 4 (0 ∷ 2 ∷ 4 ∷ []) 0 0) (rest 4 (0 ∷ 2 ∷ 4 ∷ []) 4 0) (rest 4 (0 ∷ 2 ∷ 4 ∷ []) 4 0) (rest 2 (0 ∷ 2 ∷ []) 0 0) 0 2 (true ∷ true ∷ [])) (Repartition 0)
    ∷ can (chain 6 2 (splits_at 1 4 1 ++ splits_at 1 2 3)) (state 0 (rest 4 (0 ∷ 2 ∷ 4 ∷ []) 0 0) (rest 4 (0 ∷ 2 ∷ 4 ∷ []) 4 0) (rest 4 (0 ∷ 2 ∷ 4 ∷ []) 4 0) (rest 2 (0 ∷ 2 ∷ []) 0 0) 0 2 (true ∷ false ∷ [])) (Repartition 0)
    ∷ can (chain 6 2 (splits_at 1 2 3)) (state 0 (rest 4 (0 ∷ 2 ∷ 4 ∷ []) 0 0) (rest 2 (0 ∷ 2 ∷ []) 2 0) (rest 2 (0 ∷ 2 ∷ []) 0 0) (rest 2 (0 ∷ 2 ∷ []) 0 0) 0 2 on) (Repartition 0)
    ∷ can (chain 6 2 (splits_at 1 2 3)) (state 0 (rest 4 (0 ∷ 2 ∷ 4 ∷ []) 0 0) (rest 2 (0 ∷ 2 ∷ []) 2 0) (busy 2 3 (0 ∷ 2 ∷ []) 2 0) (rest 2 (0 ∷ 2 ∷ []) 0 0) 0 2 on) (Repartition 0) ∷ []) ≡ (true ∷ false ∷ false ∷ false ∷ true ∷ false ∷ false ∷ [])
unfolding has all_below lowest map_from put map_slots limit_in at_point due in_tree calm calm_above sources_have readers_rc readers_reach greatest advance_to least_rc tree_closed rests_at all_met can_start can_write can_finish can_save can_advance can_commit can_purge can_kill can_repartition can_end meet split
repartition_row = refl

-- End: may come; the last window makes no checkpoint; one is behind; one may go back; not committed; one is open; a line is left; all lines are met
end_row : (can (chain 6 2 []) (state 0 (rest 6 (6 ∷ []) 6 0) (rest 6 (6 ∷ []) 6 0) (rest 6 (6 ∷ []) 6 0) (rest 6 (6 ∷ []) 6 0) 6 6 []) End
    ∷ can (chain 5 2 []) (state 0 (rest 5 (4 ∷ []) 4 0) (rest 5 (4 ∷ []) 4 0) (rest 5 (4 ∷ []) 4 0) (rest 5 (4 ∷ []) 4 0) 4 5 []) End
    ∷ can (chain 6 2 []) (state 0 (rest 6 (6 ∷ []) 6 0) (rest 5 (6 ∷ []) 6 0) (rest 6 (6 ∷ []) 6 0) (rest 6 (6 ∷ []) 6 0) 6 6 []) End
    ∷ can (chain 6 2 []) (state 0 (rest 6 (6 ∷ []) 6 0) (rest 6 (6 ∷ []) 4 0) (rest 6 (6 ∷ []) 6 0) (rest 6 (6 ∷ []) 6 0) 6 6 []) End
    ∷ can (chain 6 2 []) (state 0 (rest 6 (6 ∷ []) 6 0) (rest 6 (6 ∷ []) 6 0) (rest 6 (6 ∷ []) 6 0) (rest 6 (6 ∷ []) 6 0) 4 6 []) End
    ∷ can (chain 6 2 []) (state 0 (rest 6 (6 ∷ []) 6 0) (busy 6 7 (6 ∷ []) 6 0) (rest 6 (6 ∷ []) 6 0) (rest 6 (6 ∷ []) 6 0) 6 6 []) End
    ∷ can (chain 6 2 (kill 1 6 0)) (state 0 (rest 6 (6 ∷ []) 6 0) (rest 6 (6 ∷ []) 6 0) (rest 6 (6 ∷ []) 6 0) (rest 6 (6 ∷ []) 6 0) 6 6 on) End
    ∷ can (chain 6 2 (kill 1 6 0)) (state 0 (rest 6 (6 ∷ []) 6 0) (rest 6 (6 ∷ []) 6 0) (rest 6 (6 ∷ []) 6 0) (rest 6 (6 ∷ []) 6 0) 6 6 off) End ∷ []) ≡ (true ∷ true ∷ false ∷ false ∷ false ∷ false ∷ false ∷ true ∷ [])
unfolding has all_below lowest map_from put map_slots limit_in at_point due in_tree calm calm_above sources_have readers_rc readers_reach greatest advance_to least_rc tree_closed rests_at all_met can_start can_write can_finish can_save can_advance can_commit can_purge can_kill can_repartition can_end meet split
end_row = refl

-- Fault: 8; 9; 10; 11; 13; 19; 12; 0; after the end; after a fault; nothing after the end; nothing after a fault
fault_row : (can (chain 6 2 []) (state 0 (rest 4 (0 ∷ 2 ∷ 4 ∷ []) 0 0) (rest 2 (0 ∷ 2 ∷ []) 0 0) (rest 3 (0 ∷ 2 ∷ []) 0 0) (rest 2 (0 ∷ 2 ∷ []) 0 0) 0 2 []) (Fault 8)
    ∷ can (chain 6 2 []) (state 0 (rest 4 (0 ∷ 2 ∷ 4 ∷ []) 0 0) (rest 2 (0 ∷ 2 ∷ []) 0 0) (rest 3 (0 ∷ 2 ∷ []) 0 0) (rest 2 (0 ∷ 2 ∷ []) 0 0) 0 2 []) (Fault 9)
    ∷ can (chain 6 2 []) (state 0 (rest 4 (0 ∷ 2 ∷ 4 ∷ []) 0 0) (rest 2 (0 ∷ 2 ∷ []) 0 0) (rest 3 (0 ∷ 2 ∷ []) 0 0) (rest 2 (0 ∷ 2 ∷ []) 0 0) 0 2 []) (Fault 10)
    ∷ can (chain 6 2 []) (state 0 (rest 4 (0 ∷ 2 ∷ 4 ∷ []) 0 0) (rest 2 (0 ∷ 2 ∷ []) 0 0) (rest 3 (0 ∷ 2 ∷ []) 0 0) (rest 2 (0 ∷ 2 ∷ []) 0 0) 0 2 []) (Fault 11)
    ∷ can (chain 6 2 []) (state 0 (rest 4 (0 ∷ 2 ∷ 4 ∷ []) 0 0) (rest 2 (0 ∷ 2 ∷ []) 0 0) (rest 3 (0 ∷ 2 ∷ []) 0 0) (rest 2 (0 ∷ 2 ∷ []) 0 0) 0 2 []) (Fault 13)
    ∷ can (chain 6 2 []) (state 0 (rest 4 (0 ∷ 2 ∷ 4 ∷ []) 0 0) (rest 2 (0 ∷ 2 ∷ []) 0 0) (rest 3 (0 ∷ 2 ∷ []) 0 0) (rest 2 (0 ∷ 2 ∷ []) 0 0) 0 2 []) (Fault 19)
    ∷ can (chain 6 2 []) (state 0 (rest 4 (0 ∷ 2 ∷ 4 ∷ []) 0 0) (rest 2 (0 ∷ 2 ∷ []) 0 0) (rest 3 (0 ∷ 2 ∷ []) 0 0) (rest 2 (0 ∷ 2 ∷ []) 0 0) 0 2 []) (Fault 12)
    ∷ can (chain 6 2 []) (state 0 (rest 4 (0 ∷ 2 ∷ 4 ∷ []) 0 0) (rest 2 (0 ∷ 2 ∷ []) 0 0) (rest 3 (0 ∷ 2 ∷ []) 0 0) (rest 2 (0 ∷ 2 ∷ []) 0 0) 0 2 []) (Fault 0)
    ∷ can (chain 6 2 []) (record (state 0 (rest 4 (0 ∷ 2 ∷ 4 ∷ []) 0 0) (rest 2 (0 ∷ 2 ∷ []) 0 0) (rest 3 (0 ∷ 2 ∷ []) 0 0) (rest 2 (0 ∷ 2 ∷ []) 0 0) 0 2 []) { ended = true }) (Fault 8)
    ∷ can (chain 6 2 []) (record (state 0 (rest 4 (0 ∷ 2 ∷ 4 ∷ []) 0 0) (rest 2 (0 ∷ 2 ∷ []) 0 0) (rest 3 (0 ∷ 2 ∷ []) 0 0) (rest 2 (0 ∷ 2 ∷ []) 0 0) 0 2 []) { fault = Some 8 }) (Fault 8)
    ∷ can (chain 6 2 []) (record (state 0 (rest 4 (0 ∷ 2 ∷ 4 ∷ []) 0 0) (rest 2 (0 ∷ 2 ∷ []) 0 0) (rest 3 (0 ∷ 2 ∷ []) 0 0) (rest 2 (0 ∷ 2 ∷ []) 0 0) 0 2 []) { ended = true }) (Start 1 0 3)
    ∷ can (chain 6 2 []) (record (state 0 (rest 4 (0 ∷ 2 ∷ 4 ∷ []) 0 0) (rest 2 (0 ∷ 2 ∷ []) 0 0) (rest 3 (0 ∷ 2 ∷ []) 0 0) (rest 2 (0 ∷ 2 ∷ []) 0 0) 0 2 []) { fault = Some 8 }) (Start 1 0 3) ∷ []) ≡ (true ∷ true ∷ true ∷ true ∷ true ∷ true ∷ false ∷ false ∷ false ∷ false ∷ false ∷ false ∷ [])
unfolding has all_below lowest map_from put map_slots limit_in at_point due in_tree calm calm_above sources_have readers_rc readers_reach greatest advance_to least_rc tree_closed rests_at all_met can_start can_write can_finish can_save can_advance can_commit can_purge can_kill can_repartition can_end meet split
fault_row = refl

-- what each event leaves
start_leaves : next (chain 6 2 []) (state 0 (rest 4 (0 ∷ 2 ∷ 4 ∷ []) 0 0) (rest 2 (0 ∷ 2 ∷ []) 0 0) (rest 3 (0 ∷ 2 ∷ []) 0 0) (rest 2 (0 ∷ 2 ∷ []) 0 0) 0 2 []) 7 (Start 1 0 3) ≡ (state 0 (rest 4 (0 ∷ 2 ∷ 4 ∷ []) 0 0) (record (busy 2 3 (0 ∷ 2 ∷ []) 0 0) { opened = Some (3, 7) }) (rest 3 (0 ∷ 2 ∷ []) 0 0) (rest 2 (0 ∷ 2 ∷ []) 0 0) 0 2 [])
unfolding has all_below lowest map_from put map_slots limit_in at_point due in_tree calm calm_above sources_have readers_rc readers_reach greatest advance_to least_rc tree_closed rests_at all_met can_start can_write can_finish can_save can_advance can_commit can_purge can_kill can_repartition can_end meet split
start_leaves = refl

write_leaves : next (chain 6 2 []) (state 0 (rest 4 (0 ∷ 2 ∷ 4 ∷ []) 0 0) (rest 2 (0 ∷ 2 ∷ []) 0 0) (rest 3 (0 ∷ 2 ∷ []) 0 0) (busy 2 3 (0 ∷ 2 ∷ []) 0 0) 0 2 []) 0 (Write 3) ≡ (state 0 (rest 4 (0 ∷ 2 ∷ 4 ∷ []) 0 0) (rest 2 (0 ∷ 2 ∷ []) 0 0) (rest 3 (0 ∷ 2 ∷ []) 0 0) (busy 2 3 (0 ∷ 2 ∷ []) 0 0) 0 3 [])
unfolding has all_below lowest map_from put map_slots limit_in at_point due in_tree calm calm_above sources_have readers_rc readers_reach greatest advance_to least_rc tree_closed rests_at all_met can_start can_write can_finish can_save can_advance can_commit can_purge can_kill can_repartition can_end meet split
write_leaves = refl

finish_leaves : next (chain 6 2 []) (state 0 (rest 4 (0 ∷ 2 ∷ 4 ∷ []) 0 0) (busy 2 3 (0 ∷ 2 ∷ []) 0 0) (rest 3 (0 ∷ 2 ∷ []) 0 0) (rest 2 (0 ∷ 2 ∷ []) 0 0) 0 2 []) 0 (Finish 1 0 3) ≡ (state 0 (rest 4 (0 ∷ 2 ∷ 4 ∷ []) 0 0) (rest 3 (0 ∷ 2 ∷ []) 0 0) (rest 3 (0 ∷ 2 ∷ []) 0 0) (rest 2 (0 ∷ 2 ∷ []) 0 0) 0 2 [])
unfolding has all_below lowest map_from put map_slots limit_in at_point due in_tree calm calm_above sources_have readers_rc readers_reach greatest advance_to least_rc tree_closed rests_at all_met can_start can_write can_finish can_save can_advance can_commit can_purge can_kill can_repartition can_end meet split
finish_leaves = refl

save_leaves : next (chain 6 2 []) (state 0 (rest 4 (0 ∷ 2 ∷ 4 ∷ []) 0 0) (rest 2 (0 ∷ []) 0 0) (rest 3 (0 ∷ 2 ∷ []) 0 0) (rest 2 (0 ∷ 2 ∷ []) 0 0) 0 2 []) 0 (Save 1 0 2) ≡ (state 0 (rest 4 (0 ∷ 2 ∷ 4 ∷ []) 0 0) (rest 2 (0 ∷ 2 ∷ []) 0 0) (rest 3 (0 ∷ 2 ∷ []) 0 0) (rest 2 (0 ∷ 2 ∷ []) 0 0) 0 2 [])
unfolding has all_below lowest map_from put map_slots limit_in at_point due in_tree calm calm_above sources_have readers_rc readers_reach greatest advance_to least_rc tree_closed rests_at all_met can_start can_write can_finish can_save can_advance can_commit can_purge can_kill can_repartition can_end meet split
save_leaves = refl

advance_leaves : next (chain 6 2 []) (state 0 (rest 4 (0 ∷ 2 ∷ 4 ∷ []) 0 0) (rest 4 (0 ∷ 2 ∷ 4 ∷ []) 0 0) (rest 3 (0 ∷ 2 ∷ []) 0 0) (rest 4 (0 ∷ 2 ∷ 4 ∷ []) 4 0) 0 2 []) 0 (Advance 1 0 4) ≡ (state 0 (rest 4 (0 ∷ 2 ∷ 4 ∷ []) 0 0) (rest 4 (0 ∷ 2 ∷ 4 ∷ []) 4 0) (rest 3 (0 ∷ 2 ∷ []) 0 0) (rest 4 (0 ∷ 2 ∷ 4 ∷ []) 4 0) 0 2 [])
unfolding has all_below lowest map_from put map_slots limit_in at_point due in_tree calm calm_above sources_have readers_rc readers_reach greatest advance_to least_rc tree_closed rests_at all_met can_start can_write can_finish can_save can_advance can_commit can_purge can_kill can_repartition can_end meet split
advance_leaves = refl

commit_leaves : next (chain 6 2 []) (state 0 (rest 4 (0 ∷ 2 ∷ 4 ∷ []) 2 0) (rest 4 (0 ∷ 2 ∷ 4 ∷ []) 2 0) (rest 4 (0 ∷ 2 ∷ 4 ∷ []) 2 0) (rest 4 (0 ∷ 2 ∷ 4 ∷ []) 4 0) 0 4 []) 0 (Commit 2) ≡ (state 0 (rest 4 (2 ∷ 4 ∷ []) 2 0) (rest 4 (2 ∷ 4 ∷ []) 2 0) (rest 4 (2 ∷ 4 ∷ []) 2 0) (rest 4 (2 ∷ 4 ∷ []) 4 0) 2 4 [])
unfolding has all_below lowest map_from put map_slots limit_in at_point due in_tree calm calm_above sources_have readers_rc readers_reach greatest advance_to least_rc tree_closed rests_at all_met can_start can_write can_finish can_save can_advance can_commit can_purge can_kill can_repartition can_end meet split
commit_leaves = refl

purge_leaves : next (chain 6 2 []) (state 0 (rest 4 (0 ∷ 2 ∷ 4 ∷ []) 0 0) (rest 3 (0 ∷ 2 ∷ []) 0 0) (rest 3 (0 ∷ 2 ∷ []) 0 0) (rest 4 (2 ∷ 4 ∷ []) 2 0) 0 2 []) 0 (Purge 1 0 2) ≡ (state 0 (rest 4 (0 ∷ 2 ∷ 4 ∷ []) 0 0) (rest 3 (0 ∷ 2 ∷ []) 0 2) (rest 3 (0 ∷ 2 ∷ []) 0 0) (rest 4 (2 ∷ 4 ∷ []) 2 0) 0 2 [])
unfolding has all_below lowest map_from put map_slots limit_in at_point due in_tree calm calm_above sources_have readers_rc readers_reach greatest advance_to least_rc tree_closed rests_at all_met can_start can_write can_finish can_save can_advance can_commit can_purge can_kill can_repartition can_end meet split
purge_leaves = refl

kill_leaves : next (chain 6 2 (kill_staged 1 5 0)) (state 0 (rest 4 (0 ∷ 2 ∷ 4 ∷ []) 0 0) (busy 4 5 (0 ∷ 2 ∷ 4 ∷ []) 2 1) (rest 3 (0 ∷ 2 ∷ []) 0 0) (rest 4 (0 ∷ 2 ∷ 4 ∷ []) 2 0) 0 2 on) 0 (Kill 0) ≡ (state 0 (rest 4 (0 ∷ 2 ∷ 4 ∷ []) 0 0) (rest 2 (0 ∷ 2 ∷ []) 2 2) (rest 3 (0 ∷ 2 ∷ []) 0 0) (rest 2 (0 ∷ 2 ∷ []) 2 2) 0 2 off)
unfolding has all_below lowest map_from put map_slots limit_in at_point due in_tree calm calm_above sources_have readers_rc readers_reach greatest advance_to least_rc tree_closed rests_at all_met can_start can_write can_finish can_save can_advance can_commit can_purge can_kill can_repartition can_end meet split
kill_leaves = refl

kill_of_the_first_leaves : next (chain 6 2 (kill_done 0 4 0)) (state 0 (rest 4 (0 ∷ 2 ∷ 4 ∷ []) 0 0) (rest 2 (0 ∷ 2 ∷ []) 0 0) (rest 3 (0 ∷ 2 ∷ []) 0 0) (rest 2 (0 ∷ 2 ∷ []) 0 0) 0 2 on) 0 (Kill 0) ≡ (state 0 (rest 0 (0 ∷ []) 0 0) (rest 0 (0 ∷ []) 0 0) (rest 0 (0 ∷ []) 0 0) (rest 0 (0 ∷ []) 0 0) 0 2 off)
unfolding has all_below lowest map_from put map_slots limit_in at_point due in_tree calm calm_above sources_have readers_rc readers_reach greatest advance_to least_rc tree_closed rests_at all_met can_start can_write can_finish can_save can_advance can_commit can_purge can_kill can_repartition can_end meet split
kill_of_the_first_leaves = refl

repartition_leaves : next (chain 6 2 (splits_at 1 2 3)) (state 0 (rest 4 (0 ∷ 2 ∷ 4 ∷ []) 0 0) (rest 2 (0 ∷ 2 ∷ []) 2 0) (rest 2 (0 ∷ 2 ∷ []) 2 0) (rest 2 (0 ∷ 2 ∷ []) 0 0) 0 2 on) 0 (Repartition 0) ≡ (record (state 0 (rest 4 (0 ∷ 2 ∷ 4 ∷ []) 0 0) (rest 2 (0 ∷ 2 ∷ []) 2 0) (rest 2 (0 ∷ 2 ∷ []) 2 0) (rest 2 (0 ∷ 2 ∷ []) 0 0) 0 2 off) { ops = record { boundary = 0; parts = (rest 4 (0 ∷ 2 ∷ 4 ∷ []) 0 0) ∷ [] } ∷ record { boundary = 2; parts = fresh 2 ∷ fresh 2 ∷ fresh 2 ∷ [] } ∷ record { boundary = 0; parts = (rest 2 (0 ∷ 2 ∷ []) 0 0) ∷ [] } ∷ [] })
unfolding has all_below lowest map_from put map_slots limit_in at_point due in_tree calm calm_above sources_have readers_rc readers_reach greatest advance_to least_rc tree_closed rests_at all_met can_start can_write can_finish can_save can_advance can_commit can_purge can_kill can_repartition can_end meet split
repartition_leaves = refl

end_leaves : next (chain 6 2 []) (state 0 (rest 6 (6 ∷ []) 6 0) (rest 6 (6 ∷ []) 6 0) (rest 6 (6 ∷ []) 6 0) (rest 6 (6 ∷ []) 6 0) 6 6 []) 0 End ≡ (record (state 0 (rest 6 (6 ∷ []) 6 0) (rest 6 (6 ∷ []) 6 0) (rest 6 (6 ∷ []) 6 0) (rest 6 (6 ∷ []) 6 0) 6 6 []) { ended = true })
unfolding has all_below lowest map_from put map_slots limit_in at_point due in_tree calm calm_above sources_have readers_rc readers_reach greatest advance_to least_rc tree_closed rests_at all_met can_start can_write can_finish can_save can_advance can_commit can_purge can_kill can_repartition can_end meet split
end_leaves = refl

fault_leaves : next (chain 6 2 []) (state 0 (rest 4 (0 ∷ 2 ∷ 4 ∷ []) 0 0) (rest 2 (0 ∷ 2 ∷ []) 0 0) (rest 3 (0 ∷ 2 ∷ []) 0 0) (rest 2 (0 ∷ 2 ∷ []) 0 0) 0 2 []) 0 (Fault 9) ≡ (record (state 0 (rest 4 (0 ∷ 2 ∷ 4 ∷ []) 0 0) (rest 2 (0 ∷ 2 ∷ []) 0 0) (rest 3 (0 ∷ 2 ∷ []) 0 0) (rest 2 (0 ∷ 2 ∷ []) 0 0) 0 2 []) { fault = Some 9 })
unfolding has all_below lowest map_from put map_slots limit_in at_point due in_tree calm calm_above sources_have readers_rc readers_reach greatest advance_to least_rc tree_closed rests_at all_met can_start can_write can_finish can_save can_advance can_commit can_purge can_kill can_repartition can_end meet split
fault_leaves = refl
