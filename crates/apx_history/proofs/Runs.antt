-- Whole histories of small jobs: without a script, a kill at each of the four points, a repartition with a kill behind it,
-- and a start above 0. Each is legal, ends, and has stored every window.
use Rattle.std.proofs.Common.{◌≡◌, ℕ, Bool, true, false, List, [], ◌∷◌, map, refl, Option, None, Some}
use Rattle.apx_history.specs.declared.Entry.{Entry}
use Rattle.apx_history.specs.declared.Event.{Event}
use Rattle.apx_history.specs.declared.Event.TheVariants.{Start, Write, Finish, Save, Advance, Commit, Purge, Kill, Repartition, End, Fault}
use Rattle.apx_history.specs.Plan.{Before, Staged, Written, Done, Fails, Splits, Line, Plan, has}
use Rattle.apx_history.specs.State.{State, all_below, lowest, map_from, put, map_slots}
use Rattle.apx_history.specs.Enabled.{limit_in, at_point, due, in_tree, calm, calm_above, sources_have, readers_rc, readers_reach, greatest, advance_to, least_rc, tree_closed, rests_at, all_met, can_start, can_write, can_finish, can_save, can_advance, can_commit, can_purge, can_kill, can_repartition, can_end}
use Rattle.apx_history.specs.Effects.{meet, split}
use Rattle.apx_history.specs.Journals.{beginning, is_legal, after}

-- a chain of three operators, of which the middle one has two partitions; two windows, and a checkpoint after each
abbrev chain : List Line → Plan
chain lines = record {
  windows = 2;
  every = 1;
  sink = 2;
  operators = record { sources = []; under = 1 ∷ 2 ∷ []; first = 1 } ∷ record { sources = 0 ∷ []; under = 2 ∷ []; first = 2 } ∷ record { sources = 1 ∷ []; under = []; first = 1 } ∷ [];
  lines = lines;
}

abbrev by_one : List Event → List Entry
by_one es = map (λ e. record { worker = 0; event = e }) es

-- the history is legal, and what it leaves: whether it ended, and what is stored and committed
abbrev outcome : List Line → ℕ → List Event → Bool × (Bool × (ℕ × ℕ))
outcome lines c es = let m : State = after (chain lines) (beginning (chain lines) c c) (by_one es) in
    (is_legal (chain lines) (beginning (chain lines) c c) (by_one es), (m.ended, (m.stored, m.committed)))

abbrev without_a_script : List Event
without_a_script =
    Start 0 0 1 ∷ Finish 0 0 1 ∷ Start 1 0 1 ∷ Save 0 0 1 ∷ Start 1 1 1 ∷ Finish 1 0 1 ∷ Finish 1 1 1 ∷ Start 0 0 2 ∷
    Finish 0 0 2 ∷ Save 1 0 1 ∷ Save 0 0 2 ∷ Start 1 0 2 ∷ Start 2 0 1 ∷ Write 1 ∷ Save 1 1 1 ∷ Finish 1 0 2 ∷ Save 1 0 2 ∷
    Start 1 1 2 ∷ Finish 1 1 2 ∷ Finish 2 0 1 ∷ Save 2 0 1 ∷ Start 2 0 2 ∷ Save 1 1 2 ∷ Write 2 ∷ Finish 2 0 2 ∷ Save 2 0 2 ∷
    Advance 2 0 2 ∷ Purge 1 1 2 ∷ Purge 1 0 2 ∷ Advance 1 0 2 ∷ Advance 1 1 2 ∷ Advance 0 0 2 ∷ Commit 2 ∷ Purge 0 0 2 ∷ End ∷ []

without_a_script-ends : outcome [] 0 without_a_script ≡ (true, (true, (2, 2)))
unfolding has all_below lowest map_from put map_slots limit_in at_point due in_tree calm calm_above sources_have readers_rc readers_reach greatest advance_to least_rc tree_closed rests_at all_met can_start can_write can_finish can_save can_advance can_commit can_purge can_kill can_repartition can_end meet split beginning
without_a_script-ends = refl

abbrev killed_before : List Event
killed_before =
    Start 0 0 1 ∷ Finish 0 0 1 ∷ Start 1 1 1 ∷ Finish 1 1 1 ∷ Start 1 0 1 ∷ Save 0 0 1 ∷ Kill 0 ∷ Start 1 1 1 ∷ Finish 1 0 1 ∷
    Start 0 0 2 ∷ Finish 1 1 1 ∷ Finish 0 0 2 ∷ Save 1 1 1 ∷ Save 1 0 1 ∷ Save 0 0 2 ∷ Start 1 1 2 ∷ Finish 1 1 2 ∷ Start 2 0 1 ∷
    Start 1 0 2 ∷ Write 1 ∷ Finish 2 0 1 ∷ Finish 1 0 2 ∷ Save 1 1 2 ∷ Save 2 0 1 ∷ Start 2 0 2 ∷ Write 2 ∷ Finish 2 0 2 ∷
    Save 1 0 2 ∷ Save 2 0 2 ∷ Advance 2 0 2 ∷ Advance 1 1 2 ∷ Advance 1 0 2 ∷ Purge 0 0 2 ∷ Purge 1 0 2 ∷ Advance 0 0 2 ∷
    Commit 2 ∷ End ∷ []

killed_before-ends : outcome (record { op = 1; window = 2; act = Fails Before 1 } ∷ []) 0 killed_before ≡ (true, (true, (2, 2)))
unfolding has all_below lowest map_from put map_slots limit_in at_point due in_tree calm calm_above sources_have readers_rc readers_reach greatest advance_to least_rc tree_closed rests_at all_met can_start can_write can_finish can_save can_advance can_commit can_purge can_kill can_repartition can_end meet split beginning
killed_before-ends = refl

abbrev killed_while_open : List Event
killed_while_open =
    Start 0 0 1 ∷ Finish 0 0 1 ∷ Save 0 0 1 ∷ Start 0 0 2 ∷ Kill 0 ∷ Start 0 0 1 ∷ Finish 0 0 1 ∷ Start 1 0 1 ∷ Finish 1 0 1 ∷
    Save 0 0 1 ∷ Start 0 0 2 ∷ Finish 0 0 2 ∷ Save 1 0 1 ∷ Start 1 0 2 ∷ Finish 1 0 2 ∷ Save 1 0 2 ∷ Save 0 0 2 ∷ Start 1 1 1 ∷
    Finish 1 1 1 ∷ Start 2 0 1 ∷ Save 1 1 1 ∷ Start 1 1 2 ∷ Write 1 ∷ Finish 2 0 1 ∷ Finish 1 1 2 ∷ Save 2 0 1 ∷ Start 2 0 2 ∷
    Write 2 ∷ Finish 2 0 2 ∷ Save 2 0 2 ∷ Advance 2 0 2 ∷ Save 1 1 2 ∷ Purge 1 0 2 ∷ Purge 1 1 2 ∷ Advance 1 0 2 ∷
    Advance 1 1 2 ∷ Advance 0 0 2 ∷ Purge 0 0 2 ∷ Commit 2 ∷ End ∷ []

killed_while_open-ends : outcome (record { op = 0; window = 2; act = Fails Staged 0 } ∷ []) 0 killed_while_open ≡ (true, (true, (2, 2)))
unfolding has all_below lowest map_from put map_slots limit_in at_point due in_tree calm calm_above sources_have readers_rc readers_reach greatest advance_to least_rc tree_closed rests_at all_met can_start can_write can_finish can_save can_advance can_commit can_purge can_kill can_repartition can_end meet split beginning
killed_while_open-ends = refl

abbrev killed_once_stored : List Event
killed_once_stored =
    Start 0 0 1 ∷ Finish 0 0 1 ∷ Start 1 0 1 ∷ Start 1 1 1 ∷ Finish 1 0 1 ∷ Finish 1 1 1 ∷ Start 2 0 1 ∷ Write 1 ∷ Save 0 0 1 ∷
    Save 1 1 1 ∷ Finish 2 0 1 ∷ Start 0 0 2 ∷ Save 1 0 1 ∷ Finish 0 0 2 ∷ Save 2 0 1 ∷ Save 0 0 2 ∷ Start 1 1 2 ∷ Start 1 0 2 ∷
    Advance 2 0 1 ∷ Advance 1 0 1 ∷ Finish 1 0 2 ∷ Finish 1 1 2 ∷ Purge 1 1 1 ∷ Save 1 0 2 ∷ Start 2 0 2 ∷ Save 1 1 2 ∷
    Purge 1 0 1 ∷ Write 2 ∷ Kill 0 ∷ Start 2 0 2 ∷ Finish 2 0 2 ∷ Save 2 0 2 ∷ Advance 2 0 2 ∷ Advance 1 0 2 ∷ Purge 1 0 2 ∷
    Advance 1 1 2 ∷ Advance 0 0 2 ∷ Commit 2 ∷ Purge 1 1 2 ∷ End ∷ []

killed_once_stored-ends : outcome (record { op = 2; window = 2; act = Fails Written 0 } ∷ []) 0 killed_once_stored ≡ (true, (true, (2, 2)))
unfolding has all_below lowest map_from put map_slots limit_in at_point due in_tree calm calm_above sources_have readers_rc readers_reach greatest advance_to least_rc tree_closed rests_at all_met can_start can_write can_finish can_save can_advance can_commit can_purge can_kill can_repartition can_end meet split beginning
killed_once_stored-ends = refl

abbrev killed_once_done : List Event
killed_once_done =
    Start 0 0 1 ∷ Finish 0 0 1 ∷ Start 1 1 1 ∷ Finish 1 1 1 ∷ Start 1 0 1 ∷ Save 0 0 1 ∷ Save 1 1 1 ∷ Start 0 0 2 ∷
    Finish 1 0 1 ∷ Finish 0 0 2 ∷ Save 0 0 2 ∷ Kill 0 ∷ Start 1 1 2 ∷ Finish 1 1 2 ∷ Save 1 1 2 ∷ Start 1 0 1 ∷ Finish 1 0 1 ∷
    Start 2 0 1 ∷ Save 1 0 1 ∷ Start 1 0 2 ∷ Finish 1 0 2 ∷ Save 1 0 2 ∷ Write 1 ∷ Finish 2 0 1 ∷ Save 2 0 1 ∷ Start 2 0 2 ∷
    Write 2 ∷ Finish 2 0 2 ∷ Save 2 0 2 ∷ Advance 2 0 2 ∷ Advance 1 1 2 ∷ Advance 1 0 2 ∷ Purge 0 0 2 ∷ Purge 1 0 2 ∷
    Advance 0 0 2 ∷ Commit 2 ∷ End ∷ []

killed_once_done-ends : outcome (record { op = 1; window = 1; act = Fails Done 0 } ∷ []) 0 killed_once_done ≡ (true, (true, (2, 2)))
unfolding has all_below lowest map_from put map_slots limit_in at_point due in_tree calm calm_above sources_have readers_rc readers_reach greatest advance_to least_rc tree_closed rests_at all_met can_start can_write can_finish can_save can_advance can_commit can_purge can_kill can_repartition can_end meet split beginning
killed_once_done-ends = refl

abbrev split_and_killed : List Event
split_and_killed =
    Start 0 0 1 ∷ Finish 0 0 1 ∷ Start 1 1 1 ∷ Start 1 0 1 ∷ Finish 1 0 1 ∷ Save 0 0 1 ∷ Save 1 0 1 ∷ Finish 1 1 1 ∷
    Start 2 0 1 ∷ Start 0 0 2 ∷ Write 1 ∷ Finish 2 0 1 ∷ Save 1 1 1 ∷ Finish 0 0 2 ∷ Save 0 0 2 ∷ Save 2 0 1 ∷ Advance 2 0 1 ∷
    Advance 1 0 1 ∷ Advance 1 1 1 ∷ Repartition 0 ∷ Purge 0 0 1 ∷ Advance 0 0 1 ∷ Start 1 0 2 ∷ Finish 1 0 2 ∷ Commit 1 ∷
    Kill 1 ∷ Start 1 0 2 ∷ Finish 1 0 2 ∷ Start 2 0 2 ∷ Save 1 0 2 ∷ Write 2 ∷ Finish 2 0 2 ∷ Save 2 0 2 ∷ Advance 2 0 2 ∷
    Advance 1 0 2 ∷ Advance 0 0 2 ∷ Purge 0 0 2 ∷ Commit 2 ∷ End ∷ []

split_and_killed-ends : outcome (record { op = 1; window = 1; act = Splits 1 } ∷ record { op = 1; window = 2; act = Fails Done 0 } ∷ []) 0 split_and_killed ≡ (true, (true, (2, 2)))
unfolding has all_below lowest map_from put map_slots limit_in at_point due in_tree calm calm_above sources_have readers_rc readers_reach greatest advance_to least_rc tree_closed rests_at all_met can_start can_write can_finish can_save can_advance can_commit can_purge can_kill can_repartition can_end meet split beginning
split_and_killed-ends = refl

abbrev begun_behind_window_1 : List Event
begun_behind_window_1 =
    Start 0 0 2 ∷ Finish 0 0 2 ∷ Start 1 1 2 ∷ Save 0 0 2 ∷ Start 1 0 2 ∷ Finish 1 1 2 ∷ Save 1 1 2 ∷ Finish 1 0 2 ∷
    Start 2 0 2 ∷ Write 2 ∷ Finish 2 0 2 ∷ Save 2 0 2 ∷ Advance 2 0 2 ∷ Advance 1 1 2 ∷ Purge 1 1 2 ∷ Save 1 0 2 ∷ Purge 1 0 2 ∷
    Advance 1 0 2 ∷ Advance 0 0 2 ∷ Commit 2 ∷ End ∷ []

begun_behind_window_1-ends : outcome [] 1 begun_behind_window_1 ≡ (true, (true, (2, 2)))
unfolding has all_below lowest map_from put map_slots limit_in at_point due in_tree calm calm_above sources_have readers_rc readers_reach greatest advance_to least_rc tree_closed rests_at all_met can_start can_write can_finish can_save can_advance can_commit can_purge can_kill can_repartition can_end meet split beginning
begun_behind_window_1-ends = refl
