-- Which events may come next.
use Rattle.std.specs.Prelude.{◌≡◌, ℕ, zero, suc, ◌+◌, ◌*◌, ◌%◌, ◌<◌, ◌≤◌, max, min, Bool, true, false, cond, not, ◌&&◌, ◌||◌, ◌==◌, nat_lt, nat_le, List, [], ◌∷◌, length, Option, None, Some, is_none}
use Rattle.apx_history.specs.declared.Event.{Event}
use Rattle.apx_history.specs.declared.Event.TheVariants.{Start, Write, Finish, Save, Advance, Commit, Purge, Kill, Repartition, End, Fault}
use Rattle.apx_history.specs.Plan.{Point, Before, Staged, Written, Done, Act, Fails, Splits, Line, Plan, has, line, reads, below, is_checkpoint, last_checkpoint, splits, splits_op, kills}
use Rattle.apx_history.specs.State.{Slot, State, oper, parts, slot, is_left, running, opens, all_below, all_parts, all_slots, lowest, lowest_slot}

-- the least window of the repartitions of operator o that are left, or n
unfoldable pub limit_in : List Line → List Bool → ℕ → ℕ → ℕ
limit_in [] left o n = n
limit_in (l ∷ ls) [] o n = n
limit_in (l ∷ ls) (b ∷ bs) o n = cond (b && splits_op o l) (min l.window (limit_in ls bs o n)) (limit_in ls bs o n)

-- the last window that operator o may come to before its next repartition
abbrev pub limit : Plan → State → ℕ → ℕ
limit plan m o = limit_in plan.lines m.left o plan.windows

-- partition i of operator o is there
abbrev pub is_part : State → ℕ → ℕ → Bool
is_part m o i = nat_lt o (length m.ops) && nat_lt i (parts m o)

-- the partition is at the point of window w
unfoldable pub at_point : Plan → State → ℕ → Point → ℕ → Slot → Bool
at_point plan m o Before w x = x.at + 1 == w && is_none x.opened
at_point plan m o Staged w x = opens w x.opened
at_point plan m o Written w x = (o == plan.sink && opens w x.opened) && nat_le w m.stored
at_point plan m o Done w x = x.at == w && is_none x.opened

-- the act is a kill, and the partition that it names is there and at its point
abbrev pub at_act : Plan → State → ℕ → ℕ → Act → Bool
at_act plan m o w (Fails point part) = is_part m o part && at_point plan m o point w (slot m o part)
at_act plan m o w (Splits count) = false

-- the kill of line l is due
unfoldable pub due : Plan → State → ℕ → Bool
due plan m l =
    is_left m l && nat_lt (oper m (line plan l).op).boundary (line plan l).window
    && nat_le (line plan l).window (limit plan m (line plan l).op)
    && at_act plan m (line plan l).op (line plan l).window (line plan l).act

-- Partition i of operator o is in the tree of the partition that line l names: it is that partition, or its
-- operator is downstream of that partition's.
unfoldable pub in_tree : Plan → ℕ → ℕ → ℕ → Bool
in_tree plan l o i = kills o i (line plan l) || below plan (line plan l).op o

-- no kill is due for the partition
unfoldable pub calm : Plan → State → ℕ → ℕ → Bool
calm plan m o i = all_below (length plan.lines) (λ l. not (due plan m l && kills o i (line plan l)))

-- no kill is due for the partition, nor for one whose tree has it
unfoldable pub calm_above : Plan → State → ℕ → ℕ → Bool
calm_above plan m o i = all_below (length plan.lines) (λ l. not (due plan m l && in_tree plan l o i))

-- each partition that operator o reads has finished window w
unfoldable pub sources_have : Plan → State → ℕ → ℕ → Bool
sources_have plan m o w = all_slots m (λ s j. not (reads plan o s) || nat_le w (slot m s j).at)

-- the least recovery checkpoint of the partitions that read operator o, or n where that is less
unfoldable pub readers_rc : Plan → State → ℕ → ℕ → ℕ
readers_rc plan m o n = lowest_slot m (λ r j. cond (reads plan r o) (slot m r j).rc n) n

-- w is at most the recovery checkpoint of each partition that reads operator o
unfoldable pub readers_reach : Plan → State → ℕ → ℕ → Bool
readers_reach plan m o w = all_slots m (λ r j. not (reads plan r o) || nat_le w (slot m r j).rc)

-- the greatest member of a list that passes, or 0
unfoldable pub greatest : (ℕ → Bool) → List ℕ → ℕ
greatest p [] = 0
greatest p (x ∷ xs) = cond (p x) (max x (greatest p xs)) (greatest p xs)

-- the window that a partition's recovery checkpoint may come to
unfoldable pub advance_to : Plan → State → ℕ → ℕ → ℕ
advance_to plan m o i = greatest (readers_reach plan m o) (slot m o i).saved

-- the least recovery checkpoint of all partitions
unfoldable pub least_rc : Plan → State → ℕ
least_rc plan m = lowest_slot m (λ o i. (slot m o i).rc) plan.windows

-- of line l's tree each partition is closed, but for the one that the line names
unfoldable pub tree_closed : Plan → State → ℕ → Bool
tree_closed plan m l = all_slots m (λ o i. not (in_tree plan l o i) || kills o i (line plan l) || is_none (slot m o i).opened)

-- each partition of operator o is closed and has its recovery checkpoint at window b
unfoldable pub rests_at : State → ℕ → ℕ → Bool
rests_at m o b = all_parts m o (λ i. (slot m o i).rc == b && is_none (slot m o i).opened)

-- no line is left
unfoldable pub all_met : List Bool → Bool
all_met [] = true
all_met (b ∷ bs) = not b && all_met bs

-- the conditions of Start
unfoldable pub can_start : Plan → State → ℕ → ℕ → ℕ → Bool
can_start plan m o i w =
    is_part m o i && w == (slot m o i).at + 1 && is_none (slot m o i).opened && nat_le w plan.windows
    && nat_le w (m.committed + 4 * plan.every) && nat_le w (limit plan m o)
    && (not (is_checkpoint plan (slot m o i).at) || has (slot m o i).saved (slot m o i).at)
    && sources_have plan m o w && calm_above plan m o i

-- the conditions of Write
unfoldable pub can_write : Plan → State → ℕ → Bool
can_write plan m w = is_part m plan.sink 0 && opens w (slot m plan.sink 0).opened && w == m.stored + 1 && calm plan m plan.sink 0

-- the conditions of Finish
unfoldable pub can_finish : Plan → State → ℕ → ℕ → ℕ → Bool
can_finish plan m o i w = is_part m o i && opens w (slot m o i).opened && (not (o == plan.sink) || nat_le w m.stored) && calm plan m o i

-- the conditions of Save
unfoldable pub can_save : Plan → State → ℕ → ℕ → ℕ → Bool
can_save plan m o i w =
    is_part m o i && w == (slot m o i).at && nat_lt 0 w && is_checkpoint plan w && not (has (slot m o i).saved w)
    && is_none (slot m o i).opened && calm plan m o i

-- the conditions of Advance
unfoldable pub can_advance : Plan → State → ℕ → ℕ → ℕ → Bool
can_advance plan m o i w = is_part m o i && w == advance_to plan m o i && nat_lt (slot m o i).rc w && calm plan m o i

-- the conditions of Commit
unfoldable pub can_commit : Plan → State → ℕ → Bool
can_commit plan m w = w == least_rc plan m && nat_lt m.committed w

-- the conditions of Purge
unfoldable pub can_purge : Plan → State → ℕ → ℕ → ℕ → Bool
can_purge plan m o i w =
    is_part m o i && not (o == plan.sink) && nat_lt (slot m o i).floor w && nat_le w (slot m o i).at && readers_reach plan m o w

-- the conditions of Kill
unfoldable pub can_kill : Plan → State → ℕ → Bool
can_kill plan m l = due plan m l && tree_closed plan m l

-- the conditions of Repartition
unfoldable pub can_repartition : Plan → State → ℕ → Bool
can_repartition plan m l =
    is_left m l && splits (line plan l).act && (line plan l).window == limit plan m (line plan l).op
    && rests_at m (line plan l).op (line plan l).window

-- the conditions of End
unfoldable pub can_end : Plan → State → Bool
can_end plan m =
    all_slots m (λ o i. is_none (slot m o i).opened && (slot m o i).at == plan.windows
    && (slot m o i).rc == last_checkpoint plan plan.windows)
    && m.committed == last_checkpoint plan plan.windows && all_met m.left

-- the statuses that a run may stop with
abbrev pub is_status : ℕ → Bool
is_status s = has (8 ∷ 9 ∷ 10 ∷ 11 ∷ 13 ∷ 19 ∷ []) s

-- the conditions of the event
abbrev pub can_now : Plan → State → Event → Bool
can_now plan m (Start o i w) = can_start plan m o i w
can_now plan m (Write w) = can_write plan m w
can_now plan m (Finish o i w) = can_finish plan m o i w
can_now plan m (Save o i w) = can_save plan m o i w
can_now plan m (Advance o i w) = can_advance plan m o i w
can_now plan m (Commit w) = can_commit plan m w
can_now plan m (Purge o i w) = can_purge plan m o i w
can_now plan m (Kill l) = can_kill plan m l
can_now plan m (Repartition l) = can_repartition plan m l
can_now plan m End = can_end plan m
can_now plan m (Fault s) = is_status s

-- the event may come next: none may after the end or a fault
abbrev pub can : Plan → State → Event → Bool
can plan m e = running m && can_now plan m e
