-- Messages in order.
--     may_follow before m       m may come behind the messages before it
--     AreInOrder before ms      each of ms is a message that may come behind those before it
use Rattle.std.specs.Prelude.{ℕ, ◌+◌, ◌/◌, ◌%◌, ◌^◌, List, [], ◌∷◌, Option, Some, None, Bool, true, false, not, ◌&&◌, nat_lt, ◌==◌, IsTrue}
use Rattle.std.specs.Ordering.{is_gt}
use Rattle.apx_tuple.specs.declared.tuple.Tuple.{Tuple}
use Rattle.apx_tuple.specs.Tuple.{tuple_order}
use Rattle.apx_wire.specs.declared.message.Message.{Message}
use Rattle.apx_wire.specs.declared.message.Message.TheVariants.{Payload, Begin, End, Checkpoint, Reset, EndOfStream}
use Rattle.apx_wire.specs.Spelling.{IsMessage}

-- what the order looks at in the messages before
pub record Before : Type 0 where
  -- the one right before, if any
  pub latest : Option Message
  -- the id of the latest window that began, if any
  pub window : Option ℕ

-- no message yet
abbrev pub beginning : Before
beginning = record { latest = None; window = None }

-- the latest window, with one more message
abbrev pub window_after : Option ℕ → Message → Option ℕ
window_after window (Begin id) = Some id
window_after window _ = window

-- with one more message, and with more of them
abbrev pub with_message : Before → Message → Before
with_message before m = record { latest = Some m; window = window_after before.window m }

-- with more messages
abbrev pub with_messages : Before → List Message → Before
with_messages before [] = before
with_messages before (m ∷ ms) = with_messages (with_message before m) ms

-- the two halves of an identifier
abbrev pub second_part : ℕ → ℕ
second_part id = id / 2 ^ 32

-- the low half
abbrev pub counter_part : ℕ → ℕ
counter_part id = id % 2 ^ 32

-- inside a window, after this message
abbrev pub is_inside : Option Message → Bool
is_inside (Some (Begin _)) = true
is_inside (Some (Payload _)) = true
is_inside _ = false

-- outside a window, where something may still come and it needn't be a Begin
abbrev pub is_outside : Option Message → Bool
is_outside None = true
is_outside (Some (End _)) = true
is_outside (Some (Checkpoint _)) = true
is_outside _ = false

-- a payload comes inside a window, and isn't below the payload before it
abbrev pub payload_may_follow : Option Message → Tuple → Bool
payload_may_follow (Some (Begin _)) t = true
payload_may_follow (Some (Payload earlier)) t = not (is_gt (tuple_order earlier t))
payload_may_follow _ t = false

-- the first Begin has any second; each other one has the id before it plus 1; a counter is below 16000
abbrev pub next_window : Option ℕ → ℕ → Bool
next_window None id = nat_lt (counter_part id) 16000
next_window (Some window) id = (id == window + 1) && nat_lt (counter_part id) 16000

-- right after a Reset a Begin has its second and counter 0
abbrev pub begin_may_follow : Before → ℕ → Bool
begin_may_follow before id = after_this before.latest
  where
    after_this : Option Message → Bool
    after_this (Some (Reset second)) = (second_part id == second) && (counter_part id == 0)
    after_this latest = is_outside latest && next_window before.window id

-- a Checkpoint comes right after the End with its id
abbrev pub checkpoint_may_follow : Option Message → ℕ → Bool
checkpoint_may_follow (Some (End window)) id = id == window
checkpoint_may_follow _ id = false

-- a Reset comes where no window came yet, or where the counters of a second are used up
abbrev pub next_second : Option ℕ → ℕ → Bool
next_second None second = true
next_second (Some window) second = (counter_part window == 15999) && (second == second_part window + 8000)

-- this is the latest window
abbrev pub is_window : Option ℕ → ℕ → Bool
is_window None id = false
is_window (Some window) id = id == window

-- a message may come behind those before it
abbrev pub may_follow : Before → Message → Bool
may_follow before (Payload t) = payload_may_follow before.latest t
may_follow before (Begin id) = begin_may_follow before id
may_follow before (End id) = is_inside before.latest && is_window before.window id
may_follow before (Checkpoint id) = checkpoint_may_follow before.latest id
may_follow before (Reset second) = is_outside before.latest && next_second before.window second
may_follow before EndOfStream = is_outside before.latest

-- each is a message that may come behind those before it
abbrev pub AreInOrder : Before → List Message → Type 0
AreInOrder before [] = Unit {0}
AreInOrder before (m ∷ ms) = IsMessage m × IsTrue (may_follow before m) × AreInOrder (with_message before m) ms
