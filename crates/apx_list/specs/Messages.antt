-- The messages of a window: what opens it, its tuples, and what closes it.
use Rattle.std.specs.Prelude.{ℕ, ◌%◌, List, [], ◌∷◌, ◌++◌, map, ◌==◌, if◌then◌else◌}
use Rattle.apx_tuple.specs.declared.tuple.Tuple.{Tuple}
use Rattle.apx_window.specs.Identifier.{second_of, counter_of, identifier_of}
use Rattle.apx_wire.specs.declared.message.Message.{Message}
use Rattle.apx_wire.specs.declared.message.Message.TheVariants.{Payload, Begin, End, Checkpoint, Reset, EndOfStream}
use Rattle.apx_list.specs.declared.plan.CutPlan.{CutPlan}

-- a window's identifier under a plan
abbrev pub id_of : CutPlan → ℕ → ℕ
id_of plan window = identifier_of plan.base window

-- a Reset where the counter begins again
abbrev pub reset : CutPlan → ℕ → List Message
reset plan window = if counter_of window == 0 then Reset (second_of plan.base window) ∷ [] else []

-- what opens a window: perhaps a Reset, and a Begin
abbrev pub opening : CutPlan → ℕ → List Message
opening plan window = reset plan window ++ Begin (id_of plan window) ∷ []

-- a Checkpoint where the window is a multiple of the interval
abbrev pub checkpoint : CutPlan → ℕ → List Message
checkpoint plan window = if window % plan.every == 0 then Checkpoint (id_of plan window) ∷ [] else []

-- EndOfStream after the last window
abbrev pub stop : CutPlan → ℕ → List Message
stop plan window = if window == plan.windows then EndOfStream ∷ [] else []

-- what closes it: an End, perhaps a Checkpoint, perhaps EndOfStream
abbrev pub closing : CutPlan → ℕ → List Message
closing plan window = End (id_of plan window) ∷ checkpoint plan window ++ stop plan window

-- all messages of a window with these tuples
abbrev pub messages_of : CutPlan → ℕ → List Tuple → List Message
messages_of plan window tuples = opening plan window ++ map Payload tuples ++ closing plan window
