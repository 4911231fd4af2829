-- A turn, after a write through its value.
use Rattle.apx_lock.specs.declared.turn.TurnOver.{TurnOver}

-- the turn, with another value
abbrev pub turn_with : {L V : Type 0} → TurnOver L V → V → TurnOver L V
turn_with turn value = record { lock = turn.lock; value = value; base = turn.base }
