-- Operators where a run begins.
use Rattle.std.specs.Prelude.{ℕ, replicate}
use Rattle.apx_history.specs.Plan.{Operator}
use Rattle.apx_history.specs.State.{Oper, fresh}

-- an operator whose partitions have just begun behind window c
abbrev pub begun : ℕ → Operator → Oper
begun c o = record { boundary = 0; parts = replicate o.first (fresh c) }
