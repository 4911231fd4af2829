-- What a spool in memory holds.
use Rattle.std.specs.Prelude.{ℕ, List, Option}
use Rattle.std.specs.Option.{option_map}
use Rattle.std.specs.Ordering.{nat_cmp}
use Rattle.std.specs.BTreeMap.{get}
use Rattle.apx_device.specs.declared.memory_spool.MemorySpool.{MemorySpool}
use Rattle.apx_device.specs.declared.memory_spool.FailingSpool.{FailingSpool}
use Rattle.apx_device.specs.declared.memory_spool.FailingSpools.{FailingSpools}
use Rattle.apx_device.specs.declared.memory_spool.WrongSpool.{WrongSpool}

-- the piece under a number
abbrev pub piece_of : MemorySpool → ℕ → Option (List ℕ)
piece_of spool number = option_map (λ piece. piece.items) (get nat_cmp spool.pieces number)

-- the same of a spool whose calls may fail
abbrev pub failing_piece_of : FailingSpool → ℕ → Option (List ℕ)
failing_piece_of spool = piece_of spool.spool

-- the faults of a failing maker
abbrev pub makers_faults : FailingSpools → ℕ
makers_faults maker = maker.calls.faults

-- what was put into a spool that gives one wrong piece
abbrev pub wrong_piece_of : WrongSpool → ℕ → Option (List ℕ)
wrong_piece_of spool = piece_of spool.spool
