-- Which events take memory.
use Rattle.std.specs.Prelude.{ℕ, Bool, true, false}
use Rattle.apx_history.specs.declared.Event.{Event}
use Rattle.apx_history.specs.declared.Event.TheVariants.{Save, Repartition}

-- the event takes memory: it saves one window more, or it makes partitions
abbrev pub takes_memory : Event → Bool
takes_memory (Save o i w) = true
takes_memory (Repartition l) = true
takes_memory e = false
