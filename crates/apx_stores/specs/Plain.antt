-- Which events touch no device.
use Rattle.std.specs.Prelude.{Bool, true, false}
use Rattle.apx_history.specs.declared.Event.{Event}
use Rattle.apx_history.specs.declared.Event.TheVariants.{Write}

-- the event stores a window's rows
abbrev pub writes : Event → Bool
writes (Write w) = true
writes e = false
