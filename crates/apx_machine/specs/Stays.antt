-- Which saved windows stay.
use Rattle.std.specs.Prelude.{ℕ, Bool, nat_le}
use Rattle.apx_machine.specs.declared.partition.Side.{Side}
use Rattle.apx_machine.specs.declared.partition.Side.TheVariants.{From, UpTo}

-- the saved window v stays
abbrev pub stays_by : Side → ℕ → Bool
stays_by (From w) v = nat_le w v
stays_by (UpTo w) v = nat_le v w
