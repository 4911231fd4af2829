-- Parts of a text.
use Rattle.std.specs.Prelude.{ℕ, ℤ, List}
use Rattle.std.specs.Borrow.{Bor}
use Rattle.apx_tuple.specs.declared.tuple.Tuple.{Tuple}

-- two lent parts
abbrev pub parts_of : Bor (List ℕ) × Bor (List ℕ) → List ℕ × List ℕ
parts_of p = (p.0.now, p.1.now)

-- a tuple with a lent key
abbrev pub pair_from : Bor (List ℕ) × ℤ → Tuple
pair_from p = record { key = p.0.now; value = p.1 }
