-- Flags and operators where a run begins.
use Rattle.std.proofs.Common.{◌≡◌, true, List, [], ◌∷◌, map, replicate, length, refl, ap}
use Rattle.apx_history.specs.declared.Line.{Line}

pub all_set : (ls : List Line) → replicate (length ls) true ≡ map (λ (l : Line). true) ls
all_set [] = refl
all_set (l ∷ ls) = ap (λ bs. true ∷ bs) (all_set ls)
