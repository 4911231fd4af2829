-- The names of operators and streams.
use Rattle.std.specs.Prelude.{ℕ, ◌||◌, ◌==◌, nat_lt, Bool, List, [], ◌∷◌, ◌++◌, length, Option, Some, None, if◌then◌else◌}
use Rattle.std.specs.List.{list_any}
use Rattle.std.specs.Str.{bytes_eq}

-- the first name that stands earlier, where those of `seen` come before
abbrev pub named_again : {X : Type 0} → (X → List ℕ) → List (List ℕ) → List X → Option (List ℕ)
named_again named seen [] = None
named_again named seen (x ∷ xs) = if list_any (bytes_eq (named x)) seen then Some (named x) else named_again named (seen ++ named x ∷ []) xs

-- a name is empty, longer than 255 bytes, or has a byte below 32
abbrev pub is_bad_name : List ℕ → Bool
is_bad_name name = length name == 0 || nat_lt 255 (length name) || list_any (λ byte. nat_lt byte 32) name
