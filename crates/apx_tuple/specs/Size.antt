-- The size of a bag or a state: over its members, the key's length and 10.
use Rattle.std.specs.Prelude.{ℕ, ◌+◌, ◌≤◌, List, [], ◌∷◌, length}

-- over the members of xs, the length of each one's key and 10
abbrev pub size_by : {X : Type 0} → (X → List ℕ) → List X → ℕ
size_by key [] = 0
size_by key (x ∷ xs) = length (key x) + 10 + size_by key xs

-- no bag and no state is as large as this
abbrev pub IsLarge : {X : Type 0} → (X → List ℕ) → List X → Type 0
IsLarge key xs = 4294967232 ≤ size_by key xs
