-- Logs: what holds of each entry, the entries of one seat, and how a longer log begins.
use Rattle.std.specs.Prelude.{◌≡◌, ℕ, List, [], ◌∷◌, ◌++◌, length, filter, nat_lt, ◌==◌, if◌then◌else◌}

module _ {A : Type 0} where
  -- P holds of each member
  abbrev pub Every : (A → Type 0) → List A → Type 0
  Every P [] = Unit {0}
  Every P (x ∷ xs) = P x × Every P xs

  -- the list begins with the front
  abbrev pub StartsWith : List A → List A → Type 0
  StartsWith list front = (rest : List A) × (list ≡ front ++ rest)

  -- the longer of two lists, and the first where neither is longer
  abbrev pub longer : List A → List A → List A
  longer xs ys = if nat_lt (length xs) (length ys) then ys else xs

-- the entries of the log that bear the number, in their order
abbrev pub entries_of : {E : Type 0} → (E → ℕ) → ℕ → List E → List E
entries_of seat number log = filter (λ e. seat e == number) log
