-- What calls do to the contents that a crash might leave.
-- A device has a time, which never falls, and a meaning `left t x`: a crash at some moment since the time t might have
-- left x. What a crash now may leave is `left now x`.
use Rattle.std.specs.Prelude.{ℕ, ◌≤◌, ◌⊎◌, ◌≡◌}

-- Some calls, from the time `before` to the time `now`: since each earlier time a crash might have left what it might have
-- left before them, or what has P, and after them it leaves what has P. Nothing that it might have left is forgotten.
pub record Steps {X : Type 0} (before now : ℕ) (old new : ℕ → X → Type 0) (P : X → Type 0) : Type 0 where
  -- the time doesn't fall
  pub later : before ≤ now
  -- a content that might have been left since an earlier time is an old one or has P
  pub only : (t : ℕ) (x : X) → t ≤ before → new t x → old t x ⊎ P x
  -- a crash now leaves what has P
  pub here : (x : X) → new now x → P x
  -- what might have been left since an earlier time still might
  pub kept : (t : ℕ) (x : X) → t ≤ before → old t x → new t x

-- one content or the other
abbrev pub OneOf : {X : Type 0} → X → X → X → Type 0
OneOf a b x = (x ≡ a) ⊎ (x ≡ b)
