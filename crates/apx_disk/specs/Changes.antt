-- What a crash might have left of a file in memory, by the changes that it has had.
use Rattle.std.specs.Prelude.{◌≡◌, ◌⊎◌, ℕ, zero, suc, List, [], ◌∷◌}
use Rattle.apx_disk.specs.Disk.{Torn, CutTo}
use Rattle.apx_disk.specs.declared.memory_disk.Change.{Change}
use Rattle.apx_disk.specs.declared.memory_disk.Change.TheVariants.{Wrote, Cut, Synced}

-- what a read gave before the change
abbrev pub Was : Change → List ℕ → Type 0
Was (Wrote was at count) image = image ≡ was.items
Was (Cut was len) image = image ≡ was.items
Was Synced image = ⊥

-- what the change makes of the images before it, among which is what a read gave; a sync leaves none
abbrev pub Changed : (List ℕ → Type 0) → Change → List ℕ → Type 0
Changed images (Wrote was at count) image =
    (before : List ℕ) × ((before ≡ was.items) ⊎ images before) × Torn at count before image
Changed images (Cut was len) image = (before : List ℕ) × ((before ≡ was.items) ⊎ images before) × CutTo len before image
Changed images Synced image = ⊥

-- what a crash might have left since the change with a number, from the images before these changes and what is read now
abbrev pub Since : (List ℕ → Type 0) → ℕ → List Change → List ℕ → List ℕ → Type 0
Since images time [] bytes image = (image ≡ bytes) ⊎ images image
Since images zero (change ∷ changes) bytes image =
    Was change image ⊎ (images image ⊎ Since (Changed images change) zero changes bytes image)
Since images (suc time) (change ∷ changes) bytes image = Since (Changed images change) time changes bytes image

-- what a crash since a time might have left of a file that was whole on the disk before these changes
abbrev pub LeftSince : List Change → List ℕ → ℕ → List ℕ → Type 0
LeftSince changes bytes time image = Since (λ _. ⊥) time changes bytes image
