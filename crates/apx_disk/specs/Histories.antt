-- Laws on what a crash might have left of a file in memory.
use Rattle.std.specs.Prelude.{ℕ, zero, suc, ◌≤◌, List, [], ◌∷◌, length, refl}
use Rattle.std.proofs.Common.{inl, inr, arith}
use Rattle.apx_disk.specs.declared.memory_disk.Change.{Change}
use Rattle.apx_disk.specs.Changes.{Changed, Since, LeftSince}

-- what is read now is one of the images
here : (images : List ℕ → Type 0) (changes : List Change) (bytes : List ℕ) → Since images (length changes) changes bytes bytes
here images [] bytes = inl refl
here images (change ∷ changes) bytes = here (Changed images change) changes bytes

-- what is read now is an image of now
pub here_now : (changes : List Change) (bytes : List ℕ) → LeftSince changes bytes (length changes) bytes
here_now changes bytes = here (λ _. ⊥) changes bytes

-- now is one of the moments since an earlier time
earlier : (images : List ℕ → Type 0) (changes : List Change) (bytes : List ℕ) (time : ℕ) (image : List ℕ)
    → time ≤ length changes → Since images (length changes) changes bytes image → Since images time changes bytes image
earlier images [] bytes time image le left = left
earlier images (change ∷ changes) bytes zero image le left =
    inr (inr (earlier (Changed images change) changes bytes zero image (omega arith) left))
earlier images (change ∷ changes) bytes (suc time) image le left =
    earlier (Changed images change) changes bytes time image (omega arith) left

-- an image of now is one since an earlier time
pub earlier_too : (changes : List Change) (bytes : List ℕ) (time : ℕ) (image : List ℕ)
    → time ≤ length changes → LeftSince changes bytes (length changes) image → LeftSince changes bytes time image
earlier_too changes bytes time image le left = earlier (λ _. ⊥) changes bytes time image le left
