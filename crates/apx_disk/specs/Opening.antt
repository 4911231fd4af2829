-- What the images of a file open to, for a log whose content a function of its file tells: Ok, or Err at a damaged place.
use Rattle.std.specs.Prelude.{◌≡◌, ℕ, List, Result, Ok, Err}
use Rattle.std.proofs.Common.{sym, subst}
use Rattle.apx_disk.specs.Disk.{Only}

-- a file opens to this content, or it doesn't open
abbrev pub Opens : {X : Type 0} → Result X ℕ → X → Type 0
Opens (Ok content) x = content ≡ x
Opens (Err place) x = Unit {0}

-- one of the images opens to this content, or doesn't open
abbrev pub LeavesOne : {X : Type 0} → (List ℕ → Result X ℕ) → (List ℕ → Type 0) → X → Type 0
LeavesOne content_of images x = (image : List ℕ) × images image × Opens (content_of image) x

-- an image opens to what one of these does
abbrev pub ReadsOne : {X : Type 0} → (List ℕ → Result X ℕ) → (List ℕ → Type 0) → List ℕ → Type 0
ReadsOne content_of images image = (other : List ℕ) × images other × (content_of image ≡ content_of other)

-- of a file that is the one image a crash leaves what it opens to
pub settled_content : {X : Type 0} (content_of : List ℕ → Result X ℕ) (file : List ℕ) (images : List ℕ → Type 0) (stored x : X)
    → Only file images → content_of file ≡ Ok stored → LeavesOne content_of images x → x ≡ stored
settled_content {X} content_of file images stored x only is left =
    sym (subst (λ (r : Result X ℕ). Opens r x) is
    (subst (λ (f : List ℕ). Opens (content_of f) x) (only left.0 left.1) left.2))
