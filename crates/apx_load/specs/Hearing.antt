-- What a call that reads files has heard of its folder.
use Rattle.std.specs.Prelude.{ℕ, List, ◌++◌, Bool, IsTrue, Option}
use Rattle.apx_device.specs.Folder.{Answer, AreTold}

-- The call has heard some answers of its folder. Whatever may have been heard before the call, these may have been heard
-- behind it; they are what the files say, where the folder tells; and they have P.
abbrev pub HasHeard : Bool → (List ℕ → Option (List ℕ)) → (old new P : List Answer → Type 0) → Type 0
HasHeard tells files old new P =
    (answers : List Answer)
    × ((before : List Answer) → old before → new (before ++ answers))
    × (IsTrue tells → AreTold files answers)
    × P answers
