-- What the answers to reads say of the files that a folder tells, and which answers a call has heard.
use Rattle.std.specs.Prelude.{◌≡◌, ◌⊎◌, ℕ, ◌<◌, List, [], ◌∷◌, ◌++◌, length, Option, Some, None, Result, Ok, Err, Vec}
use Rattle.std.specs.declared.alloc.Global.{Global}
use Rattle.apx_device.specs.declared.folder.ReadRefusal.{ReadRefusal}
use Rattle.apx_device.specs.declared.folder.ReadRefusal.TheVariants.{Absent, TooLong, Failed, Memory}

-- the file has more bytes than the limit
pub record IsPast (limit : ℕ) (file : Option (List ℕ)) : Type 0 where
  -- the file's bytes
  pub bytes : List ℕ
  -- the file is there
  pub is : file ≡ Some bytes
  -- it is longer than the limit
  pub longer : limit < length bytes

-- Ok gives the file, Absent says that there is none, TooLong that it passes the limit
abbrev pub Says : Option (List ℕ) → ℕ → Result (List ℕ) ReadRefusal → Type 0
Says file limit (Ok bytes) = file ≡ Some bytes
Says file limit (Err Absent) = file ≡ None
Says file limit (Err TooLong) = IsPast limit file
Says file limit (Err Failed) = Unit {0}
Says file limit (Err Memory) = Unit {0}

-- the answer to one read: which name was asked for with which limit, and what was given
pub record Answer : Type 0 where
  -- the name that was asked for
  pub name : List ℕ
  -- the most bytes that were asked for
  pub limit : ℕ
  -- the bytes, or why there are none
  pub gave : Result (List ℕ) ReadRefusal

-- what a read's result gives: bytes or why there are none
abbrev pub given : Result (Vec ℕ Global) ReadRefusal → Result (List ℕ) ReadRefusal
given (Ok bytes) = Ok bytes.items
given (Err refusal) = Err refusal

-- the answer that a read's result is
abbrev pub answer_of : List ℕ → ℕ → Result (Vec ℕ Global) ReadRefusal → Answer
answer_of name limit result = record { name = name; limit = limit; gave = given result }

-- some calls: whatever answers may have been heard before them, they heard some more, which have P
abbrev pub Hears : (old new P : List Answer → Type 0) → Type 0
Hears old new P = (before : List Answer) → old before → (answers : List Answer) × new (before ++ answers) × P answers

-- among the answers is this one
abbrev pub Gave : List Answer → List ℕ → ℕ → Result (List ℕ) ReadRefusal → Type 0
Gave [] name limit gave = ⊥
Gave (answer ∷ answers) name limit gave = (answer ≡ record { name = name; limit = limit; gave = gave }) ⊎ Gave answers name limit gave

-- each answer is what the told files say
abbrev pub AreTold : (List ℕ → Option (List ℕ)) → List Answer → Type 0
AreTold told [] = Unit {0}
AreTold told (answer ∷ answers) = Says (told answer.name) answer.limit answer.gave × AreTold told answers

-- a read of this name was refused
abbrev pub StopsAt : List Answer → List ℕ → ReadRefusal → Type 0
StopsAt answers name refusal = (limit : ℕ) × Gave answers name limit (Err refusal)
