-- What the calls of a keeper leave of its list of windows.
use Rattle.std.specs.Prelude.{◌≡◌, ◌⊎◌, Bool, true, Result, Ok, Err, ⊤}
use Rattle.apx_device.specs.declared.keeper.KeepRefusal.{KeepRefusal}
use Rattle.apx_device.specs.declared.keeper.KeepRefusal.TheVariants.{Failed, Memory}

-- Ok leaves what is after the step, Memory what was before it, and Failed the one or the other
abbrev pub LeftBy : {X : Type 0} → Result (Unit {0}) KeepRefusal → X → X → X → Type 0
LeftBy (Ok _) before after now = now ≡ after
LeftBy (Err Memory) before after now = now ≡ before
LeftBy (Err Failed) before after now = (now ≡ before) ⊎ (now ≡ after)

-- the keeper is sound unless the answer is Failed
abbrev pub StaysSound : {T : Type 0} → Result T KeepRefusal → Bool → Type 0
StaysSound (Ok _) sound = sound ≡ true
StaysSound (Err Memory) sound = sound ≡ true
StaysSound (Err Failed) sound = ⊤
