-- Which calls of a device in memory are to fail.
use Rattle.std.specs.Prelude.{◌≡◌, ℕ, ◌+◌, ◌-◌, ◌^◌, min, List, Contains}
use Rattle.apx_device.specs.declared.failing.FailingCalls.{FailingCalls}

-- the call that comes next is one that is to fail; calls are numbered from 1
abbrev pub NextFails : FailingCalls → Type 0
NextFails calls = Contains calls.numbers.items (min (calls.made + 1) (2 ^ 64 - 1))

-- the calls with these numbers are to fail, and none was made
pub record BeginsWith (calls : FailingCalls) (numbers : List ℕ) : Type 0 where
  -- these numbers are kept
  pub numbers_are : calls.numbers.items ≡ numbers
  -- no call was made
  pub none_made : calls.made ≡ 0
  -- there was no fault
  pub no_fault : calls.faults ≡ 0

-- one call was made, and failed where it was to fail
pub record CalledOnce (old new : FailingCalls) (failed : Type 0) : Type 0 where
  -- the numbers stay
  pub numbers : new.numbers.items ≡ old.numbers.items
  -- one call more was made, up to the last value of a u64
  pub made : new.made ≡ min (old.made + 1) (2 ^ 64 - 1)
  -- a call that is to fail fails
  pub fails : NextFails old → failed
