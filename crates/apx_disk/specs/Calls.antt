-- Which calls of a disk in memory are to fail.
use Rattle.std.specs.Prelude.{◌⊎◌, ℕ, ◌+◌, ◌-◌, ◌^◌, ◌≤◌, min, Option, None, Some, Contains}
use Rattle.apx_disk.specs.declared.memory_disk.DiskCalls.{DiskCalls}

-- the disk stops after so many calls, and has had them
abbrev pub IsStopped : Option ℕ → ℕ → Type 0
IsStopped None made = ⊥
IsStopped (Some calls) made = calls ≤ made

-- the call that comes next is to fail: the disk has stopped, or the call's number is one of those; calls are numbered from 1
abbrev pub IsToFail : DiskCalls → Type 0
IsToFail calls = IsStopped calls.stops_after calls.made ⊎ Contains calls.failing.items (min (calls.made + 1) (2 ^ 64 - 1))
