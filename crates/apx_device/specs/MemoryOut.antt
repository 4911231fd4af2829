-- What an output in memory has got, and its faults.
use Rattle.std.specs.Prelude.{ℕ, List}
use Rattle.apx_device.specs.declared.memory_out.MemoryOut.{MemoryOut}

-- what an output in memory has got
abbrev pub written_to : MemoryOut → List ℕ
written_to out = out.written.items

-- its count of faults
abbrev pub faults_of : MemoryOut → ℕ
faults_of out = out.calls.faults
