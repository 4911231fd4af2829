use Rattle.std.proofs.Common.{◌≡◌, ◌≤◌, take}
use Rattle.apx_pass.specs.Pass.{windows_of}
use Rattle.apx_job.proofs.parts.window_count.Given as goal

abbrev pub invariant-loop-input : goal.invariant-loop-input
invariant-loop-input l = (l.count ≡ windows_of (take l.input-index l.inputs)) × (l.count ≤ 20000)
