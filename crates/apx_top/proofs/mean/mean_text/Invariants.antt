use Rattle.std.proofs.Common.{◌≡◌, length, take}
use Rattle.apx_pass.specs.Pass.{mean}
use Rattle.apx_pass.specs.Texts.{windows_text}
use Rattle.apx_top.proofs.mean.mean_text.Given as goal

abbrev pub invariant-loop-window : goal.invariant-loop-window
invariant-loop-window l = l.text.items ≡ windows_text l.base 1 (take (length l.yielded) (mean l.job.flow))
