-- The size of what an operator carries from window to window.
use Rattle.std.specs.Prelude.{ℕ, ◌+◌, ◌≤◌}
use Rattle.apx_tuple.specs.declared.progress.Progress.{Progress}
use Rattle.apx_tuple.specs.Size.{size_by}
use Rattle.apx_tuple.specs.State.{pair_key}
use Rattle.apx_tuple.specs.Tuple.{tuple_key}

-- those of its state and of its two bags together
abbrev pub progress_size : Progress → ℕ
progress_size progress = size_by pair_key progress.state + size_by tuple_key progress.left + size_by tuple_key progress.right

-- too large for a checkpoint, as a bag or a state of this size is none
abbrev pub IsLargeProgress : Progress → Type 0
IsLargeProgress progress = 4294967232 ≤ progress_size progress
