-- What workers see of a core's claims.
use Rattle.std.specs.Prelude.{⊤}
use Rattle.apx_tuple.specs.declared.refusal.Short.{Short}
use Rattle.apx_tuple.specs.declared.refusal.Short.TheVariants.{Memory, Large}
use Rattle.apx_course.specs.Run.{Run}
use Rattle.apx_stores.specs.Caused.{IsTooLarge}
use Rattle.apx_core.specs.Claim.{Claimed}
use Rattle.apx_work.specs.declared.hands.OpenWindow.{OpenWindow}
use Rattle.apx_work.specs.Claims.{open_window}

-- the window that is claimed
abbrev pub claimed : Claimed → OpenWindow
claimed c = open_window c.op c.part c.window c.worker

-- the run may stop for this
abbrev pub MayStop : Run → Short → Type 0
MayStop run Memory = ⊤
MayStop run Large = IsTooLarge run.job.flow run.told
