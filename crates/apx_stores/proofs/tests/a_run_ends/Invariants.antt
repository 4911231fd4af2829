use Rattle.std.proofs.Common.{false, []}
use Rattle.apx_course.specs.Run.{no_job}
use Rattle.apx_stores.proofs.tests.a_run_ends.Given as goal

abbrev pub ghosts-drive : goal.ghosts-drive
ghosts-drive g a = record { run = record { job = no_job; plan = a.plan; told = false; stored = 0; rows = []; entries = []; from = 0; keeper = 0; vault = 0; spools = 0 } }
