use Rattle.std.proofs.Common.{false, []}
use Rattle.apx_job.specs.Job.{plan_of}
use Rattle.apx_core.proofs.tests.a_run_stores_each_window.Given as goal

abbrev pub ghosts-drive : goal.ghosts-drive
ghosts-drive g a = record { run = record { job = a.job.value; plan = plan_of a.job.value; told = false; stored = 0; rows = []; entries = []; from = 0; keeper = 0; vault = 0; spools = 0 } }
