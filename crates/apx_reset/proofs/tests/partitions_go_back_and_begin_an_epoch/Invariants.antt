use Rattle.std.proofs.Common.{false, []}
use Rattle.apx_job.specs.Job.{plan_of}
use Rattle.apx_reset.proofs.tests.partitions_go_back_and_begin_an_epoch.Given as goal

abbrev pub ghosts-all : goal.ghosts-all
ghosts-all g a = record { run = record { job = a.job.now; plan = plan_of a.job.now; told = false; stored = 0; rows = []; entries = []; from = 0; keeper = 0; vault = 0; spools = 0 } }
