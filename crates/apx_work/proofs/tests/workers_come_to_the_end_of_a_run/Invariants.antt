use Rattle.std.proofs.Common.{true, []}
use Rattle.apx_course.specs.Run.{no_job}
use Rattle.apx_work.proofs.tests.workers_come_to_the_end_of_a_run.Given as goal

abbrev pub ghosts-done_by : goal.ghosts-done_by
ghosts-done_by g a = record { run = record { job = no_job; plan = a.plan; told = true; stored = 0; rows = []; entries = []; from = 0; keeper = 0; vault = 0; spools = 0 } }
