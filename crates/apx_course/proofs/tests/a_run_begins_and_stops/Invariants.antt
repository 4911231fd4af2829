use Rattle.std.proofs.Common.{true, []}
use Rattle.apx_course.specs.Run.{no_job}
use Rattle.apx_course.proofs.tests.a_run_begins_and_stops.Given as goal

abbrev pub ghosts-begin_and_stop : goal.ghosts-begin_and_stop
ghosts-begin_and_stop g a = record { run = record { job = no_job; plan = a.plan; told = true; stored = 0; rows = []; entries = []; from = 0; keeper = 0; vault = 0; spools = 0 } }
