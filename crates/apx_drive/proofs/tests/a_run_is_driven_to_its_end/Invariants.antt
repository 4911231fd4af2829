use Rattle.std.proofs.Common.{true, []}
use Rattle.apx_course.specs.Run.{no_job}
use Rattle.apx_drive.proofs.tests.a_run_is_driven_to_its_end.Given as goal

abbrev pub ghosts-driven : goal.ghosts-driven
ghosts-driven g a = record { run = record { job = no_job; plan = a.plan; told = true; stored = 0; rows = []; entries = []; from = 0; keeper = 0; vault = 0; spools = 0 } }
