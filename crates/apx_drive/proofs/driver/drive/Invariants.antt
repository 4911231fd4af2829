use Rattle.std.proofs.Common.{◌-◌, length}
use Rattle.apx_history.specs.Laws.{bound}
use Rattle.apx_drive.proofs.Driving.{Driving}
use Rattle.apx_drive.proofs.driver.drive.Given as goal

abbrev pub invariant-loop-words : goal.invariant-loop-words
invariant-loop-words g l = Driving g.D.Desk.plan l.order g.D.Desk.stored g.D.Desk.from (g.D.Desk.place l.desk) l.words

abbrev pub decreases-loop-words : goal.decreases-loop-words
decreases-loop-words g l = bound g.D.Desk.plan - length (g.D.Desk.place l.desk).journal
