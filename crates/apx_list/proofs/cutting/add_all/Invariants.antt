use Rattle.std.proofs.Common.{take}
use Rattle.apx_list.specs.Cutter.{Adds}
use Rattle.apx_list.proofs.cutting.add_all.Given as goal

abbrev pub invariant-loop-message : goal.invariant-loop-message
invariant-loop-message l = Adds l.initial.cutter l.cutter (take l.message-index l.messages)
