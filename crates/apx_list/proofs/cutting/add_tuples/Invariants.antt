use Rattle.std.proofs.Common.{map, take}
use Rattle.apx_wire.specs.declared.message.Message.TheVariants.{Payload}
use Rattle.apx_list.specs.Block.{AreMessages}
use Rattle.apx_list.specs.Cutter.{Adds}
use Rattle.apx_list.proofs.cutting.add_tuples.Given as goal

abbrev pub invariant-loop-tuple : goal.invariant-loop-tuple
invariant-loop-tuple l = record {
  adds : Adds l.initial.cutter l.cutter (map Payload (take l.tuple-index l.tuples));
  fit : AreMessages (map Payload (take l.tuple-index l.tuples));
}
