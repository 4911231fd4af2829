use Rattle.std.proofs.Common.{◌≡◌, List, ◌++◌, length}
use Rattle.apx_tuple.specs.declared.tuple.Tuple.{Tuple}
use Rattle.apx_wire.specs.declared.message.Message.{Message}
use Rattle.apx_wire.specs.Spelling.{spellings}
use Rattle.apx_list.specs.Block.{AreMessages}
use Rattle.apx_list.specs.Tuples.{IsLeft}
use Rattle.apx_list.proofs.tuples.append_owned.Given as goal

abbrev pub invariant-loop-rest : goal.invariant-loop-rest
invariant-loop-rest l = record {
  left : (messages : List Message) → AreMessages messages → l.bytes ≡ spellings messages → IsLeft l.n l.i l.initial.into.items messages l.into.items l.rest;
  some : (more : List Tuple) × (l.into.items ≡ l.initial.into.items ++ more);
}

abbrev pub decreases-loop-rest : goal.decreases-loop-rest
decreases-loop-rest l = length l.rest
