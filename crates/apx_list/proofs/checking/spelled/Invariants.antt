use Rattle.std.proofs.Common.{◌≡◌, take}
use Rattle.apx_wire.specs.Spelling.{spellings}
use Rattle.apx_list.proofs.checking.spelled.Given as goal

abbrev pub invariant-loop-message : goal.invariant-loop-message
invariant-loop-message l = l.bytes.items ≡ spellings (take l.message-index l.messages)
