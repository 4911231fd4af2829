use Rattle.std.proofs.Common.{◌≡◌, ◌+◌, length}
use Rattle.std.specs.Option.{option_copied}
use Rattle.apx_wire.specs.Spelling.{spellings}
use Rattle.apx_wire.proofs.Streams.{Reading}
use Rattle.apx_wire.proofs.whole.whole_messages.Given as goal

abbrev pub invariant-messages : goal.invariant-messages
invariant-messages l = record {
  reading : Reading (record { latest = option_copied l.latest; window = l.fn.window }) l.bytes l.messages.items l.window l.rest;
  place_is : l.place ≡ l.fn.place + length (spellings l.messages.items);
}

abbrev pub decreases-messages : goal.decreases-messages
decreases-messages l = length l.rest
