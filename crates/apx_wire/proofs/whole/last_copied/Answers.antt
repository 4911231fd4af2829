use Rattle.std.proofs.Common.{Some, ap, sym, ◌∙◌}
use Rattle.apx_wire.proofs.Streams.{latest_after-last_is}
use Rattle.apx_wire.proofs.whole.last_copied.Goals as goal

pub returns-in_ok-copy_of-in-Some : goal.returns-in_ok-copy_of-in-Some
returns-in_ok-copy_of-in-Some c =
    ap Some c.in_ok-copy_of-in-Some.ensures ∙ sym (latest_after-last_is _ _ c.in-Some.message.now _ c.args.messages.now.ok.0 c.in-Some.ensures.item.3.0 c.in-Some.ensures.lookup)
