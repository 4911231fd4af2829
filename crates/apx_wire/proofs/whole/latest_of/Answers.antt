use Rattle.apx_wire.proofs.Streams.{latest_behind}
use Rattle.apx_wire.proofs.whole.latest_of.Goals as goal

pub returns : goal.returns
returns c = latest_behind c.args.messages.now.items _ c.args.messages.now.ok.0 c.back.result c.args.latest c.or.result c.back.ensures.item c.or.ensures
