use Rattle.std.specs.Option.{option_copied}
use Rattle.std.proofs.lemmas.Result.{err_from_is_err_and}
use Rattle.apx_wire.proofs.Streams.{Reading-next, place-next, Reading-wrong}
use Rattle.apx_wire.proofs.whole.whole_messages.Goals as goal

pub returns-in_err-message-clause-err : goal.returns-in_err-message-clause-err
returns-in_err-message-clause-err c =
    let p = err_from_is_err_and c.from_residual.result c.from_residual.ensures.1 in
    rw (p.1, p.2) (Reading-wrong (record { latest = option_copied c.args.latest; window = c.args.window }) c.args.place c.args.bytes.now c.messages.messages.items c.messages.window (option_copied c.latest_of.result) c.messages.place c.messages.rest.now c.in_err-message.field-0.0 c.messages.invariant.reading c.latest_of.ensures c.messages.invariant.place_is c.in_err-message.ensures.err)

pub messages-preserved : goal.messages-preserved
messages-preserved c =
    let follows = rw c.in-Some.is at c.in_ok-message.ensures.ok in
    record {
      reading = Reading-next (record { latest = option_copied c.args.latest; window = c.args.window }) c.args.bytes.now c.messages.messages.items c.messages.window (option_copied c.latest_of.result) c.messages.rest.now c.in-Some.message c.in-Some.len c.push_back.new.self.items c.window_with-window.result c.split_at.result.1.now c.messages.invariant.reading c.latest_of.ensures follows c.in_ok-push_back.ensures.items c.window_with-window.ensures c.split_at.ensures.back;
      place_is = place-next c.args.place c.messages.place c.messages.messages.items c.in-Some.message c.in-Some.len c.push_back.new.self.items c.messages.invariant.place_is follows.0.len c.in_ok-push_back.ensures.items;
    }
