use Rattle.std.proofs.lemmas.Result.{err_from_is_err_and}
use Rattle.serde_json.specs.View.{items_view}
use Rattle.apx_json.specs.Shape.{sink_at, each_at}
use Rattle.apx_json.proofs.Lists.{goes_on, ends, is_done}
use Rattle.apx_json.proofs.stream.sinks.Goals as goal

pub loop-j-preserved : goal.loop-j-preserved
loop-j-preserved c =
    let values = c.args.list.now.items in
    rw c.in_ok-push.ensures.items (goes_on (sink_at c.args.i) c.loop-j.sinks.items values c.loop-j.j c.value-item.result c.in_ok-port.field-0 (each_at (sink_at c.args.i) 0 (items_view values)) (rw (← c.deref-value-items.ensures.value) c.loop-j-test.true) (rw (← c.deref-value-items.ensures.value) c.value-item.is) c.in_ok-port.ensures c.loop-j.invariant)

pub returns-in_err-port : goal.returns-in_err-port
returns-in_err-port c =
    let values = c.args.list.now.items in
    let p = err_from_is_err_and c.from_residual.result c.from_residual.ensures.1 in
    rw (p.1, p.2) (ends c.in_err-port.field-0.0 (sink_at c.args.i) c.loop-j.sinks.items values c.loop-j.j c.value-item.result (each_at (sink_at c.args.i) 0 (items_view values)) (rw (← c.deref-value-items.ensures.value) c.loop-j-test.true) (rw (← c.deref-value-items.ensures.value) c.value-item.is) c.in_err-port.ensures c.loop-j.invariant)

pub returns : goal.returns
returns c =
    let values = c.args.list.now.items in
    is_done (sink_at c.args.i) c.loop-j.sinks.items values c.loop-j.j (each_at (sink_at c.args.i) 0 (items_view values)) (rw (← c.deref-value-items.ensures.value) c.loop-j-test.false) c.loop-j.invariant
