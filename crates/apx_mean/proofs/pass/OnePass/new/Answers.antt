use Rattle.std.proofs.Common.{◌∙◌, arith}
use Rattle.apx_pass.specs.Pass.{sink_of}
use Rattle.apx_mean.proofs.Turn.{starts-at}
use Rattle.apx_mean.proofs.pass.OnePass.new.Goals as goal

pub place_of-sink-requires : goal.place_of-sink-requires
place_of-sink-requires c = record {
  count = omega arith;
  there = rw c.sink.ensures.number (c.order-order.ensures.goes.whole (sink_of c.args.dag.now) c.sink.ensures.valid.sink);
}

pub invariant_of-result : goal.invariant_of-result
invariant_of-result c = record {
  ordered = c.order-order.ensures.goes;
  valid = c.sink.ensures.valid;
  sink_within = c.place_of-sink.ensures.within;
  sink_is = c.place_of-sink.ensures.named ∙ c.sink.ensures.number;
  carried = c.in_ok-progress.ensures ∙ starts-at _ c.order-order.result.now;
}
