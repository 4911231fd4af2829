use Rattle.std.proofs.Common.{◌≤◌, ◌<◌, length, arith, sym, ap, ◌∙◌}
use Rattle.apx_pass.specs.Graph.{Node, is_sink}
use Rattle.apx_dag.proofs.Sinks.{sink-here, sink-past, sink-nowhere, valid-graph}
use Rattle.apx_dag.proofs.dag.Dag.sink.Goals as goal

pub returns-then-is_sink-clause-number : goal.returns-then-is_sink-clause-number
returns-then-is_sink-clause-number c =
    let within : c.loop-op.op < length c.args.self.now = omega (arith, c.len-op-end.ensures.len) in
    let role = ap (λ (n : Node). is_sink n.role) c.node.ensures in
    sym (sink-here c.args.self.now c.loop-op.op within c.loop-op.invariant (sym role ∙ sym c.is_sink.ensures ∙ c.if-is_sink.true))

pub loop-op-preserved : goal.loop-op-preserved
loop-op-preserved c =
    let within : c.loop-op.op < length c.args.self.now = omega (arith, c.len-op-end.ensures.len) in
    let role = ap (λ (n : Node). is_sink n.role) c.node.ensures in
    sink-past c.args.self.now c.loop-op.op within c.loop-op.invariant (sym role ∙ sym c.is_sink.ensures ∙ c.if-is_sink.false)

pub returns-then-is_sink-clause-valid : goal.returns-then-is_sink-clause-valid
returns-then-is_sink-clause-valid c = valid-graph c.args.self.now c.len-op-end.ensures.few c.len-op-end.ensures.valid

pub returns-clause-valid : goal.returns-clause-valid
returns-clause-valid c = valid-graph c.args.self.now c.len-op-end.ensures.few c.len-op-end.ensures.valid

pub returns-clause-number : goal.returns-clause-number
returns-clause-number c =
    let last : length c.args.self.now ≤ c.loop-op.op = omega (arith, c.len-op-end.ensures.len) in
    let n = sink-nowhere c.args.self.now c.loop-op.op last c.loop-op.invariant in
    omega (arith, n, c.len.ensures.len, c.len-op-end.ensures.len)
