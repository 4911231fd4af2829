use Rattle.std.proofs.Common.{◌≡◌, ◌<◌, length, arith, sym, ap, ◌∙◌}
use Rattle.apx_pass.specs.Graph.{Node, is_input}
use Rattle.apx_pass.proofs.Inputs.{inputs_before-none, inputs_before-input, inputs_before-other}
use Rattle.apx_dag.proofs.dag.Dag.inputs_before.Goals as goal
use Rattle.apx_dag.proofs.dag.Dag.inputs_before.Goals.{then-is_input, else-is_input}

pub loop-other-init : goal.loop-other-init
loop-other-init c = (sym (inputs_before-none c.args.self.now), omega arith)

pub loop-other-preserved : goal.loop-other-preserved
loop-other-preserved c =
    let within : c.loop-other.other < length c.args.self.now = omega (arith, c.requires, c.loop-other-test.true) in
    let role = ap (λ (n : Node). is_input n.role) c.node.ensures in
    elim c.if-is_input.branch [
      | then-is_input w ↦
          let is = inputs_before-input c.args.self.now c.loop-other.other within (sym role ∙ sym c.is_input.ensures ∙ w.if-is_input.true) in
          (omega arith, omega arith)
      | else-is_input w ↦
          let is = inputs_before-other c.args.self.now c.loop-other.other within (sym role ∙ sym c.is_input.ensures ∙ w.if-is_input.false) in
          (omega arith, omega arith)
    ]
