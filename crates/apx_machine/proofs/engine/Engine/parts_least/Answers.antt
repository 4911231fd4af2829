use Rattle.std.proofs.Common.{◌≡◌, ap, ◌∙◌, arith}
use Rattle.apx_history.specs.State.{Slot, slot}
use Rattle.apx_machine.specs.Outlook.{measure}
use Rattle.apx_machine.proofs.Loops.{lowest_none, lowest_more}
use Rattle.apx_machine.proofs.engine.Engine.parts_least.Goals as goal

pub loop-part-init : goal.loop-part-init
loop-part-init c = lowest_none (λ i. measure c.args.toward (slot c.args.self.now.state c.args.op i)) c.args.most

pub loop-part-preserved : goal.loop-part-preserved
loop-part-preserved c =
    let r : c.measure.result ≡ measure c.args.toward (slot c.args.self.now.state c.args.op c.loop-part.part) = c.measure.ensures ∙ ap (λ (x : Slot). measure c.args.toward x) c.slot.ensures in
    lowest_more (λ i. measure c.args.toward (slot c.args.self.now.state c.args.op i)) c.args.most c.loop-part.part c.loop-part.least c.min-least.result c.loop-part.invariant (omega (arith, c.min-least.ensures))
