use Rattle.std.proofs.Common.{◌≡◌, ap, ◌∙◌, arith}
use Rattle.apx_history.specs.State.{Slot, slot}
use Rattle.apx_machine.proofs.Few.{parts_few}
use Rattle.apx_machine.proofs.Rows.{at_small}
use Rattle.apx_machine.proofs.engine.Engine.candidate.Goals as goal

pub overflow_cast-place : goal.overflow_cast-place
overflow_cast-place c =
    let few = parts_few c.args.self.now.plan c.args.self.now.state c.requires.look.small c.requires.look.kept c.args.op c.requires.there.0 in
    let here = c.requires.there.1 in
    omega arith

pub overflow_add-result : goal.overflow_add-result
overflow_add-result c =
    let e : c.at-at.result ≡ (slot c.args.self.now.state c.args.op c.args.part).at = c.at-at.ensures ∙ ap (λ (x : Slot). x.at) c.slot.ensures in
    let most = at_small c.args.self.now.plan c.args.self.now.state c.requires.look.small c.requires.look.kept c.args.op c.args.part c.requires.there in
    omega arith
