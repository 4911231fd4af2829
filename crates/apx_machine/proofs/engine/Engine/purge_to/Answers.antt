use Rattle.std.proofs.Common.{◌≡◌, ℕ, ◌≤◌, min, ap, ◌∙◌, arith}
use Rattle.apx_history.specs.State.{Slot, slot}
use Rattle.apx_history.specs.Enabled.{readers_rc}
use Rattle.apx_history.specs.Choices.{purge_to}
use Rattle.apx_machine.proofs.Looked.{readers_least}
use Rattle.apx_machine.proofs.engine.Engine.purge_to.Goals as goal

pub returns : goal.returns
unfolding purge_to
returns c =
    let most : c.at.result ≤ 4294967295 = (let t = c.at.type_inv in omega arith) in
    let at : c.at.result ≡ (slot c.args.self.now.state c.args.op c.args.part).at = c.at.ensures ∙ ap (λ (x : Slot). x.at) c.slot.ensures in
    c.min.ensures ∙ ap (λ (n : ℕ). min c.at.result n) c.readers_rc.ensures
    ∙ readers_least c.args.self.now.plan c.args.self.now.state c.args.op c.at.result 4294967295 most
    ∙ ap (λ (n : ℕ). readers_rc c.args.self.now.plan c.args.self.now.state c.args.op n) at
