use Rattle.std.proofs.Common.{◌≡◌, Bool, false, cond, ap, sym, ◌∙◌, arith}
use Rattle.std.proofs.lemmas.Bool.Decides.{nat_tests}
use Rattle.apx_history.specs.State.{slot, parts}
use Rattle.apx_machine.specs.Outlook.{joined, measure, asked}
use Rattle.apx_machine.proofs.Loops.{lowest_same}
use Rattle.apx_machine.proofs.engine.Engine.joined_least.Goals as goal

pub returns-else-is_joined : goal.returns-else-is_joined
returns-else-is_joined c =
    let r : c.is_joined.result ≡ false = grind (arith, nat_tests) in
    let off : joined c.args.self.now.plan c.args.toward c.args.op c.args.other ≡ false = sym c.is_joined.ensures ∙ r in
    lowest_same (parts c.args.self.now.state c.args.other) (asked c.args.self.now.plan c.args.self.now.state c.args.toward c.args.op c.args.most c.args.other) c.args.most
    (λ j. ap (λ (b : Bool). cond b (measure c.args.toward (slot c.args.self.now.state c.args.other j)) c.args.most) off)
