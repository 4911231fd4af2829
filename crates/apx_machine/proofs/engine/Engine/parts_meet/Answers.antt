use Rattle.std.proofs.Common.{◌≡◌, true, false, sym, ◌∙◌, arith}
use Rattle.std.proofs.lemmas.Bool.Decides.{nat_tests}
use Rattle.apx_history.specs.State.{parts}
use Rattle.apx_machine.specs.Asked.{meets}
use Rattle.apx_machine.proofs.Loops.{all_none, all_more, all_fails}
use Rattle.apx_machine.proofs.engine.Engine.parts_meet.Goals as goal

pub loop-part-init : goal.loop-part-init
loop-part-init c = all_none (meets c.args.self.now.plan c.args.self.now.state c.args.ask c.args.op)

pub returns-then-not-meets : goal.returns-then-not-meets
returns-then-not-meets c =
    let r : c.meets.result ≡ false = grind (arith, nat_tests) in
    all_fails (meets c.args.self.now.plan c.args.self.now.state c.args.ask c.args.op) (parts c.args.self.now.state c.args.op) c.loop-part.part (omega arith) (sym c.meets.ensures ∙ r)

pub loop-part-preserved : goal.loop-part-preserved
loop-part-preserved c =
    let r : c.meets.result ≡ true = grind (arith, nat_tests) in
    all_more (meets c.args.self.now.plan c.args.self.now.state c.args.ask c.args.op) c.loop-part.part c.loop-part.invariant (sym c.meets.ensures ∙ r)
