use Rattle.std.proofs.Common.{◌≡◌, length, true, false, sym, ◌∙◌, arith}
use Rattle.std.proofs.lemmas.Bool.Decides.{nat_tests}
use Rattle.apx_history.specs.State.{all_parts}
use Rattle.apx_machine.specs.Asked.{meets}
use Rattle.apx_machine.proofs.Loops.{all_none, all_more, all_fails}
use Rattle.apx_machine.proofs.engine.Engine.all_meet.Goals as goal

pub loop-op-init : goal.loop-op-init
loop-op-init c = all_none (λ o. all_parts c.args.self.now.state o (meets c.args.self.now.plan c.args.self.now.state c.args.ask o))

pub returns-then-not-parts_meet : goal.returns-then-not-parts_meet
returns-then-not-parts_meet c =
    let r : c.parts_meet.result ≡ false = grind (arith, nat_tests) in
    all_fails (λ o. all_parts c.args.self.now.state o (meets c.args.self.now.plan c.args.self.now.state c.args.ask o)) (length c.args.self.now.state.ops) c.loop-op.op (omega arith) (sym c.parts_meet.ensures ∙ r)

pub loop-op-preserved : goal.loop-op-preserved
loop-op-preserved c =
    let r : c.parts_meet.result ≡ true = grind (arith, nat_tests) in
    all_more (λ o. all_parts c.args.self.now.state o (meets c.args.self.now.plan c.args.self.now.state c.args.ask o)) c.loop-op.op c.loop-op.invariant (sym c.parts_meet.ensures ∙ r)
