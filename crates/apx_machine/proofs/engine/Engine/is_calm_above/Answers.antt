use Rattle.std.proofs.Common.{◌≡◌, Bool, true, false, ◌&&◌, length, sym, ap, ◌∙◌, arith}
use Rattle.std.proofs.lemmas.Bool.Decides.{nat_tests}
use Rattle.apx_history.specs.Enabled.{calm}
use Rattle.apx_machine.specs.Outlook.{clear_to}
use Rattle.apx_machine.proofs.Looked.{few_ops, calm_above_is}
use Rattle.apx_machine.proofs.engine.Engine.is_calm_above.Goals as goal

pub bounds-look-op : goal.bounds-look-op
bounds-look-op c = let few = few_ops c.args.self.now.plan c.args.self.now.state c.requires.look.small c.requires.look.kept c.args.op c.requires.there.0 in omega arith

pub returns-then-is_calm : goal.returns-then-is_calm
unfolding calm
returns-then-is_calm c =
    let r : c.is_calm.result ≡ true = grind (arith, nat_tests) in
    c.requires.look.calm.clear c.args.op (few_ops c.args.self.now.plan c.args.self.now.state c.requires.look.small c.requires.look.kept c.args.op c.requires.there.0)
    ∙ ap (λ (b : Bool). b && clear_to c.args.self.now.plan c.args.self.now.state (length c.args.self.now.plan.lines) c.args.op) (sym r ∙ c.is_calm.ensures)
    ∙ calm_above_is c.args.self.now.plan c.args.self.now.state c.args.op c.args.part

pub returns-else-is_calm : goal.returns-else-is_calm
unfolding calm
returns-else-is_calm c =
    let r : c.is_calm.result ≡ false = grind (arith, nat_tests) in
    r ∙ ap (λ (b : Bool). b && clear_to c.args.self.now.plan c.args.self.now.state (length c.args.self.now.plan.lines) c.args.op) (sym r ∙ c.is_calm.ensures)
    ∙ calm_above_is c.args.self.now.plan c.args.self.now.state c.args.op c.args.part
