use Rattle.std.proofs.Common.{ℕ, nat_le, ap, ◌∙◌, arith}
use Rattle.apx_machine.proofs.Looked.{few_ops, sources_are}
use Rattle.apx_machine.proofs.engine.Engine.sources_have.Goals as goal

pub bounds-look-op : goal.bounds-look-op
bounds-look-op c = let few = few_ops c.args.self.now.plan c.args.self.now.state c.requires.look.small c.requires.look.kept c.args.op c.requires.there in omega arith

pub returns : goal.returns
returns c = ap (λ (n : ℕ). nat_le c.args.window n) (c.requires.look.sources c.args.op (few_ops c.args.self.now.plan c.args.self.now.state c.requires.look.small c.requires.look.kept c.args.op c.requires.there))
    ∙ sources_are c.args.self.now.plan c.args.self.now.state c.args.op c.args.window 4294967295 (let w = c.ranges.window in omega arith)
