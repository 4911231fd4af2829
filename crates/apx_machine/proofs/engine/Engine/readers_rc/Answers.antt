use Rattle.std.proofs.Common.{arith}
use Rattle.apx_machine.proofs.Looked.{few_ops}
use Rattle.apx_machine.proofs.engine.Engine.readers_rc.Goals as goal

pub bounds-look-op : goal.bounds-look-op
bounds-look-op c = let few = few_ops c.args.self.now.plan c.args.self.now.state c.requires.look.small c.requires.look.kept c.args.op c.requires.there in omega arith

pub returns : goal.returns
returns c = c.requires.look.readers c.args.op (few_ops c.args.self.now.plan c.args.self.now.state c.requires.look.small c.requires.look.kept c.args.op c.requires.there)
