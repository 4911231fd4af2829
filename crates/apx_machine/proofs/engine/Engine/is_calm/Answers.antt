use Rattle.std.proofs.Common.{arith}
use Rattle.apx_history.specs.Enabled.{calm}
use Rattle.apx_machine.proofs.Few.{parts_few}
use Rattle.apx_machine.proofs.Looked.{few_ops}
use Rattle.apx_machine.proofs.engine.Engine.is_calm.Goals as goal

pub overflow_mul-result : goal.overflow_mul-result
overflow_mul-result c =
    let few = few_ops c.args.self.now.plan c.args.self.now.state c.requires.look.small c.requires.look.kept c.args.op c.requires.there.0 in
    let parts = parts_few c.args.self.now.plan c.args.self.now.state c.requires.look.small c.requires.look.kept c.args.op c.requires.there.0 in
    let part = c.requires.there.1 in
    omega arith

pub overflow_add-result : goal.overflow_add-result
overflow_add-result c =
    let few = few_ops c.args.self.now.plan c.args.self.now.state c.requires.look.small c.requires.look.kept c.args.op c.requires.there.0 in
    let parts = parts_few c.args.self.now.plan c.args.self.now.state c.requires.look.small c.requires.look.kept c.args.op c.requires.there.0 in
    let part = c.requires.there.1 in
    omega arith

pub bounds-look-op : goal.bounds-look-op
bounds-look-op c =
    let few = few_ops c.args.self.now.plan c.args.self.now.state c.requires.look.small c.requires.look.kept c.args.op c.requires.there.0 in
    let parts = parts_few c.args.self.now.plan c.args.self.now.state c.requires.look.small c.requires.look.kept c.args.op c.requires.there.0 in
    let part = c.requires.there.1 in
    omega arith

pub returns : goal.returns
unfolding calm
returns c =
    let parts = parts_few c.args.self.now.plan c.args.self.now.state c.requires.look.small c.requires.look.kept c.args.op c.requires.there.0 in
    c.requires.look.calm.parts c.args.op c.args.part (few_ops c.args.self.now.plan c.args.self.now.state c.requires.look.small c.requires.look.kept c.args.op c.requires.there.0) (let part = c.requires.there.1 in omega arith)
