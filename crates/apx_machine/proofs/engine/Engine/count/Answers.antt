use Rattle.std.proofs.Common.{arith}
use Rattle.apx_history.specs.Choices.{choices}
use Rattle.apx_history.proofs.Listed.{always-goes-on}
use Rattle.apx_machine.proofs.Few.{choices_few}
use Rattle.apx_machine.proofs.Seeking.{count_left}
use Rattle.apx_machine.proofs.engine.Engine.count.Goals as goal

pub overflow_sub-result : goal.overflow_sub-result
overflow_sub-result c =
    let few = choices_few c.args.self.now.plan c.args.self.now.state c.requires.small c.requires.kept in
    let left = count_left (choices c.args.self.now.plan c.args.self.now.state) 10000 c.search-sought.result c.search-sought.ensures few in
    omega (arith, c.ahead-left.ensures)

pub returns-clause-count : goal.returns-clause-count
returns-clause-count c =
    let few = choices_few c.args.self.now.plan c.args.self.now.state c.requires.small c.requires.kept in
    let left = count_left (choices c.args.self.now.plan c.args.self.now.state) 10000 c.search-sought.result c.search-sought.ensures few in
    omega (arith, c.ahead-left.ensures)

pub returns-clause-some : goal.returns-clause-some
returns-clause-some c = λ r.
    (let few = choices_few c.args.self.now.plan c.args.self.now.state c.requires.small c.requires.kept in
    let left = count_left (choices c.args.self.now.plan c.args.self.now.state) 10000 c.search-sought.result c.search-sought.ensures few in
    let some = always-goes-on c.args.self.now.plan c.args.self.now.state c.requires.plan c.requires.kept r in
    omega (arith, c.ahead-left.ensures))
