use Rattle.std.proofs.Common.{ap, ◌∙◌}
use Rattle.apx_history.specs.Choices.{choices}
use Rattle.apx_machine.specs.Picked.{may_do, found}
use Rattle.apx_machine.proofs.Chosen.{first_can, first_may}
use Rattle.apx_machine.proofs.Seeking.{sought_first}
use Rattle.apx_machine.proofs.engine.Engine.first_for.Goals as goal

pub returns-clause-event : goal.returns-clause-event
returns-clause-event c = c.found.ensures ∙ ap found c.search.ensures ∙ sought_first (may_do c.args.self.now.plan c.args.self.now.state c.args.worker c.args.claim) (choices c.args.self.now.plan c.args.self.now.state)

pub returns-clause-next : goal.returns-clause-next
returns-clause-next c = first_can c.args.self.now.plan c.args.self.now.state c.args.worker c.args.claim c.found.result
    (c.found.ensures ∙ ap found c.search.ensures ∙ sought_first (may_do c.args.self.now.plan c.args.self.now.state c.args.worker c.args.claim) (choices c.args.self.now.plan c.args.self.now.state))

pub returns-clause-may : goal.returns-clause-may
returns-clause-may c = first_may c.args.self.now.plan c.args.self.now.state c.args.worker c.args.claim c.found.result
    (c.found.ensures ∙ ap found c.search.ensures ∙ sought_first (may_do c.args.self.now.plan c.args.self.now.state c.args.worker c.args.claim) (choices c.args.self.now.plan c.args.self.now.state))
