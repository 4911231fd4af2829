use Rattle.std.proofs.Common.{◌∙◌}
use Rattle.apx_history.specs.declared.Event.TheVariants.{End}
use Rattle.apx_history.specs.Choices.{choices}
use Rattle.apx_machine.proofs.Chosen.{pick_can}
use Rattle.apx_machine.proofs.Seeking.{pick_is}
use Rattle.apx_machine.proofs.engine.Engine.pick.Goals as goal

pub returns-clause-event : goal.returns-clause-event
returns-clause-event c = c.found_or.ensures ∙ pick_is (choices c.args.self.now.plan c.args.self.now.state) c.args.place c.search.result End c.search.ensures c.requires.place

pub returns-clause-next : goal.returns-clause-next
returns-clause-next c = pick_can c.args.self.now.plan c.args.self.now.state c.args.place End c.found_or.result
    (c.found_or.ensures ∙ pick_is (choices c.args.self.now.plan c.args.self.now.state) c.args.place c.search.result End c.search.ensures c.requires.place) c.requires.place
