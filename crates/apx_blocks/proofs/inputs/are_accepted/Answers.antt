use Rattle.std.proofs.Common.{List, subst}
use Rattle.std.specs.List.{AllByRecursion}
use Rattle.std.proofs.lemmas.List.{take_all}
use Rattle.apx_pass.specs.Groups as groups
use Rattle.apx_pass.specs.Groups.{IsInput}
use Rattle.apx_blocks.proofs.Reading.{inputs-more}
use Rattle.apx_blocks.proofs.inputs.are_accepted.Goals as goal

pub loop-input-preserved : goal.loop-input-preserved
loop-input-preserved c =
    inputs-more c.args.inputs.now c.loop-input.input-index c.input-item.result c.loop-input-test.true
    (subst (λ (input : groups.Input). IsInput input) c.input-item.is c.count.ensures.input) c.loop-input.invariant

pub returns : goal.returns
returns c =
    subst (λ (inputs : List groups.Input). AllByRecursion IsInput inputs) (take_all c.loop-input.input-index c.args.inputs.now c.loop-input-test.false) c.loop-input.invariant
