use Rattle.std.proofs.Common.{List, subst}
use Rattle.std.specs.List.{AllByRecursion}
use Rattle.apx_pass.specs.Groups as groups
use Rattle.apx_pass.specs.Groups.{IsInput}
use Rattle.apx_blocks.proofs.Reading.{inputs-short}
use Rattle.apx_blocks.proofs.inputs.keys_are_short.Goals as goal

pub returns : goal.returns
returns c =
    inputs-short c.args.job.now.flow (subst (λ (inputs : List groups.Input). AllByRecursion IsInput inputs) c.inputs.ensures c.are_accepted.ensures)
