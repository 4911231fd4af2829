use Rattle.std.proofs.Common.{◌<◌, ◌∙◌, length, map, arith}
use Rattle.std.specs.Prelude.{string_bytes}
use Rattle.std.proofs.lemmas.Grind.{common_steps}
use Rattle.apx_cmd.proofs.Pairs.{given_short}
use Rattle.apx_cmd.proofs.option.given.Goals as goal

pub returns : goal.returns
returns c =
    let short : length (map string_bytes c.loop-rest.rest.now) < 2 = grind (arith, common_steps, c.in_default.len_below) in
    given_short c.args.option.now (map string_bytes c.loop-rest.rest.now) short ∙ c.loop-rest.invariant
