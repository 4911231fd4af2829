use Rattle.std.proofs.Common.{◌≡◌, ◌<◌, ◌==◌, ◌∙◌, length, map, arith}
use Rattle.std.specs.Prelude.{string_bytes}
use Rattle.std.proofs.lemmas.Grind.{common_steps}
use Rattle.apx_cmd.proofs.Pairs.{options_short}
use Rattle.apx_cmd.proofs.option.are_options.Goals as goal

pub returns : goal.returns
returns c =
    let short : length (map string_bytes c.loop-rest.rest.now) < 2 = grind (arith, common_steps, c.in_default.len_below) in
    let empty : c.is_empty.result ≡ (length (map string_bytes c.loop-rest.rest.now) == 0) = grind (arith, common_steps, c.is_empty.ensures) in
    empty ∙ options_short c.args.script c.args.numbers.now (map string_bytes c.loop-rest.rest.now) short ∙ c.loop-rest.invariant
