use Rattle.std.proofs.Common.{◌≡◌, length, map}
use Rattle.std.specs.Prelude.{string_bytes}
use Rattle.apx_cmd.specs.Options.{are_options}
use Rattle.apx_cmd.proofs.option.are_options.Given as goal

abbrev pub invariant-loop-rest : goal.invariant-loop-rest
invariant-loop-rest l = are_options l.script l.numbers (map string_bytes l.rest) ≡ are_options l.script l.numbers (map string_bytes l.words)

abbrev pub decreases-loop-rest : goal.decreases-loop-rest
decreases-loop-rest l = length l.rest
