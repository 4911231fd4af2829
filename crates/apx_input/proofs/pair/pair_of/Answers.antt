use Rattle.std.proofs.Common.{ℤ, Option, Some, w64, rules, ap, ◌∙◌}
use Rattle.std.specs.Option.{option_map}
use Rattle.std.proofs.lemmas.Int.{to_z-of_z}
use mir.Val.{SFits}
use Rattle.apx_tuple.specs.declared.tuple.Tuple.{Tuple}
use Rattle.apx_pass.proofs.Values.{pair_none, pair_value_none, pair_is}
use Rattle.apx_input.specs.Texts.{pair_from}
use Rattle.apx_input.proofs.pair.pair_of.Goals as goal

pub returns-in_err-key-clause-pair : goal.returns-in_err-key-clause-pair
returns-in_err-key-clause-pair c = ap (option_map pair_from) c.from_residual.ensures ∙ pair_none c.args.line.now c.in_err-key.ensures.parts

pub returns-in_err-integer-clause-pair : goal.returns-in_err-integer-clause-pair
returns-in_err-integer-clause-pair c = ap (option_map pair_from) c.from_residual-in_err-integer.ensures ∙ pair_value_none c.args.line.now _ _ c.in_ok-key.ensures.parts c.in_err-integer.ensures

pub returns-clause-pair : goal.returns-clause-pair
returns-clause-pair c =
    let fits : SFits w64 c.in_ok-integer.field-0 = search rules in
    let tuple : ℤ → Option Tuple = λ value. Some (pair_from (c.in_ok-key.key, value)) in
    ap tuple (to_z-of_z w64 c.in_ok-integer.field-0 fits) ∙ pair_is c.args.line.now _ _ c.in_ok-integer.field-0 c.in_ok-key.ensures.parts c.in_ok-integer.ensures
