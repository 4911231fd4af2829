use Rattle.std.proofs.Common.{◌-◌, ◌^◌, ◌∙◌, arith}
use Rattle.apx_decimal.proofs.Numbers.{number_fits, number_past, no_number}
use Rattle.apx_decimal.proofs.natural_up_to.Goals as goal

pub returns-in_err-number-clause-value : goal.returns-in_err-number-clause-value
returns-in_err-number-clause-value c =
    c.from_residual.ensures ∙ no_number c.args.limit (2 ^ 64 - 1) c.args.text.now (omega (arith, c.ranges.limit)) c.in_err-number.ensures

pub returns-then-number-limit-clause-value : goal.returns-then-number-limit-clause-value
returns-then-number-limit-clause-value c =
    number_fits c.args.limit (2 ^ 64 - 1) c.in_ok-number.number c.args.text.now (omega (arith, c.ranges.limit)) c.in_ok-number.ensures c.if-number-limit.true

pub returns-else-number-limit-clause-value : goal.returns-else-number-limit-clause-value
returns-else-number-limit-clause-value c =
    number_past c.args.limit (2 ^ 64 - 1) c.in_ok-number.number c.args.text.now (omega (arith, c.ranges.limit)) c.in_ok-number.ensures c.if-number-limit.false
