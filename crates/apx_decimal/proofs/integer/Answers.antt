use Rattle.std.proofs.Common.{◌∙◌}
use Rattle.apx_decimal.proofs.Numbers.{value_none, value_minus_none, value_minus, value_plain_none, value_plain}
use Rattle.apx_decimal.proofs.integer.Goals as goal

pub returns-in_err-first : goal.returns-in_err-first
returns-in_err-first c = c.from_residual.ensures ∙ value_none c.args.text.now c.in_err-first.ensures.cases

pub returns-in_err-natural : goal.returns-in_err-natural
returns-in_err-natural c = c.from_residual-in_err-natural.ensures ∙ value_minus_none c.args.text.now _ _ c.in_ok-first.ensures.cases.0 c.if-first-eq-MINUS.true c.in_err-natural.ensures

pub returns-in_err-natural-2 : goal.returns-in_err-natural-2
returns-in_err-natural-2 c = c.from_residual-in_err-natural-2.ensures ∙ value_plain_none c.args.text.now _ _ c.in_ok-first.ensures.cases.0 c.if-first-eq-MINUS.false c.in_err-natural-2.ensures

pub returns-in_ok-natural : goal.returns-in_ok-natural
returns-in_ok-natural c = value_minus c.args.text.now _ _ c.in_ok-natural.field-0 c.checked_sub_unsigned.result c.in_ok-first.ensures.cases.0 c.if-first-eq-MINUS.true c.in_ok-natural.ensures c.checked_sub_unsigned.ensures

pub returns-in_ok-natural-2 : goal.returns-in_ok-natural-2
returns-in_ok-natural-2 c = value_plain c.args.text.now _ _ c.in_ok-natural-2.field-0 c.checked_add_unsigned.result c.in_ok-first.ensures.cases.0 c.if-first-eq-MINUS.false c.in_ok-natural-2.ensures c.checked_add_unsigned.ensures
