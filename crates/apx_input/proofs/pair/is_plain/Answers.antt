use Rattle.std.proofs.Common.{rules, ◌≡◌, ◌≢◌, ℕ, ◌+◌, ◌-◌, ◌<◌, ◌≤◌, length, drop, true, arith, sym, ◌∙◌, length-drop}
use Rattle.apx_pass.proofs.Values.{no_tab_at_end, no_tab_just_before}
use Rattle.apx_input.proofs.Plain.{digits-at-end, digits-more, sure-pair}
use Rattle.apx_input.proofs.pair.is_plain.Goals as goal

pub loop-place-init : goal.loop-place-init
loop-place-init c = record {
  digits = digits-at-end c.args.line.now _ (omega arith);
  tabless = no_tab_at_end c.args.line.now _ (omega arith);
}

pub returns-then-line-place-eq-TAB : goal.returns-then-line-place-eq-TAB
returns-then-line-place-eq-TAB c =
    let count : length (drop c.loop-place.place c.args.line.now) ≡ length c.args.line.now - (c.loop-place.place - 1) - 1 = omega (arith, length-drop c.loop-place.place c.args.line.now, c.loop-place-test.true) in
    sure-pair c.args.line.now c.loop-place.place _ _ count c.loop-place-test.true c.loop-place.auto.place c.if-line-place-eq-TAB.true c.loop-place.invariant.tabless c.loop-place.invariant.digits c.is_sure.ensures

pub loop-place-preserved : goal.loop-place-preserved
loop-place-preserved c = record {
  digits = digits-more c.args.line.now c.loop-place.place c.loop-place-test.true c.loop-place.auto.place (sym c.is_ascii_digit.ensures.value ∙ c.if-not-is_ascii_digit.false) c.loop-place.invariant.digits;
  tabless = no_tab_just_before c.args.line.now c.loop-place.place c.loop-place-test.true c.loop-place.auto.place c.if-line-place-eq-TAB.false c.loop-place.invariant.tabless;
}
