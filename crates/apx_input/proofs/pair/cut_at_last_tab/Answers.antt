use Rattle.std.proofs.Common.{◌≡◌, ℕ, ◌+◌, ◌-◌, List, length, take, drop, Option, Some, arith, sym, ap, ◌∙◌}
use Rattle.std.proofs.lemmas.List.{take_rest}
use Rattle.apx_pass.proofs.Values.{no_tab_at_end, no_tab_just_before, tab_just_before}
use Rattle.apx_input.proofs.pair.cut_at_last_tab.Goals as goal

pub loop-at-init : goal.loop-at-init
loop-at-init c = no_tab_at_end c.args.line.now _ (omega arith)

pub returns-then-line-at-eq-TAB-clause-parts : goal.returns-then-line-at-eq-TAB-clause-parts
returns-then-line-at-eq-TAB-clause-parts c =
    let cut = tab_just_before c.args.line.now c.loop-at.at c.loop-at-test.true c.loop-at.auto.at c.if-line-at-eq-TAB.true c.loop-at.invariant in
    let back : c.loop-at.at - 1 + 1 ≡ c.loop-at.at = omega arith in
    let behind : drop c.loop-at.at c.args.line.now ≡ take (length c.args.line.now - (c.loop-at.at - 1 + 1)) (drop (c.loop-at.at - 1 + 1) c.args.line.now) = rw back (sym (take_rest c.args.line.now c.loop-at.at)) in
    let parts : List ℕ → Option (List ℕ × List ℕ) = λ text. Some (take (c.loop-at.at - 1) c.args.line.now, text) in
    sym (cut ∙ ap parts behind)

pub loop-at-preserved : goal.loop-at-preserved
loop-at-preserved c = no_tab_just_before c.args.line.now c.loop-at.at c.loop-at-test.true c.loop-at.auto.at c.if-line-at-eq-TAB.false c.loop-at.invariant
