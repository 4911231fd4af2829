use Rattle.std.proofs.Common.{◌≡◌, ◌+◌, ◌-◌, ◌*◌, ◌∷◌, [], ◌++◌, drop, ℕ, Option, length, arith, ap, sym, ◌∙◌}
use Rattle.std.proofs.lemmas.Bool.{eqb-false, eqb-true}
use Rattle.std.proofs.lemmas.List.{length_push}
use Rattle.std.proofs.Common.{length-drop}
use Rattle.apx_pass.specs.Groups.{Refused, first_refused_from}
use Rattle.apx_pass.specs.Lines.{lines}
use Rattle.apx_input.proofs.Ends.{end_of_end}
use Rattle.apx_input.proofs.Walking.{some_lines, many_windows, next_start, one_start_more, one_window_more, all_windows, all_accepted}
use Rattle.apx_input.proofs.reading.window_starts.Goals as goal

pub returns-then-len-eq-MAX_WINDOWS-clause-refused : goal.returns-then-len-eq-MAX_WINDOWS-clause-refused
returns-then-len-eq-MAX_WINDOWS-clause-refused c =
    let product : c.len.result * c.from.result ≡ length c.loop-rest.starts.items * c.args.per_window = ap (λ n. n * c.from.result) (c.len.ensures ∙ c.loop-rest.starts.ok.0) ∙ ap (λ n. length c.loop-rest.starts.items * n) c.from.ensures in
    let full : length c.loop-rest.starts.items ≡ 20000 = sym c.loop-rest.starts.ok.0 ∙ sym c.len-in-loop-rest.ensures ∙ c.if-len-eq-MAX_WINDOWS.true in
    let many : c.len.result * c.from.result + 1 ≡ 20000 * c.args.per_window + 1 = ap (λ n. n + 1) product ∙ ap (λ n. n * c.args.per_window + 1) full in
    let at : ℕ → Option Refused = λ n. first_refused_from c.args.kind c.args.per_window (n + 1) (lines c.loop-rest.rest.now) in
    let some = eqb-false (length c.loop-rest.rest.now) 0 (sym c.is_empty.ensures ∙ c.loop-rest-test.true) in
    many_windows c.args.kind c.args.per_window _ c.loop-rest.rest.now c.args.bytes.now (omega (arith, some)) many (ap at product ∙ c.loop-rest.invariant.refused)

pub loop-rest-smaller : goal.loop-rest-smaller
loop-rest-smaller c =
    let some = eqb-false (length c.loop-rest.rest.now) 0 (sym c.is_empty.ensures ∙ c.loop-rest-test.true) in
    let lines_left = some_lines c.loop-rest.rest.now (omega (arith, some)) in
    omega (arith, lines_left, ap length c.in_ok-rest.ensures.lines, length-drop c.args.per_window (lines c.loop-rest.rest.now), c.requires.low)

pub loop-rest-preserved : goal.loop-rest-preserved
loop-rest-preserved c =
    let some = eqb-false (length c.loop-rest.rest.now) 0 (sym c.is_empty.ensures ∙ c.loop-rest-test.true) in
    let place : ℕ = length c.args.bytes.now - length c.loop-rest.rest.now in
    let items : c.push.new.self.items ≡ c.loop-rest.starts.items ++ place ∷ [] = c.in_ok-push.ensures.items in
    let count : length c.push.new.self.items ≡ length c.loop-rest.starts.items + 1 = ap length items ∙ length_push c.loop-rest.starts.items place in
    let start = next_start c.args.per_window c.args.bytes.now c.loop-rest.rest.now (length c.loop-rest.starts.items) (omega (arith, some)) c.loop-rest.invariant.rest c.loop-rest.invariant.behind in
    let product : c.len.result * c.from.result ≡ length c.loop-rest.starts.items * c.args.per_window = ap (λ n. n * c.from.result) (c.len.ensures ∙ c.loop-rest.starts.ok.0) ∙ ap (λ n. length c.loop-rest.starts.items * n) c.from.ensures in
    let number : length c.push.new.self.items * c.args.per_window + 1 ≡ c.len.result * c.from.result + 1 + c.args.per_window = ap (λ n. n * c.args.per_window + 1) count ∙ omega (arith, product) in
    let after : ℕ → Option Refused = λ n. first_refused_from c.args.kind c.args.per_window n (lines c.in_ok-rest.rest.now) in
    let at : ℕ → Option Refused = λ n. first_refused_from c.args.kind c.args.per_window (n + 1) (lines c.loop-rest.rest.now) in
    record {
      starts = rw items (one_start_more c.args.per_window c.args.bytes.now c.loop-rest.starts.items place c.loop-rest.invariant.starts start);
      few = omega (arith, count, c.loop-rest.invariant.few, c.if-len-eq-MAX_WINDOWS.false, c.len-in-loop-rest.ensures, c.loop-rest.starts.ok.0);
      rest = end_of_end c.args.bytes.now c.loop-rest.rest.now c.in_ok-rest.rest.now c.loop-rest.invariant.rest c.in_ok-rest.ensures.rest;
      behind = one_window_more c.args.per_window c.args.bytes.now c.loop-rest.rest.now c.in_ok-rest.rest.now (length c.loop-rest.starts.items) c.loop-rest.invariant.behind c.in_ok-rest.ensures.lines ∙ ap (λ n. drop (n * c.args.per_window) (lines c.args.bytes.now)) (sym count);
      refused = ap after number ∙ c.in_ok-rest.ensures.same ∙ ap at product ∙ c.loop-rest.invariant.refused;
    }

pub returns-clause-count : goal.returns-clause-count
returns-clause-count c =
    all_windows c.args.per_window c.args.bytes.now c.args.kind c.loop-rest.starts.items c.loop-rest.rest.now c.requires.low c.loop-rest.invariant.starts (eqb-true _ _ (sym c.is_empty.ensures ∙ c.loop-rest-test.false)) c.loop-rest.invariant.behind

pub returns-clause-accepted : goal.returns-clause-accepted
returns-clause-accepted c =
    all_accepted c.args.kind c.args.per_window _ c.loop-rest.rest.now c.args.bytes.now (eqb-true _ _ (sym c.is_empty.ensures ∙ c.loop-rest-test.false)) c.loop-rest.invariant.refused
