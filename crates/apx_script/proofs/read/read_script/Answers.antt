use Rattle.std.proofs.Common.{◌≡◌, ◌≤◌, ◌∙◌, ◌+◌, length, sym, arith, rules}
use Rattle.std.proofs.lemmas.Grind.{common_steps}
use Rattle.std.proofs.lemmas.Result.{err_from_is_err_and}
use Rattle.apx_pass.specs.Lines.{lines}
use Rattle.apx_pass.specs.Script.{act_of, script_of}
use Rattle.apx_script.proofs.Reading.{begins, goes_past, goes_on, ends, is_done, is_early}
use Rattle.apx_script.proofs.read.read_script.Goals as goal

pub loop-line-init : goal.loop-line-init
loop-line-init c = record {
  so_far = begins c.new-commands.result.items c.args.bytes.now c.new-commands.ensures.items;
  number = omega arith;
  few = omega (arith, c.new-commands.ensures.len);
}

pub loop-line-preserved : goal.loop-line-preserved
loop-line-preserved c = record {
  so_far = goes_past (c.loop-line.number + 1) c.in-Some.line.now (lines c.in-Some.behind.now) (lines c.loop-line.rest.now) (script_of c.args.bytes.now) c.loop-line.commands.items c.in-Some.ensures.lines c.loop-line.invariant.so_far (sym c.is_passed_over.ensures ∙ c.if-not-is_passed_over.false);
  number = omega (arith, c.loop-line.invariant.number, c.in-Some.ensures.shorter);
  few = c.loop-line.invariant.few;
}

pub loop-line-preserved-in_ok-push : goal.loop-line-preserved-in_ok-push
loop-line-preserved-in_ok-push c =
    let before : c.len.result ≡ length c.loop-line.commands.items = search rules in
    let early = is_early (c.loop-line.number + 1) c.len.result (act_of c.in-Some.line.now) c.in_ok-command.field-0 c.in_ok-command.ensures in
    let few : length c.push.new.self.items ≤ 1000 = grind (arith, common_steps, early, before, c.in_ok-push.ensures.items) in
    record {
      so_far = goes_on (c.loop-line.number + 1) c.in-Some.line.now (lines c.in-Some.behind.now) (lines c.loop-line.rest.now) (script_of c.args.bytes.now) c.loop-line.commands.items c.in-Some.ensures.lines c.loop-line.invariant.so_far c.len.result c.in_ok-command.field-0 c.push.new.self.items (sym c.is_passed_over.ensures ∙ c.if-not-is_passed_over.true) before c.in_ok-command.ensures c.in_ok-push.ensures.items;
      number = omega (arith, c.loop-line.invariant.number, c.in-Some.ensures.shorter);
      few = few;
    }

pub returns-in_err-command : goal.returns-in_err-command
returns-in_err-command c =
    let before : c.len.result ≡ length c.loop-line.commands.items = search rules in
    let p = err_from_is_err_and c.from_residual.result c.from_residual.ensures.1 in
    rw (p.1, p.2) (ends (c.loop-line.number + 1) c.in-Some.line.now (lines c.in-Some.behind.now) (lines c.loop-line.rest.now) (script_of c.args.bytes.now) c.loop-line.commands.items c.in-Some.ensures.lines c.loop-line.invariant.so_far c.len.result c.in_err-command.field-0.0 (sym c.is_passed_over.ensures ∙ c.if-not-is_passed_over.true) before c.in_err-command.ensures)

pub returns : goal.returns
returns c = is_done (c.loop-line.number + 1) (length c.loop-line.commands.items) (lines c.loop-line.rest.now) c.loop-line.commands.items (script_of c.args.bytes.now) c.in_default.ensures.lines c.loop-line.invariant.so_far
