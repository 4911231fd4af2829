use Rattle.std.proofs.Common.{◌+◌, ◌*◌, Bool, true, false, not, ◌&&◌, sym, ap, ◌∙◌, arith}
use Rattle.apx_history.specs.Plan.{line, below, kills}
use Rattle.apx_history.specs.Enabled.{due}
use Rattle.std.proofs.lemmas.List.{get_or-replicate}
use Rattle.apx_machine.proofs.Loops.{all_none}
use Rattle.apx_machine.proofs.Looked.{all_suc}
use Rattle.apx_machine.proofs.engine.Engine.calm.Goals as goal

pub loop-line-init : goal.loop-line-init
loop-line-init c = record {
  parts = λ o i r s. get_or-replicate 128 (8 * o + i) true false (omega arith) ∙ sym (all_none (λ l. not (due c.args.self.now.plan c.args.self.now.state l && kills o i (line c.args.self.now.plan l))));
  clear = λ o r. get_or-replicate 16 o true false r ∙ sym (all_none (λ l. not (due c.args.self.now.plan c.args.self.now.state l && below c.args.self.now.plan (line c.args.self.now.plan l).op o)));
}

pub loop-line-preserved : goal.loop-line-preserved
loop-line-preserved c = record {
  parts = λ o i r s. c.strike_due.ensures.parts o i r s
      ∙ ap (λ (b : Bool). not (due c.args.self.now.plan c.args.self.now.state c.loop-line.line && kills o i (line c.args.self.now.plan c.loop-line.line)) && b) (c.loop-line.invariant.parts o i r s)
      ∙ sym (all_suc (λ l. not (due c.args.self.now.plan c.args.self.now.state l && kills o i (line c.args.self.now.plan l))) c.loop-line.line);
  clear = λ o r. c.strike_due.ensures.clear o r
      ∙ ap (λ (b : Bool). not (due c.args.self.now.plan c.args.self.now.state c.loop-line.line && below c.args.self.now.plan (line c.args.self.now.plan c.loop-line.line).op o) && b) (c.loop-line.invariant.clear o r)
      ∙ sym (all_suc (λ l. not (due c.args.self.now.plan c.args.self.now.state l && below c.args.self.now.plan (line c.args.self.now.plan l).op o)) c.loop-line.line);
}
