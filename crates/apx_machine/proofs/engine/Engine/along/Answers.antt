use Rattle.std.proofs.Common.{◌∙◌, arith}
use Rattle.std.proofs.lemmas.List.{length-set}
use Rattle.apx_machine.specs.Outlook.{least_of}
use Rattle.apx_machine.proofs.Looked.{set_more}
use Rattle.apx_machine.proofs.engine.Engine.along.Goals as goal

pub loop-op-preserved : goal.loop-op-preserved
loop-op-preserved c = record {
  wide = length-set c.loop-op.least c.loop-op.op c.least_of.result ∙ c.loop-op.invariant.wide;
  done = set_more c.loop-op.least c.loop-op.op c.least_of.result (λ o. least_of c.args.self.now.plan c.args.self.now.state c.args.toward o 4294967295)
      (let wide = c.loop-op.invariant.wide in let here = c.loop-op-test.true in omega arith) c.least_of.ensures c.loop-op.invariant.done;
}
