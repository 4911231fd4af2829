use Rattle.std.proofs.Common.{ℕ, nat_le, ap, ◌∙◌, arith}
use Rattle.apx_machine.proofs.Looked.{readers_are}
use Rattle.apx_machine.proofs.engine.Engine.readers_reach.Goals as goal

pub returns : goal.returns
returns c = ap (λ (n : ℕ). nat_le c.args.window n) c.readers_rc.ensures
    ∙ readers_are c.args.self.now.plan c.args.self.now.state c.args.op c.args.window 4294967295 (let w = c.ranges.window in omega arith)
