use Rattle.std.proofs.Common.{◌≡◌, ◌++◌}
use Rattle.apx_rules.specs.Parts.{cut_state}
use Rattle.apx_fold.proofs.share.Share.cut.Given as goal

abbrev pub invariant-loop-key : goal.invariant-loop-key
invariant-loop-key l = l.pairs.items ++ cut_state l.self.n l.self.i l.key-iterator ≡ cut_state l.self.n l.self.i l.state
