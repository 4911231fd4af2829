use Rattle.std.proofs.Common.{◌≡◌}
use Rattle.apx_rules.specs.Parts.{of_parts}
use Rattle.apx_shares.specs.Carried.{cut_progress}
use Rattle.apx_renew.proofs.splits.all_cuts.Given as goal

abbrev pub invariant-loop-part : goal.invariant-loop-part
invariant-loop-part l = record { cut : l.cuts.items ≡ of_parts l.part (λ i. cut_progress l.count i l.whole) }
