use Rattle.std.proofs.Common.{◌≡◌}
use Rattle.apx_rules.specs.Parts.{of_parts}
use Rattle.apx_shares.specs.Carried.{cut_progress}
use Rattle.apx_blocks.proofs.parts.cuts_of.Given as goal

abbrev pub invariant-loop-part : goal.invariant-loop-part
invariant-loop-part l = l.parts.items ≡ of_parts l.part (λ i. cut_progress l.n i l.whole)
