use Rattle.std.proofs.Common.{◌≡◌, ℕ, ◌<◌, length, get_or}
use Rattle.apx_pass.specs.Pass.{at_start}
use Rattle.apx_rules.specs.Parts.{of_parts}
use Rattle.apx_shares.specs.Carried.{cut_progress}
use Rattle.apx_renew.specs.Owned.{IsOwn}
use Rattle.apx_renew.proofs.splits.all_owned.Given as goal

abbrev pub invariant-loop-part : goal.invariant-loop-part
invariant-loop-part l = record {
  cut : l.own.items ≡ of_parts l.part (λ i. cut_progress (length l.parts) i (get_or l.parts i at_start));
  own : (i : ℕ) → i < l.part → IsOwn (length l.parts) i (get_or l.own.items i at_start).state;
}
