-- What the partitions of an operator carry from window to window. Partitions count from 0.
--     cut_progress n i    what partition i of n has of what the operator carries
--     merge_progress      what all partitions carry, as one
use Rattle.std.specs.Prelude.{ℕ, List, map}
use Rattle.apx_tuple.specs.declared.progress.Progress.{Progress}
use Rattle.apx_rules.specs.Parts.{cut_bag, cut_state, merge_bags, merge_states}

-- the pairs and the gathered tuples whose keys partition i of n owns
abbrev pub cut_progress : ℕ → ℕ → Progress → Progress
cut_progress n i progress = record {
  state = cut_state n i progress.state;
  left = cut_bag n i progress.left;
  right = cut_bag n i progress.right;
}

-- the states as one, and the gathered tuples of each port as one bag
abbrev pub merge_progress : List Progress → Progress
merge_progress parts = record {
  state = merge_states (map (λ part. part.state) parts);
  left = merge_bags (map (λ part. part.left) parts);
  right = merge_bags (map (λ part. part.right) parts);
}
