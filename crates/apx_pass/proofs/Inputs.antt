-- The inputs among the first operators, one operator further.
use Rattle.std.proofs.Common.{◌≡◌, ℕ, ◌+◌, ◌<◌, true, false, List, length, refl}
use Rattle.std.proofs.lemmas.List.Sums.{count_by_more_yes, count_by_more_no}
use Rattle.apx_pass.specs.Graph.{Node, node_at, is_input}
use Rattle.apx_pass.specs.Pass.{inputs_before}

module _ (nodes : List Node) where
  pub inputs_before-none : inputs_before nodes 0 ≡ 0
  unfolding inputs_before
  inputs_before-none = refl

  pub inputs_before-input : (i : ℕ) → i < length nodes → is_input (node_at nodes i).role ≡ true → inputs_before nodes (i + 1) ≡ inputs_before nodes i + 1
  unfolding inputs_before
  inputs_before-input i within is = count_by_more_yes (λ (node : Node). is_input node.role) nodes i _ within is

  pub inputs_before-other : (i : ℕ) → i < length nodes → is_input (node_at nodes i).role ≡ false → inputs_before nodes (i + 1) ≡ inputs_before nodes i
  unfolding inputs_before
  inputs_before-other i within is = count_by_more_no (λ (node : Node). is_input node.role) nodes i _ within is
