-- What is kept of a file gives its windows' bags.
use Rattle.std.proofs.Common.{◌≡◌, ℕ, ◌-◌, ◌*◌, ◌<◌, ◌≤◌, List, length, take, drop, filter_map, All, sym, ap, ◌∙◌, arith}
use Rattle.std.proofs.lemmas.List.Elements.{All-same, All-drop}
use Rattle.apx_tuple.specs.declared.kind.InputKind.{InputKind}
use Rattle.apx_tuple.specs.declared.tuple.Tuple.{Tuple}
use Rattle.apx_tuple.specs.Size.{size_by}
use Rattle.apx_tuple.specs.Tuple.{bag_of, tuple_key}
use Rattle.apx_tuple.proofs.Sizes.{size_by-bag_of}
use Rattle.apx_pass.specs.Groups.{input_of, window_bag, first_refused, IsInput}
use Rattle.apx_pass.specs.Lines.{lines}
use Rattle.apx_pass.specs.Pairs.{tuple_of}
use Rattle.apx_pass.proofs.Grouping.{group_at, size_of_short}
use Rattle.apx_pass.proofs.Refusing.{lines_short}

module _ (kind : InputKind) (per_window : ℕ) (bytes text : List ℕ) (window : ℕ) (input : IsInput (input_of kind per_window bytes)) (text_is : lines text ≡ drop ((window - 1) * per_window) (lines bytes)) where
  -- each line is short
  pub short_lines : All (λ (line : List ℕ). length line ≤ 1024) (lines text)
  unfolding first_refused
  short_lines =
      let short : List ℕ → Type 0 = λ line. length line ≤ 1024 in
      All-same short (lines text) _ text_is (All-drop short ((window - 1) * per_window) (lines bytes) (lines_short kind per_window 1 (lines bytes) input.accepted))

  -- so the bag of the tuples is not large
  pub small_tuples : (tuples : List Tuple) → tuples ≡ filter_map (tuple_of kind) (take per_window (lines text)) → size_by tuple_key (bag_of tuples) < 4294967232
  small_tuples tuples is = omega (arith, size_by-bag_of tuples, ap (size_by tuple_key) is, size_of_short kind per_window (lines text) short_lines, input.high)

  -- and they make the window's bag
  pub bag_is : (tuples : List Tuple) → 0 < window → tuples ≡ filter_map (tuple_of kind) (take per_window (lines text)) → bag_of tuples ≡ window_bag (input_of kind per_window bytes) window
  unfolding window_bag
  bag_is tuples some is =
      let here : take per_window (lines text) ≡ take per_window (drop ((window - 1) * per_window) (lines bytes)) = ap (take per_window) text_is in
      let group = group_at (input_of kind per_window bytes) window some in
      ap bag_of (is ∙ ap (filter_map (tuple_of kind)) (here ∙ sym group))
