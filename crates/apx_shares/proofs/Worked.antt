-- Worked rows, computed.
use Rattle.std.proofs.Common.{◌≡◌, ℕ, ℤ, suc, zero, pos, List, [], ◌∷◌, refl, None}
use Rattle.apx_order.specs.Sorted.{sorted, with_member, each_once, with_once}
use Rattle.apx_tuple.specs.declared.kind.Kind.{Kind}
use Rattle.apx_tuple.specs.declared.kind.Kind.TheVariants.{Top, Sum, Tumble}
use Rattle.apx_tuple.specs.declared.progress.Progress.{Progress}
use Rattle.apx_tuple.specs.declared.tuple.Tuple.{Tuple}
use Rattle.apx_rules.specs.Parts.{step_part, of_parts, unify}
use Rattle.apx_rules.specs.Rule.{rule}
use Rattle.apx_rules.specs.Step.{step, entries_at}
use Rattle.apx_pass.specs.Graph.{Inner}
use Rattle.apx_pass.specs.Pass.{at_start, gather}
use Rattle.apx_shares.specs.Given.{pass_part, unify_of}

-- the pairs b 5, a 5, c 5, d 1, as a bag
abbrev pub four : List Tuple
four =
    record { key = 97 ∷ []; value = pos 5 } ∷ record { key = 98 ∷ []; value = pos 5 } ∷ record { key = 99 ∷ []; value = pos 5 }
    ∷ record { key = 100 ∷ []; value = pos 1 } ∷ []

-- the two greatest are a 5 and b 5
abbrev pub two : List Tuple
two = record { key = 97 ∷ []; value = pos 5 } ∷ record { key = 98 ∷ []; value = pos 5 } ∷ []

pub best-of-one : unify (Top 2) (of_parts 1 (λ i. (step_part 1 i (Top 2) 1 [] four []).rows)) ≡ two
unfolding step unify sorted with_member
best-of-one = refl

pub best-of-three : unify (Top 2) (of_parts 3 (λ i. (step_part 3 i (Top 2) 1 [] four []).rows)) ≡ two
unfolding step unify sorted with_member
best-of-three = refl

-- the pair k 1
abbrev pub one : List Tuple
one = record { key = 107 ∷ []; value = pos 1 } ∷ []

-- ---- one tuple comes in each of four windows, which are stepped over in groups of two

-- what partition i of n carries from window w to the next
pub carried : Kind → ℕ → ℕ → ℕ → Progress
carried kind n i zero = at_start
carried kind n i (suc w) = (pass_part n i (Inner kind) 2 None (suc w) (carried kind n i w) one []).progress

-- what the n partitions give in window w + 1, as one
pub given : Kind → ℕ → ℕ → List Tuple
given kind n w = unify_of (Inner kind) (of_parts n (λ i. (pass_part n i (Inner kind) 2 None (suc w) (carried kind n i w) one []).rows))

-- what they give in the four windows
pub windows : Kind → ℕ → List (List Tuple)
windows kind n = given kind n 0 ∷ given kind n 1 ∷ given kind n 2 ∷ given kind n 3 ∷ []

-- the pair k with a number
abbrev pub k : ℤ → List Tuple
k value = record { key = 107 ∷ []; value = value } ∷ []

pub sum-of-one : windows Sum 1 ≡ [] ∷ k (pos 2) ∷ [] ∷ k (pos 4) ∷ []
unfolding windows given carried pass_part unify_of gather step unify rule sorted with_member each_once with_once entries_at
sum-of-one = refl

pub sum-of-two : windows Sum 2 ≡ [] ∷ k (pos 2) ∷ [] ∷ k (pos 4) ∷ []
unfolding windows given carried pass_part unify_of gather step unify rule sorted with_member each_once with_once entries_at
sum-of-two = refl

pub tumble-of-one : windows (Tumble 2) 1 ≡ [] ∷ [] ∷ [] ∷ k (pos 4) ∷ []
unfolding windows given carried pass_part unify_of gather step unify rule sorted with_member each_once with_once entries_at
tumble-of-one = refl

pub tumble-of-two : windows (Tumble 2) 2 ≡ [] ∷ [] ∷ [] ∷ k (pos 4) ∷ []
unfolding windows given carried pass_part unify_of gather step unify rule sorted with_member each_once with_once entries_at
tumble-of-two = refl
