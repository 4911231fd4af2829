-- The most windows of any input, one input further.
use Rattle.std.proofs.Common.{◌≡◌, ℕ, ◌+◌, ◌<◌, max, List, [], ◌∷◌, ◌++◌, length, take, slice_index_or, arith, refl}
use Rattle.std.proofs.lemmas.List.{take_more}
use Rattle.std.proofs.lemmas.Grind.{common_steps}
use Rattle.std.specs.Ordering.{ord_max, nat_cmp}
use Rattle.apx_pass.specs.Groups.{Input, groups}
use Rattle.apx_pass.specs.Pass.{windows_of}

pub windows_of-append : (inputs : List Input) (input : Input) → windows_of (inputs ++ input ∷ []) ≡ max (windows_of inputs) (groups input)
unfolding windows_of
windows_of-append [] input = omega arith
windows_of-append (first ∷ inputs) input = omega (arith, windows_of-append inputs input)

pub windows_of-none : windows_of [] ≡ 0
unfolding windows_of
windows_of-none = refl

pub windows_of-next : (inputs : List Input) (i : ℕ) (input : Input) → i < length inputs → input ≡ slice_index_or inputs i input → windows_of (take (i + 1) inputs) ≡ max (windows_of (take i inputs)) (groups input)
windows_of-next inputs i input within is = rw (take_more inputs i input within, ← is) (windows_of-append (take i inputs) input)

pub ord_max-nat : (a b : ℕ) → ord_max nat_cmp a b ≡ max a b
ord_max-nat a b = grind (arith, common_steps)
