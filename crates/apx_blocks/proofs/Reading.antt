-- What accepted inputs give has short keys.
use Rattle.std.proofs.Common.{ℕ, zero, suc, ◌+◌, ◌<◌, List, [], ◌∷◌, length, take, get_or, slice_get, sym, subst}
use Rattle.std.specs.List.{AllByRecursion}
use Rattle.std.proofs.lemmas.List.{take_more}
use Rattle.apx_keys.specs.Keys.{HaveKeys, IsShort, InputsHave}
use Rattle.apx_keys.proofs.Members.{each-append}
use Rattle.apx_keys.proofs.Short.{input-short}
use Rattle.apx_pass.specs.Groups as groups
use Rattle.apx_pass.specs.Groups.{IsInput}
use Rattle.apx_pass.specs.Pass.{Dataflow, inputs_before, input_at, rows_of_input}

-- one more of the first inputs
pub inputs-more : (inputs : List groups.Input) (k : ℕ) (d : groups.Input) → k < length inputs → IsInput (get_or inputs k d) → AllByRecursion IsInput (take k inputs) → AllByRecursion IsInput (take (k + 1) inputs)
inputs-more inputs k d h is all =
    subst (λ (ls : List groups.Input). AllByRecursion IsInput ls) (sym (take_more inputs k d h))
    (each-append IsInput (take k inputs) (get_or inputs k d ∷ []) all (is, tt))

found-short : (inputs : List groups.Input) (k w : ℕ) → AllByRecursion IsInput inputs → HaveKeys IsShort (rows_of_input (slice_get inputs k) w)
found-short [] zero w all = tt
found-short [] (suc k) w all = tt
found-short (input ∷ inputs) zero w all = input-short input all.0 w
found-short (input ∷ inputs) (suc k) w all = found-short inputs k w all.1

pub inputs-short : (flow : Dataflow) → AllByRecursion IsInput flow.inputs → InputsHave IsShort flow
unfolding input_at
inputs-short flow all o w = found-short flow.inputs (inputs_before flow.nodes o) w all
