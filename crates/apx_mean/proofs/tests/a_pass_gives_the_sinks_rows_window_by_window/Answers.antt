use Rattle.std.proofs.Common.{◌≡◌, ℕ, List, [], ◌∷◌, ◌++◌, ap, ◌∙◌, arith}
use Rattle.apx_pass.specs.Groups.{Input, groups}
use Rattle.apx_pass.specs.Pass as pass
use Rattle.apx_pass.specs.Pass.{windows_of}
use Rattle.apx_mean.specs.Passing.{Passing}
use Rattle.apx_mean.proofs.tests.a_pass_gives_the_sinks_rows_window_by_window.Goals as goal

one : (input : Input) → windows_of (input ∷ []) ≡ groups input
unfolding windows_of
one input = omega arith

pub rows_of_four-requires-clause-within : goal.rows_of_four-requires-clause-within
rows_of_four-requires-clause-within g c =
    let inputs : c.push.new.self.items ≡ c.in_ok-read.read ∷ [] = c.in_ok-push.ensures.items ∙ ap (λ (xs : List Input). xs ++ c.in_ok-read.read ∷ []) c.new-inputs.ensures.items in
    let same : pass.windows c.in_ok-new.field-0.flow ≡ groups c.in_ok-read.read =
    ap (λ (p : Passing). pass.windows p.flow) c.in_ok-new.ensures ∙ ap windows_of (c.deref.ensures.value ∙ inputs) ∙ one c.in_ok-read.read in
    omega (arith, same, c.count.ensures.count, c.if-count-ne4.false)
