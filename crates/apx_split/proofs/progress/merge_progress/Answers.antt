use Rattle.std.proofs.Common.{◌≡◌, map, rules, ap, ◌∙◌}
use Rattle.apx_tuple.specs.declared.progress.Progress.{Progress}
use Rattle.apx_rules.specs.Parts.{merge_bags, merge_states}
use Rattle.apx_shares.specs.Carried.{merge_progress}
use Rattle.apx_shares.proofs.Merging.{cuts-merge}
use Rattle.apx_split.proofs.progress.merge_progress.Goals as goal

pub returns-clause-whole : goal.returns-clause-whole
returns-clause-whole c = λ n progress h o e.
    let state : c.in_ok-state.state ≡ merge_states (map (λ (part : Progress). part.state) c.args.parts.items) = search (rules, c.in_ok-state.ensures.ok, c.in_ok-states.ensures.states) in
    let left : c.in_ok-left.left ≡ merge_bags (map (λ (part : Progress). part.left) c.args.parts.items) = search (rules, c.in_ok-left.ensures.ok, c.in_ok-states.ensures.lefts) in
    let right : c.in_ok-right.right ≡ merge_bags (map (λ (part : Progress). part.right) c.args.parts.items) = search (rules, c.in_ok-right.ensures.ok, c.in_ok-states.ensures.rights) in
    (λ j. record { state = state j; left = left j; right = right j }) ∙ (ap merge_progress e ∙ cuts-merge n h progress o)
