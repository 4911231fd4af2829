use Rattle.std.proofs.Common.{◌≡◌, [], List, ap, sym, subst, ◌∙◌, rules, inl, inr}
use Rattle.std.proofs.lemmas.Result.{err_from_is_err_and}
use Rattle.std.specs.Prelude.{IfOk}
use Rattle.apx_tuple.specs.declared.tuple.Tuple.{Tuple}
use Rattle.apx_tuple.specs.Size.{IsLarge}
use Rattle.apx_tuple.specs.Tuple.{tuple_key}
use Rattle.apx_pass.specs.Graph.{Node, node_at}
use Rattle.apx_rules.specs.Parts.{merge_bags}
use Rattle.apx_part.specs.Gathered.{kept_by}
use Rattle.apx_part.proofs.Choosing.{all-merged, kept-by-unifies}
use Rattle.apx_part.proofs.port.unified.Goals as goal

pub returns-clause-ok : goal.returns-clause-ok
returns-clause-ok c = λ plan bags listed.
    let none : c.new-tuples.result.items ≡ [] = search rules in
    let all : c.in_ok-all.all ≡ merge_bags bags = c.in_ok-all.ensures.ok ∙ all-merged bags c.new-tuples.result.items c.append_lists.new.into.items none (c.in_ok-append_lists.ensures plan bags listed) in
    subst (λ (rows : List Tuple). IfOk c.keep.result (λ bag. bag ≡ rows)) (ap (λ (x : Node). kept_by x.role c.in_ok-all.all) c.node.ensures ∙ (ap (kept_by (node_at c.args.dag.now c.args.source).role) all ∙ kept-by-unifies (node_at c.args.dag.now c.args.source).role bags)) c.keep.ensures.ok

pub returns-clause-large : goal.returns-clause-large
returns-clause-large c = λ plan bags listed h.
    let none : c.new-tuples.result.items ≡ [] = search rules in
    let all : c.in_ok-all.all ≡ merge_bags bags = c.in_ok-all.ensures.ok ∙ all-merged bags c.new-tuples.result.items c.append_lists.new.into.items none (c.in_ok-append_lists.ensures plan bags listed) in
    inr (subst (λ (rows : List Tuple). IsLarge tuple_key rows) (ap (λ (x : Node). kept_by x.role c.in_ok-all.all) c.node.ensures ∙ (ap (kept_by (node_at c.args.dag.now c.args.source).role) all ∙ kept-by-unifies (node_at c.args.dag.now c.args.source).role bags)) (c.keep.ensures.large h))

pub returns-in_err-all-clause-large : goal.returns-in_err-all-clause-large
returns-in_err-all-clause-large c = λ plan bags listed h.
    let p = err_from_is_err_and c.from_residual-in_err-all.result c.from_residual-in_err-all.ensures.1 in
    inl (subst (λ (rows : List Tuple). IsLarge tuple_key rows) (all-merged bags c.new-tuples.result.items c.append_lists.new.into.items c.new-tuples.ensures.items (c.in_ok-append_lists.ensures plan bags listed))
    (c.in_err-all.ensures.large (let is = p.1 in let gives = p.2 in cc)))
