use Rattle.std.proofs.Common.{◌≡◌, List, ◌++◌, false, ap, sym, subst, ◌∙◌, inr, rules}
use Rattle.std.specs.Prelude.{IfOk}
use Rattle.apx_tuple.specs.declared.tuple.Tuple.{Tuple}
use Rattle.apx_tuple.specs.Size.{IsLarge}
use Rattle.apx_tuple.specs.Tuple.{bag_of, tuple_key}
use Rattle.apx_pass.specs.Graph.{Node, node_at}
use Rattle.apx_rules.specs.Parts.{cut_bag}
use Rattle.apx_part.specs.Gathered.{is_chosen}
use Rattle.apx_part.proofs.Choosing.{chosen-merged}
use Rattle.apx_part.proofs.port.gather_port.Goals as goal

pub returns-clause-ok : goal.returns-clause-ok
returns-clause-ok c = λ plan bags listed.
    let e : is_chosen (node_at c.args.dag.now c.args.source).role ≡ false = ap (λ (x : Node). is_chosen x.role) (sym c.node.ensures) ∙ (sym c.is_chosen.ensures ∙ c.if-is_chosen.false) in
    subst (λ (rows : List Tuple). IfOk c.gather_owned.result (λ bag. bag ≡ bag_of (c.args.before ++ cut_bag c.args.n c.args.i rows))) (sym (chosen-merged (node_at c.args.dag.now c.args.source).role bags e)) (c.gather_owned.ensures.ok plan bags listed)

pub returns-clause-large : goal.returns-clause-large
returns-clause-large c = λ plan bags listed h.
    let e : is_chosen (node_at c.args.dag.now c.args.source).role ≡ false = ap (λ (x : Node). is_chosen x.role) (sym c.node.ensures) ∙ (sym c.is_chosen.ensures ∙ c.if-is_chosen.false) in
    record { is = inr (inr (subst (λ (rows : List Tuple). IsLarge tuple_key (bag_of (c.args.before ++ cut_bag c.args.n c.args.i rows))) (sym (chosen-merged (node_at c.args.dag.now c.args.source).role bags e)) (c.gather_owned.ensures.large plan bags listed h))) }
