use Rattle.std.proofs.Common.{◌≡◌, length, get_or, List, ap, ◌∙◌, arith}
use Rattle.std.proofs.lemmas.List.{length-map}
use Rattle.apx_json.specs.Texts.{Operator, Application}
use Rattle.apx_dag.specs.Marks.{IsFirstLoop}
use Rattle.apx_dag.specs.Ports.{link_of}
use Rattle.apx_dag.proofs.Answering.{is_cycle, is_dag}
use Rattle.apx_dag.proofs.Inversions.{holds_before}
use Rattle.apx_dag.proofs.Sources.{links_within, few_operators, names_apart}
use Rattle.apx_dag.proofs.dag.Dag.of_known.Goals as goal

pub first_loop-requires : goal.first_loop-requires
first_loop-requires c = rw (c.deref.ensures.value, c.in_ok-links.ensures) (links_within c.args.app)

pub order-requires-clause-few : goal.order-requires-clause-few
order-requires-clause-few c =
    let few = few_operators c.args.app (holds_before c.args.app c.in_ok-before_cycles.ensures) in
    let same : length c.deref-2.result.now ≡ length c.args.app.operators = rw (c.deref-2.ensures.value, c.in_ok-links.ensures) (length-map c.args.app.operators (link_of c.args.app)) in
    omega (arith, few, same)

pub order-requires-clause-within : goal.order-requires-clause-within
order-requires-clause-within c = rw (c.deref-2.ensures.value, c.in_ok-links.ensures) (links_within c.args.app)

pub nodes-requires-clause-few : goal.nodes-requires-clause-few
nodes-requires-clause-few c = few_operators c.args.app (holds_before c.args.app c.in_ok-before_cycles.ensures)

pub nodes-requires-clause-names : goal.nodes-requires-clause-names
nodes-requires-clause-names c = names_apart c.args.app (holds_before c.args.app c.in_ok-before_cycles.ensures)

pub returns-in-Some : goal.returns-in-Some
returns-in-Some c =
    let o = c.index.result.now in
    let operators = ap (λ (a : Application). a.operators) c.app.view_is in
    let first : IsFirstLoop c.deref.result.now c.in-Some.i = rw c.in-Some.is at c.in_ok-i.ensures in
    is_cycle c.args.app c.deref.result.now c.in-Some.i o c.in_ok-copy.field-0 c.in_ok-before_cycles.ensures (c.deref.ensures.value ∙ c.in_ok-links.ensures) first (c.index.ensures ∙ ap (λ (os : List Operator). get_or os c.in-Some.i o) operators) (c.in_ok-copy.ensures ∙ ap (λ (x : Operator). x.name) (c.behind-index.view_is ∙ c.written.ensures))

pub invariant_of-result : goal.invariant_of-result
invariant_of-result c =
    is_dag c.args.app c.deref-2.result.now c.in_ok-nodes.nodes.entries c.in_ok-order.order.items c.in_ok-before_cycles.ensures c.in_ok-after_cycles.ensures (c.deref-2.ensures.value ∙ c.in_ok-links.ensures) c.in_ok-order.ensures c.in_ok-nodes.ensures.nodes c.in_ok-nodes.ensures.named
