use Rattle.std.proofs.Common.{◌≡◌, ◌<◌, length, get_or, sym, ap, subst, ◌∙◌, inl, inr, arith, List, None}
use Rattle.std.specs.Prelude.{IfSome}
use Rattle.apx_json.specs.Texts.{Operator, Application}
use Rattle.apx_dag.specs.declared.link.Link.{Link}
use Rattle.apx_dag.specs.Graph.{node_by}
use Rattle.apx_dag.specs.Ports.{link_of}
use Rattle.apx_dag.proofs.Building.{build}
use Rattle.apx_dag.proofs.Sources.{source_there, if_some, link_read}
use Rattle.apx_dag.proofs.dag.nodes.Goals as goal
use Rattle.apx_dag.proofs.dag.nodes.Goals.{In-loop-i}

ops_are : (c : In-loop-i) → c.deref-operator-items.result.now ≡ c.args.app.now.operators
ops_are c = c.deref-operator-items.ensures.value ∙ ap (λ (a : Application). a.operators) c.app.view_is

here : (c : In-loop-i) → c.loop-i.i < length c.args.app.now.operators
here c = rw (← ops_are c) c.loop-i-test.true

module _ (c : In-loop-i) (o : Operator) (is : o ≡ get_or c.deref-operator-items.result.now c.loop-i.i o) where
  read : o ≡ get_or c.args.app.now.operators c.loop-i.i o
  read = rw (← ops_are c) is

  link_is : (d : Link) → get_or c.args.links.now c.loop-i.i d ≡ link_of c.args.app.now o
  link_is d = ap (λ (ls : List Link). get_or ls c.loop-i.i d) c.requires.links ∙ link_read c.args.app.now c.loop-i.i o (here c) read d

pub node-requires-clause-left : goal.node-requires-clause-left
node-requires-clause-left c =
    let s = (goal.at.node-requires-clause-left c).In-loop-i in
    let o = c.operator-item.result in
    subst (λ (l : Link). IfSome l.left (λ a. a < 16)) (sym (link_is s o c.operator-item.is (record { left = None; right = None }))) (if_some (link_of c.args.app.now o).left 16 (λ a e. let lt = source_there c.args.app.now o a (inl e) in omega (arith, lt, c.requires.few)))

pub node-requires-clause-right : goal.node-requires-clause-right
node-requires-clause-right c =
    let s = (goal.at.node-requires-clause-right c).In-loop-i in
    let o = c.operator-item.result in
    subst (λ (l : Link). IfSome l.right (λ a. a < 16)) (sym (link_is s o c.operator-item.is (record { left = None; right = None }))) (if_some (link_of c.args.app.now o).right 16 (λ a e. let lt = source_there c.args.app.now o a (inr e) in omega (arith, lt, c.requires.few)))

pub loop-i-preserved : goal.loop-i-preserved
loop-i-preserved c =
    let s = (goal.at.loop-i-preserved c).In-loop-i in
    let o = c.operator-item.result in
    let text = c.in_ok-name.ensures.items ∙ c.as_bytes.ensures.value ∙ c.text.ensures ∙ ap (λ (x : Operator). x.name) (c.behind-operator.view_is ∙ c.written.ensures) in
    let node_is = c.in_ok-node.ensures ∙ ap (λ (l : Link). node_by c.loop-i.i o l) (link_is s o c.operator-item.is (record { left = None; right = None })) in
    build c.args.app.now c.loop-i.i c.loop-i.nodes.entries c.insert.new.self.entries o c.in_ok-name.name c.in_ok-node.node c.loop-i.invariant (here s) (read s o c.operator-item.is) text node_is c.in_ok-insert.ensures.entries
