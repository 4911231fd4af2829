use Rattle.std.proofs.Common.{◌≡◌, Bool, false, cond, [], ◌++◌, sym, ap, ◌∙◌}
use Rattle.apx_tuple.specs.Kind.{has_right}
use Rattle.apx_tuple.specs.Tuple.{bag_of}
use Rattle.apx_pass.specs.Graph.{node_at}
use Rattle.apx_rules.specs.Parts.{cut_bag}
use Rattle.apx_shares.specs.Given.{unify_of}
use Rattle.apx_part.proofs.Choosing.{nothing-more}
use Rattle.apx_part.proofs.port.gather_right.Goals as goal

pub returns-clause-ok : goal.returns-clause-ok
returns-clause-ok c = λ plan bags listed.
    let none : has_right c.args.kind.now ≡ false = sym c.has_right.ensures ∙ c.if-has_right.false in
    sym (ap (λ (b : Bool). bag_of (c.args.before ++ cut_bag c.args.n c.args.i (cond b (unify_of (node_at c.args.dag.now c.args.node.now.right).role bags) []))) none ∙ nothing-more c.args.before c.tuples.ensures.bag)
