use Rattle.std.proofs.Common.{◌≡◌, List, ◌++◌, ap, subst, ◌∙◌}
use Rattle.std.specs.Prelude.{IfOk}
use Rattle.std.specs.List.{flat_map}
use Rattle.apx_tuple.specs.declared.tuple.Tuple.{Tuple}
use Rattle.apx_tuple.specs.Size.{IsLarge}
use Rattle.apx_tuple.specs.Tuple.{bag_of, tuple_key}
use Rattle.apx_rules.specs.Parts.{cut_bag}
use Rattle.apx_part.proofs.Choosing.{gathered-merged}
use Rattle.apx_part.proofs.port.gather_owned.Goals as goal

pub returns-clause-ok : goal.returns-clause-ok
returns-clause-ok c = λ plan bags listed.
    let all = flat_map (λ (bag : List Tuple). bag) bags in
    let tuples : c.append_lists.new.into.items ≡ c.args.before ++ cut_bag c.args.n c.args.i all = c.in_ok-append_lists.ensures plan bags listed ∙ ap (λ (ts : List Tuple). ts ++ cut_bag c.args.n c.args.i all) c.into_tuples-tuples.ensures.tuples in
    subst (λ (rows : List Tuple). IfOk c.of.result (λ bag. bag ≡ rows)) (ap bag_of tuples ∙ gathered-merged c.args.n c.args.i c.args.before all) c.of.ensures.ok

pub returns-clause-large : goal.returns-clause-large
returns-clause-large c = λ plan bags listed h.
    let all = flat_map (λ (bag : List Tuple). bag) bags in
    let tuples : c.append_lists.new.into.items ≡ c.args.before ++ cut_bag c.args.n c.args.i all = c.in_ok-append_lists.ensures plan bags listed ∙ ap (λ (ts : List Tuple). ts ++ cut_bag c.args.n c.args.i all) c.into_tuples-tuples.ensures.tuples in
    subst (λ (rows : List Tuple). IsLarge tuple_key rows) (ap bag_of tuples ∙ gathered-merged c.args.n c.args.i c.args.before all) (c.of.ensures.large h)
