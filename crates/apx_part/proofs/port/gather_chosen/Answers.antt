use Rattle.std.proofs.Common.{◌≡◌, List, ◌++◌, ap, subst, ◌∙◌, inr}
use Rattle.std.specs.Prelude.{IfOk}
use Rattle.apx_tuple.specs.declared.tuple.Tuple.{Tuple}
use Rattle.apx_tuple.specs.Tuple.{bag_of}
use Rattle.apx_rules.specs.Parts.{cut_bag}
use Rattle.apx_part.proofs.port.gather_chosen.Goals as goal

pub returns-clause-ok : goal.returns-clause-ok
returns-clause-ok c = λ plan bags listed.
    subst (λ (rows : List Tuple). IfOk c.joined.result (λ bag. bag ≡ bag_of (c.args.before ++ rows))) (c.in_ok-owned.ensures.cut ∙ ap (cut_bag c.args.n c.args.i) (c.in_ok-all.ensures.ok plan bags listed)) c.joined.ensures.ok
