use Rattle.std.proofs.Common.{◌≡◌, ◌++◌, List, subst}
use Rattle.std.specs.Prelude.{OnOk}
use Rattle.apx_tuple.specs.declared.tuple.Tuple.{Tuple}
use Rattle.apx_list.proofs.Left.{owned_all}
use Rattle.apx_list.proofs.tuples.payloads.Goals as goal

pub returns-clause-ok : goal.returns-clause-ok
returns-clause-ok c = λ plan spells.
    subst (λ (ts : List Tuple). OnOk c.owned_payloads.result (c.owned_payloads.new.into.items ≡ c.args.into.now.items ++ ts)) (owned_all spells.tuples) (c.owned_payloads.ensures.ok plan spells)
