use Rattle.std.proofs.Common.{rules, tests}
use Rattle.std.proofs.lemmas.Iterator.{YieldsList-from_slice}
use Rattle.std.proofs.lemmas.Iterator.Consumers.{nth_from_yields_List, YieldsList-from_filter}
use Rattle.apx_dag.specs.Rules.{is_class, is_store}
use Rattle.apx_dag.proofs.rules.second_store.Goals as goal

pub returns : goal.returns
returns c =
    nth_from_yields_List c.nth.result _ 1 c.nth.ensures.ran (YieldsList-from_filter _ (is_class is_store) (YieldsList-from_slice c.args.operators.now (cc)) c.filter.ensures.closure (λ x b q k. search (rules, tests)))
