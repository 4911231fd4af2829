use Rattle.std.proofs.Common.{◌≡◌, IfOk, subst, ap, ◌∙◌}
use Rattle.apx_tuple.specs.Size.{IsLarge}
use Rattle.apx_tuple.specs.Tuple.{tuple_key}
use Rattle.apx_step.specs.Places.{tuples_ranked}
use Rattle.apx_step.proofs.Ranking.{top-first}
use Rattle.apx_step.proofs.top.top.Goals as goal

pub returns-clause-ok : goal.returns-clause-ok
returns-clause-ok c =
    let first = top-first c.args.k _ _ _ c.in_ok-first.ensures (c.in_ok-copied.ensures ∙ ap tuples_ranked c.deref.ensures.value) in
    subst (λ rows. IfOk c.of.result (λ bag. bag ≡ rows)) first c.of.ensures.ok

pub returns-clause-large : goal.returns-clause-large
returns-clause-large c = λ h.
    let first = top-first c.args.k _ _ _ c.in_ok-first.ensures (c.in_ok-copied.ensures ∙ ap tuples_ranked c.deref.ensures.value) in
    subst (IsLarge tuple_key) first (c.of.ensures.large h)
