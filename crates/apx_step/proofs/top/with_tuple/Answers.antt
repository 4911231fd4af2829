use Rattle.std.proofs.Common.{◌∙◌, refl, ap, arith}
use Rattle.std.proofs.lemmas.List.{length-map}
use Rattle.apx_rules.specs.Step.{rank_order}
use Rattle.apx_step.specs.declared.top.Ranked.{Ranked}
use Rattle.apx_step.specs.Places.{place, tuples_ranked}
use Rattle.apx_step.proofs.Firsts.{place-fits}
use Rattle.apx_step.proofs.Ranking.{with-tuple}
use Rattle.apx_step.proofs.top.with_tuple.Goals as goal

pub insert-requires : goal.insert-requires
insert-requires c =
    let first = c.deref-2.result.now in
    omega (arith, place-fits rank_order c.args.tuple.now (tuples_ranked first), c.place_of-place.ensures, length-map first (λ (x : Ranked). x.0.now), c.deref-2.ensures.len)

pub returns : goal.returns
returns c =
    with-tuple c.args.k c.place_of-place.result c.args.tuple.now c.args.first.items _ _ _ refl
    (c.place_of-place.ensures ∙ ap (λ l. place rank_order c.args.tuple.now (tuples_ranked l)) c.deref-2.ensures.value)
    c.in_ok-insert.ensures.items c.truncate.ensures.items
