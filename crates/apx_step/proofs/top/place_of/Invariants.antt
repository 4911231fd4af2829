use Rattle.std.proofs.Common.{◌≡◌, ◌+◌, drop}
use Rattle.apx_rules.specs.Step.{rank_order}
use Rattle.apx_step.specs.Places.{place, tuples_ranked}
use Rattle.apx_step.proofs.top.place_of.Given as goal

abbrev pub invariant-loop-ranked : goal.invariant-loop-ranked
invariant-loop-ranked l = record {
  index : l.place ≡ l.ranked-index;
  rest : place rank_order l.tuple (tuples_ranked l.first) ≡ l.place + place rank_order l.tuple (tuples_ranked (drop l.ranked-index l.first));
}
