use Rattle.std.proofs.Common.{◌≡◌, ◌+◌, drop}
use Rattle.apx_rules.specs.Step.{rank_order}
use Rattle.apx_step.specs.Places.{place}
use Rattle.apx_fold.proofs.best.place_of.Given as goal

abbrev pub invariant-loop-other : goal.invariant-loop-other
invariant-loop-other l = record {
  index : l.place ≡ l.other-index;
  rest : place rank_order l.tuple l.first ≡ l.place + place rank_order l.tuple (drop l.other-index l.first);
}
