use Rattle.std.proofs.Common.{◌≡◌, ◌++◌, take, drop}
use Rattle.apx_step.specs.Walk.{group_of, past_group}
use Rattle.apx_step.proofs.walk.split_group.Given as goal

abbrev pub invariant-loop-tuple : goal.invariant-loop-tuple
invariant-loop-tuple l = record {
  place : l.len ≡ l.tuple-index;
  group : group_of l.key l.tuples ≡ take l.tuple-index l.tuples ++ group_of l.key (drop l.tuple-index l.tuples);
  rest : past_group l.key l.tuples ≡ past_group l.key (drop l.tuple-index l.tuples);
}
