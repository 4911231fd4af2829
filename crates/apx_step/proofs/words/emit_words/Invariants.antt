use Rattle.std.proofs.Common.{◌≡◌, ◌≤◌, ◌++◌, length}
use Rattle.apx_rules.specs.Rule.{words_of}
use Rattle.apx_step.specs.Words.{with_value}
use Rattle.apx_step.proofs.words.emit_words.Given as goal

abbrev pub invariant-loop-rest : goal.invariant-loop-rest
invariant-loop-rest l = record {
  short : length l.rest ≤ 1024;
  emitted : l.emitted.items ++ with_value l.value (words_of l.rest) ≡ l.initial.emitted.items ++ with_value l.value (words_of l.initial.rest);
}

abbrev pub decreases-loop-rest : goal.decreases-loop-rest
decreases-loop-rest l = length l.rest
