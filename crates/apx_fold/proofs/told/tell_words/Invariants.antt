use Rattle.std.proofs.Common.{◌≡◌, ◌==◌, ◌++◌, not, length, map}
use Rattle.std.specs.List.{filter}
use Rattle.apx_step.specs.Words.{with_value}
use Rattle.apx_fold.proofs.told.tell_words.Given as goal

abbrev pub invariant-loop-word : goal.invariant-loop-word
invariant-loop-word l = l.told.items ≡ l.fn.told.items ++ with_value l.value (filter (λ w. not (length w == 0)) (map (λ w. w.now) l.yielded))
