use Rattle.std.proofs.Common.{◌≡◌, ◌++◌, take, drop}
use Rattle.apx_step.specs.Words.{first_word, past_word}
use Rattle.apx_step.proofs.words.split_word.Given as goal

abbrev pub invariant-loop-len : goal.invariant-loop-len
invariant-loop-len l = record {
  word : first_word l.bytes ≡ take l.len l.bytes ++ first_word (drop l.len l.bytes);
  rest : past_word l.bytes ≡ past_word (drop l.len l.bytes);
}
