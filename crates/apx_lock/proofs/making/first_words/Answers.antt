use Rattle.std.proofs.Common.{◌+◌, ℕ, List, take, ap, ◌∙◌, arith}
use Rattle.apx_lock.specs.Views.{zeros}
use Rattle.apx_lock.proofs.Telling.{first_zeros}
use Rattle.apx_lock.proofs.making.first_words.Goals as goal

pub returns : goal.returns
returns c = ap (λ (l : List ℕ). take (c.from.result + 2) l) c.requires.row ∙ (ap (λ (n : ℕ). take (n + 2) (zeros 66)) c.from.ensures ∙ first_zeros c.args.marks 66 (let few = c.requires.few in omega arith))
