use Rattle.std.proofs.Common.{◌≡◌, rules}
use Rattle.std.proofs.lemmas.Bool.Decides.{Decides-eqb}
use Rattle.std.proofs.lemmas.Slice.Eq.{strip_prefix_is}
use Rattle.apx_wire.specs.Spelling.{spelling}
use Rattle.apx_list.proofs.checking.behind.Goals as goal

pub returns : goal.returns
returns c =
    let front : c.deref.result.now ≡ spelling c.args.message.now = search rules in
    rw (← front) (strip_prefix_is Decides-eqb c.args.bytes.now c.deref.result.now c.strip_prefix.result c.strip_prefix.ensures.cases)
