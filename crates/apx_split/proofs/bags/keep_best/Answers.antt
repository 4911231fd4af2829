use Rattle.std.proofs.Common.{◌∙◌}
use Rattle.apx_split.proofs.Keeping.{kept-all, kept-best}
use Rattle.apx_split.proofs.bags.keep_best.Goals as goal

pub returns-in_default-clause-ok : goal.returns-in_default-clause-ok
returns-in_default-clause-ok c = kept-all c.args.kind.now c.args.all c.in_default.not-Top
