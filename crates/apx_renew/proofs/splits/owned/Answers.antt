use Rattle.std.proofs.Common.{sym, subst}
use Rattle.apx_tuple.specs.declared.progress.Progress.{Progress}
use Rattle.apx_renew.specs.Owned.{IsOwn}
use Rattle.apx_renew.proofs.Owning.{own_cut}
use Rattle.apx_renew.proofs.splits.owned.Goals as goal

pub returns-in-Ok-clause-own : goal.returns-in-Ok-clause-own
returns-in-Ok-clause-own c =
    subst (λ (g : Progress). IsOwn c.args.count c.args.part g.state) (sym c.in-Ok.ensures.cut) (own_cut c.args.count c.args.part c.args.progress.now.state c.len.ensures.state.ascends)
