use Rattle.apx_tuple.proofs.Fronts.{by-fronts}
use Rattle.apx_tuple.proofs.key.KeyOrd.cmp.Goals as goal

pub returns-in_default : goal.returns-in_default
returns-in_default c = rw (← c.self.view_is, ← c.other.view_is) (by-fronts _ _ _ _ c.self.invariant.1 c.other.invariant.1 c.cmp.result c.cmp.ensures c.in_default.not-Equal)
