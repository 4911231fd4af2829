use Rattle.std.proofs.Common.{sym, ◌∙◌}
use Rattle.apx_step.proofs.Walks.{put-same, same-entry}
use Rattle.apx_step.proofs.walk.keep_entry.Goals as goal

pub returns-then-eq-clause-ok : goal.returns-then-eq-clause-ok
returns-then-eq-clause-ok c = let e = c.eq.ensures in put-same _ _ _ _ c.requires.ascends c.requires.kept (same-entry _ _ (sym c.eq.ensures ∙ c.if-eq.true))
