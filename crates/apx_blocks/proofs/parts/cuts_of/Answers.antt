use Rattle.std.proofs.Common.{◌+◌, refl}
use Rattle.apx_shares.specs.Carried.{cut_progress}
use Rattle.apx_blocks.proofs.Working.{parts-more}
use Rattle.apx_blocks.proofs.parts.cuts_of.Goals as goal

pub loop-part-preserved : goal.loop-part-preserved
loop-part-preserved c =
    parts-more (λ i. cut_progress c.args.n i c.args.whole.now) c.loop-part.part (c.loop-part.part + 1) _ c.loop-part.parts.items _ refl c.loop-part.invariant c.in_ok-split_progress.ensures.cut c.in_ok-push.ensures.items
