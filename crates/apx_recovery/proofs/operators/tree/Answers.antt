use Rattle.std.proofs.Common.{ℕ, false, get_or, length, ap, ◌∙◌}
use Rattle.apx_pass.specs.Order.{is_below}
use Rattle.apx_recovery.specs.Sets.{set_of}
use Rattle.apx_recovery.proofs.Steps.{set_same}
use Rattle.apx_recovery.proofs.operators.tree.Goals as goal

pub returns : goal.returns
returns c = c.marked.ensures
    ∙ ap (λ (n : ℕ). set_of n (λ o. get_or c.mark.new.marks o false)) c.len-len.ensures.len
    ∙ set_same (λ o. get_or c.mark.new.marks o false) (λ o. is_below c.args.dag.now c.args.op o) (length c.args.dag.now) c.mark.ensures.marked
