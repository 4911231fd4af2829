use Rattle.std.proofs.Common.{ℕ, false, get_or, length, ap, ◌∙◌}
use Rattle.std.specs.List.{range_with_len, filter}
use Rattle.apx_pass.specs.Order.{is_below}
use Rattle.apx_recovery.proofs.Numbers.{agree}
use Rattle.apx_recovery.proofs.operators.downstream.Goals as goal

pub returns : goal.returns
returns c =
    c.in_ok-ops.ensures
    ∙ ap (λ (n : ℕ). filter (λ o. get_or c.mark.new.marks o false) (range_with_len 0 n)) c.len-len.ensures.len
    ∙ agree (λ o. get_or c.mark.new.marks o false) (λ o. is_below c.args.dag.now c.args.op o) (length c.args.dag.now) c.mark.ensures.marked
