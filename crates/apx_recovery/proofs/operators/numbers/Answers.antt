use Rattle.std.proofs.Common.{ℕ, false, get_or, ◌∷◌, [], ◌++◌, Vec, sym, ap, ◌∙◌}
use Rattle.std.specs.declared.alloc.Global.{Global}
use Rattle.apx_recovery.proofs.Numbers.{takes, passes_over}
use Rattle.apx_recovery.proofs.operators.numbers.Goals as goal
use Rattle.apx_recovery.proofs.operators.numbers.Goals.{then-is_marked+in_ok-push, else-is_marked}

pub loop-op-preserved : goal.loop-op-preserved
loop-op-preserved c = elim c.if-is_marked.branch [
  | then-is_marked+in_ok-push w ↦
      ap (λ (v : Vec ℕ Global). v.items) w.ops-is ∙ w.in_ok-push.ensures.items
      ∙ ap (λ ops. ops ++ c.loop-op.op ∷ []) c.loop-op.invariant
      ∙ sym (takes (λ o. get_or c.args.marks.now o false) c.loop-op.op (sym c.is_marked.ensures ∙ w.if-is_marked.true))
  | else-is_marked w ↦
      ap (λ (v : Vec ℕ Global). v.items) w.ops-is ∙ c.loop-op.invariant
      ∙ sym (passes_over (λ o. get_or c.args.marks.now o false) c.loop-op.op (sym c.is_marked.ensures ∙ w.if-is_marked.false))
]
