use Rattle.std.proofs.Common.{rules, arith, ◌≡◌, ℕ, ◌+◌, List, ◌∷◌, length, false, subst, sym, ap, ◌∙◌}
use Rattle.std.specs.Bool.{OnTrue}
use Rattle.apx_pass.specs.Order.{stands_in}
use Rattle.apx_mean.specs.Kept.{reads_from}
use Rattle.apx_mean.proofs.Keeping.{last-read, last-of-two, never-last}
use Rattle.apx_mean.proofs.came.came_both.Goals as goal
use Rattle.apx_mean.proofs.came.came_both.Goals.{then-left-right, else-left-right}

pub returns-clause-came : goal.returns-clause-came
returns-clause-came c = λ gives before.
    let count : c.len-next.result ≡ length c.args.rows.now.items = search rules in
    let later : List ℕ = reads_from c.args.dag.now c.args.order.now (length c.args.rows.now.items + 1) in
    let last : OnTrue c.if-left-right.is_last_left (stands_in (c.args.right ∷ later) c.args.left ≡ false) = elim c.if-left-right.branch [
      | then-left-right w ↦
          let same = w.is_read_from.ensures ∙ ap (λ n. stands_in (reads_from c.args.dag.now c.args.order.now (n + 1)) c.args.left) count in
          subst (λ b. OnTrue b (stands_in (c.args.right ∷ later) c.args.left ≡ false)) (sym w.is_last_left-is) (last-of-two c.args.left c.args.right later _ w.if-left-right.true same)
      | else-left-right w ↦ subst (λ b. OnTrue b (stands_in (c.args.right ∷ later) c.args.left ≡ false)) (sym w.is_last_left-is) (never-last c.args.left c.args.right _ (omega (arith, w.if-left-right.false)))
    ] in
    let middle = c.in_ok-left.ensures.kept gives (c.args.right ∷ later) last before in
    (c.in_ok-left.ensures.came gives (c.args.right ∷ later) before, c.in_ok-right.ensures.came gives later middle)

pub returns-clause-kept : goal.returns-clause-kept
returns-clause-kept c = λ gives before.
    let count : c.len-next.result ≡ length c.args.rows.now.items = search rules in
    let later : List ℕ = reads_from c.args.dag.now c.args.order.now (length c.args.rows.now.items + 1) in
    let last : OnTrue c.if-left-right.is_last_left (stands_in (c.args.right ∷ later) c.args.left ≡ false) = elim c.if-left-right.branch [
      | then-left-right w ↦
          let same = w.is_read_from.ensures ∙ ap (λ n. stands_in (reads_from c.args.dag.now c.args.order.now (n + 1)) c.args.left) count in
          subst (λ b. OnTrue b (stands_in (c.args.right ∷ later) c.args.left ≡ false)) (sym w.is_last_left-is) (last-of-two c.args.left c.args.right later _ w.if-left-right.true same)
      | else-left-right w ↦ subst (λ b. OnTrue b (stands_in (c.args.right ∷ later) c.args.left ≡ false)) (sym w.is_last_left-is) (never-last c.args.left c.args.right _ (omega (arith, w.if-left-right.false)))
    ] in
    let middle = c.in_ok-left.ensures.kept gives (c.args.right ∷ later) last before in
    let same = c.is_read_from-is_last_right.ensures ∙ ap (λ n. stands_in (reads_from c.args.dag.now c.args.order.now (n + 1)) c.args.right) count in
    c.in_ok-right.ensures.kept gives later (last-read _ _ same) middle
