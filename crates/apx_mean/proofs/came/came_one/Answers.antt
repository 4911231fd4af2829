use Rattle.std.proofs.Common.{rules, ◌≡◌, ℕ, ◌+◌, List, length, ap, ◌∙◌}
use Rattle.apx_pass.specs.Order.{stands_in}
use Rattle.apx_mean.specs.Kept.{reads_from}
use Rattle.apx_mean.proofs.Keeping.{last-read}
use Rattle.apx_mean.proofs.came.came_one.Goals as goal

pub returns-clause-kept : goal.returns-clause-kept
returns-clause-kept c = λ gives before.
    let count : c.len.result ≡ length c.args.rows.now.items = search rules in
    let later : List ℕ = reads_from c.args.dag.now c.args.order.now (length c.args.rows.now.items + 1) in
    let same = c.is_read_from-is_last.ensures ∙ ap (λ n. stands_in (reads_from c.args.dag.now c.args.order.now (n + 1)) c.args.source) count in
    c.in_ok-left.ensures.kept gives later (last-read _ _ same) before
