use Rattle.std.proofs.Common.{◌≡◌, ℕ, cond, [], ◌++◌, ap, subst, ◌∙◌, ◌⊎◌, inr}
use Rattle.std.specs.Prelude.{IfOk}
use Rattle.apx_tuple.specs.Kind.{has_right}
use Rattle.apx_tuple.specs.Progress.{IsLargeProgress}
use Rattle.apx_tuple.specs.Size.{IsLarge}
use Rattle.apx_tuple.specs.Tuple.{bag_of, tuple_key}
use Rattle.apx_pass.specs.Graph.{Role, Node, node_at}
use Rattle.apx_pass.specs.Pass.{Passed}
use Rattle.apx_rules.specs.Parts.{cut_bag}
use Rattle.apx_shares.specs.Given.{unify_of}
use Rattle.apx_part.specs.Gathered.{gathered}
use Rattle.apx_part.specs.Made.{inner_of}
use Rattle.apx_part.proofs.Grouping.{gather-gathered}
use Rattle.apx_part.proofs.operator.work_inner.Goals as goal

pub returns-clause-ok : goal.returns-clause-ok
returns-clause-ok c = λ plan lefts rights l r.
    let role : ℕ → Role = λ k. (node_at c.args.dag.now k).role in
    let m : c.node.inside.app_windows ≡ c.args.node.now.app_windows = ap (λ (x : Node). x.app_windows) c.node.view_is in
    let left : c.in_ok-lefts.lefts ≡ bag_of (c.args.progress.left ++ cut_bag c.args.n c.args.i (unify_of (role c.args.node.now.left) lefts)) =
    c.in_ok-lefts.ensures.ok plan lefts l ∙ ap (λ (k : ℕ). bag_of (c.args.progress.left ++ cut_bag c.args.n c.args.i (unify_of (role k) lefts))) (ap (λ (x : Node). x.left) c.node.view_is) in
    let right : c.in_ok-rights.rights ≡ bag_of (c.args.progress.right ++ cut_bag c.args.n c.args.i (cond (has_right c.args.kind.now) (unify_of (role c.args.node.now.right) rights) [])) = c.in_ok-rights.ensures.ok plan rights r in
    let same : gathered c.args.kind.now c.node.inside.app_windows c.args.window c.args.progress.state c.in_ok-lefts.lefts c.in_ok-rights.rights ≡ inner_of c.args.kind.now c.args.dag.now c.args.node.now c.args.n c.args.i c.args.window c.args.progress lefts rights =
    (λ j. gathered c.args.kind.now (m j) c.args.window c.args.progress.state (left j) (right j))
    ∙ gather-gathered c.args.kind.now c.args.node.now.app_windows c.args.window c.args.progress (cut_bag c.args.n c.args.i (unify_of (role c.args.node.now.left) lefts)) (cut_bag c.args.n c.args.i (cond (has_right c.args.kind.now) (unify_of (role c.args.node.now.right) rights) [])) in
    subst (λ (x : Passed). IfOk c.close.result (λ made. (made.0 ≡ x.progress) × (made.1 ≡ x.rows))) same c.close.ensures.ok

pub returns-clause-large : goal.returns-clause-large
returns-clause-large c = λ plan lefts rights l r h.
    let role : ℕ → Role = λ k. (node_at c.args.dag.now k).role in
    let m : c.node.inside.app_windows ≡ c.args.node.now.app_windows = ap (λ (x : Node). x.app_windows) c.node.view_is in
    let left : c.in_ok-lefts.lefts ≡ bag_of (c.args.progress.left ++ cut_bag c.args.n c.args.i (unify_of (role c.args.node.now.left) lefts)) =
    c.in_ok-lefts.ensures.ok plan lefts l ∙ ap (λ (k : ℕ). bag_of (c.args.progress.left ++ cut_bag c.args.n c.args.i (unify_of (role k) lefts))) (ap (λ (x : Node). x.left) c.node.view_is) in
    let right : c.in_ok-rights.rights ≡ bag_of (c.args.progress.right ++ cut_bag c.args.n c.args.i (cond (has_right c.args.kind.now) (unify_of (role c.args.node.now.right) rights) [])) = c.in_ok-rights.ensures.ok plan rights r in
    let same : gathered c.args.kind.now c.node.inside.app_windows c.args.window c.args.progress.state c.in_ok-lefts.lefts c.in_ok-rights.rights ≡ inner_of c.args.kind.now c.args.dag.now c.args.node.now c.args.n c.args.i c.args.window c.args.progress lefts rights =
    (λ j. gathered c.args.kind.now (m j) c.args.window c.args.progress.state (left j) (right j))
    ∙ gather-gathered c.args.kind.now c.args.node.now.app_windows c.args.window c.args.progress (cut_bag c.args.n c.args.i (unify_of (role c.args.node.now.left) lefts)) (cut_bag c.args.n c.args.i (cond (has_right c.args.kind.now) (unify_of (role c.args.node.now.right) rights) [])) in
    record { is = inr (inr (subst (λ (x : Passed). IsLargeProgress x.progress ⊎ IsLarge tuple_key x.rows) same (c.close.ensures.large h))) }
