use Rattle.std.proofs.Common.{◌≡◌, ℕ, List, ap, ◌∙◌}
use Rattle.std.specs.Prelude.{IfOk, OnOk}
use Rattle.std.proofs.lemmas.Result.{IfOk-weaker}
use Rattle.apx_rules.specs.Step.{Stepped, step}
use Rattle.apx_shares.proofs.Steps.{parts-keep-cuts}
use Rattle.apx_shares.proofs.Tops.{parts-unify}
use Rattle.apx_split.proofs.Keeping.{law-on-ok}
use Rattle.apx_split.proofs.steps.step_part.Goals as goal

pub returns-clause-whole : goal.returns-clause-whole
returns-clause-whole c = law-on-ok c.step_in_place.result _ (parts-unify c.args.n c.requires.low c.args.kind.now c.args.window c.args.state.now c.args.left.now c.args.right.now)

pub returns-clause-kept : goal.returns-clause-kept
returns-clause-kept c =
    IfOk-weaker c.step_in_place.result _ _
    (λ r h. h.0 ∙ (λ j. (step c.args.kind.now c.args.window (c.in_ok-state.ensures.cut j) (c.in_ok-left.ensures.cut j) (c.in_ok-right.ensures.cut j)).state)
    ∙ parts-keep-cuts c.args.n c.args.i c.args.kind.now c.args.window c.args.state.now c.args.left.now c.args.right.now) c.step_in_place.ensures.ok
