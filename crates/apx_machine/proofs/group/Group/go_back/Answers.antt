use Rattle.std.proofs.Common.{ℕ, List, cond, ◌||◌, ap, ◌∙◌, arith}
use Rattle.apx_history.specs.State.{Slot, Oper, fresh, map_from}
use Rattle.apx_history.specs.Plan.{kills}
use Rattle.apx_history.specs.Effects.{back}
use Rattle.apx_machine.proofs.Mapped.{mapped}
use Rattle.apx_machine.proofs.group.Group.go_back.Goals as goal

pub returns : goal.returns
returns c =
    let whole = mapped (λ i x. cond (kills c.args.op i c.args.line || c.args.under) (back x) x) (fresh 0) c.self.inside.parts.items c.loop-part.self-inside.parts.items c.loop-part.invariant.size
    (λ k r. c.loop-part.invariant.done k (omega (arith, c.len-part-end.ensures))) in
    ap (λ (p : List Slot). record { boundary = c.loop-part.self-inside.boundary; parts = p }) whole
    ∙ ap (λ (b : ℕ). record { boundary = b; parts = map_from 0 (λ i x. cond (kills c.args.op i c.args.line || c.args.under) (back x) x) c.self.inside.parts.items }) c.loop-part.invariant.boundary
    ∙ ap (λ (g : Oper). record { boundary = g.boundary; parts = map_from 0 (λ i x. cond (kills c.args.op i c.args.line || c.args.under) (back x) x) g.parts }) c.self.view_is
