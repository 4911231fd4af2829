use Rattle.std.proofs.Common.{◌≡◌, List, map, Err, IfOk, sym, ap, subst, ◌∙◌}
use Rattle.apx_tuple.specs.declared.refusal.Short.TheVariants.{Large}
use Rattle.apx_list.specs.declared.block.Block.{Block}
use Rattle.apx_part.specs.Made.{made_of, IsMade, IsLargePart}
use Rattle.apx_core.specs.Claim.{Claimed, IsClaim}
use Rattle.apx_core.proofs.Working.{work_is, said, large_here}
use Rattle.apx_core.proofs.claims.Claim.work.Goals as goal

pub returns-clause-work : goal.returns-clause-work
returns-clause-work g c =
    let run = g.J.Naming.run in
    let a = c.self.inside in
    let with : List (List Block) → List (List Block) → Claimed = λ left right. record { op = a.id.op; part = a.id.part; window = a.window; worker = a.worker; state = a.state; left = left; right = right } in
    let left = map (λ list. list.items) c.deref.result.now in
    let right = map (λ list. list.items) c.deref-in-Some.result.now in
    let is : IsClaim run (with left right) =
    subst (λ (l : List (List Block)). IsClaim run (with l right)) (sym (ap (λ items. map (λ list. list.items) items) c.deref.ensures.value))
    (subst (λ (r : List (List Block)). IsClaim run (with (map (λ list. list.items) a.inputs.left.items) r)) (sym (ap (λ items. map (λ list. list.items) items) c.deref-in-Some.ensures.value))
    c.self.invariant) in
    work_is run c.args.job.now c.requires.job (with left right) is c.in-Some.state c.work_window_of.result c.take.new.self _ _ (sym c.in-Some.ensures.value)
    c.work_window_of.ensures.ok c.work_window_of.ensures.part c.work_window_of.ensures.small

pub returns-clause-made : goal.returns-clause-made
returns-clause-made g c =
    let run = g.J.Naming.run in
    let a = c.self.inside in
    let with : List (List Block) → List (List Block) → Claimed = λ left right. record { op = a.id.op; part = a.id.part; window = a.window; worker = a.worker; state = a.state; left = left; right = right } in
    let left = map (λ list. list.items) c.deref.result.now in
    let right = map (λ list. list.items) c.deref-in-Some.result.now in
    let same : with left right ≡ c.args.self.now =
    ap (λ (l : List (List Block)). with l right) (ap (λ items. map (λ list. list.items) items) c.deref.ensures.value)
    ∙ (ap (λ (r : List (List Block)). with (map (λ list. list.items) a.inputs.left.items) r) (ap (λ items. map (λ list. list.items) items) c.deref-in-Some.ensures.value) ∙ c.self.view_is) in
    said run c.args.job.now c.requires.job (with left right)
    (λ job d state lefts rights. IfOk c.work_window_of.result (λ done. IsMade job d.op d.window (made_of job d.op d.part d.window state lefts rights) done.state done.rows done.blocks.items))
    c.args.self.now same c.in-Some.state (sym c.in-Some.ensures.value) c.work_window_of.ensures.ok

pub returns-clause-large : goal.returns-clause-large
returns-clause-large g c =
    let run = g.J.Naming.run in
    let a = c.self.inside in
    let with : List (List Block) → List (List Block) → Claimed = λ left right. record { op = a.id.op; part = a.id.part; window = a.window; worker = a.worker; state = a.state; left = left; right = right } in
    let left = map (λ list. list.items) c.deref.result.now in
    let right = map (λ list. list.items) c.deref-in-Some.result.now in
    let same : with left right ≡ c.args.self.now =
    ap (λ (l : List (List Block)). with l right) (ap (λ items. map (λ list. list.items) items) c.deref.ensures.value)
    ∙ (ap (λ (r : List (List Block)). with (map (λ list. list.items) a.inputs.left.items) r) (ap (λ items. map (λ list. list.items) items) c.deref-in-Some.ensures.value) ∙ c.self.view_is) in
    said run c.args.job.now c.requires.job (with left right)
    (λ job d state lefts rights. c.work_window_of.result ≡ Err Large → IsLargePart job d.op d.part d.window state lefts rights)
    c.args.self.now same c.in-Some.state (sym c.in-Some.ensures.value) c.work_window_of.ensures.large

pub returns-clause-cause : goal.returns-clause-cause
returns-clause-cause g c =
    let run = g.J.Naming.run in
    let a = c.self.inside in
    let with : List (List Block) → List (List Block) → Claimed = λ left right. record { op = a.id.op; part = a.id.part; window = a.window; worker = a.worker; state = a.state; left = left; right = right } in
    let left = map (λ list. list.items) c.deref.result.now in
    let right = map (λ list. list.items) c.deref-in-Some.result.now in
    let is : IsClaim run (with left right) =
    subst (λ (l : List (List Block)). IsClaim run (with l right)) (sym (ap (λ items. map (λ list. list.items) items) c.deref.ensures.value))
    (subst (λ (r : List (List Block)). IsClaim run (with (map (λ list. list.items) a.inputs.left.items) r)) (sym (ap (λ items. map (λ list. list.items) items) c.deref-in-Some.ensures.value))
    c.self.invariant) in
    large_here run c.args.job.now c.requires.job (with left right) is c.in-Some.state c.work_window_of.result (sym c.in-Some.ensures.value) c.work_window_of.ensures.large c.large_only_in_pass.ensures
