use Rattle.std.proofs.Common.{◌≡◌, ℕ, IsSome, sym, ap, subst, ◌∙◌}
use Rattle.apx_history.specs.declared.Act.{Act}
use Rattle.apx_history.specs.declared.Act.TheVariants.{Fails}
use Rattle.apx_history.specs.declared.Line.{Line}
use Rattle.apx_history.specs.Plan.{line}
use Rattle.apx_history.specs.State.{State, slot, IsPart}
use Rattle.apx_history.specs.Journals.{owed_act}
use Rattle.apx_machine.specs.Machine.{Running}
use Rattle.apx_sim.specs.Bench.{IsVictim}
use Rattle.apx_sim.proofs.Opened.{killed_part, victim_is, nobody}
use Rattle.apx_sim.proofs.bench.Bench.victim.Goals as goal

pub opened-requires : goal.opened-requires
opened-requires g c =
    let plan = g.J.Naming.run.plan in
    let now = c.args.self.now.stores.course.machine in
    let l = c.args.line in
    let i = c.in-Fails.part in
    let is : (line plan l).act ≡ Fails c.in-Fails.point i = sym (ap (λ (k : Line). k.act) c.command-op.ensures) ∙ c.in-Fails.is in
    let op_is : c.command-op.result.op ≡ (line plan l).op = ap (λ (k : Line). k.op) c.command-op.ensures in
    let state_is : c.machine.result.now.state ≡ now = ap (λ (r : Running). r.state) c.machine.ensures ∙ ap (λ k. k.stores.course.machine) c.self.view_is in
    subst (λ (n : State). IsPart n c.command-op.result.op i) (sym state_is)
    (subst (λ (o : ℕ). IsPart now o i) (sym op_is) (killed_part plan now l c.requires c.in-Fails.point i is))

pub returns-in-Splits-clause-none : goal.returns-in-Splits-clause-none
returns-in-Splits-clause-none g c =
    let plan = g.J.Naming.run.plan in
    let now = c.args.self.now.stores.course.machine in
    let l = c.args.line in
    ap (λ (a : Act). owed_act now (line plan l).op a) (sym (ap (λ (k : Line). k.act) c.command-op.ensures) ∙ c.in-Splits.is)

pub returns-then-is_some-clause-some : goal.returns-then-is_some-clause-some
returns-then-is_some-clause-some g c =
    let plan = g.J.Naming.run.plan in
    let now = c.args.self.now.stores.course.machine in
    let l = c.args.line in
    let i = c.in-Fails.part in
    let is : (line plan l).act ≡ Fails c.in-Fails.point i = sym (ap (λ (k : Line). k.act) c.command-op.ensures) ∙ c.in-Fails.is in
    let op_is : c.command-op.result.op ≡ (line plan l).op = ap (λ (k : Line). k.op) c.command-op.ensures in
    let state_is : c.machine.result.now.state ≡ now = ap (λ (r : Running). r.state) c.machine.ensures ∙ ap (λ k. k.stores.course.machine) c.self.view_is in
    let found : c.opened.result ≡ (slot now (line plan l).op i).opened = c.opened.ensures ∙ ap (λ (n : State). (slot n c.command-op.result.op i).opened) state_is
    ∙ ap (λ (o : ℕ). (slot now o i).opened) op_is in
    subst (λ (o : ℕ). IsVictim plan now l o i) (sym op_is)
    (victim_is plan now l c.requires c.in-Fails.point i is (subst (λ x. IsSome x) found (sym c.is_some.ensures ∙ c.if-is_some.true)))

pub returns-else-is_some-clause-none : goal.returns-else-is_some-clause-none
returns-else-is_some-clause-none g c =
    let plan = g.J.Naming.run.plan in
    let now = c.args.self.now.stores.course.machine in
    let l = c.args.line in
    let i = c.in-Fails.part in
    let is : (line plan l).act ≡ Fails c.in-Fails.point i = sym (ap (λ (k : Line). k.act) c.command-op.ensures) ∙ c.in-Fails.is in
    let op_is : c.command-op.result.op ≡ (line plan l).op = ap (λ (k : Line). k.op) c.command-op.ensures in
    let state_is : c.machine.result.now.state ≡ now = ap (λ (r : Running). r.state) c.machine.ensures ∙ ap (λ k. k.stores.course.machine) c.self.view_is in
    let found : c.opened.result ≡ (slot now (line plan l).op i).opened = c.opened.ensures ∙ ap (λ (n : State). (slot n c.command-op.result.op i).opened) state_is
    ∙ ap (λ (o : ℕ). (slot now o i).opened) op_is in
    ap (λ (a : Act). owed_act now (line plan l).op a) is ∙ nobody (slot now (line plan l).op i).opened c.opened.result (sym found) (sym c.is_some.ensures ∙ c.if-is_some.false)
