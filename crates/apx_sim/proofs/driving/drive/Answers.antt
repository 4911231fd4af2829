use Rattle.std.proofs.Common.{◌≡◌, ◌+◌, ◌<◌, ◌%◌, List, length, get_or, true, arith, ap, subst, ◌∙◌, sym, ◌≤◌, refl}
use Rattle.std.proofs.lemmas.List.{length_push}
use Rattle.apx_history.specs.declared.Entry.{Entry}
use Rattle.apx_history.specs.State.{running, State}
use Rattle.apx_history.specs.Choices.{choices}
use Rattle.apx_history.specs.declared.Event.TheVariants.{End}
use Rattle.apx_course.specs.Faults.{is_fault}
use Rattle.apx_course.specs.Course.{entry}
use Rattle.apx_drive.specs.Driven.{Goes, drawn}
use Rattle.apx_drive.proofs.Owing.{bears_all}
use Rattle.apx_drive.proofs.Driving.{Driving, begun, goes_on, choice_goes, done_of}
use Rattle.apx_sim.specs.Bench.{place_of}
use Rattle.apx_stores.proofs.Crashing.{rows_stay, rows_go_on, entries_stay, entries_go_on}
use Rattle.apx_core.specs.Crashes.{IsOfRun}
use Rattle.apx_sim.proofs.Stored.{stored_grows}
use Rattle.apx_sim.proofs.Benches.{begins_running}
use Rattle.apx_history.specs.Journals.{beginning, after}
use Rattle.apx_sim.proofs.driving.drive.Goals as goal

pub loop-words-init : goal.loop-words-init
loop-words-init g c =
    let run = g.J.Naming.run in
    let runs : running c.args.bench.stores.course.machine ≡ true =
    subst (λ (m : State). running m ≡ true) (sym (c.facts.ensures.now ∙ ap (λ (es : List Entry). after run.plan (beginning run.plan run.stored run.from) es) c.requires))
    (begins_running run.plan run.stored run.from) in
    record {
      driven = begun g.J.Naming.run.plan c.args.order g.J.Naming.run.stored g.J.Naming.run.from (place_of c.args.bench.stores.course) c.new-words.result
          c.requires c.facts.ensures.history c.facts.ensures.now c.new-words.ensures;
      grown = omega arith;
      rows = rows_stay run g.K.Keeper.tells g.K.Keeper.time g.K.Keeper.left c.args.bench.stores.course.machine.stored c.args.bench.stores.keeper c.args.bench.stores.keeper refl c.facts.ensures.durable;
      entries = λ t. entries_stay g.V.Vault.time g.V.Vault.left g.V.Vault.held (IsOfRun g.J.Naming.run.job g.J.Naming.run.told) c.args.bench.stores.vault c.args.bench.stores.vault refl (c.facts.ensures.settled runs t);
    }

pub perform-done-requires-clause-bears : goal.perform-done-requires-clause-bears
perform-done-requires-clause-bears g c =
    bears_all (place_of c.loop-words.bench.stores.course).machine 0 c.loop-words.invariant.driven.own g.J.Naming.run.plan c.pick-event.result

pub perform-done-requires-clause-goes : goal.perform-done-requires-clause-goes
perform-done-requires-clause-goes g c =
    let m = (place_of c.loop-words.bench.stores.course).machine in
    let k = c.draw.result % c.count.result in
    let runs : running m ≡ true = sym c.is_running.ensures ∙ c.loop-words-test.true in
    let some = c.count.ensures.some runs in
    let many = c.count.ensures.count in
    let there : k < length (choices g.J.Naming.run.plan m) = omega arith in
    ap is_fault c.pick-event.ensures.event ∙ choice_goes c.choices_are_exact.ensures g.J.Naming.run.plan m k there

pub loop-words-preserved : goal.loop-words-preserved
loop-words-preserved g c =
    let plan = g.J.Naming.run.plan in
    let now = place_of c.loop-words.bench.stores.course in
    let place = place_of c.perform-done.new.self.stores.course in
    let runs : running now.machine ≡ true = sym c.is_running.ensures ∙ c.loop-words-test.true in
    let at : c.draw.result % c.count.result ≡ drawn c.loop-words.words % length (choices plan now.machine) =
    ap (λ n. n % c.count.result) c.draw.ensures.drawn ∙ ap (λ n. drawn c.loop-words.words % n) c.count.ensures.count in
    let event = c.pick-event.ensures.event ∙ ap (λ k. get_or (choices plan now.machine) k End) at in
    let did = done_of c.perform-done.result (sym c.if-is_err.ensures.value) c.perform-done.ensures.did in
    let goes : Goes plan now place c.pick-event.result = record { machine = did.machine; journal = did.journal } in
    let more : now.machine.stored ≤ place.machine.stored =
    subst (λ (m : State). now.machine.stored ≤ m.stored) (sym did.machine) (stored_grows plan now.machine 0 c.pick-event.result c.pick-event.ensures.next) in
    record {
      driven = subst (λ generator. Driving plan c.args.order g.J.Naming.run.stored g.J.Naming.run.from place generator) (sym c.draw.ensures.behind)
          (goes_on plan c.args.order g.J.Naming.run.stored g.J.Naming.run.from now place c.loop-words.words c.pick-event.result c.loop-words.invariant.driven
          runs c.pick-event.ensures.next event goes c.facts-in-loop-words.ensures.history c.facts-in-loop-words.ensures.now);
      grown = (let a = c.loop-words.invariant.grown in omega (arith, a, more));
      rows = rows_go_on g.J.Naming.run g.K.Keeper.tells g.K.Keeper.time g.K.Keeper.left c.args.bench.stores.course.machine.stored c.loop-words.bench.stores.course.machine.stored c.args.bench.stores.keeper c.loop-words.bench.stores.keeper c.perform-done.new.self.stores.keeper c.loop-words.invariant.grown c.loop-words.invariant.rows c.perform-done.ensures.rows;
      entries = λ t. entries_go_on g.V.Vault.time g.V.Vault.left g.V.Vault.held (IsOfRun g.J.Naming.run.job g.J.Naming.run.told) c.args.bench.stores.vault c.loop-words.bench.stores.vault c.perform-done.new.self.stores.vault (c.loop-words.invariant.entries t) (c.perform-done.ensures.entries t);
    }

pub loop-words-smaller : goal.loop-words-smaller
loop-words-smaller g c =
    let did = done_of c.perform-done.result (sym c.if-is_err.ensures.value) c.perform-done.ensures.did in
    let plan = g.J.Naming.run.plan in
    let old = c.loop-words.bench.stores.course.journal in
    let new = c.perform-done.new.self.stores.course.journal in
    let within = c.is_bounded.ensures plan g.J.Naming.run.stored g.J.Naming.run.from new c.facts-in-loop-words.ensures.history in
    let more = length_push old (entry 0 c.pick-event.result) in
    let longer : length new ≡ length old + 1 = ap (λ (es : List Entry). length es) did.journal ∙ more in
    omega (arith, within, longer)

pub returns-then-is_err-clause-rows : goal.returns-then-is_err-clause-rows
returns-then-is_err-clause-rows g c =
    rows_go_on g.J.Naming.run g.K.Keeper.tells g.K.Keeper.time g.K.Keeper.left c.args.bench.stores.course.machine.stored c.loop-words.bench.stores.course.machine.stored c.args.bench.stores.keeper c.loop-words.bench.stores.keeper c.perform-done.new.self.stores.keeper c.loop-words.invariant.grown c.loop-words.invariant.rows c.perform-done.ensures.rows

pub returns-then-is_err-clause-entries : goal.returns-then-is_err-clause-entries
returns-then-is_err-clause-entries g c = λ t.
    entries_go_on g.V.Vault.time g.V.Vault.left g.V.Vault.held (IsOfRun g.J.Naming.run.job g.J.Naming.run.told) c.args.bench.stores.vault c.loop-words.bench.stores.vault c.perform-done.new.self.stores.vault (c.loop-words.invariant.entries t) (c.perform-done.ensures.entries t)
