use Rattle.std.proofs.Common.{◌≡◌, ◌<◌, ◌%◌, length, get_or, true, arith, ap, subst, ◌∙◌, sym}
use Rattle.apx_history.specs.State.{running}
use Rattle.apx_history.specs.Choices.{choices}
use Rattle.apx_history.specs.declared.Event.TheVariants.{End}
use Rattle.apx_course.specs.Faults.{is_fault}
use Rattle.apx_drive.specs.Driven.{drawn}
use Rattle.apx_drive.proofs.Owing.{bears_all}
use Rattle.apx_drive.proofs.Driving.{Driving, begun, goes_on, choice_goes, done_of}
use Rattle.apx_drive.proofs.driver.drive.Goals as goal

-- src/driver.rt:34:5
pub loop-words-init : goal.loop-words-init
loop-words-init g c =
    begun g.D.Desk.plan c.args.order g.D.Desk.stored g.D.Desk.from (g.D.Desk.place c.args.desk) c.new-words.result
    c.requires c.facts.ensures.history c.facts.ensures.now c.new-words.ensures

-- src/driver.rt:37:20
pub turn-done-requires-clause-bears : goal.turn-done-requires-clause-bears
turn-done-requires-clause-bears g c =
    bears_all (g.D.Desk.place c.loop-words.desk).machine 0 c.loop-words.invariant.own g.D.Desk.plan c.pick-event.result

-- src/driver.rt:37:20
pub turn-done-requires-clause-goes : goal.turn-done-requires-clause-goes
turn-done-requires-clause-goes g c =
    let m = (g.D.Desk.place c.loop-words.desk).machine in
    let k = c.draw.result % c.count.result in
    let runs : running m ≡ true = sym c.is_running.ensures ∙ c.loop-words-test.true in
    let some = c.count.ensures.some runs in
    let many = c.count.ensures.count in
    let there : k < length (choices g.D.Desk.plan m) = omega arith in
    ap is_fault c.pick-event.ensures.event ∙ choice_goes c.choices_are_exact.ensures g.D.Desk.plan m k there

-- src/driver.rt:34:5
pub loop-words-preserved : goal.loop-words-preserved
loop-words-preserved g c =
    let plan = g.D.Desk.plan in
    let now = g.D.Desk.place c.loop-words.desk in
    let place = g.D.Desk.place c.turn-done.new.self in
    let runs : running now.machine ≡ true = sym c.is_running.ensures ∙ c.loop-words-test.true in
    let at : c.draw.result % c.count.result ≡ drawn c.loop-words.words % length (choices plan now.machine) =
    ap (λ n. n % c.count.result) c.draw.ensures.drawn ∙ ap (λ n. drawn c.loop-words.words % n) c.count.ensures.count in
    let event = c.pick-event.ensures.event ∙ ap (λ k. get_or (choices plan now.machine) k End) at in
    let goes = done_of c.turn-done.result (sym c.if-is_err.ensures.value) c.turn-done.ensures.did in
    subst (λ generator. Driving plan c.args.order g.D.Desk.stored g.D.Desk.from place generator) (sym c.draw.ensures.behind)
    (goes_on plan c.args.order g.D.Desk.stored g.D.Desk.from now place c.loop-words.words c.pick-event.result c.loop-words.invariant
    runs c.pick-event.ensures.next event goes c.facts-in-loop-words.ensures.history c.facts-in-loop-words.ensures.now)
