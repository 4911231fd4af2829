use Rattle.std.proofs.Common.{◌≡◌, ◌+◌, ◌≤◌, ◌++◌, ◌∷◌, [], None, Err, ap, subst, ◌∙◌, arith}
use Rattle.apx_cause.proofs.Causes.{Rose-from}
use Rattle.apx_history.specs.State.{State}
use Rattle.apx_history.specs.Conditions.{CanWrite}
use Rattle.apx_history.specs.declared.Event.TheVariants.{Write}
use Rattle.apx_history.proofs.Legal.{events-keep}
use Rattle.apx_pass.specs.Pass.{mean_up_to}
use Rattle.apx_stores.proofs.Wholes.{whole_write, whole_failed, whole_refused, left_failed, left_memory, whole_exact}
use Rattle.apx_stores.specs.Crashes.{RowsFollow}
use Rattle.apx_stores.proofs.Crashing.{durable_same, durable_exact, durable_behind, rows_stay, rows_commit}
use Rattle.apx_stores.proofs.stores.Stores.write.Goals as goal

pub commit-requires-clause-sound : goal.commit-requires-clause-sound
commit-requires-clause-sound g c =
    let none : c.self.inside.course.fault ≡ None = ap (λ s. s.course.fault) c.self.view_is ∙ c.in_ok-reserve.ensures.fault in
    c.self.invariant.1.is_sound none

pub commit-requires-clause-next : goal.commit-requires-clause-next
commit-requires-clause-next g c =
    let none : c.self.inside.course.fault ≡ None = ap (λ s. s.course.fault) c.self.view_is ∙ c.in_ok-reserve.ensures.fault in
    let can : CanWrite g.J.Naming.run.plan c.args.self.now.course.machine c.args.window = c.reserve.ensures.enabled in
    let same : c.self.inside.course.machine.stored ≡ c.args.self.now.course.machine.stored =
    ap (λ s. s.course.machine.stored) c.self.view_is ∙ ap (λ (m : State). m.stored) c.in_ok-reserve.ensures.machine in
    let next : c.args.window ≡ c.self.inside.course.machine.stored + 1 = (let a = can.next in omega (arith, a, same)) in
    let last = c.self.invariant.1.last_is none in
    omega (arith, next, last)

pub invariant_of-self : goal.invariant_of-self
invariant_of-self g c =
    let none : c.self.inside.course.fault ≡ None = ap (λ s. s.course.fault) c.self.view_is ∙ c.in_ok-reserve.ensures.fault in
    let can : CanWrite g.J.Naming.run.plan c.args.self.now.course.machine c.args.window = c.reserve.ensures.enabled in
    let same : c.self.inside.course.machine.stored ≡ c.args.self.now.course.machine.stored =
    ap (λ s. s.course.machine.stored) c.self.view_is ∙ ap (λ (m : State). m.stored) c.in_ok-reserve.ensures.machine in
    let next : c.args.window ≡ c.self.inside.course.machine.stored + 1 = (let a = can.next in omega (arith, a, same)) in
    let high : c.args.window ≤ g.J.Naming.run.plan.windows =
    (events-keep g.J.Naming.run.plan c.args.self.now.course.machine c.reserve.ensures.is c.reserve.ensures.kept c.args.worker (Write c.args.window) c.requires.can).stored in
    let whole = whole_write g.J.Naming.run _ _ _ _ _ _ _ _ _ c.self.invariant.1 c.args.window c.args.rows.now _ _ _ _ _ _ none next
    (ap (λ (m : State). m.stored) c.add.ensures.machine) c.add.ensures.fault c.requires.rows
    c.in-Ok.ensures.stored c.in-Ok.ensures.last c.in-Ok.ensures.sound c.in-Ok.ensures.cause.later in
    let stored = ap (λ (m : State). m.stored) c.add.ensures.machine in (
      c.self.invariant.0,
      whole,
      durable_exact g.J.Naming.run g.K.Keeper.tells _ (g.K.Keeper.left c.commit.new.self (g.K.Keeper.time c.commit.new.self)) (g.K.Keeper.stored c.commit.new.self)
          (omega (arith, stored, high)) (whole_exact g.J.Naming.run _ _ _ _ _ _ _ _ _ whole (c.add.ensures.fault ∙ none))
          (λ t x h. g.met.K.Keeper.settled c.commit.new.self x t (whole.is_sound (c.add.ensures.fault ∙ none)) h),
    )

pub invariant_of-self-in-Err-Failed : goal.invariant_of-self-in-Err-Failed
invariant_of-self-in-Err-Failed g c =
    let none : c.self.inside.course.fault ≡ None = ap (λ s. s.course.fault) c.self.view_is ∙ c.in_ok-reserve.ensures.fault in
    let can : CanWrite g.J.Naming.run.plan c.args.self.now.course.machine c.args.window = c.reserve.ensures.enabled in
    let same : c.self.inside.course.machine.stored ≡ c.args.self.now.course.machine.stored =
    ap (λ s. s.course.machine.stored) c.self.view_is ∙ ap (λ (m : State). m.stored) c.in_ok-reserve.ensures.machine in
    let next : c.args.window ≡ c.self.inside.course.machine.stored + 1 = (let a = can.next in omega (arith, a, same)) in
    let high : c.args.window ≤ g.J.Naming.run.plan.windows =
    (events-keep g.J.Naming.run.plan c.args.self.now.course.machine c.reserve.ensures.is c.reserve.ensures.kept c.args.worker (Write c.args.window) c.requires.can).stored in
    let run = g.J.Naming.run in
    let s = c.args.self.now.course.machine.stored in
    let keeper = ap (λ s. s.keeper) c.self.view_is ∙ c.reserve.ensures.keeper in
    let follow : RowsFollow run g.K.Keeper.tells s g.K.Keeper.time g.K.Keeper.left c.args.self.now.keeper c.commit.new.self =
    subst (λ k. RowsFollow run g.K.Keeper.tells s g.K.Keeper.time g.K.Keeper.left k c.commit.new.self) keeper
    (rows_commit run g.K.Keeper.tells g.K.Keeper.time g.K.Keeper.left s c.args.window c.self.inside.keeper c.commit.new.self
    (g.K.Keeper.stored c.self.inside.keeper) c.args.rows.now can.next high
    (λ known. whole_exact run _ _ _ _ _ _ _ _ _ c.self.invariant.1 none known ∙ ap (mean_up_to run.job.flow) same) (λ known. c.requires.rows known.told) c.commit.ensures.crash) in
    let whole = c.self.invariant.1 in
    let before = g.K.Keeper.stored c.self.inside.keeper in (
      c.self.invariant.0,
      whole_failed g.J.Naming.run _ _ _ _ _ _ _ _ _ whole c.args.window c.args.rows.now _ _ _ _ _ _ none next
          (ap (λ (m : State). m.stored) c.stop.ensures.machine) c.stop.ensures.fault c.requires.rows
          (λ t. left_failed c.in-Err-Failed.field-0 before (before ++ c.args.rows.now ∷ []) (g.K.Keeper.stored c.commit.new.self)
          c.in-Err-Failed.field-0-is (c.in-Err-Failed.ensures.stored t))
          c.in-Err-Failed.ensures.cause.later
          (Rose-from _ _ _ whole.keeper_counts (c.in-Err-Failed.ensures.cause.rose (ap Err c.in-Err-Failed.field-0-is))),
      durable_same run g.K.Keeper.tells s _ (g.K.Keeper.left c.commit.new.self (g.K.Keeper.time c.commit.new.self)) (ap (λ (m : State). m.stored) c.stop.ensures.machine ∙ same)
          (durable_behind run g.K.Keeper.tells g.K.Keeper.time g.K.Keeper.left s c.args.self.now.keeper c.commit.new.self follow),
    )

pub invariant_of-self-in-Err-Memory : goal.invariant_of-self-in-Err-Memory
invariant_of-self-in-Err-Memory g c =
    let none : c.self.inside.course.fault ≡ None = ap (λ s. s.course.fault) c.self.view_is ∙ c.in_ok-reserve.ensures.fault in
    let can : CanWrite g.J.Naming.run.plan c.args.self.now.course.machine c.args.window = c.reserve.ensures.enabled in
    let same : c.self.inside.course.machine.stored ≡ c.args.self.now.course.machine.stored =
    ap (λ s. s.course.machine.stored) c.self.view_is ∙ ap (λ (m : State). m.stored) c.in_ok-reserve.ensures.machine in
    let high : c.args.window ≤ g.J.Naming.run.plan.windows =
    (events-keep g.J.Naming.run.plan c.args.self.now.course.machine c.reserve.ensures.is c.reserve.ensures.kept c.args.worker (Write c.args.window) c.requires.can).stored in
    let run = g.J.Naming.run in
    let s = c.args.self.now.course.machine.stored in
    let keeper = ap (λ s. s.keeper) c.self.view_is ∙ c.reserve.ensures.keeper in
    let follow : RowsFollow run g.K.Keeper.tells s g.K.Keeper.time g.K.Keeper.left c.args.self.now.keeper c.commit.new.self =
    subst (λ k. RowsFollow run g.K.Keeper.tells s g.K.Keeper.time g.K.Keeper.left k c.commit.new.self) keeper
    (rows_commit run g.K.Keeper.tells g.K.Keeper.time g.K.Keeper.left s c.args.window c.self.inside.keeper c.commit.new.self
    (g.K.Keeper.stored c.self.inside.keeper) c.args.rows.now can.next high
    (λ known. whole_exact run _ _ _ _ _ _ _ _ _ c.self.invariant.1 none known ∙ ap (mean_up_to run.job.flow) same) (λ known. c.requires.rows known.told) c.commit.ensures.crash) in
    let before = g.K.Keeper.stored c.self.inside.keeper in (
      c.self.invariant.0,
      whole_refused g.J.Naming.run _ _ _ _ _ _ _ _ _ c.self.invariant.1 _ _ _ _ _ _ none
          (ap (λ (m : State). m.stored) c.stop-in-Err-Memory.ensures.machine) c.stop-in-Err-Memory.ensures.fault
          (λ t. left_memory c.in-Err-Memory.field-0 before (before ++ c.args.rows.now ∷ []) (g.K.Keeper.stored c.commit.new.self)
          c.in-Err-Memory.field-0-is (c.in-Err-Memory.ensures.stored t))
          c.in-Err-Memory.ensures.cause.later,
      durable_same run g.K.Keeper.tells s _ (g.K.Keeper.left c.commit.new.self (g.K.Keeper.time c.commit.new.self)) (ap (λ (m : State). m.stored) c.stop-in-Err-Memory.ensures.machine ∙ same)
          (durable_behind run g.K.Keeper.tells g.K.Keeper.time g.K.Keeper.left s c.args.self.now.keeper c.commit.new.self follow),
    )

pub returns-in_err-reserve-clause-crash : goal.returns-in_err-reserve-clause-crash
returns-in_err-reserve-clause-crash g c =
    rows_stay g.J.Naming.run g.K.Keeper.tells g.K.Keeper.time g.K.Keeper.left c.args.self.now.course.machine.stored c.args.self.now.keeper c.reserve.new.self.keeper
    c.reserve.ensures.keeper c.reserve.ensures.durable

pub returns-in-Ok-clause-crash : goal.returns-in-Ok-clause-crash
returns-in-Ok-clause-crash g c =
    let none : c.self.inside.course.fault ≡ None = ap (λ s. s.course.fault) c.self.view_is ∙ c.in_ok-reserve.ensures.fault in
    let can : CanWrite g.J.Naming.run.plan c.args.self.now.course.machine c.args.window = c.reserve.ensures.enabled in
    let same : c.self.inside.course.machine.stored ≡ c.args.self.now.course.machine.stored =
    ap (λ s. s.course.machine.stored) c.self.view_is ∙ ap (λ (m : State). m.stored) c.in_ok-reserve.ensures.machine in
    let high : c.args.window ≤ g.J.Naming.run.plan.windows =
    (events-keep g.J.Naming.run.plan c.args.self.now.course.machine c.reserve.ensures.is c.reserve.ensures.kept c.args.worker (Write c.args.window) c.requires.can).stored in
    let run = g.J.Naming.run in
    let s = c.args.self.now.course.machine.stored in
    let keeper = ap (λ s. s.keeper) c.self.view_is ∙ c.reserve.ensures.keeper in
    let follow : RowsFollow run g.K.Keeper.tells s g.K.Keeper.time g.K.Keeper.left c.args.self.now.keeper c.commit.new.self =
    subst (λ k. RowsFollow run g.K.Keeper.tells s g.K.Keeper.time g.K.Keeper.left k c.commit.new.self) keeper
    (rows_commit run g.K.Keeper.tells g.K.Keeper.time g.K.Keeper.left s c.args.window c.self.inside.keeper c.commit.new.self
    (g.K.Keeper.stored c.self.inside.keeper) c.args.rows.now can.next high
    (λ known. whole_exact run _ _ _ _ _ _ _ _ _ c.self.invariant.1 none known ∙ ap (mean_up_to run.job.flow) same) (λ known. c.requires.rows known.told) c.commit.ensures.crash) in
    follow

pub returns-in-Err-Failed-clause-crash : goal.returns-in-Err-Failed-clause-crash
returns-in-Err-Failed-clause-crash g c =
    let none : c.self.inside.course.fault ≡ None = ap (λ s. s.course.fault) c.self.view_is ∙ c.in_ok-reserve.ensures.fault in
    let can : CanWrite g.J.Naming.run.plan c.args.self.now.course.machine c.args.window = c.reserve.ensures.enabled in
    let same : c.self.inside.course.machine.stored ≡ c.args.self.now.course.machine.stored =
    ap (λ s. s.course.machine.stored) c.self.view_is ∙ ap (λ (m : State). m.stored) c.in_ok-reserve.ensures.machine in
    let high : c.args.window ≤ g.J.Naming.run.plan.windows =
    (events-keep g.J.Naming.run.plan c.args.self.now.course.machine c.reserve.ensures.is c.reserve.ensures.kept c.args.worker (Write c.args.window) c.requires.can).stored in
    let run = g.J.Naming.run in
    let s = c.args.self.now.course.machine.stored in
    let keeper = ap (λ s. s.keeper) c.self.view_is ∙ c.reserve.ensures.keeper in
    let follow : RowsFollow run g.K.Keeper.tells s g.K.Keeper.time g.K.Keeper.left c.args.self.now.keeper c.commit.new.self =
    subst (λ k. RowsFollow run g.K.Keeper.tells s g.K.Keeper.time g.K.Keeper.left k c.commit.new.self) keeper
    (rows_commit run g.K.Keeper.tells g.K.Keeper.time g.K.Keeper.left s c.args.window c.self.inside.keeper c.commit.new.self
    (g.K.Keeper.stored c.self.inside.keeper) c.args.rows.now can.next high
    (λ known. whole_exact run _ _ _ _ _ _ _ _ _ c.self.invariant.1 none known ∙ ap (mean_up_to run.job.flow) same) (λ known. c.requires.rows known.told) c.commit.ensures.crash) in
    follow

pub returns-in-Err-Memory-clause-crash : goal.returns-in-Err-Memory-clause-crash
returns-in-Err-Memory-clause-crash g c =
    let none : c.self.inside.course.fault ≡ None = ap (λ s. s.course.fault) c.self.view_is ∙ c.in_ok-reserve.ensures.fault in
    let can : CanWrite g.J.Naming.run.plan c.args.self.now.course.machine c.args.window = c.reserve.ensures.enabled in
    let same : c.self.inside.course.machine.stored ≡ c.args.self.now.course.machine.stored =
    ap (λ s. s.course.machine.stored) c.self.view_is ∙ ap (λ (m : State). m.stored) c.in_ok-reserve.ensures.machine in
    let high : c.args.window ≤ g.J.Naming.run.plan.windows =
    (events-keep g.J.Naming.run.plan c.args.self.now.course.machine c.reserve.ensures.is c.reserve.ensures.kept c.args.worker (Write c.args.window) c.requires.can).stored in
    let run = g.J.Naming.run in
    let s = c.args.self.now.course.machine.stored in
    let keeper = ap (λ s. s.keeper) c.self.view_is ∙ c.reserve.ensures.keeper in
    let follow : RowsFollow run g.K.Keeper.tells s g.K.Keeper.time g.K.Keeper.left c.args.self.now.keeper c.commit.new.self =
    subst (λ k. RowsFollow run g.K.Keeper.tells s g.K.Keeper.time g.K.Keeper.left k c.commit.new.self) keeper
    (rows_commit run g.K.Keeper.tells g.K.Keeper.time g.K.Keeper.left s c.args.window c.self.inside.keeper c.commit.new.self
    (g.K.Keeper.stored c.self.inside.keeper) c.args.rows.now can.next high
    (λ known. whole_exact run _ _ _ _ _ _ _ _ _ c.self.invariant.1 none known ∙ ap (mean_up_to run.job.flow) same) (λ known. c.requires.rows known.told) c.commit.ensures.crash) in
    follow
