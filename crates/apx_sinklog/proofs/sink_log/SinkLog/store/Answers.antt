use Rattle.std.proofs.Common.{◌≡◌, ℕ, ◌+◌, List, [], ◌∷◌, ◌++◌, length, Some, Ok, sym, ap, ◌∙◌, rules}
use Rattle.apx_tuple.specs.declared.tuple.Tuple.{Tuple}
use Rattle.apx_sinklog.specs.declared.logged.LoggedWindow.{LoggedWindow}
use Rattle.apx_sinklog.specs.Logged.{logged_windows}
use Rattle.apx_sinklog.specs.Windows.{window_in}
use Rattle.apx_sinklog.proofs.Pushed.{sink_push, store_crash, logged-push}
use Rattle.apx_sinklog.proofs.sink_log.SinkLog.store.Goals as goal

-- the body is that of the next window
next_window : (windows : List LoggedWindow) (window : ℕ) (body slice : List ℕ) (rows : List Tuple) → window ≡ length (logged_windows windows) + 1 → slice ≡ body → window_in window body ≡ Some rows → window_in (length (logged_windows windows) + 1) slice ≡ Some rows
next_window windows window body slice rows next same found =
    (λ i. window_in (sym next i) (same i)) ∙ found

pub invariant_of-self-in-Ok-add-clause-spelled : goal.invariant_of-self-in-Ok-add-clause-spelled
invariant_of-self-in-Ok-add-clause-spelled g c = λ sound told.
    let old = c.args.self.now in
    let pushed : c.push_reserved.new.self.items ≡ old.windows.items ++ c.in-Ok.logged ∷ [] = search rules in
    sink_push (g.D.Disk.seen old.records.disk) (g.D.Disk.seen c.add.new.self.disk) c.deref.result.now (logged_windows old.windows.items) c.args.rows.now (old.spelled c.requires.sound told)
    (next_window old.windows.items c.args.window c.in-Ok.logged.body.items c.deref.result.now c.args.rows.now c.requires.next c.deref.ensures.value c.in-Ok.ensures.body)
    (c.in-Ok-add.ensures.added told)
    ∙ ap Ok (sym (ap logged_windows pushed ∙ logged-push old.windows.items c.in-Ok.logged ∙ ap (λ (rows : List Tuple). logged_windows old.windows.items ++ rows ∷ []) c.in-Ok.ensures.rows))

pub returns-in-Ok-add-clause-crash : goal.returns-in-Ok-add-clause-crash
returns-in-Ok-add-clause-crash g c = λ told.
    let old = c.args.self.now in
    store_crash (g.D.Disk.seen old.records.disk) c.deref.result.now (logged_windows old.windows.items) c.args.rows.now (old.spelled c.requires.sound told)
    (next_window old.windows.items c.args.window c.in-Ok.logged.body.items c.deref.result.now c.args.rows.now c.requires.next c.deref.ensures.value c.in-Ok.ensures.body)
    (c.add.ensures.crash told)

pub returns-in-Err-Memory-clause-crash : goal.returns-in-Err-Memory-clause-crash
returns-in-Err-Memory-clause-crash g c = λ told.
    let old = c.args.self.now in
    store_crash (g.D.Disk.seen old.records.disk) c.deref.result.now (logged_windows old.windows.items) c.args.rows.now (old.spelled c.requires.sound told)
    (next_window old.windows.items c.args.window c.in-Ok.logged.body.items c.deref.result.now c.args.rows.now c.requires.next c.deref.ensures.value c.in-Ok.ensures.body)
    (c.add.ensures.crash told)

pub returns-clause-crash : goal.returns-clause-crash
returns-clause-crash g c = λ told.
    let old = c.args.self.now in
    store_crash (g.D.Disk.seen old.records.disk) c.deref.result.now (logged_windows old.windows.items) c.args.rows.now (old.spelled c.requires.sound told)
    (next_window old.windows.items c.args.window c.in-Ok.logged.body.items c.deref.result.now c.args.rows.now c.requires.next c.deref.ensures.value c.in-Ok.ensures.body)
    (c.add.ensures.crash told)
