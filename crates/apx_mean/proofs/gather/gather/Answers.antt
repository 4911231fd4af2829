use Rattle.apx_mean.proofs.Gathering.{carries, steps, ports-large, steps-large}
use Rattle.apx_mean.proofs.gather.gather.Goals as goal

pub returns-then-window-app_windows-ne0-clause-ok : goal.returns-then-window-app_windows-ne0-clause-ok
returns-then-window-app_windows-ne0-clause-ok c =
    rw (carries c.args.kind.now c.args.app_windows c.args.window c.args.before c.args.left c.args.right c.in_ok-lefts.lefts.items c.in_ok-rights.rights.items c.in_ok-lefts.ensures c.in_ok-rights.ensures c.if-window-app_windows-ne0.true)
    c.carried.ensures.ok

pub returns-then-window-app_windows-ne0-clause-large : goal.returns-then-window-app_windows-ne0-clause-large
returns-then-window-app_windows-ne0-clause-large c = λ refused.
    ports-large c.args.kind.now c.args.app_windows c.args.window c.args.before c.args.left c.args.right c.in_ok-lefts.lefts.items c.in_ok-rights.rights.items c.in_ok-lefts.ensures c.in_ok-rights.ensures
    (c.carried.ensures.large refused)

pub returns-clause-ok : goal.returns-clause-ok
returns-clause-ok c =
    rw (steps c.args.kind.now c.args.app_windows c.args.window c.args.before c.args.left c.args.right c.in_ok-lefts.lefts.items c.in_ok-rights.rights.items c.in_ok-lefts.ensures c.in_ok-rights.ensures c.if-window-app_windows-ne0.false)
    c.stepped.ensures.ok

pub returns-clause-large : goal.returns-clause-large
returns-clause-large c = λ refused.
    steps-large c.args.kind.now c.args.app_windows c.args.window c.args.before c.args.left c.args.right c.in_ok-lefts.lefts.items c.in_ok-rights.rights.items c.in_ok-lefts.ensures c.in_ok-rights.ensures
    c.if-window-app_windows-ne0.false (c.stepped.ensures.large refused)
