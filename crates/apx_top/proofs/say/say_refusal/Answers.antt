use Rattle.apx_top.proofs.say.say_refusal.Goals as goal

pub returns-in-RefusedCommand-clause-written : goal.returns-in-RefusedCommand-clause-written
returns-in-RefusedCommand-clause-written g c = rw c.in-RefusedCommand.is c.say_numbered.ensures.written

pub returns-in-RefusedEntry-clause-written : goal.returns-in-RefusedEntry-clause-written
returns-in-RefusedEntry-clause-written g c = rw c.in-RefusedEntry.is c.say_numbered-in-RefusedEntry.ensures.written
