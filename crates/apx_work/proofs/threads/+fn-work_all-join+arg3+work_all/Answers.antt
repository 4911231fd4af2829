use Rattle.apx_work.proofs.Gathering.{gather_next}
use Rattle.apx_work.proofs.threads.+fn-work_all-join+arg3+work_all.Goals as goal

pub returns-in-Some : goal.returns-in-Some
returns-in-Some g t c =
    let lock = c.args.lock.now.table.shared in
    let one = c.join-one.result.0 in
    let done = c.requires.may.done c.args.first one c.requires.ready c.join-one.ensures.first in
    gather_next lock.table_id lock.key c.args.first one c.in-Some.next c.join-one.result.1 c.join.new.seat c.pop.new.self.items c.args.others.items
    c.in-Some.ensures.items c.requires.others done c.join-one.ensures.second c.join.ensures.seat c.join.ensures.joined
