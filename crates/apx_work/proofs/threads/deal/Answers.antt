use Rattle.std.proofs.Common.{rules, ◌≡◌, ◌+◌, subst}
use Rattle.apx_work.specs.Workers.{AreDealt}
use Rattle.apx_work.proofs.Gathering.{deal_next}
use Rattle.apx_work.proofs.threads.deal.Goals as goal

pub loop-dealt-preserved : goal.loop-dealt-preserved
loop-dealt-preserved g c =
    let lock = c.args.lock.now.table.shared in
    let i = c.loop-dealt.invariant in (
      deal_next lock.table_id lock.key (c.loop-dealt.dealt + 1) c.loop-dealt.first c.split.new.seat c.split.result c.loop-dealt.seats.items
          c.push_reserved.new.self.items c.push_reserved.ensures.items i.0 c.split.ensures.seat c.split.ensures.kept c.split.ensures.new c.split.ensures.given,
      (let e = c.push_reserved.ensures.len in let f = i.1 in search rules),
      (let e = c.push_reserved.ensures.capacity in let f = i.2 in search rules),
    )

pub returns : goal.returns
returns g c =
    let lock = c.args.lock.now.table.shared in
    let e : c.loop-dealt.dealt ≡ c.args.others = search rules in
    subst (λ n. AreDealt lock.table_id lock.key (n + 1) c.loop-dealt.first c.loop-dealt.seats.items) e c.loop-dealt.invariant.0
