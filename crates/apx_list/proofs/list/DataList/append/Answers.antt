use Rattle.std.proofs.Common.{◌≡◌, ◌<◌, ◌^◌, arith, length, rules}
use Rattle.apx_list.proofs.Spilling.{stored_in_window, stored_at_end}
use Rattle.apx_list.proofs.list.DataList.append.Goals as goal

pub invariant_of-self-else-last : goal.invariant_of-self-else-last
invariant_of-self-else-last g c =
    let next = rw (← c.self.view_is) at c.requires in
    let fits : c.args.block.index < 2 ^ 32 = omega arith in
    let inside = c.self.inside in
    rw (c.in_ok-push_back.ensures.items, c.in_ok-reserve.ensures.items) (stored_in_window g.S.Spool.tells (g.S.Spool.held inside.spool) (g.N.Naming.named inside.name) inside.plan inside.floor inside.top inside.first inside.kept.items inside.from inside.starts.items inside.next_start inside.latest c.args.block c.self.invariant next.window next.there next.index fits next.spells c.if-last.false next.told)

pub invariant_of-self-then-last : goal.invariant_of-self-then-last
invariant_of-self-then-last g c =
    let next = rw (← c.self.view_is) at c.requires in
    let fits : c.args.block.index < 2 ^ 32 = omega arith in
    let count : c.len.result ≡ length c.push_back.new.self.items = search rules in
    let inside = c.self.inside in
    rw (c.push_reserved.ensures.items, c.in_ok-reserve.ensures.items, count, c.in_ok-push_back.ensures.items) (stored_at_end g.S.Spool.tells (g.S.Spool.held inside.spool) (g.N.Naming.named inside.name) inside.plan inside.floor inside.top inside.first inside.kept.items inside.from inside.starts.items inside.next_start inside.latest c.args.block c.self.invariant next.window next.there next.index fits next.spells c.if-last.true next.told)
