use Rattle.std.proofs.Common.{◌≡◌, ◌<◌, ◌≤◌, ℕ, length, get_or, rules, subst}
use Rattle.apx_list.proofs.Spilling.{dropping_none, dropping_more, taken_front}
use Rattle.apx_list.proofs.kept.drop_front.Goals as goal

pub loop-front-init : goal.loop-front-init
loop-front-init g c = dropping_none g.S.Spool.tells (g.S.Spool.held c.args.spool.now) c.args.first c.args.to c.args.kept.now.items

pub loop-front-preserved : goal.loop-front-preserved
loop-front-preserved g c =
    let some : 0 < length c.loop-front.kept.items = search rules in
    let first : c.in-Some.front.now ≡ get_or c.loop-front.kept.items 0 c.in-Some.front.now = search rules in
    dropping_more g.S.Spool.tells (g.S.Spool.held c.args.spool.now) (g.S.Spool.held c.loop-front.spool) (g.S.Spool.held c.forget.new.spool) c.args.first c.args.to c.loop-front.count c.args.kept.now.items c.loop-front.kept.items c.in-Some.front.now c.pop_front.new.self.items c.loop-front.invariant (taken_front c.loop-front.kept.items c.pop_front.new.self.items c.in-Some.front.now some first c.pop_front.ensures.rest) (subst (λ (n : ℕ). n ≤ c.args.to) c.window.ensures c.if-window-to.false) c.forget.ensures.gone c.forget.ensures.others
