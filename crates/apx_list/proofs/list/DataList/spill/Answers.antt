use Rattle.apx_list.proofs.Spilling.{stored_spilled}
use Rattle.apx_list.proofs.list.DataList.spill.Goals as goal

pub invariant_of-self : goal.invariant_of-self
invariant_of-self g c =
    let inside = c.self.inside in
    stored_spilled g.S.Spool.tells (g.S.Spool.held inside.spool) (g.S.Spool.held c.spill_front.new.spool) (g.N.Naming.named inside.name) inside.plan inside.floor inside.top inside.first inside.kept.items c.spill_front.new.kept.items inside.from inside.starts.items inside.next_start inside.latest c.self.invariant c.spill_front.ensures.blocks (c.spill_front.ensures.put c.self.invariant.put)
