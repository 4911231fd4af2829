use Rattle.std.proofs.Common.{refl, arith, ◌+◌}
use Rattle.apx_list.specs.Kept.{all_of}
use Rattle.apx_list.proofs.Numbers.{kept_purged, within_rest, AreAbove-within}
use Rattle.apx_list.proofs.list.DataList.purge.Goals as goal

pub invariant_of-self : goal.invariant_of-self
invariant_of-self g c =
    let owed = rw (← c.self.view_is) at c.requires in
    let dropped = c.drop_front.ensures.dropped in
    let inside = c.self.inside in
    record {
      numbers = rw dropped.count_is (kept_purged (g.N.Naming.named inside.name) inside.plan inside.floor inside.top inside.first (all_of inside.kept.items) inside.from inside.starts.items inside.next_start c.args.to dropped.gone (all_of c.drop_front.new.kept.items) c.self.invariant.numbers owed.floor owed.top dropped.split dropped.are_gone dropped.front);
      put = c.drop_front.ensures.put c.self.invariant.put;
      latest_is = tt;
    }

pub returns : goal.returns
returns g c =
    let dropped = c.drop_front.ensures.dropped in
    let kept = c.self.invariant.numbers in
    let inside = c.self.inside in
    let above = within_rest (inside.floor + 1) (inside.top + 1) c.args.to (all_of inside.kept.items) (all_of c.drop_front.new.kept.items) dropped.gone kept.within dropped.split dropped.front in
    rw (← c.self.view_is) (record {
      gone = dropped.gone;
      split = dropped.split;
      are_gone = dropped.are_gone;
      are_kept = AreAbove-within (c.args.to + 1) (inside.top + 1) c.args.to (all_of c.drop_front.new.kept.items) above (omega arith);
      first = rw dropped.count_is refl;
      floor = refl;
      top = refl;
      plan = refl;
      name = refl;
    })
