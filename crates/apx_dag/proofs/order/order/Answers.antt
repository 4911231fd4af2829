use Rattle.std.proofs.Common.{◌≡◌, ◌<◌, suc, true, length, set, arith}
use Rattle.apx_dag.specs.Marks.{IsNextMark, IsStuck}
use Rattle.apx_dag.proofs.Marking.{unset, unset_falls}
use Rattle.apx_dag.proofs.Placing.{none_placed, place, all_placed}
use Rattle.apx_dag.proofs.order.order.Goals as goal
use Rattle.apx_dag.proofs.order.order.Goals.{In-Some}

pub loop-next-init : goal.loop-next-init
loop-next-init c = none_placed c.args.links.now c.in_ok-placed.placed.items c.new-order.result.items c.in_ok-placed.ensures c.new-order.ensures.items

chosen : (c : In-Some) → IsNextMark c.args.links.now c.loop-next.placed.items c.in-Some.next
chosen c = rw (← c.deref.ensures.value) c.in-Some.ensures

here : (c : In-Some) → c.in-Some.next < length c.loop-next.placed.items
here c = rw c.loop-next.invariant.size (chosen c).here

pub index_mut-requires : goal.index_mut-requires
index_mut-requires c = let lt = here (goal.at.index_mut-requires c).In-Some in omega (arith, lt, c.loop-next.placed.ok.0)

pub loop-next-preserved : goal.loop-next-preserved
loop-next-preserved c =
    rw c.in_ok-push.ensures.items (place c.args.links.now c.loop-next.placed.items c.loop-next.order.items c.in-Some.next c.loop-next.invariant (chosen (goal.at.loop-next-preserved c).In-Some))

pub loop-next-smaller : goal.loop-next-smaller
loop-next-smaller c =
    let s = (goal.at.loop-next-smaller c).In-Some in
    let e : suc (unset (set c.loop-next.placed.items c.in-Some.next true)) ≡ unset c.loop-next.placed.items = unset_falls c.loop-next.placed.items c.in-Some.next (here s) (chosen s).ready.unmarked in
    omega (arith, e)

pub returns : goal.returns
returns c =
    let stuck : IsStuck c.args.links.now c.loop-next.placed.items = rw (← c.deref.ensures.value) c.in_default.ensures in
    all_placed c.args.links.now c.loop-next.placed.items c.loop-next.order.items c.requires.within c.requires.acyclic c.loop-next.invariant stuck
