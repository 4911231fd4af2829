use Rattle.std.proofs.Common.{◌≡◌, ◌<◌, suc, true, length, set, refl, ◌∙◌, arith, length-set}
use Rattle.apx_dag.specs.Marks.{IsUpstreamNext, IsUpstreamDone}
use Rattle.apx_dag.proofs.Marking.{unset, unset_falls, none_marked, keeps_sound, next_here, all_marked}
use Rattle.apx_dag.proofs.order.upstream.Goals as goal
use Rattle.apx_dag.proofs.order.upstream.Goals.{In-Some}

pub loop-source-init : goal.loop-source-init
loop-source-init c = none_marked c.args.links.now c.args.of c.in_ok-marks.marks.items c.in_ok-marks.ensures

next : (c : In-Some) → IsUpstreamNext c.args.links.now c.args.of c.loop-source.marks.items c.in-Some.source
next c = rw (← c.deref.ensures.value) c.in-Some.ensures

here : (c : In-Some) → c.in-Some.source < length c.loop-source.marks.items
here c = rw c.loop-source.invariant.0 (next_here c.args.links.now c.args.of c.loop-source.marks.items c.in-Some.source c.requires.within (next c))

pub index_mut-requires : goal.index_mut-requires
index_mut-requires c = let lt = here (goal.at.index_mut-requires c).In-Some in omega (arith, lt, c.loop-source.marks.ok.0)

pub loop-source-preserved : goal.loop-source-preserved
loop-source-preserved c =
    let s = (goal.at.loop-source-preserved c).In-Some in
    (length-set c.loop-source.marks.items c.in-Some.source true ∙ c.loop-source.invariant.0, keeps_sound c.args.links.now c.args.of c.loop-source.marks.items c.in-Some.source c.loop-source.invariant.1 (next s))

pub loop-source-smaller : goal.loop-source-smaller
loop-source-smaller c =
    let s = (goal.at.loop-source-smaller c).In-Some in
    let e : suc (unset (set c.loop-source.marks.items c.in-Some.source true)) ≡ unset c.loop-source.marks.items = unset_falls c.loop-source.marks.items c.in-Some.source (here s) (next s).unmarked in
    omega (arith, e)

pub returns : goal.returns
returns c =
    let done : IsUpstreamDone c.args.links.now c.args.of c.loop-source.marks.items = rw (← c.deref.ensures.value) c.in_default.ensures in
    record {
      size = c.loop-source.invariant.0;
      sound = c.loop-source.invariant.1;
      whole = λ a r. all_marked c.args.links.now c.args.of c.loop-source.marks.items done a c.args.of r refl;
    }
