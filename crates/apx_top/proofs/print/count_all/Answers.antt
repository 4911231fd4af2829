use Rattle.std.proofs.Common.{◌≡◌, ◌<◌, ◌+◌, ◌-◌, [], length, get_or, slice_get, ap, ◌∙◌, arith}
use Rattle.apx_top.proofs.Printing.{rows-there, count-more}
use Rattle.apx_top.proofs.print.count_all.Goals as goal

pub loop-done-preserved : goal.loop-done-preserved
loop-done-preserved g c = record {
  sound = c.in_ok-rows.ensures.sound;
  last = c.in_ok-rows.ensures.last ∙ c.loop-done.invariant.last;
  stored = c.in_ok-rows.ensures.stored ∙ c.loop-done.invariant.stored;
  later = omega (arith, c.in_ok-rows.ensures.cause.later, c.loop-done.invariant.later);
  count = λ t l.
      let h : c.loop-done.done < length (g.K.Keeper.stored c.args.keeper.now) = omega (arith, c.loop-done-test.true) in
      let there = ap (λ s. slice_get s (c.loop-done.done + 1 - 1)) c.loop-done.invariant.stored ∙ rows-there 0 (g.K.Keeper.stored c.args.keeper.now) c.loop-done.done h in
      let rows : c.in_ok-rows.field-0.items ≡ get_or (g.K.Keeper.stored c.args.keeper.now) c.loop-done.done [] = (let got = c.in_ok-rows.ensures.rows t in cc) in
      let more = count-more 0 (g.K.Keeper.stored c.args.keeper.now) c.loop-done.done h in
      let before = c.loop-done.invariant.count t l in
      let one = ap length rows in
      omega (arith, more, before, one, c.saturating_add-count.ensures, c.len.ensures);
}
