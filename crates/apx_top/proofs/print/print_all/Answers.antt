use Rattle.std.proofs.Common.{◌<◌, ◌+◌, ◌-◌, ◌++◌, length, take, get_or, slice_get, refl, sym, ap, ◌∙◌, arith, append_assoc, []}
use Rattle.apx_pass.specs.Texts.{window_text, windows_text}
use Rattle.apx_top.proofs.Printing.{none-more, rows-there, one-more, count-more, failed, of-error}
use Rattle.apx_top.proofs.print.print_all.Goals as goal

pub loop-done-init : goal.loop-done-init
loop-done-init g c = record {
  sound = c.requires.sound;
  last = refl;
  stored = refl;
  store_later = omega arith;
  later = omega arith;
  count = λ t l. refl;
  written = λ t l o. none-more c.args.base 1 (g.O.Out.written c.args.out.now);
}

pub returns-in_err-print_window-clause-written : goal.returns-in_err-print_window-clause-written
returns-in_err-print_window-clause-written g c = λ t l.
    let h : c.loop-done.done < length (g.K.Keeper.stored c.args.keeper.now) = omega (arith, c.loop-done-test.true) in
    let there = ap (λ s. slice_get s (c.loop-done.done + 1 - 1)) c.loop-done.invariant.stored ∙ rows-there c.args.base (g.K.Keeper.stored c.args.keeper.now) c.loop-done.done h in
    of-error g.O.Out.tells _ _ _ _ c.from_residual.ensures.0
    (λ o. failed c.args.base (g.K.Keeper.stored c.args.keeper.now) c.loop-done.done h c.args.windows c.loop-done-test.true _ _ _ (c.loop-done.invariant.written t l o)
    (c.in_err-print_window.ensures.written t _ there o))

pub loop-done-preserved : goal.loop-done-preserved
loop-done-preserved g c = record {
  sound = c.in_ok-print_window.ensures.sound;
  last = c.in_ok-print_window.ensures.last ∙ c.loop-done.invariant.last;
  stored = c.in_ok-print_window.ensures.stored ∙ c.loop-done.invariant.stored;
  store_later = omega (arith, c.in_ok-print_window.ensures.store_later, c.loop-done.invariant.store_later);
  later = omega (arith, c.in_ok-print_window.ensures.later, c.loop-done.invariant.later);
  count = λ t l.
      let h : c.loop-done.done < length (g.K.Keeper.stored c.args.keeper.now) = omega (arith, c.loop-done-test.true) in
      let there = ap (λ s. slice_get s (c.loop-done.done + 1 - 1)) c.loop-done.invariant.stored ∙ rows-there c.args.base (g.K.Keeper.stored c.args.keeper.now) c.loop-done.done h in
      let more = count-more c.args.base (g.K.Keeper.stored c.args.keeper.now) c.loop-done.done h in
      let before = c.loop-done.invariant.count t l in
      let one = c.in_ok-print_window.ensures.count t _ there in
      omega (arith, more, before, one);
  written = λ t l o.
      let stored = c.loop-done.invariant.stored in
      let h : c.loop-done.done < length (g.K.Keeper.stored c.args.keeper.now) = omega (arith, c.loop-done-test.true) in
      let there = ap (λ s. slice_get s (c.loop-done.done + 1 - 1)) stored ∙ rows-there c.args.base (g.K.Keeper.stored c.args.keeper.now) c.loop-done.done h in
      let w = c.in_ok-print_window.ensures.written t _ there o in
      w ∙ ap (λ x. x ++ window_text c.args.base (c.loop-done.done + 1) (get_or (g.K.Keeper.stored c.args.keeper.now) c.loop-done.done [])) (c.loop-done.invariant.written t l o)
      ∙ append_assoc (g.O.Out.written c.args.out.now) (windows_text c.args.base 1 (take c.loop-done.done (g.K.Keeper.stored c.args.keeper.now))) (window_text c.args.base (c.loop-done.done + 1) (get_or (g.K.Keeper.stored c.args.keeper.now) c.loop-done.done []))
      ∙ ap (λ x. g.O.Out.written c.args.out.now ++ x) (sym (one-more c.args.base (g.K.Keeper.stored c.args.keeper.now) c.loop-done.done h));
}
