use Rattle.std.proofs.Common.{◌≡◌, false, sym, ◌∙◌, arith}
use Rattle.std.proofs.lemmas.Bool.Decides.{nat_tests}
use Rattle.std.proofs.lemmas.List.Filters.{FiltersInPlace-more_swap, FiltersInPlace-more_no}
use Rattle.apx_machine.proofs.partition.drop_saved.Goals as goal

pub loop-i-preserved : goal.loop-i-preserved
loop-i-preserved c = elim c.if-stays.branch [
  | goal.then-stays w ↦ rw (w.saved-is, w.kept-is) (FiltersInPlace-more_swap c.loop-i.invariant (omega arith) (sym c.stays.ensures ∙ w.if-stays.true) c.index-window.ensures w.swap.ensures.by_index)
  | goal.else-stays w ↦ (let r : c.stays.result ≡ false = grind (arith, nat_tests, w.if-stays.false) in
      rw (w.saved-is, w.kept-is) (FiltersInPlace-more_no c.loop-i.invariant (omega arith) (sym c.stays.ensures ∙ r) c.index-window.ensures))
]
