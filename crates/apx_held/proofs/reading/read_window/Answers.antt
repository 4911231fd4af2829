use Rattle.std.proofs.Common.{◌<◌, List, [], ◌∷◌, length, drop, None, ap, sym, subst, ◌∙◌, arith, length-append}
use Rattle.std.proofs.lemmas.Result.{err_from_is_err_and}
use Rattle.apx_list.specs.declared.block.Block.{Block}
use Rattle.apx_list.specs.Listed.{Listed, before, next_number}
use Rattle.apx_list.specs.Reads.{IsRead}
use Rattle.apx_held.specs.declared.held.Unnamed.{Unnamed}
use Rattle.apx_held.proofs.Copies.{AreCopies, start_before, place_there, copies_more, lent_end}
use Rattle.apx_held.specs.Lent.{IsOfList}
use Rattle.apx_held.proofs.reading.read_window.Goals as goal

pub block_at-requires-clause-there : goal.block_at-requires-clause-there
block_at-requires-clause-there g c =
    subst (λ (l : Listed Unnamed). c.loop-place.place < next_number l) (sym c.loop-place.invariant.same)
    (place_there c.args.list.now c.args.window c.start-to.result c.loop-place.place c.start-to.ensures.start c.loop-place-test.true)

pub loop-place-preserved : goal.loop-place-preserved
loop-place-preserved g c =
    let list = c.args.list.now in
    let read = subst (λ (l : Listed Unnamed). IsRead g.S.Spool.tells None l c.loop-place.place c.in_ok-block.block) c.loop-place.invariant.same c.in_ok-block.ensures.read in
    let more = copies_more g.S.Spool.tells list c.args.window c.start-from.result c.loop-place.place c.loop-place.blocks.items c.in_ok-block.block
    c.loop-place.invariant.copies c.start-from.ensures.start c.loop-place.invariant.count read in
    record {
      same = c.block_at.ensures.list ∙ c.loop-place.invariant.same;
      copies = subst (λ (bs : List Block). AreCopies g.S.Spool.tells list.plan bs (drop (before c.args.window list.blocks) list.blocks)) (sym c.in_ok-add.ensures.items) more;
      count = omega (arith, c.loop-place.invariant.count, ap (λ (bs : List Block). length bs) c.in_ok-add.ensures.items, length-append c.loop-place.blocks.items (c.in_ok-block.block ∷ []));
    }

pub returns-clause-lent : goal.returns-clause-lent
returns-clause-lent g c =
    let list = c.args.list.now in
    let ordered = start_before list c.args.window c.start-from.result c.start-to.result c.start-from.ensures.start c.start-to.ensures.start in
    let ended = c.loop-place.auto.place-end ordered in
    lent_end g.S.Spool.tells list c.args.window c.start-from.result c.start-to.result c.loop-place.blocks.items c.start-from.ensures.row c.requires.window.kept c.requires.window.whole
    c.start-from.ensures.start c.start-to.ensures.start c.loop-place.invariant.copies (omega (arith, c.loop-place.invariant.count, ended, c.loop-place-test.false))

pub returns-in_err-block-clause-fault : goal.returns-in_err-block-clause-fault
returns-in_err-block-clause-fault g c =
    let p = err_from_is_err_and c.from_residual.result c.from_residual.ensures.1 in
    rw (p.1, p.2) (subst (λ (l : Listed Unnamed). IsOfList g.S.Spool.tells l c.in_err-block.field-0.0) c.loop-place.invariant.same c.in_err-block.ensures.fault)

pub returns-in_err-add-clause-fault : goal.returns-in_err-add-clause-fault
returns-in_err-add-clause-fault g c =
    let p = err_from_is_err_and c.from_residual-in_err-add.result c.from_residual-in_err-add.ensures.1 in
    rw (p.1, p.2) (c.in_err-add.ensures.fault g.S.Spool.tells c.args.list.now)
