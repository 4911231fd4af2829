use Rattle.std.proofs.Common.{List, map, get_or, subst, ◌∙◌, arith}
use Rattle.std.proofs.lemmas.Result.{err_from_is_err_and}
use Rattle.apx_held.specs.Holding.{Holding, no_holding}
use Rattle.apx_held.specs.Lent.{IsLent, IsUnlent}
use Rattle.apx_held.proofs.Feeding.{lent_more}
use Rattle.apx_held.proofs.group.lend_all.Goals as goal

pub loop-part-preserved : goal.loop-part-preserved
loop-part-preserved g c =
    let last = subst (λ (hs : List Holding). IsLent g.S.Spool.tells c.args.window (get_or hs c.loop-part.part no_holding).list c.in_ok-blocks.blocks.items) c.loop-part.invariant.same c.in_ok-blocks.ensures.lent in
    let more = lent_more g.S.Spool.tells c.args.window c.args.group.now (map (λ list. list.items) c.loop-part.lists.items) c.loop-part.part c.in_ok-blocks.blocks.items
    c.loop-part.invariant.count c.loop-part.invariant.each last (map (λ list. list.items) c.add.new.lists.items) c.in_ok-add.ensures.items in
    record { same = c.in_ok-blocks.ensures.same ∙ c.loop-part.invariant.same; count = more.0; each = more.1 }

pub returns-clause-lent : goal.returns-clause-lent
returns-clause-lent g c = record {
  count = c.loop-part.invariant.count ∙ omega arith;
  each = λ i lt. c.loop-part.invariant.each i (omega (arith, lt));
}

pub returns-in_err-blocks-clause-unlent : goal.returns-in_err-blocks-clause-unlent
returns-in_err-blocks-clause-unlent g c =
    let p = err_from_is_err_and c.from_residual.result c.from_residual.ensures.1 in
    rw (p.1, p.2) (subst (λ (hs : List Holding). IsUnlent g.S.Spool.tells hs c.in_err-blocks.field-0.0) c.loop-part.invariant.same c.in_err-blocks.ensures.unlent)
