use Rattle.std.proofs.Common.{◌≡◌, Some, ap, sym, ◌∙◌, slice_get}
use Rattle.apx_list.specs.declared.kept.Kept.TheVariants.{Held, Spilled}
use Rattle.apx_list.proofs.Numbers.{slice_get-is}
use Rattle.apx_list.proofs.Spilling.{all_of-set, put_one, put_back}
use Rattle.apx_list.proofs.kept.spill_one.Goals as goal

pub returns-clause-blocks : goal.returns-clause-blocks
returns-clause-blocks g c =
    let there : slice_get c.args.kept.now.items c.args.index ≡ Some (Held c.in-Held.block) = slice_get-is c.args.kept.now.items c.args.index c.index.result.now c.requires.there c.index.ensures ∙ ap Some c.in-Held.is in
    all_of-set c.args.kept.now.items c.args.index (Held c.in-Held.block) (Spilled c.marks.result c.of.result) there (put_back c.in-Held.block c.marks.result c.of.result.value c.marks.ensures c.of.ensures)

pub returns-clause-put : goal.returns-clause-put
returns-clause-put g c = λ put.
    put_one g.S.Spool.tells (g.S.Spool.held c.args.spool.now) (g.S.Spool.held c.put.new.self) c.args.first c.args.index c.args.kept.now.items (Spilled c.marks.result c.of.result) c.in_ok-put.ensures.others (c.in_ok-put.ensures.held, λ t. c.in_ok-put.ensures.told t ∙ ap Some (c.as_slice.ensures ∙ sym c.of.ensures)) put
