use Rattle.std.proofs.Common.{◌≡◌, rules}
use Rattle.apx_list.specs.Messages.{opening, closing}
use Rattle.apx_list.proofs.Pieces.{whole_window}
use Rattle.apx_list.proofs.cutting.pieces.Goals as goal

pub returns-clause-pieces : goal.returns-clause-pieces
returns-clause-pieces c =
    let opens : c.deref.result.now ≡ opening c.args.plan.now c.args.window = search rules in
    let closes : c.deref-2.result.now ≡ closing c.args.plan.now c.args.window = search rules in
    let whole = whole_window c.args.plan.now c.args.window c.args.tuples.now c.new-cutter.result c.add_all.new.cutter c.add_tuples.new.cutter c.add_all-2.new.cutter c.new-cutter.ensures.done c.new-cutter.ensures.current c.new-cutter.ensures.size (rw opens at c.in_ok-add_all.ensures) c.in_ok-add_tuples.ensures.adds (rw closes at c.in_ok-add_all-2.ensures) in
    rw (← whole) c.finish.ensures
