use Rattle.std.proofs.Common.{◌++◌, arith, ap, ◌∙◌, subst}
use Rattle.std.proofs.lemmas.List.{take_all}
use Rattle.apx_device.specs.Rows.{rows_bytes}
use Rattle.apx_device.proofs.Spelled.{AreRows, AreRows-next, rows_bytes-next, rows_back}
use Rattle.apx_device.proofs.rows.append_all.Goals as goal

pub loop-row-preserved : goal.loop-row-preserved
loop-row-preserved c = record {
  bytes = rows_bytes-next c.args.rows.now c.loop-row.row-index c.row-item.result c.args.into.now.items c.loop-row.into.items c.append_row.new.into.items (omega arith) c.row-item.is c.loop-row.invariant.bytes c.in_ok-append_row.ensures.bytes;
  rows = AreRows-next c.args.rows.now c.loop-row.row-index c.row-item.result (omega arith) c.row-item.is c.loop-row.invariant.rows c.in_ok-append_row.ensures.row;
}

pub returns-clause-bytes : goal.returns-clause-bytes
returns-clause-bytes c =
    c.loop-row.invariant.bytes ∙ ap (λ rows. c.args.into.now.items ++ rows_bytes rows) (take_all c.loop-row.row-index c.args.rows.now (omega arith))

pub returns-clause-back : goal.returns-clause-back
returns-clause-back c = rows_back c.args.rows.now (subst AreRows (take_all c.loop-row.row-index c.args.rows.now (omega arith)) c.loop-row.invariant.rows)
