use Rattle.std.proofs.Common.{◌≡◌, ◌++◌, rules, length, arith, ap}
use Rattle.apx_statebytes.specs.Spelling.{row_spelling}
use Rattle.apx_tuple.specs.Tuple.{tuple_key}
use Rattle.apx_tuple.specs.State.{Pair}
use Rattle.apx_statebytes.specs.Rows.{row_of, IsRow}
use Rattle.apx_statebytes.proofs.Order.{few_rows}
use Rattle.apx_statebytes.proofs.Writing.{row_written, row_fits, tuple_taken}
use Rattle.apx_statebytes.proofs.encoding.write_bag.Goals as goal

pub overflow_cast-count : goal.overflow_cast-count
overflow_cast-count c = record { fits = omega (arith, few_rows tuple_key c.args.bag.now, ap length c.tuples-tuples.ensures.tuples, c.tuples-tuples.ensures.bag.small) }

pub loop-tuple-preserved : goal.loop-tuple-preserved
loop-tuple-preserved c =
    let taken = tuple_taken c.tuples-tuples.result.now c.loop-tuple.tuple-index c.tuple-item.result (omega arith) c.tuple-item.is in
    let row : Pair = row_of c.tuple-item.result in
    let written : c.write_row.new.into.items ≡ c.loop-tuple.into.items ++ row_spelling row = search (rules, c.in_ok-write_row.ensures.ok) in
    let fits : IsRow row = search (rules, c.write_row.ensures.row) in
    record {
      spelled = row_written _ _ _ row _ _ taken written c.loop-tuple.invariant.spelled;
      fit = row_fits _ row _ _ taken fits c.loop-tuple.invariant.fit;
    }
