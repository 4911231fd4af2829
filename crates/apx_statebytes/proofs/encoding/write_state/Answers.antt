use Rattle.std.proofs.Common.{◌≡◌, ◌++◌, rules, length, arith}
use Rattle.apx_statebytes.specs.Spelling.{row_spelling}
use Rattle.apx_tuple.specs.State.{Pair, pair_key}
use Rattle.apx_statebytes.specs.Rows.{IsRow}
use Rattle.apx_statebytes.proofs.Order.{few_rows}
use Rattle.apx_statebytes.proofs.Writing.{row_written, row_fits}
use Rattle.apx_statebytes.proofs.encoding.write_state.Goals as goal

pub overflow_cast-count : goal.overflow_cast-count
overflow_cast-count c = record { fits = omega (arith, few_rows pair_key c.args.state.now, c.len-count.ensures.len, c.len-count.ensures.state.small) }

pub loop-key-preserved : goal.loop-key-preserved
loop-key-preserved c =
    let row : Pair = (c.in-Some.key.now, c.in-Some.value) in
    let written : c.write_row.new.into.items ≡ c.loop-key.into.items ++ row_spelling row = search (rules, c.in_ok-write_row.ensures.ok) in
    let fits : IsRow row = search (rules, c.write_row.ensures.row) in
    record {
      spelled = row_written _ _ _ row _ _ c.in-Some.ensures.steps written c.loop-key.invariant.spelled;
      fit = row_fits _ row _ _ c.in-Some.ensures.steps fits c.loop-key.invariant.fit;
    }
