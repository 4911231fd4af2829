use Rattle.std.proofs.Common.{◌≡◌, ◌++◌, arith, ap, length, length-append, rules}
use Rattle.std.specs.Int.{w32, to_be_bytes}
use Rattle.apx_device.specs.Rows.{rows_bytes}
use Rattle.apx_device.proofs.Spelled.{rows-few}
use Rattle.apx_sinklog.specs.Windows.{body_bytes}
use Rattle.apx_sinklog.proofs.Bodies.{body_back, rows_length}
use Rattle.apx_sinklog.proofs.logged.body_of.Goals as goal

pub overflow_cast-rows : goal.overflow_cast-rows
overflow_cast-rows c = omega (arith, rows-few c.args.rows.now)

pub returns-clause-back : goal.returns-clause-back
returns-clause-back c =
    let bytes : c.append_rows.new.into.items ≡ body_bytes c.args.window c.args.rows.now = search rules in
    body_back c.args.window c.args.rows.now c.append_rows.new.into.items bytes c.ranges.window.fits (omega (arith, rows-few c.args.rows.now)) c.in_ok-append_rows.ensures.back

pub returns-clause-fits : goal.returns-clause-fits
returns-clause-fits c =
    let bytes : c.append_rows.new.into.items ≡ body_bytes c.args.window c.args.rows.now = search rules in
    let lengths = ap length bytes in
    omega (
      arith,
      lengths,
      rows_length c.args.rows.now,
      length-append (to_be_bytes w32 c.args.window) (to_be_bytes w32 (length c.args.rows.now) ++ rows_bytes c.args.rows.now),
      length-append (to_be_bytes w32 (length c.args.rows.now)) (rows_bytes c.args.rows.now),
    )
