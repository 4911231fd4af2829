use Rattle.std.proofs.Common.{◌+◌, ◌≤◌, arith}
use Rattle.apx_gen.specs.Generated.{lines_text}
use Rattle.apx_gen.proofs.Drawing.{lines_appended, lines_all}
use Rattle.apx_gen.proofs.lines.Goals as goal

-- src/lib.rt:82:5
pub loop-preserved : goal.loop-preserved
loop-preserved c =
    let more = c.in_ok-append_line.ensures in (
      omega arith,
      lines_appended c.args.size c.loop.counter c.loop.generator c.append_line.new.generator
          c.loop.lines.items c.append_line.new.lines.items (lines_text c.args.size c.args.generator)
          c.loop-test.true more.line more.drawn c.loop.invariant.1,
    )

-- src/lib.rt:75:1
pub returns : goal.returns
returns c =
    lines_all c.args.size c.loop.counter c.loop.generator c.loop.lines.items (lines_text c.args.size c.args.generator)
    c.loop.invariant.0 c.loop-test.false c.loop.invariant.1
