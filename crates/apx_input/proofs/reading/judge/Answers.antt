use Rattle.std.proofs.Common.{arith, sym, ◌∙◌}
use Rattle.apx_pass.proofs.Refusing.{refused_long, refused_pair, refused_not}
use Rattle.apx_input.proofs.reading.judge.Goals as goal

pub returns-then-line-gt-MAX_LINE_LEN : goal.returns-then-line-gt-MAX_LINE_LEN
returns-then-line-gt-MAX_LINE_LEN c = λ per_window few. refused_long c.args.kind per_window c.args.number c.args.line.now few (omega arith)

pub returns-then-not-has_tuple : goal.returns-then-not-has_tuple
returns-then-not-has_tuple c = λ per_window few. refused_pair c.args.kind per_window c.args.number c.args.line.now few (omega arith) (sym c.has_tuple.ensures ∙ c.if-not-has_tuple.true)

pub returns : goal.returns
returns c = λ per_window few. refused_not c.args.kind per_window c.args.number c.args.line.now few (omega arith) (sym c.has_tuple.ensures ∙ c.if-not-has_tuple.false)
