use Rattle.apx_lines.proofs.Searching.{first_place}
use Rattle.apx_audit.proofs.read.first.Goals as goal

pub returns : goal.returns
returns c = first_place _ c.args.text.now c.memchr.result c.memchr.ensures
