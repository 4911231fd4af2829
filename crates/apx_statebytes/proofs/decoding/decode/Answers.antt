use Rattle.std.proofs.Common.{subst, arith}
use Rattle.apx_statebytes.specs.Reading.{Gives}
use Rattle.apx_statebytes.proofs.Laws.{is_found, progress_again}
use Rattle.apx_statebytes.proofs.decoding.decode.Goals as goal

pub returns-clause-found : goal.returns-clause-found
returns-clause-found c = is_found c.read.result c.args.bytes.now (λ i. omega (arith, c.type_inv.bytes i)) c.read.ensures

pub returns-clause-only : goal.returns-clause-only
returns-clause-only c = λ g is spelled. subst (λ r. Gives (λ x. x) c.read.result r) (progress_again c.args.bytes.now g is spelled) c.read.ensures
