use Rattle.std.proofs.Common.{rules, refl}
use Rattle.apx_json.specs.Shape.{port_at}
use Rattle.apx_json.proofs.stream.port.Goals as goal

pub returns : goal.returns
unfolding port_at
returns c = rw (c.in_ok-members.ensures, c.in_ok-operator.ensures, c.in_ok-port.ensures) refl

pub returns-in_err-port : goal.returns-in_err-port
unfolding port_at
returns-in_err-port c = rw (c.in_ok-members.ensures, c.in_ok-operator.ensures) (search rules)
