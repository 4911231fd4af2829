use Rattle.std.proofs.Common.{arith}
use Rattle.apx_statebytes.proofs.Laws.{state_is}
use Rattle.apx_statebytes.proofs.decoding.first_form.Goals as goal

pub state_of-requires : goal.state_of-requires
state_of-requires c =
    state_is c.args.total 4294967232 c.args.bytes.now (c.in_ok-rows.rows.items, c.in_ok-rows._room, c.in_ok-rows.rest.now) (λ i. omega (arith, c.type_inv.bytes i)) (omega arith) (omega arith) c.in_ok-rows.ensures
