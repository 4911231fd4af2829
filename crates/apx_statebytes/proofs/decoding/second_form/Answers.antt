use Rattle.std.proofs.Common.{◌<◌, true, false, arith}
use Rattle.apx_statebytes.proofs.Laws.{state_is, bag_is, rows_of_take}
use Rattle.apx_statebytes.proofs.decoding.second_form.Goals as goal

pub state_of-requires : goal.state_of-requires
state_of-requires c =
    state_is c.args.total 4294967232 c.args.bytes.now (c.in_ok-state.state.items, c.in_ok-state.room, c.in_ok-state.rest.now) (λ i. omega (arith, c.type_inv.bytes i)) (omega arith) (omega arith) c.in_ok-state.ensures

pub bag_of-requires : goal.bag_of-requires
bag_of-requires c =
    let state = rows_of_take true c.args.total 4294967232 c.args.bytes.now (c.in_ok-state.state.items, c.in_ok-state.room, c.in_ok-state.rest.now) (λ i. omega (arith, c.type_inv.bytes i)) c.in_ok-state.ensures in
    let some : 0 < c.in_ok-state.room = state.room_left (omega arith) in
    bag_is c.args.total c.in_ok-state.room c.in_ok-state.rest.now (c.in_ok-left.left.items, c.in_ok-left.room, c.in_ok-left.rest.now) state.takes.rest_fits some (omega (arith, state.size)) c.in_ok-left.ensures

pub bag_of-requires-2 : goal.bag_of-requires-2
bag_of-requires-2 c =
    let state = rows_of_take true c.args.total 4294967232 c.args.bytes.now (c.in_ok-state.state.items, c.in_ok-state.room, c.in_ok-state.rest.now) (λ i. omega (arith, c.type_inv.bytes i)) c.in_ok-state.ensures in
    let some : 0 < c.in_ok-state.room = state.room_left (omega arith) in
    let left = rows_of_take false c.args.total c.in_ok-state.room c.in_ok-state.rest.now (c.in_ok-left.left.items, c.in_ok-left.room, c.in_ok-left.rest.now) state.takes.rest_fits c.in_ok-left.ensures in
    bag_is c.args.total c.in_ok-left.room c.in_ok-left.rest.now (c.in_ok-right.right.items, c.in_ok-right._room, c.in_ok-right.rest.now) left.takes.rest_fits (left.room_left some) (omega (arith, state.size, left.size)) c.in_ok-right.ensures
