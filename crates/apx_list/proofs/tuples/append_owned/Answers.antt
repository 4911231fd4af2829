use Rattle.std.proofs.Common.{◌<◌, length}
use Rattle.apx_list.proofs.Left.{begins, one_less, shorter, all_taken, is_some, is_none, added_more}
use Rattle.apx_list.proofs.tuples.append_owned.Goals as goal

pub take_owned-requires-clause-bytes : goal.take_owned-requires-clause-bytes
take_owned-requires-clause-bytes c =
    let left = c.loop-rest.invariant.left c.requires.bytes.0 c.requires.bytes.1 c.requires.bytes.2 in
    begins c.loop-rest.rest.now left.left left.whole left.bytes (is_some (length c.loop-rest.rest.now) c.loop-rest-test.ensures)

pub loop-rest-smaller : goal.loop-rest-smaller
loop-rest-smaller c =
    let left = c.loop-rest.invariant.left c.requires.bytes.0 c.requires.bytes.1 c.requires.bytes.2 in
    shorter c.args.n c.args.i c.loop-rest.rest.now c.in_ok-rest.rest.now c.loop-rest.into.items c.take_owned.new.into.items left.left left.whole left.bytes (is_some (length c.loop-rest.rest.now) c.loop-rest-test.ensures) c.in_ok-rest.ensures.ok

pub loop-rest-preserved : goal.loop-rest-preserved
loop-rest-preserved c =
    let some : 0 < length c.loop-rest.rest.now = is_some (length c.loop-rest.rest.now) c.loop-rest-test.ensures in
    record {
      left = λ messages whole bytes. one_less c.args.n c.args.i c.args.into.now.items messages c.loop-rest.into.items c.take_owned.new.into.items c.loop-rest.rest.now c.in_ok-rest.rest.now some c.in_ok-rest.ensures.ok (c.loop-rest.invariant.left messages whole bytes);
      some = added_more c.args.into.now.items c.loop-rest.into.items c.take_owned.new.into.items c.loop-rest.invariant.some c.in_ok-rest.ensures.some;
    }

pub returns-clause-ok : goal.returns-clause-ok
returns-clause-ok c = λ messages whole bytes. all_taken c.args.n c.args.i c.args.into.now.items messages c.loop-rest.into.items c.loop-rest.rest.now (is_none (length c.loop-rest.rest.now) c.loop-rest-test.ensures) (c.loop-rest.invariant.left messages whole bytes)
