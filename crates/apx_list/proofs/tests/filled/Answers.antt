use Rattle.std.proofs.Common.{refl, rules, length}
use Rattle.std.proofs.lemmas.Iterator.Adapters.{YieldsList-from_vec}
use Rattle.std.proofs.lemmas.Iterator.Consumers.{YieldsList-turn}
use Rattle.apx_list.proofs.Appending.{fills_next, fills_more, of_window, AllSpell-at}
use Rattle.apx_list.proofs.tests.filled.Goals as goal

pub append-requires : goal.append-requires
append-requires g c =
    let turn = YieldsList-turn (YieldsList-from_vec {s = c.into_iter-block-iterator.result} c.args.blocks.items (search rules) (search rules)) c.loop-block.yielded c.loop-block.block-iterator c.loop-block.yielded_by c.next.result c.next.new.self c.in-Some.block c.in-Some.is c.next.ensures.steps in
    let at = of_window 1 c.requires.window.0 c.args.blocks.items (length c.loop-block.yielded) c.in-Some.block c.requires.window.1 turn.0 turn.1 in
    fills_next _ (record {}) c.args.plan (length c.args.blocks.items) c.loop-block.yielded c.loop-block.list c.in-Some.block refl c.requires.windows turn.0 at (AllSpell-at c.args.plan c.args.blocks.items (length c.loop-block.yielded) c.in-Some.block c.requires.spell turn.0 turn.1) c.loop-block.invariant

pub loop-block-preserved : goal.loop-block-preserved
loop-block-preserved g c =
    let turn = YieldsList-turn (YieldsList-from_vec {s = c.into_iter-block-iterator.result} c.args.blocks.items (search rules) (search rules)) c.loop-block.yielded c.loop-block.block-iterator c.loop-block.yielded_by c.next.result c.next.new.self c.in-Some.block c.in-Some.is c.next.ensures.steps in
    let at = of_window 1 c.requires.window.0 c.args.blocks.items (length c.loop-block.yielded) c.in-Some.block c.requires.window.1 turn.0 turn.1 in
    rw c.in_ok-append.ensures.ok (fills_more (record {}) c.args.plan (length c.args.blocks.items) c.loop-block.yielded c.loop-block.list c.in-Some.block turn.0 at c.loop-block.invariant)
