use Rattle.std.proofs.Common.{◌≡◌, map, ap, arith, length, Vec, ℕ, List}
use Rattle.std.specs.declared.alloc.Global.{Global}
use Rattle.std.proofs.lemmas.List.{length-map}
use Rattle.apx_list.specs.Cut.{blocks_of, pieces_of}
use Rattle.apx_list.proofs.Pieces.{pieces_of-fits, if_ok}
use Rattle.apx_list.proofs.Spelled.{blocks_spell, window_spelled}
use Rattle.apx_list.specs.declared.block.Block.{Block}
use Rattle.apx_list.specs.Block.{AllSpell, AreMessages}
use Rattle.apx_list.specs.Window.{SpellWindow}
use Rattle.apx_tuple.specs.Tuple.{IsBag}
use Rattle.apx_wire.specs.declared.message.Message.TheVariants.{Payload}
use Rattle.apx_list.proofs.cutting.cut.Goals as goal

pub number-requires : goal.number-requires
number-requires c =
    let bytes : Vec ℕ Global → List ℕ = λ piece. piece.items in
    let found : map bytes c.in_ok-pieces.field-0.items ≡ pieces_of c.args.plan.now c.args.window c.tuples.result.now = c.in_ok-pieces.ensures.pieces in
    let few = pieces_of-fits c.args.plan.now c.args.window c.tuples.result.now (rw c.tuples.ensures.tuples c.tuples.ensures.bag) in
    omega (arith, few, ap length found, length-map c.in_ok-pieces.field-0.items bytes)

pub returns-clause-blocks : goal.returns-clause-blocks
unfolding blocks_of
returns-clause-blocks c =
    let bytes : Vec ℕ Global → List ℕ = λ piece. piece.items in
    let found : map bytes c.in_ok-pieces.field-0.items ≡ pieces_of c.args.plan.now c.args.window c.args.bag.now = rw (← c.tuples.ensures.tuples) c.in_ok-pieces.ensures.pieces in
    let count : length (map bytes c.in_ok-pieces.field-0.items) ≡ length c.in_ok-pieces.field-0.items = length-map c.in_ok-pieces.field-0.items bytes in
    rw (← found, count) c.number.ensures

pub returns-clause-spell : goal.returns-clause-spell
returns-clause-spell c =
    let fit : AreMessages (map Payload c.args.bag.now) = rw (← c.tuples.ensures.tuples) c.in_ok-pieces.ensures.fit in
    let bag : IsBag c.args.bag.now = c.tuples.ensures.bag in
    if_ok c.number.result (λ (blocks : Vec Block Global). blocks.items ≡ blocks_of c.args.plan.now c.args.window c.args.bag.now) (λ (blocks : Vec Block Global). AllSpell c.args.plan.now blocks.items) (λ blocks same. rw same (blocks_spell c.args.plan.now c.args.window c.args.bag.now c.requires.plan c.requires.window bag.ascends fit)) (returns-clause-blocks c)

pub returns-clause-window : goal.returns-clause-window
returns-clause-window c =
    let fit : AreMessages (map Payload c.args.bag.now) = rw (← c.tuples.ensures.tuples) c.in_ok-pieces.ensures.fit in
    let bag : IsBag c.args.bag.now = c.tuples.ensures.bag in
    if_ok c.number.result (λ (blocks : Vec Block Global). blocks.items ≡ blocks_of c.args.plan.now c.args.window c.args.bag.now) (λ (blocks : Vec Block Global). SpellWindow c.args.plan.now c.args.window blocks.items c.args.bag.now) (λ blocks same. rw same (window_spelled c.args.plan.now c.args.window c.args.bag.now c.requires.plan c.requires.window bag.ascends fit)) (returns-clause-blocks c)
