use Rattle.std.proofs.Common.{ℕ, ◌+◌, List, length, map, Vec, ap, arith, rules, eqb}
use Rattle.std.specs.declared.alloc.Global.{Global}
use Rattle.std.proofs.lemmas.List.{length-map}
use Rattle.std.proofs.lemmas.Iterator.Adapters.{YieldsList-from_vec}
use Rattle.std.proofs.lemmas.Iterator.Consumers.{YieldsList-turn}
use Rattle.apx_list.proofs.Pieces.{numbered-push, length-numbered}
use Rattle.apx_list.proofs.cutting.number.Goals as goal

pub overflow_cast-index : goal.overflow_cast-index
overflow_cast-index c =
    let turn = YieldsList-turn (YieldsList-from_vec {s = c.into_iter-piece-iterator.result} c.args.pieces.items (search rules) (search rules)) c.loop-piece.yielded c.loop-piece.piece-iterator c.loop-piece.yielded_by c.next.result c.next.new.self c.in-Some.piece c.in-Some.is c.next.ensures.steps in
    let bytes : Vec ℕ Global → List ℕ = λ piece. piece.items in
    omega (arith, turn.0, c.len-index.ensures, ap length c.loop-piece.invariant, length-numbered c.args.window c.len-count.result 0 (map bytes c.loop-piece.yielded), length-map c.loop-piece.yielded bytes)

pub loop-piece-preserved : goal.loop-piece-preserved
loop-piece-preserved c =
    let bytes : Vec ℕ Global → List ℕ = λ piece. piece.items in
    numbered-push c.args.window c.len-count.result bytes c.loop-piece.yielded c.in-Some.piece c.loop-piece.blocks.items c.push.new.self.items c.len-index.result (eqb (c.len-index.result + 1) c.len-count.result) c.in_ok-from_vec.field-0 c.loop-piece.invariant (search rules) (search rules) (search rules) (search rules)
