use Rattle.std.proofs.Common.{◌≡◌, ◌<◌, ◌+◌, [], ◌∷◌, ◌++◌, length, take, sym, ap, ◌∙◌, arith}
use Rattle.std.proofs.lemmas.List.{take_more}
use Rattle.apx_list.proofs.Pieces.{Adds_both}
use Rattle.apx_list.proofs.cutting.add_all.Goals as goal

pub loop-message-preserved : goal.loop-message-preserved
loop-message-preserved c =
    let i = c.loop-message.message-index in
    let m = c.message-item.result in
    let before = take i c.args.messages.now in
    let there : i < length c.args.messages.now = omega arith in
    let more : take (i + 1) c.args.messages.now ≡ before ++ m ∷ [] = take_more c.args.messages.now i m there ∙ ap (λ x. before ++ x ∷ []) (sym c.message-item.is) in
    rw more (Adds_both c.args.cutter.now c.loop-message.cutter c.add.new.self before (m ∷ []) c.loop-message.invariant c.in_ok-add.ensures)
