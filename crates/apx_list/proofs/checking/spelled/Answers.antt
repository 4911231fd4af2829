use Rattle.std.proofs.Common.{◌≡◌, ◌<◌, ◌+◌, [], ◌∷◌, ◌++◌, length, take, sym, ap, ◌∙◌, arith}
use Rattle.std.proofs.lemmas.List.{take_more, append-nil}
use Rattle.apx_wire.specs.Spelling.{spelling, spellings}
use Rattle.apx_wire.proofs.Streams.{spellings-append}
use Rattle.apx_list.proofs.checking.spelled.Goals as goal

pub loop-message-preserved : goal.loop-message-preserved
loop-message-preserved c =
    let i = c.loop-message.message-index in
    let m = c.message-item.result in
    let before = take i c.args.messages.now in
    let there : i < length c.args.messages.now = omega arith in
    let more : take (i + 1) c.args.messages.now ≡ before ++ m ∷ [] = take_more c.args.messages.now i m there ∙ ap (λ x. before ++ x ∷ []) (sym c.message-item.is) in
    let joined : spellings (take (i + 1) c.args.messages.now) ≡ spellings before ++ spelling m = ap spellings more ∙ (spellings-append before (m ∷ []) ∙ ap (λ b. spellings before ++ b) (append-nil (spelling m))) in
    c.in_ok-write.ensures.ok ∙ (ap (λ b. b ++ spelling m) c.loop-message.invariant ∙ sym joined)
