use Rattle.std.proofs.Common.{◌≡◌, ◌<◌, ◌+◌, [], ◌∷◌, ◌++◌, length, map, take, sym, ap, ◌∙◌, arith}
use Rattle.std.proofs.lemmas.List.{take_more, map-append}
use Rattle.apx_wire.specs.declared.message.Message.TheVariants.{Payload}
use Rattle.apx_list.proofs.Pieces.{Adds_both}
use Rattle.apx_list.proofs.Spelled.{AreMessages-append}
use Rattle.apx_list.proofs.cutting.add_tuples.Goals as goal

pub loop-tuple-preserved : goal.loop-tuple-preserved
loop-tuple-preserved c =
    let i = c.loop-tuple.tuple-index in
    let t = c.tuple-item.result in
    let before = take i c.args.tuples.now in
    let there : i < length c.args.tuples.now = omega arith in
    let more : take (i + 1) c.args.tuples.now ≡ before ++ t ∷ [] = take_more c.args.tuples.now i t there ∙ ap (λ x. before ++ x ∷ []) (sym c.tuple-item.is) in
    let joined : map Payload (take (i + 1) c.args.tuples.now) ≡ map Payload before ++ Payload t ∷ [] = ap (map Payload) more ∙ map-append Payload before (t ∷ []) in
    record {
      adds = rw joined (Adds_both c.args.cutter.now c.loop-tuple.cutter c.add_tuple.new.self (map Payload before) (Payload t ∷ []) c.loop-tuple.invariant.adds c.in_ok-add_tuple.ensures.adds);
      fit = rw joined (AreMessages-append (map Payload before) (Payload t ∷ []) c.loop-tuple.invariant.fit (c.in_ok-add_tuple.ensures.fits, tt));
    }
