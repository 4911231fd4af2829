use Rattle.std.proofs.Common.{◌≡◌, arith, sym, ◌∙◌, ap}
use Rattle.apx_tuple.specs.Key.{first_bytes}
use Rattle.apx_tuple.proofs.Fronts.{byte-fits, byte-more, first_bytes-more, first_bytes-none}
use Rattle.apx_tuple.proofs.key.front_of.Goals as goal

pub loop-place-init : goal.loop-place-init
loop-place-init c = (sym (first_bytes-none c.args.bytes.now), omega arith)

pub overflow_mul-front : goal.overflow_mul-front
overflow_mul-front c = let fits = byte-fits c.loop-place.place c.loop-place.front 0 (omega arith) c.loop-place.invariant.1 (omega arith) in omega arith

pub overflow_add-front : goal.overflow_add-front
overflow_add-front c = let fits = byte-fits c.loop-place.place c.loop-place.front c.from.result (omega arith) c.loop-place.invariant.1 (omega arith) in omega arith

pub loop-place-preserved : goal.loop-place-preserved
loop-place-preserved c =
    let more = first_bytes-more c.loop-place.place c.args.bytes.now in
    (omega (arith, more, c.loop-place.invariant.0, c.from.ensures, c.byte_at.ensures), byte-more c.loop-place.place c.loop-place.front c.from.result c.loop-place.invariant.1 (omega arith))

pub returns : goal.returns
returns c =
    let end : c.loop-place.place ≡ 8 = omega arith in
    record { spells = c.loop-place.invariant.0 ∙ ap (λ n. first_bytes n c.args.bytes.now) end; fits = λ k. omega (arith, c.type_inv.bytes k) }
