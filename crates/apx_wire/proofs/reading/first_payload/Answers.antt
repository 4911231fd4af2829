use Rattle.std.proofs.Common.{◌≡◌, ◌+◌, drop, take, arith, ap, sym, ◌∙◌, Some}
use Rattle.std.specs.Int.{w64, cast_signed, cast_unsigned}
use Rattle.std.proofs.lemmas.Grind.{common_steps}
use Rattle.std.proofs.lemmas.Int.{to_z-of_z}
use Rattle.apx_codec.specs.KeyNumber.{hash_of}
use Rattle.apx_wire.specs.Judging.{key_length_in, number_in, field_in}
use Rattle.apx_wire.proofs.Payloads.{payload_judged-read}
use Rattle.apx_wire.proofs.reading.first_payload.Goals as goal

pub returns : goal.returns
returns c =
    let len : c.from-key_len.result ≡ key_length_in c.args.bytes.now = grind (arith, common_steps) in
    let number : c.from_be_bytes-number.result ≡ number_in c.args.bytes.now = grind (arith, common_steps) in
    let key : c.in_ok-key.key ≡ take c.from-key_len.result (drop 6 c.args.bytes.now) = grind (arith, common_steps) in
    let same : c.hash.result ≡ c.from_be_bytes-number.result = omega arith in
    let hashed : hash_of c.in_ok-key.key ≡ c.from_be_bytes-number.result = ap hash_of c.in_ok-key.ensures.ok ∙ sym c.hash.ensures ∙ same in
    let value : Some c.in-Some.value ≡ field_in w64 (drop (6 + c.from-key_len.result) c.args.bytes.now) = grind (arith, common_steps, c.in-Some.ensures) in
    let signed : cast_signed w64 (cast_unsigned w64 c.cast_signed.result) ≡ cast_signed w64 c.in-Some.value = grind (arith, to_z-of_z) in
    let whole = payload_judged-read c.args.place c.args.bytes.now c.from-key_len.result c.from_be_bytes-number.result c.in-Some.value c.in_ok-key.key len number (omega arith) (omega arith) key hashed value in
    rw signed whole
