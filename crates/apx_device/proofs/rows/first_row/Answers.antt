use Rattle.std.proofs.Common.{◌≡◌, ◌+◌, take, drop, arith}
use Rattle.std.specs.Int.{w64, cast_signed, cast_unsigned, from_be_bytes}
use Rattle.std.proofs.lemmas.Grind.{common_steps}
use Rattle.std.proofs.lemmas.Int.{to_z-of_z}
use Rattle.apx_device.specs.Rows.{key_length}
use Rattle.apx_device.proofs.Spelled.{front_read}
use Rattle.apx_device.proofs.rows.first_row.Goals as goal

pub returns-clause-row : goal.returns-clause-row
returns-clause-row c =
    let len : c.from-key_len.result ≡ key_length c.args.bytes.now = grind (arith, common_steps) in
    let key : c.in_ok-key.key ≡ take c.from-key_len.result (drop 2 c.args.bytes.now) = grind (arith, common_steps, c.in_ok-key.ensures) in
    let value : c.from_be_bytes-value.result ≡ from_be_bytes w64 (take 8 (drop (c.from-key_len.result + 2) c.args.bytes.now)) = grind (arith, common_steps) in
    let signed : cast_signed w64 (cast_unsigned w64 c.cast_signed.result) ≡ cast_signed w64 c.from_be_bytes-value.result = grind (arith, to_z-of_z) in
    let whole = front_read c.args.bytes.now c.from-key_len.result c.from_be_bytes-value.result c.in_ok-key.key len (omega arith) (omega arith) key value in
    rw signed whole
