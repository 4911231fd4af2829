-- A payload's bytes, judged at each stage of what has come.
use Rattle.std.proofs.Common.{◌≡◌, ℕ, ◌+◌, ◌≤◌, List, length, take, drop, Some, Ok, refl, sym, ap, ◌∙◌, arith, ltb, eqb, true, false, eq-eqb}
use Rattle.std.proofs.lemmas.Bool.{le-ltb}
use Rattle.std.proofs.lemmas.List.{length-drop}
use Rattle.std.specs.Int.{w64, from_be_bytes, cast_signed}
use Rattle.apx_codec.specs.KeyNumber.{hash_of}
use Rattle.apx_wire.specs.declared.message.Message.TheVariants.{Payload}
use Rattle.apx_wire.proofs.Fields.{field_in-some}
use Rattle.apx_wire.specs.Judging.{payload_judged, number_in, key_length_in, key_in, tuple_in, field_in}

-- a payload that is all there
pub payload_judged-whole : (place : ℕ) (bytes : List ℕ) → key_length_in bytes ≤ 1024 → 14 + key_length_in bytes ≤ length bytes → hash_of (key_in bytes) ≡ number_in bytes → payload_judged place bytes ≡ Ok (Some (Payload (tuple_in bytes), 15 + key_length_in bytes))
unfolding payload_judged
payload_judged-whole place bytes short there number =
    let header : ltb (length bytes) 6 ≡ false = le-ltb _ _ (omega arith) in
    let length_fits : ltb 1024 (key_length_in bytes) ≡ false = le-ltb _ _ short in
    let key_there : ltb (length bytes) (6 + key_length_in bytes) ≡ false = le-ltb _ _ (omega arith) in
    let is_number : eqb (hash_of (key_in bytes)) (number_in bytes) ≡ true = eq-eqb _ _ number in
    let all_there : ltb (length bytes) (14 + key_length_in bytes) ≡ false = le-ltb _ _ there in
    rw (header, length_fits, key_there, is_number, all_there) refl

-- what a reader of a payload found, piece by piece
pub payload_judged-read : (place : ℕ) (bytes : List ℕ) (key_len number value : ℕ) (key : List ℕ) → key_len ≡ key_length_in bytes → number ≡ number_in bytes → key_len ≤ 1024 → 6 + key_len ≤ length bytes → key ≡ take key_len (drop 6 bytes) → hash_of key ≡ number → Some value ≡ field_in w64 (drop (6 + key_len) bytes) → payload_judged place bytes ≡ Ok (Some (Payload (record { key = key; value = cast_signed w64 value }), 15 + key_len))
payload_judged-read place bytes key_len number value key len-is number-is short there key-is hashed found =
    let v = field_in-some w64 (drop (6 + key_len) bytes) value (sym found) in
    let key-eq : key_in bytes ≡ key = rw (← len-is) (sym key-is) in
    let value-eq : from_be_bytes w64 (take 8 (drop (6 + key_length_in bytes) bytes)) ≡ value = rw (← len-is) v.1 in
    let whole = payload_judged-whole place bytes (rw (← len-is) short) (omega (arith, len-is, v.0, length-drop (6 + key_len) bytes)) (ap hash_of key-eq ∙ hashed ∙ number-is) in
    whole ∙ rw (key-eq, value-eq, ← len-is) refl
