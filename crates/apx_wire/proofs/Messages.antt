-- One message at the front: what is read is spelled so, and what is spelled so is read.
use Rattle.std.proofs.Common.{◌≡◌, ℕ, zero, suc, ◌+◌, ◌*◌, ◌%◌, ◌^◌, ◌<◌, ◌≤◌, List, [], ◌∷◌, ◌++◌, length, take, drop, Option, Some, None, Result, Ok, Err, Bool, true, false, not, cond, ltb, eqb, refl, sym, ap, subst, ◌∙◌, append_assoc, arith}
use Rattle.std.specs.Option.{option_map}
use Rattle.std.specs.Int.{Width, w16, w32, w64, byte_len, from_be_bytes, to_be_bytes, cast_signed, cast_unsigned}
use Rattle.std.proofs.lemmas.Bool.{ltb-false, le-ltb, eqb-true, ne_eqb}
use Rattle.std.proofs.lemmas.List.{take_at, drop_at, take-append-drop, length-append, length-take, length-drop, drop-drop}
use Rattle.std.proofs.lemmas.Int.{of_z-to_z, to_z-of_z}
use Rattle.std.proofs.Math.Facts.{sfits_to_z, Fits-of_z}
use Rattle.apx_codec.specs.KeyNumber.{hash_from, hash_of}
use Rattle.apx_tuple.specs.declared.tuple.Tuple.{Tuple}
use Rattle.apx_wire.specs.declared.fault.WireFault.{WireFault}
use Rattle.apx_wire.specs.declared.fault.WireFault.TheVariants.{BadType, BadKey, BadNumber}
use Rattle.apx_wire.specs.declared.message.Message.{Message}
use Rattle.apx_wire.specs.declared.message.Message.TheVariants.{Payload, Begin, End, Checkpoint, Reset, EndOfStream}
use Rattle.apx_wire.specs.Spelling.{AreBytes, IsTuple, IsMessage, tuple_spelling, spelling, BeginsWith}
use Rattle.apx_wire.specs.Judging.{number_in, key_length_in, key_in, tuple_in, payload_judged, payload_head, head_of, field_in, judged, GivesMessage}
use Rattle.std.specs.Prelude.{IfOk, IfSome}
use Rattle.apx_wire.proofs.Fields.{IsWide, wide16, wide32, wide64, AreBytes-drop, AreBytes-take, front-back, front-below, field_in-again, field_in-some}
use Rattle.apx_wire.proofs.Payloads.{payload_judged-whole}

abbrev pub Judgement : Type 0
Judgement = Result (Option (Message × ℕ)) WireFault

abbrev pub read : Message → ℕ → Judgement
read m n = Ok (Some (m, n))

pub read_is : (m k : Message) (n l : ℕ) → read m n ≡ read k l → (m ≡ k) × (n ≡ l)
read_is m k n l e =
    let p : Path (Message × ℕ) (m, n) (k, l) = cc in
    (ap (λ (x : Message × ℕ). x.0) p, ap (λ (x : Message × ℕ). x.1) p)

-- ---- a number behind a type byte

-- the number that is read
some_field : (w : Width) (make : ℕ → Message) (size : ℕ) (o : Option ℕ) (m : Message) (n : ℕ) → Ok (option_map (λ id. (make id, size)) o) ≡ read m n → (value : ℕ) × (o ≡ Some value) × (make value ≡ m) × (size ≡ n)
some_field w make size None m n e = absurd cc
some_field w make size (Some value) m n e = let p = read_is (make value) m size n e in (value, refl, p.0, p.1)

-- the message that a number makes
numbered : (w : Width) (limit : ℕ) (wide : IsWide w limit) (kind size : ℕ) (make : ℕ → Message) (spelled : (id : ℕ) → spelling (make id) ≡ kind ∷ to_be_bytes w id) (fits : (id : ℕ) → id < limit → IsMessage (make id)) (sized : size ≡ suc (byte_len w)) (bytes : List ℕ) (m : Message) (n : ℕ) → AreBytes bytes → Ok (option_map (λ id. (make id, size)) (field_in w bytes)) ≡ read m n → BeginsWith (kind ∷ bytes) m n
numbered w limit wide kind size make spelled fits sized bytes m n are e =
    let f = some_field w make size (field_in w bytes) m n e in
    let v = field_in-some w bytes f.0 f.1 in
    let back : to_be_bytes w f.0 ≡ take (byte_len w) bytes = rw (← v.1) (front-back w limit wide bytes v.0 are) in
    let below : f.0 < limit = rw (← v.1) (front-below w limit wide bytes are) in
    let cut : drop size (kind ∷ bytes) ≡ drop (byte_len w) bytes = rw sized refl in
    let whole : kind ∷ bytes ≡ spelling (make f.0) ++ drop size (kind ∷ bytes) = rw (cut, spelled f.0, back) (ap (λ (x : List ℕ). kind ∷ x) (sym (take-append-drop (byte_len w) bytes))) in
    let sized-is : size ≡ length (spelling (make f.0)) = rw (spelled f.0) (sized ∙ ap suc (sym (wide.len f.0))) in
    subst (λ (k : Message). BeginsWith (kind ∷ bytes) k n) f.2 (subst (λ (l : ℕ). BeginsWith (kind ∷ bytes) (make f.0) l) f.3 (record { message = fits f.0 below; whole = whole; len = sized-is }))

-- ---- a payload

-- a chain of tests that all let pass
passed : (a b c d f : Bool) (x y : WireFault) (m k : Message) (n l : ℕ) → cond a (Ok None) (cond b (Err x) (cond c (Ok None) (cond (not d) (Err y) (cond f (Ok None) (read m n))))) ≡ read k l → (a ≡ false) × (b ≡ false) × (c ≡ false) × (d ≡ true) × (f ≡ false) × (m ≡ k) × (n ≡ l)
passed true b c d f x y m k n l e = absurd cc
passed false true c d f x y m k n l e = absurd cc
passed false false true d f x y m k n l e = absurd cc
passed false false false false f x y m k n l e = absurd cc
passed false false false true true x y m k n l e = absurd cc
passed false false false true false x y m k n l e = let p = read_is m k n l e in (refl, refl, refl, refl, refl, p.0, p.1)

-- bytes that are cut behind 4, 6 and 6 + k of them
joined : (bytes : List ℕ) (k : ℕ) (a b c d : List ℕ) → a ≡ take 4 bytes → b ≡ take 2 (drop 4 bytes) → c ≡ take k (drop 6 bytes) → d ≡ take 8 (drop (6 + k) bytes) → bytes ≡ (a ++ (b ++ (c ++ d))) ++ drop (14 + k) bytes
joined bytes k a b c d a-is b-is c-is d-is =
    let behind_key : 14 + k ≡ 6 + k + 8 = omega arith in
    let value : d ++ drop (14 + k) bytes ≡ drop (6 + k) bytes = ap (λ (i : ℕ). d ++ drop i bytes) behind_key ∙ ap (λ (x : List ℕ). d ++ x) (sym (drop-drop 8 (6 + k) bytes)) ∙ ap (λ (x : List ℕ). x ++ drop 8 (drop (6 + k) bytes)) d-is ∙ take-append-drop 8 (drop (6 + k) bytes) in
    let key : c ++ drop (6 + k) bytes ≡ drop 6 bytes = ap (λ (x : List ℕ). c ++ x) (sym (drop-drop k 6 bytes)) ∙ ap (λ (x : List ℕ). x ++ drop k (drop 6 bytes)) c-is ∙ take-append-drop k (drop 6 bytes) in
    let size : b ++ drop 6 bytes ≡ drop 4 bytes = ap (λ (x : List ℕ). b ++ x) (sym (drop-drop 2 4 bytes)) ∙ ap (λ (x : List ℕ). x ++ drop 2 (drop 4 bytes)) b-is ∙ take-append-drop 2 (drop 4 bytes) in
    let number : a ++ drop 4 bytes ≡ bytes = ap (λ (x : List ℕ). x ++ drop 4 bytes) a-is ∙ take-append-drop 4 bytes in
    let tail = drop (14 + k) bytes in
    let parts : (a ++ (b ++ (c ++ d))) ++ tail ≡ a ++ (b ++ (c ++ (d ++ tail))) = append_assoc a (b ++ (c ++ d)) tail ∙ ap (λ (x : List ℕ). a ++ x) (append_assoc b (c ++ d) tail) ∙ ap (λ (x : List ℕ). a ++ (b ++ x)) (append_assoc c d tail) in
    sym (parts ∙ ap (λ (x : List ℕ). a ++ (b ++ (c ++ x))) value ∙ ap (λ (x : List ℕ). a ++ (b ++ x)) key ∙ ap (λ (x : List ℕ). a ++ x) size ∙ number)

-- how long a tuple's bytes are
pub length-tuple_spelling : (t : Tuple) → length (tuple_spelling t) ≡ 14 + length t.key
length-tuple_spelling t = omega (arith, length-append t.key (to_be_bytes w64 (cast_unsigned w64 t.value)))

-- what the fields of a payload that is there spell
payload_spelled : (bytes : List ℕ) → AreBytes bytes → key_length_in bytes ≤ 1024 → 14 + key_length_in bytes ≤ length bytes → hash_of (key_in bytes) ≡ number_in bytes → BeginsWith (1 ∷ bytes) (Payload (tuple_in bytes)) (15 + key_length_in bytes)
payload_spelled bytes are short there number =
    let k = key_length_in bytes in
    let key = key_in bytes in
    let value = from_be_bytes w64 (take 8 (drop (6 + k) bytes)) in
    let key-len : length key ≡ k = omega (arith, length-take k (drop 6 bytes), length-drop 6 bytes) in
    let number-spelled : to_be_bytes w32 (hash_of key) ≡ take 4 bytes = ap (to_be_bytes w32) number ∙ front-back w32 (2 ^ 32) wide32 bytes (omega arith) are in
    let length-spelled : to_be_bytes w16 (length key) ≡ take 2 (drop 4 bytes) = ap (to_be_bytes w16) key-len ∙ front-back w16 (2 ^ 16) wide16 (drop 4 bytes) (omega (arith, length-drop 4 bytes)) (AreBytes-drop 4 bytes are) in
    let below : value < 2 ^ 64 = front-below w64 (2 ^ 64) wide64 (drop (6 + k) bytes) (AreBytes-drop (6 + k) bytes are) in
    let value-spelled : to_be_bytes w64 (cast_unsigned w64 (cast_signed w64 value)) ≡ take 8 (drop (6 + k) bytes) = ap (to_be_bytes w64) (of_z-to_z w64 value below) ∙ front-back w64 (2 ^ 64) wide64 (drop (6 + k) bytes) (omega (arith, length-drop (6 + k) bytes)) (AreBytes-drop (6 + k) bytes are) in
    let whole = joined bytes k (to_be_bytes w32 (hash_of key)) (to_be_bytes w16 (length key)) key (to_be_bytes w64 (cast_unsigned w64 (cast_signed w64 value))) number-spelled length-spelled refl value-spelled in
    let next : 15 + k ≡ suc (14 + k) = omega arith in
    record {
      message = record { bytes = AreBytes-take k (drop 6 bytes) (AreBytes-drop 6 bytes are); short = omega (arith, key-len); value = sfits_to_z {w = w64} {n = value} (record { fits = below }) };
      whole = rw next (ap (λ (x : List ℕ). 1 ∷ x) whole);
      len = omega (arith, length-tuple_spelling (tuple_in bytes), key-len);
    }

payload_takes : (place : ℕ) (bytes : List ℕ) (m : Message) (n : ℕ) → AreBytes bytes → payload_judged place bytes ≡ read m n → BeginsWith (1 ∷ bytes) m n
unfolding payload_judged
payload_takes place bytes m n are e =
    let k = key_length_in bytes in
    let p = passed (ltb (length bytes) 6) (ltb 1024 k) (ltb (length bytes) (6 + k)) (eqb (hash_of (key_in bytes)) (number_in bytes)) (ltb (length bytes) (14 + k)) (BadKey place) (BadNumber place) (Payload (tuple_in bytes)) m (15 + k) n e in
    let spelled = payload_spelled bytes are (ltb-false _ _ p.1) (ltb-false _ _ p.4) (eqb-true _ _ p.3) in
    subst (λ (x : Message). BeginsWith (1 ∷ bytes) x n) p.5 (subst (λ (x : ℕ). BeginsWith (1 ∷ bytes) (Payload (tuple_in bytes)) x) p.6 spelled)

-- ---- any message

ended : (m : Message) (n : ℕ) → read EndOfStream 1 ≡ read m n → (bytes : List ℕ) → BeginsWith (6 ∷ bytes) m n
ended m n e bytes =
    let p = read_is EndOfStream m 1 n e in
    subst (λ (x : Message). BeginsWith (6 ∷ bytes) x n) p.0 (subst (λ (x : ℕ). BeginsWith (6 ∷ bytes) EndOfStream x) p.1 (record { message = tt; whole = refl; len = refl }))

AreBytes-rest : (b : ℕ) (bytes : List ℕ) → AreBytes (b ∷ bytes) → AreBytes bytes
AreBytes-rest b bytes are i = are (suc i)

no_fault : (x : WireFault) (m : Message) (n : ℕ) → Err x ≡ read m n → ⊥
no_fault x m n e = cc

-- no message has a type byte above 6
bad_type : (place kind : ℕ) (bytes : List ℕ) → 7 ≤ kind → judged place (kind ∷ bytes) ≡ Err (BadType place)
unfolding judged
bad_type place kind bytes high =
    let is1 : eqb kind 1 ≡ false = ne_eqb kind 1 (omega arith) in
    let is2 : eqb kind 2 ≡ false = ne_eqb kind 2 (omega arith) in
    let is3 : eqb kind 3 ≡ false = ne_eqb kind 3 (omega arith) in
    let is4 : eqb kind 4 ≡ false = ne_eqb kind 4 (omega arith) in
    let is5 : eqb kind 5 ≡ false = ne_eqb kind 5 (omega arith) in
    let is6 : eqb kind 6 ≡ false = ne_eqb kind 6 (omega arith) in
    rw (is1, is2, is3, is4, is5, is6) refl

-- what is read is spelled so
pub judged_takes : (place : ℕ) (bytes : List ℕ) (m : Message) (n : ℕ) → AreBytes bytes → judged place bytes ≡ read m n → BeginsWith bytes m n
unfolding judged
judged_takes place [] m n are e = absurd cc
judged_takes place (suc zero ∷ bytes) m n are e = payload_takes place bytes m n (AreBytes-rest 1 bytes are) e
judged_takes place (suc (suc zero) ∷ bytes) m n are e = numbered w64 (2 ^ 64) wide64 2 9 Begin (λ id. refl) (λ id lt. lt) refl bytes m n (AreBytes-rest 2 bytes are) e
judged_takes place (suc (suc (suc zero)) ∷ bytes) m n are e = numbered w64 (2 ^ 64) wide64 3 9 End (λ id. refl) (λ id lt. lt) refl bytes m n (AreBytes-rest 3 bytes are) e
judged_takes place (suc (suc (suc (suc zero))) ∷ bytes) m n are e = numbered w64 (2 ^ 64) wide64 4 9 Checkpoint (λ id. refl) (λ id lt. lt) refl bytes m n (AreBytes-rest 4 bytes are) e
judged_takes place (suc (suc (suc (suc (suc zero)))) ∷ bytes) m n are e = numbered w32 (2 ^ 32) wide32 5 5 Reset (λ id. refl) (λ id lt. lt) refl bytes m n (AreBytes-rest 5 bytes are) e
judged_takes place (suc (suc (suc (suc (suc (suc zero))))) ∷ bytes) m n are e = ended m n e bytes
judged_takes place (zero ∷ bytes) m n are e = absurd (no_fault (BadType place) m n e)
judged_takes place (suc (suc (suc (suc (suc (suc (suc kind)))))) ∷ bytes) m n are e =
    let high : 7 ≤ suc (suc (suc (suc (suc (suc (suc kind)))))) = omega arith in
    absurd (no_fault (BadType place) m n (sym (bad_type place (suc (suc (suc (suc (suc (suc (suc kind))))))) bytes high) ∙ e))

-- what is spelled so is read, field by field
record Parts (bytes a b c d : List ℕ) (k : ℕ) : Type 0 where
  first : take 4 bytes ≡ a
  second : take 2 (drop 4 bytes) ≡ b
  third : take k (drop 6 bytes) ≡ c
  fourth : take 8 (drop (6 + k) bytes) ≡ d

parted : (a b c d rest : List ℕ) (k : ℕ) → length a ≡ 4 → length b ≡ 2 → length c ≡ k → length d ≡ 8 → Parts ((a ++ (b ++ (c ++ d))) ++ rest) a b c d k
parted a b c d rest k a-len b-len c-len d-len =
    let regrouped : (a ++ (b ++ (c ++ d))) ++ rest ≡ a ++ (b ++ (c ++ (d ++ rest))) = append_assoc a (b ++ (c ++ d)) rest ∙ ap (λ (x : List ℕ). a ++ x) (append_assoc b (c ++ d) rest) ∙ ap (λ (x : List ℕ). a ++ (b ++ x)) (append_assoc c d rest) in
    let behind4 : drop 4 (a ++ (b ++ (c ++ (d ++ rest)))) ≡ b ++ (c ++ (d ++ rest)) = drop_at a (b ++ (c ++ (d ++ rest))) 4 a-len in
    let behind6 : drop 6 (a ++ (b ++ (c ++ (d ++ rest)))) ≡ c ++ (d ++ rest) = sym (drop-drop 2 4 (a ++ (b ++ (c ++ (d ++ rest))))) ∙ ap (drop 2) behind4 ∙ drop_at b (c ++ (d ++ rest)) 2 b-len in
    let behind_key : drop (6 + k) (a ++ (b ++ (c ++ (d ++ rest)))) ≡ d ++ rest = sym (drop-drop k 6 (a ++ (b ++ (c ++ (d ++ rest))))) ∙ ap (drop k) behind6 ∙ drop_at c (d ++ rest) k c-len in
    let parts : Parts (a ++ (b ++ (c ++ (d ++ rest)))) a b c d k = record {
      first = take_at a (b ++ (c ++ (d ++ rest))) 4 a-len;
      second = ap (take 2) behind4 ∙ take_at b (c ++ (d ++ rest)) 2 b-len;
      third = ap (take k) behind6 ∙ take_at c (d ++ rest) k c-len;
      fourth = ap (take 8) behind_key ∙ take_at d rest 8 d-len;
    } in
    subst (λ (x : List ℕ). Parts x a b c d k) (sym regrouped) parts

-- a key's number fits 32 bits
hash_below : (h : ℕ) (key : List ℕ) → h < 2 ^ 32 → hash_from h key < 2 ^ 32
hash_below h [] lt = lt
hash_below h (byte ∷ key) lt = hash_below ((31 * h + byte) % 2 ^ 32) key (omega arith)

payload_again : (place : ℕ) (bytes : List ℕ) (t : Tuple) → IsTuple t → Parts bytes (to_be_bytes w32 (hash_of t.key)) (to_be_bytes w16 (length t.key)) t.key (to_be_bytes w64 (cast_unsigned w64 t.value)) (length t.key) → 14 + length t.key ≤ length bytes → payload_judged place bytes ≡ read (Payload t) (15 + length t.key)
payload_again place bytes t fits parts there =
    let below : cast_unsigned w64 t.value < 2 ^ 64 = (Fits-of_z {w = w64} {z = t.value} fits.value).fits in
    let size : key_length_in bytes ≡ length t.key = ap (from_be_bytes w16) parts.second ∙ wide16.again (length t.key) (omega (arith, fits.short)) in
    let key : key_in bytes ≡ t.key = ap (λ (k : ℕ). take k (drop 6 bytes)) size ∙ parts.third in
    let number : number_in bytes ≡ hash_of t.key = ap (from_be_bytes w32) parts.first ∙ wide32.again (hash_of t.key) (hash_below 0 t.key (omega arith)) in
    let bits : from_be_bytes w64 (take 8 (drop (6 + key_length_in bytes) bytes)) ≡ cast_unsigned w64 t.value = ap (λ (k : ℕ). from_be_bytes w64 (take 8 (drop (6 + k) bytes))) size ∙ ap (from_be_bytes w64) parts.fourth ∙ wide64.again (cast_unsigned w64 t.value) below in
    let value : cast_signed w64 (from_be_bytes w64 (take 8 (drop (6 + key_length_in bytes) bytes))) ≡ t.value = ap (cast_signed w64) bits ∙ to_z-of_z w64 t.value fits.value in
    let whole = payload_judged-whole place bytes (omega (arith, size, fits.short)) (omega (arith, size, there)) (ap hash_of key ∙ sym number) in
    let tuple : tuple_in bytes ≡ t = λ i. record { key = key i; value = value i } in
    whole ∙ (λ i. read (Payload (tuple i)) (15 + size i))

tuple_again : (place : ℕ) (t : Tuple) (rest : List ℕ) → IsTuple t → payload_judged place (tuple_spelling t ++ rest) ≡ read (Payload t) (length (spelling (Payload t)))
tuple_again place t rest fits =
    let number = to_be_bytes w32 (hash_of t.key) in
    let size = to_be_bytes w16 (length t.key) in
    let value = to_be_bytes w64 (cast_unsigned w64 t.value) in
    let parts = parted number size t.key value rest (length t.key) (wide32.len (hash_of t.key)) (wide16.len (length t.key)) refl (wide64.len (cast_unsigned w64 t.value)) in
    let there : 14 + length t.key ≤ length (tuple_spelling t ++ rest) = omega (arith, length-tuple_spelling t, length-append (tuple_spelling t) rest) in
    let sized : 15 + length t.key ≡ length (spelling (Payload t)) = omega (arith, length-tuple_spelling t) in
    payload_again place (tuple_spelling t ++ rest) t fits parts there ∙ ap (read (Payload t)) sized

number_again : (w : Width) (limit : ℕ) (wide : IsWide w limit) (size : ℕ) (make : ℕ → Message) (id : ℕ) (rest : List ℕ) → id < limit → Ok (option_map (λ id. (make id, size)) (field_in w (to_be_bytes w id ++ rest))) ≡ read (make id) size
number_again w limit wide size make id rest lt = ap (λ (o : Option ℕ). Ok (option_map (λ id. (make id, size)) o)) (field_in-again w limit wide id rest lt)

pub judged_again : (place : ℕ) (m : Message) (rest : List ℕ) → IsMessage m → judged place (spelling m ++ rest) ≡ read m (length (spelling m))
unfolding judged
judged_again place (Payload t) rest fits = tuple_again place t rest fits
judged_again place (Begin id) rest fits = number_again w64 (2 ^ 64) wide64 9 Begin id rest fits
judged_again place (End id) rest fits = number_again w64 (2 ^ 64) wide64 9 End id rest fits
judged_again place (Checkpoint id) rest fits = number_again w64 (2 ^ 64) wide64 9 Checkpoint id rest fits
judged_again place (Reset second) rest fits = number_again w32 (2 ^ 32) wide32 5 Reset second rest fits
judged_again place EndOfStream rest fits = refl

-- the head of a message at the front
pub head_again : (m : Message) (rest : List ℕ) → IsMessage m → payload_head (spelling m ++ rest) ≡ head_of m
head_again (Payload t) rest fits =
    let bytes = tuple_spelling t ++ rest in
    let parts = parted (to_be_bytes w32 (hash_of t.key)) (to_be_bytes w16 (length t.key)) t.key (to_be_bytes w64 (cast_unsigned w64 t.value)) rest (length t.key) (wide32.len (hash_of t.key)) (wide16.len (length t.key)) refl (wide64.len (cast_unsigned w64 t.value)) in
    let size : key_length_in bytes ≡ length t.key = ap (from_be_bytes w16) parts.second ∙ wide16.again (length t.key) (omega (arith, fits.short)) in
    let number : number_in bytes ≡ hash_of t.key = ap (from_be_bytes w32) parts.first ∙ wide32.again (hash_of t.key) (hash_below 0 t.key (omega arith)) in
    let there : ltb (length bytes) 6 ≡ false = le-ltb _ _ (omega (arith, length-tuple_spelling t, length-append (tuple_spelling t) rest)) in
    let sized : 15 + key_length_in bytes ≡ length (spelling (Payload t)) = omega (arith, size, length-tuple_spelling t) in
    ap (λ b. cond b None (Some (number_in bytes, 15 + key_length_in bytes))) there ∙ (λ i. Some (number i, sized i))
head_again (Begin id) rest fits = refl
head_again (End id) rest fits = refl
head_again (Checkpoint id) rest fits = refl
head_again (Reset second) rest fits = refl
head_again EndOfStream rest fits = refl

-- the same of what a reader returned
pub is_found : (r : Judgement) (place : ℕ) (bytes : List ℕ) → AreBytes bytes → GivesMessage r (judged place bytes) → IfOk r (λ found. IfSome found (λ x. BeginsWith bytes x.0 x.1))
is_found (Ok None) place bytes are given = tt
is_found (Ok (Some x)) place bytes are given = judged_takes place bytes x.0 x.1 are given
is_found (Err fault) place bytes are given = tt

pub is_only : (r : Judgement) (place : ℕ) (bytes : List ℕ) (m : Message) (rest : List ℕ) → IsMessage m → bytes ≡ spelling m ++ rest → GivesMessage r (judged place bytes) → GivesMessage r (read m (length (spelling m)))
is_only r place bytes m rest fits e given = subst (GivesMessage r) (ap (judged place) e ∙ judged_again place m rest fits) given

-- ---- no spelling begins another

pub spelled_once : (a b : Message) (x y : List ℕ) → IsMessage a → IsMessage b → spelling a ++ x ≡ spelling b ++ y → (a ≡ b) × (x ≡ y)
spelled_once a b x y fits-a fits-b e =
    let same = read_is a b (length (spelling a)) (length (spelling b)) (sym (judged_again 0 a x fits-a) ∙ ap (judged 0) e ∙ judged_again 0 b y fits-b) in
    (same.0, sym (drop_at (spelling a) x (length (spelling a)) refl) ∙ (λ i. drop (same.1 i) (e i)) ∙ drop_at (spelling b) y (length (spelling b)) refl)

-- ---- where a place doesn't matter

waiting : (a b c d f : Bool) (x y v w : WireFault) (m : Message) (n : ℕ) → cond a (Ok None) (cond b (Err x) (cond c (Ok None) (cond (not d) (Err y) (cond f (Ok None) (read m n))))) ≡ Ok None → cond a (Ok None) (cond b (Err v) (cond c (Ok None) (cond (not d) (Err w) (cond f (Ok None) (read m n))))) ≡ Ok None
waiting true b c d f x y v w m n e = refl
waiting false true c d f x y v w m n e = absurd cc
waiting false false true d f x y v w m n e = refl
waiting false false false false f x y v w m n e = absurd cc
waiting false false false true f x y v w m n e = e

no_none : (x : WireFault) → Path Judgement (Err x) (Ok None) → ⊥
no_none x e = cc

pub judged-unfinished : (p q : ℕ) (bytes : List ℕ) → judged p bytes ≡ Ok None → judged q bytes ≡ Ok None
unfolding judged payload_judged
judged-unfinished p q [] e = refl
judged-unfinished p q (suc zero ∷ bytes) e =
    let k = key_length_in bytes in
    waiting (ltb (length bytes) 6) (ltb 1024 k) (ltb (length bytes) (6 + k)) (eqb (hash_of (key_in bytes)) (number_in bytes)) (ltb (length bytes) (14 + k)) (BadKey p) (BadNumber p) (BadKey q) (BadNumber q) (Payload (tuple_in bytes)) (15 + k) e
judged-unfinished p q (suc (suc zero) ∷ bytes) e = e
judged-unfinished p q (suc (suc (suc zero)) ∷ bytes) e = e
judged-unfinished p q (suc (suc (suc (suc zero))) ∷ bytes) e = e
judged-unfinished p q (suc (suc (suc (suc (suc zero)))) ∷ bytes) e = e
judged-unfinished p q (suc (suc (suc (suc (suc (suc zero))))) ∷ bytes) e = e
judged-unfinished p q (zero ∷ bytes) e = absurd (no_none (BadType p) e)
judged-unfinished p q (suc (suc (suc (suc (suc (suc (suc kind)))))) ∷ bytes) e =
    let high : 7 ≤ suc (suc (suc (suc (suc (suc (suc kind)))))) = omega arith in
    absurd (no_none (BadType p) (sym (bad_type p (suc (suc (suc (suc (suc (suc (suc kind))))))) bytes high) ∙ e))

pub judged-nothing : (place : ℕ) → judged place [] ≡ Ok None
unfolding judged
judged-nothing place = refl
