-- What a file spells, read from a gate on.
use Rattle.std.proofs.Common.{◌≡◌, ℕ, zero, suc, ◌+◌, ◌-◌, ◌<◌, ◌≤◌, Bool, true, false, cond, List, [], ◌∷◌, ◌++◌, length, take, drop, Option, Some, None, Result, Ok, Err, nat_le, refl, sym, ap, ◌∙◌, subst, append_assoc, arith, length-append, length-drop}
use Rattle.std.specs.Prelude.{IfOk, ◌==◌}
use Rattle.std.specs.Int.{w32, from_be_bytes}
use Rattle.std.proofs.lemmas.Bool.{eqb-true}
use Rattle.std.proofs.lemmas.Bool.Decides.{nat_tests}
use Rattle.std.proofs.lemmas.List.{take_all, take_at, drop_at, drop-drop, length-take}
use Rattle.apx_disk.specs.Log.{Entry, Log, ended, joined, is_open, body_length, is_whole, read_from}

-- ---- tests

pub nat_le-true : (m n : ℕ) → m ≤ n → nat_le m n ≡ true
nat_le-true m n le = grind (arith, nat_tests)

pub nat_le-from : (m n : ℕ) → nat_le m n ≡ true → m ≤ n
nat_le-from m n is = grind (arith, nat_tests)

-- a gate with something behind it is open where it is 1
pub is_open-more : (gate : ℕ) (rest : List ℕ) → 0 < length rest → is_open (gate ∷ rest) ≡ (gate == 1)
is_open-more gate [] some = absurd (omega arith)
is_open-more gate (next ∷ rest) some = refl

-- ---- any number that is at least the length serves

pub read_fuel : (m n place : ℕ) (bytes : List ℕ) → length bytes ≤ m → length bytes ≤ n → read_from m place bytes ≡ read_from n place bytes
read_fuel zero zero place bytes a b = refl
read_fuel zero (suc n) place [] a b = refl
read_fuel zero (suc n) place (byte ∷ bytes) a b = absurd (omega arith)
read_fuel (suc m) zero place [] a b = refl
read_fuel (suc m) zero place (byte ∷ bytes) a b = absurd (omega arith)
read_fuel (suc m) (suc n) place bytes a b =
    let len = length-drop (body_length bytes + 5) bytes in
    ap (λ r. cond (is_open bytes) (cond (is_whole bytes) (joined (record { gate = place; body = take (body_length bytes) (drop 5 bytes) }) r) (Err place)) (Ok (ended place)))
    (read_fuel m n (place + (body_length bytes + 5)) (drop (body_length bytes + 5) bytes) (omega (arith, a, len)) (omega (arith, b, len)))

-- ---- an open gate with a whole record

-- the pieces of a record behind its gate
record Pieces (size body rest bytes : List ℕ) : Type 0 where
  size_is : take 4 (drop 1 bytes) ≡ size
  body_is : take (length body) (drop 5 bytes) ≡ body
  rest_is : drop (length body + 5) bytes ≡ rest
  long : length bytes ≡ length body + 5 + length rest

pieces : (size body rest : List ℕ) → length size ≡ 4 → Pieces size body rest (1 ∷ (size ++ (body ++ rest)))
pieces size body rest four =
    let bytes = 1 ∷ (size ++ (body ++ rest)) in
    let behind5 : drop 5 bytes ≡ body ++ rest = sym (drop-drop 4 1 bytes) ∙ drop_at size (body ++ rest) 4 four in
    let same : 5 + length body ≡ length body + 5 = omega arith in
    record {
      size_is = take_at size (body ++ rest) 4 four;
      body_is = ap (take (length body)) behind5 ∙ take_at body rest (length body) refl;
      rest_is = ap (λ (n : ℕ). drop n bytes) (sym same) ∙ sym (drop-drop (length body) 5 bytes) ∙ ap (drop (length body)) behind5 ∙ drop_at body rest (length body) refl;
      long = omega (arith, four, length-append size (body ++ rest), length-append body rest);
    }

-- a record is read, and then what follows it
pub read_open : (size body rest : List ℕ) (m place : ℕ) → length size ≡ 4 → from_be_bytes w32 size ≡ length body → 0 < length rest → length (1 ∷ (size ++ (body ++ rest))) ≤ m
    → read_from m place (1 ∷ (size ++ (body ++ rest))) ≡ joined (record { gate = place; body = body }) (read_from (length rest) (place + (length body + 5)) rest)
read_open size body rest zero place four tells some le = absurd (omega arith)
read_open size body rest (suc m) place four tells some le =
    let bytes = 1 ∷ (size ++ (body ++ rest)) in
    let p = pieces size body rest four in
    let bl : body_length bytes ≡ length body = ap (from_be_bytes w32) p.size_is ∙ tells in
    let opens : is_open bytes ≡ true = is_open-more 1 (size ++ (body ++ rest)) (omega (arith, four, length-append size (body ++ rest))) in
    let whole : is_whole bytes ≡ true = nat_le-true (body_length bytes + 6) (length bytes) (omega (arith, bl, p.long, some)) in
    let body_is : take (body_length bytes) (drop 5 bytes) ≡ body = ap (λ (n : ℕ). take n (drop 5 bytes)) bl ∙ p.body_is in
    let rest_is : drop (body_length bytes + 5) bytes ≡ rest = ap (λ (n : ℕ). drop (n + 5) bytes) bl ∙ p.rest_is in
    ap (λ (b : Bool). cond b (cond (is_whole bytes) (joined (record { gate = place; body = take (body_length bytes) (drop 5 bytes) }) (read_from m (place + (body_length bytes + 5)) (drop (body_length bytes + 5) bytes))) (Err place)) (Ok (ended place))) opens
    ∙ ap (λ (b : Bool). cond b (joined (record { gate = place; body = take (body_length bytes) (drop 5 bytes) }) (read_from m (place + (body_length bytes + 5)) (drop (body_length bytes + 5) bytes))) (Err place)) whole
    ∙ ap (λ (b : List ℕ). joined (record { gate = place; body = b }) (read_from m (place + (body_length bytes + 5)) (drop (body_length bytes + 5) bytes))) body_is
    ∙ ap (λ (n : ℕ). joined (record { gate = place; body = body }) (read_from m (place + (n + 5)) (drop (body_length bytes + 5) bytes))) bl
    ∙ ap (λ (r : List ℕ). joined (record { gate = place; body = body }) (read_from m (place + (length body + 5)) r)) rest_is
    ∙ ap (joined (record { gate = place; body = body })) (read_fuel m (length rest) (place + (length body + 5)) rest (omega (arith, p.long, le)) (omega arith))

-- a gate that isn't open ends the records
pub read_shut : (m place : ℕ) (bytes : List ℕ) → is_open bytes ≡ false → read_from m place bytes ≡ Ok (ended place)
read_shut zero place bytes shut = refl
read_shut (suc m) place bytes shut =
    ap (λ (b : Bool). cond b (cond (is_whole bytes) (joined (record { gate = place; body = take (body_length bytes) (drop 5 bytes) }) (read_from m (place + (body_length bytes + 5)) (drop (body_length bytes + 5) bytes))) (Err place)) (Ok (ended place))) shut

-- ---- the front of a file, up to its closed gate

-- these records, and then others
abbrev pub onto : List Entry → Result Log ℕ → Result Log ℕ
onto [] log = log
onto (entry ∷ entries) log = joined entry (onto entries log)

pub onto-ended : (entries : List Entry) (end : ℕ) → onto entries (Ok (ended end)) ≡ Ok (record { entries = entries; end = end })
onto-ended [] end = refl
onto-ended (entry ∷ entries) end = ap (joined entry) (onto-ended entries end)

-- with anything behind it, the front reads as the same records and then what that spells
pub record IsFront (place : ℕ) (file : List ℕ) (log : Log) : Type 0 where
  pub later : place ≤ log.end
  pub within : log.end ≤ place + length file
  pub reads : (tail : List ℕ) (m : ℕ) → 0 < length tail → length (take (log.end - place) file ++ tail) ≤ m → read_from m place (take (log.end - place) file ++ tail) ≡ onto log.entries (read_from (length tail) log.end tail)
  pub shut : is_open (drop (log.end - place) file) ≡ false

pub take_more : (m n : ℕ) (xs : List ℕ) → take (m + n) xs ≡ take m xs ++ take n (drop m xs)
take_more zero n xs = ap (λ (k : ℕ). take k xs) (omega arith)
take_more (suc m) n [] = take_all (suc m + n) [] (omega arith) ∙ sym (take_all n [] (omega arith))
take_more (suc m) n (x ∷ xs) =
    let next : suc m + n ≡ suc (m + n) = omega arith in
    ap (λ (k : ℕ). take k (x ∷ xs)) next ∙ ap (λ (ys : List ℕ). x ∷ ys) (take_more m n xs)

none_read : (place : ℕ) (file : List ℕ) → is_open file ≡ false → IsFront place file (ended place)
none_read place file shut =
    let zero_long : place - place ≡ 0 = omega arith in
    record {
      later = omega arith;
      within = omega arith;
      reads = λ tail m some le.
          ap (λ (n : ℕ). read_from m place (take n file ++ tail)) zero_long
          ∙ read_fuel m (length tail) place tail (omega (arith, le, length-append (take (place - place) file) tail)) (omega arith);
      shut = ap (λ (n : ℕ). is_open (drop n file)) zero_long ∙ shut;
    }

-- the front of an open gate with a whole record, and of what follows
one_read : (place gate : ℕ) (xs : List ℕ) (log : Log) → (gate == 1) ≡ true → body_length (gate ∷ xs) + 6 ≤ length (gate ∷ xs)
    → IsFront (place + (body_length (gate ∷ xs) + 5)) (drop (body_length (gate ∷ xs) + 5) (gate ∷ xs)) log
    → IsFront place (gate ∷ xs) (record { entries = record { gate = place; body = take (body_length (gate ∷ xs)) (drop 5 (gate ∷ xs)) } ∷ log.entries; end = log.end })
one_read place gate xs log opens whole front =
    let file = gate ∷ xs in
    let bl = body_length file in
    let rest = drop (bl + 5) file in
    let ahead = log.end - (place + (bl + 5)) in
    let size = take 4 xs in
    let body = take bl (drop 4 xs) in
    let split : log.end - place ≡ (bl + 5) + ahead = omega (arith, front.later) in
    let sum : bl + 5 ≡ suc (4 + bl) = omega arith in
    let long : 5 + bl ≤ length xs = omega (arith, whole) in
    let four : length size ≡ 4 = omega (arith, length-take 4 xs, long) in
    let tells : from_be_bytes w32 size ≡ length body = omega (arith, length-take bl (drop 4 xs), length-drop 4 xs, long) in
    let opened : gate ≡ 1 = eqb-true gate 1 opens in
    let record_is : take (bl + 5) file ≡ 1 ∷ (size ++ body) = ap (λ (n : ℕ). take n file) sum ∙ (λ i. opened i ∷ take_more 4 bl xs i) in
    let front_is : take (log.end - place) file ≡ 1 ∷ (size ++ (body ++ take ahead rest)) =
    ap (λ (n : ℕ). take n file) split ∙ take_more (bl + 5) ahead file ∙ ap (λ (b : List ℕ). b ++ take ahead rest) record_is ∙ ap (λ (b : List ℕ). 1 ∷ b) (append_assoc size body (take ahead rest)) in
    let same : place + (length body + 5) ≡ place + (bl + 5) = omega (arith, tells) in
    record {
      later = omega (arith, front.later);
      within = omega (arith, front.within, length-drop (bl + 5) file, whole);
      reads = λ tail m some le.
          let whole_is : take (log.end - place) file ++ tail ≡ 1 ∷ (size ++ (body ++ (take ahead rest ++ tail))) =
          ap (λ (b : List ℕ). b ++ tail) front_is ∙ ap (λ (b : List ℕ). 1 ∷ b) (append_assoc size (body ++ take ahead rest) tail ∙ ap (λ (b : List ℕ). size ++ b) (append_assoc body (take ahead rest) tail)) in
          let more : 0 < length (take ahead rest ++ tail) = omega (arith, some, length-append (take ahead rest) tail) in
          ap (read_from m place) whole_is
          ∙ read_open size body (take ahead rest ++ tail) m place four tells more (subst (λ (b : List ℕ). length b ≤ m) whole_is le)
          ∙ ap (λ (n : ℕ). joined (record { gate = place; body = body }) (read_from (length (take ahead rest ++ tail)) n (take ahead rest ++ tail))) same
          ∙ ap (joined (record { gate = place; body = body })) (front.reads tail (length (take ahead rest ++ tail)) some (omega arith));
      shut = ap (λ (n : ℕ). is_open (drop n file)) split ∙ ap is_open (sym (drop-drop ahead (bl + 5) file)) ∙ front.shut;
    }

-- the records that are read are the front of the file
pub front : (m place : ℕ) (file : List ℕ) → length file ≤ m → IfOk (read_from m place file) (IsFront place file)
front zero place [] le = none_read place [] refl
front zero place (gate ∷ xs) le = absurd (omega arith)
front (suc m) place [] le = none_read place [] refl
front (suc m) place (gate ∷ xs) le =
    step (is_open (gate ∷ xs)) (is_whole (gate ∷ xs)) refl refl
    (read_from m (place + (body_length (gate ∷ xs) + 5)) (drop (body_length (gate ∷ xs) + 5) (gate ∷ xs)))
    (front m (place + (body_length (gate ∷ xs) + 5)) (drop (body_length (gate ∷ xs) + 5) (gate ∷ xs)) (omega (arith, le, length-drop (body_length (gate ∷ xs) + 5) (gate ∷ xs))))
  where
    step : (opens whole : Bool) → is_open (gate ∷ xs) ≡ opens → is_whole (gate ∷ xs) ≡ whole → (r : Result Log ℕ) → IfOk r (IsFront (place + (body_length (gate ∷ xs) + 5)) (drop (body_length (gate ∷ xs) + 5) (gate ∷ xs)))
        → IfOk (cond opens (cond whole (joined (record { gate = place; body = take (body_length (gate ∷ xs)) (drop 5 (gate ∷ xs)) }) r) (Err place)) (Ok (ended place))) (IsFront place (gate ∷ xs))
    step false whole o w r h = none_read place (gate ∷ xs) o
    step true false o w r h = tt
    step true true o w (Ok log) h =
        let long = nat_le-from (body_length (gate ∷ xs) + 6) (length (gate ∷ xs)) w in
        one_read place gate xs log (sym (is_open-more gate xs (omega (arith, long))) ∙ o) long h
    step true true o w (Err at) h = tt

-- ---- reading on

-- a record stands at the front
pub read_step : (place : ℕ) (bytes : List ℕ) → is_open bytes ≡ true → is_whole bytes ≡ true
    → read_from (length bytes) place bytes ≡ joined (record { gate = place; body = take (body_length bytes) (drop 5 bytes) }) (read_from (length (drop (body_length bytes + 5) bytes)) (place + (body_length bytes + 5)) (drop (body_length bytes + 5) bytes))
read_step place [] opens whole = absurd (cc opens)
read_step place (gate ∷ xs) opens whole =
    let bytes = gate ∷ xs in
    let rest = drop (body_length bytes + 5) bytes in
    let entry : Entry = record { gate = place; body = take (body_length bytes) (drop 5 bytes) } in
    ap (λ (b : Bool). cond b (cond (is_whole bytes) (joined entry (read_from (length xs) (place + (body_length bytes + 5)) rest)) (Err place)) (Ok (ended place))) opens
    ∙ ap (λ (b : Bool). cond b (joined entry (read_from (length xs) (place + (body_length bytes + 5)) rest)) (Err place)) whole
    ∙ ap (joined entry) (read_fuel (length xs) (length rest) (place + (body_length bytes + 5)) rest (omega (arith, length-drop (body_length bytes + 5) bytes)) (omega arith))

-- an open gate without a whole record
pub read_damaged : (place : ℕ) (bytes : List ℕ) → is_open bytes ≡ true → is_whole bytes ≡ false → read_from (length bytes) place bytes ≡ Err place
read_damaged place [] opens torn = absurd (cc opens)
read_damaged place (gate ∷ xs) opens torn =
    let bytes = gate ∷ xs in
    let rest = drop (body_length bytes + 5) bytes in
    let entry : Entry = record { gate = place; body = take (body_length bytes) (drop 5 bytes) } in
    ap (λ (b : Bool). cond b (cond (is_whole bytes) (joined entry (read_from (length xs) (place + (body_length bytes + 5)) rest)) (Err place)) (Ok (ended place))) opens
    ∙ ap (λ (b : Bool). cond b (joined entry (read_from (length xs) (place + (body_length bytes + 5)) rest)) (Err place)) torn

pub onto-push : (entries : List Entry) (entry : Entry) (log : Result Log ℕ) → onto entries (joined entry log) ≡ onto (entries ++ entry ∷ []) log
onto-push [] entry log = refl
onto-push (first ∷ entries) entry log = ap (joined first) (onto-push entries entry log)

pub onto-err : (entries : List Entry) (place : ℕ) → onto entries (Err place) ≡ Err place
onto-err [] place = refl
onto-err (first ∷ entries) place = ap (joined first) (onto-err entries place)

-- what was found behind an open gate tells whether a record stands there
pub body_found : (bytes : List ℕ) (len : ℕ) → Some len ≡ cond (is_whole bytes) (Some (body_length bytes)) None → (is_whole bytes ≡ true) × (len ≡ body_length bytes)
body_found bytes len is = by (is_whole bytes) is
  where
    by : (b : Bool) → Some len ≡ cond b (Some (body_length bytes)) None → (b ≡ true) × (len ≡ body_length bytes)
    by true e = (refl, cc)
    by false e = absurd (cc e)

pub body_missing : (bytes : List ℕ) (found : Option ℕ) → found ≡ None → found ≡ cond (is_whole bytes) (Some (body_length bytes)) None → is_whole bytes ≡ false
body_missing bytes found none is = by (is_whole bytes) (sym none ∙ is)
  where
    by : (b : Bool) → None ≡ cond b (Some (body_length bytes)) None → b ≡ false
    by true e = absurd (cc e)
    by false e = refl

-- ---- what a reader has read so far, and what follows

module _ (entries : List Entry) (place : ℕ) (rest : List ℕ) (whole : Result Log ℕ) (so_far : whole ≡ onto entries (read_from (length rest) place rest)) where
  pub parse_next : (next : List Entry) (len : ℕ) (body after : List ℕ) → is_open rest ≡ true → Some len ≡ cond (is_whole rest) (Some (body_length rest)) None → body ≡ take len (drop 5 rest) → next ≡ entries ++ record { gate = place; body = body } ∷ [] → after ≡ drop (len + 5) rest
      → whole ≡ onto next (read_from (length after) (place + (len + 5)) after)
  parse_next next len body after opens found body_is pushed after_is =
      let f = body_found rest len found in
      let read : read_from (length rest) place rest ≡ joined (record { gate = place; body = body }) (read_from (length after) (place + (len + 5)) after) =
      read_step place rest opens f.0
      ∙ (λ i. joined (record { gate = place; body = take (sym f.1 i) (drop 5 rest) }) (read_from (length (drop (sym f.1 i + 5) rest)) (place + (sym f.1 i + 5)) (drop (sym f.1 i + 5) rest)))
      ∙ (λ i. joined (record { gate = place; body = sym body_is i }) (read_from (length (sym after_is i)) (place + (len + 5)) (sym after_is i))) in
      so_far ∙ ap (onto entries) read ∙ onto-push entries (record { gate = place; body = body }) (read_from (length after) (place + (len + 5)) after)
      ∙ ap (λ (es : List Entry). onto es (read_from (length after) (place + (len + 5)) after)) (sym pushed)

  pub parse_damaged : (found : Option ℕ) → is_open rest ≡ true → found ≡ None → found ≡ cond (is_whole rest) (Some (body_length rest)) None → whole ≡ Err place
  parse_damaged found opens none is = so_far ∙ ap (onto entries) (read_damaged place rest opens (body_missing rest found none is)) ∙ onto-err entries place

  pub parse_end : is_open rest ≡ false → whole ≡ Ok (record { entries = entries; end = place })
  parse_end shut = so_far ∙ ap (onto entries) (read_shut (length rest) place rest shut) ∙ onto-ended entries place
