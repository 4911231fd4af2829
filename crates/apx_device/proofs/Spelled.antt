-- Rows that were spelled as bytes are read back.
use Rattle.std.proofs.Common.{◌≡◌, ℕ, zero, suc, ◌+◌, ◌-◌, ◌^◌, ◌<◌, ◌≤◌, Bool, true, false, cond, List, [], ◌∷◌, ◌++◌, length, take, drop, get_or, Option, Some, None, nat_le, refl, sym, ap, ◌∙◌, subst, append_assoc, add-one, arith}
use Rattle.std.specs.Prelude.{FitsSigned, ◌&&◌}
use Rattle.std.specs.Int.{w16, w64, to_be_bytes, from_be_bytes, cast_unsigned, cast_signed}
use Rattle.std.proofs.lemmas.Bool.Decides.{nat_tests}
use Rattle.std.proofs.lemmas.Nat.{from_be_bytes-to_be_bytes_2, from_be_bytes-to_be_bytes_8}
use Rattle.std.proofs.lemmas.Int.{to_z-of_z}
use Rattle.std.proofs.lemmas.List.{append-nil, take_at, drop_at, drop-drop, length-append}
use Rattle.std.proofs.Math.Facts.{Fits-of_z}
use Rattle.apx_tuple.specs.Size.{size_by}
use Rattle.apx_tuple.specs.Tuple.{tuple_key}
use Rattle.apx_tuple.specs.declared.tuple.Tuple.{Tuple}
use Rattle.apx_device.specs.Rows.{IsRow, row_bytes, rows_bytes, key_length, is_row, row_in, with_row, rows_in}

-- each is a row
abbrev pub AreRows : List Tuple → Type 0
AreRows [] = Unit {0}
AreRows (row ∷ rows) = IsRow row × AreRows rows

next_rows : (rows : List Tuple) (i : ℕ) (d : Tuple) → i < length rows → AreRows (take i rows) → IsRow (get_or rows i d) → AreRows (take (suc i) rows)
next_rows [] i d within are is = absurd (omega arith)
next_rows (row ∷ rows) zero d within are is = (is, tt)
next_rows (row ∷ rows) (suc i) d within are is = (are.0, next_rows rows i d (omega arith) are.1 is)

pub AreRows-next : (rows : List Tuple) (i : ℕ) (row : Tuple) → i < length rows → row ≡ get_or rows i row → AreRows (take i rows) → IsRow row → AreRows (take (i + 1) rows)
AreRows-next rows i row within here are is = rw add-one (next_rows rows i row within are (subst IsRow here is))

next_bytes : (rows : List Tuple) (i : ℕ) (d : Tuple) → i < length rows → rows_bytes (take (suc i) rows) ≡ rows_bytes (take i rows) ++ row_bytes (get_or rows i d)
next_bytes [] i d within = absurd (omega arith)
next_bytes (row ∷ rows) zero d within = append-nil (row_bytes row)
next_bytes (row ∷ rows) (suc i) d within = ap (λ (b : List ℕ). row_bytes row ++ b) (next_bytes rows i d (omega arith)) ∙ sym (append_assoc (row_bytes row) (rows_bytes (take i rows)) (row_bytes (get_or rows i d)))

-- the bytes of one row more
pub rows_bytes-next : (rows : List Tuple) (i : ℕ) (row : Tuple) (old mid new : List ℕ) → i < length rows → row ≡ get_or rows i row → mid ≡ old ++ rows_bytes (take i rows) → new ≡ mid ++ row_bytes row → new ≡ old ++ rows_bytes (take (i + 1) rows)
rows_bytes-next rows i row old mid new within here so_far added =
    let more : rows_bytes (take (i + 1) rows) ≡ rows_bytes (take i rows) ++ row_bytes row = rw add-one (next_bytes rows i row within ∙ ap (λ (r : Tuple). rows_bytes (take i rows) ++ row_bytes r) (sym here)) in
    added ∙ ap (λ (b : List ℕ). b ++ row_bytes row) so_far ∙ append_assoc old (rows_bytes (take i rows)) (row_bytes row) ∙ ap (λ (b : List ℕ). old ++ b) (sym more)

-- there are fewer rows than bytes
pub rows-few : (rows : List Tuple) → length rows ≤ size_by tuple_key rows
rows-few [] = omega arith
rows-few (row ∷ rows) = omega (arith, rows-few rows)

-- what three pieces behind one another give at their places
record Pieces (bytes a b c rest : List ℕ) (k : ℕ) : Type 0 where
  first : take 2 bytes ≡ a
  second : take k (drop 2 bytes) ≡ b
  third : take 8 (drop (k + 2) bytes) ≡ c
  behind : drop (k + 10) bytes ≡ rest
  long : k + 10 ≤ length bytes

pieces : (a b c rest : List ℕ) (k : ℕ) → length a ≡ 2 → length b ≡ k → length c ≡ 8 → Pieces ((a ++ (b ++ c)) ++ rest) a b c rest k
pieces a b c rest k a-len b-len c-len =
    let regrouped : (a ++ (b ++ c)) ++ rest ≡ a ++ (b ++ (c ++ rest)) = append_assoc a (b ++ c) rest ∙ ap (λ (x : List ℕ). a ++ x) (append_assoc b c rest) in
    let behind2 : drop 2 (a ++ (b ++ (c ++ rest))) ≡ b ++ (c ++ rest) = drop_at a (b ++ (c ++ rest)) 2 a-len in
    let same2 : 2 + k ≡ k + 2 = omega arith in
    let same8 : k + 2 + 8 ≡ k + 10 = omega arith in
    let behind_key : drop (k + 2) (a ++ (b ++ (c ++ rest))) ≡ c ++ rest = ap (λ (n : ℕ). drop n (a ++ (b ++ (c ++ rest)))) (sym same2) ∙ sym (drop-drop k 2 (a ++ (b ++ (c ++ rest)))) ∙ ap (drop k) behind2 ∙ drop_at b (c ++ rest) k b-len in
    let behind : drop (k + 10) (a ++ (b ++ (c ++ rest))) ≡ rest = ap (λ (n : ℕ). drop n (a ++ (b ++ (c ++ rest)))) (sym same8) ∙ sym (drop-drop 8 (k + 2) (a ++ (b ++ (c ++ rest)))) ∙ ap (drop 8) behind_key ∙ drop_at c rest 8 c-len in
    let all : Pieces (a ++ (b ++ (c ++ rest))) a b c rest k = record {
      first = take_at a (b ++ (c ++ rest)) 2 a-len;
      second = ap (take k) behind2 ∙ take_at b (c ++ rest) k b-len;
      third = ap (take 8) behind_key ∙ take_at c rest 8 c-len;
      behind = behind;
      long = omega (arith, a-len, b-len, c-len, length-append a (b ++ (c ++ rest)), length-append b (c ++ rest), length-append c rest);
    } in
    subst (λ (x : List ℕ). Pieces x a b c rest k) (sym regrouped) all

both : (a b : Bool) → a ≡ true → b ≡ true → (a && b) ≡ true
both true b p q = q
both false b p q = absurd (cc p)

le_true : (m n : ℕ) → m ≤ n → nat_le m n ≡ true
le_true m n le = grind (arith, nat_tests)

-- a row that isn't too long stands whole at the front
row_there : (bytes : List ℕ) → key_length bytes ≤ 1024 → key_length bytes + 10 ≤ length bytes → is_row bytes ≡ true
row_there bytes short long =
    both (nat_le 10 (length bytes)) (nat_le (key_length bytes) 1024 && nat_le (key_length bytes + 10) (length bytes))
    (le_true 10 (length bytes) (omega (arith, long)))
    (both (nat_le (key_length bytes) 1024) (nat_le (key_length bytes + 10) (length bytes)) (le_true (key_length bytes) 1024 short) (le_true (key_length bytes + 10) (length bytes) long))

-- the row at the front, and what follows it
record Front (bytes : List ℕ) (row : Tuple) (rest : List ℕ) : Type 0 where
  whole : is_row bytes ≡ true
  row_is : row_in bytes ≡ row
  behind : drop (key_length bytes + 10) bytes ≡ rest

front : (row : Tuple) (rest : List ℕ) → IsRow row → Front (row_bytes row ++ rest) row rest
front row rest is =
    let bytes = row_bytes row ++ rest in
    let p = pieces (to_be_bytes w16 (length row.key)) row.key (to_be_bytes w64 (cast_unsigned w64 row.value)) rest (length row.key) refl refl refl in
    let below : cast_unsigned w64 row.value < 2 ^ 64 = (Fits-of_z {w = w64} {z = row.value} is.value).fits in
    let size : key_length bytes ≡ length row.key = ap (from_be_bytes w16) p.first ∙ from_be_bytes-to_be_bytes_2 (length row.key) (omega (arith, is.short)) in
    let key : take (key_length bytes) (drop 2 bytes) ≡ row.key = ap (λ (k : ℕ). take k (drop 2 bytes)) size ∙ p.second in
    let bits : from_be_bytes w64 (take 8 (drop (key_length bytes + 2) bytes)) ≡ cast_unsigned w64 row.value = ap (λ (k : ℕ). from_be_bytes w64 (take 8 (drop (k + 2) bytes))) size ∙ ap (from_be_bytes w64) p.third ∙ from_be_bytes-to_be_bytes_8 (cast_unsigned w64 row.value) below in
    let value : cast_signed w64 (from_be_bytes w64 (take 8 (drop (key_length bytes + 2) bytes))) ≡ row.value = ap (cast_signed w64) bits ∙ to_z-of_z w64 row.value is.value in
    record {
      whole = row_there bytes (omega (arith, size, is.short)) (omega (arith, size, p.long));
      row_is = λ i. record { key = key i; value = value i };
      behind = ap (λ (k : ℕ). drop (k + 10) bytes) size ∙ p.behind;
    }

one_more : (count : ℕ) (bytes : List ℕ) (row : Tuple) (rest : List ℕ) (rows : List Tuple) → Front bytes row rest → rows_in count rest ≡ Some rows → rows_in (suc count) bytes ≡ Some (row ∷ rows)
one_more count bytes row rest rows f read =
    ap (λ (b : Bool). cond b (with_row (row_in bytes) (rows_in count (drop (key_length bytes + 10) bytes))) None) f.whole
    ∙ ap (λ (r : Tuple). with_row r (rows_in count (drop (key_length bytes + 10) bytes))) f.row_is
    ∙ ap (λ (b : List ℕ). with_row row (rows_in count b)) f.behind
    ∙ ap (with_row row) read

-- rows that were spelled are read back
pub rows_back : (rows : List Tuple) → AreRows rows → rows_in (length rows) (rows_bytes rows) ≡ Some rows
rows_back [] are = refl
rows_back (row ∷ rows) are = one_more (length rows) (row_bytes row ++ rows_bytes rows) row (rows_bytes rows) rows (front row (rows_bytes rows) are.0) (rows_back rows are.1)

-- rows that were read, and those that follow
abbrev pub ahead : List Tuple → Option (List Tuple) → Option (List Tuple)
ahead rows None = None
ahead rows (Some more) = Some (rows ++ more)

pub ahead-row : (rows : List Tuple) (row : Tuple) (more : Option (List Tuple)) → ahead rows (with_row row more) ≡ ahead (rows ++ row ∷ []) more
ahead-row rows row None = refl
ahead-row rows row (Some more) = ap Some (sym (append_assoc rows (row ∷ []) more))

-- a row with how many bytes it is, where one was found
abbrev pub Found : Type 0
Found = Option (Tuple × ℕ)

abbrev pub one : Tuple → ℕ → Found
one row len = Some (row, len)

abbrev pub found_in : List ℕ → Found
found_in bytes = cond (is_row bytes) (one (row_in bytes) (key_length bytes + 10)) None

-- the row that a reader found at the front, piece by piece
pub front_read : (bytes : List ℕ) (len value : ℕ) (key : List ℕ) → len ≡ key_length bytes → len ≤ 1024 → len + 10 ≤ length bytes → key ≡ take len (drop 2 bytes) → value ≡ from_be_bytes w64 (take 8 (drop (len + 2) bytes))
    → one (record { key = key; value = cast_signed w64 value }) (len + 10) ≡ found_in bytes
front_read bytes len value key len_is short long key_is value_is =
    let there : is_row bytes ≡ true = row_there bytes (omega (arith, len_is, short)) (omega (arith, len_is, long)) in
    let key_same : key ≡ take (key_length bytes) (drop 2 bytes) = key_is ∙ ap (λ (n : ℕ). take n (drop 2 bytes)) len_is in
    let value_same : cast_signed w64 value ≡ cast_signed w64 (from_be_bytes w64 (take 8 (drop (key_length bytes + 2) bytes))) = ap (cast_signed w64) (value_is ∙ ap (λ (n : ℕ). from_be_bytes w64 (take 8 (drop (n + 2) bytes))) len_is) in
    (λ i. one (record { key = key_same i; value = value_same i }) (len_is i + 10))
    ∙ sym (ap (λ (b : Bool). cond b (one (row_in bytes) (key_length bytes + 10)) None) there)

-- ---- reading on

-- no row stands at the front
pub ahead-none : (rows : List Tuple) (left : ℕ) (rest : List ℕ) (whole : Option (List Tuple)) → whole ≡ ahead rows (rows_in (suc left) rest) → is_row rest ≡ false → whole ≡ None
ahead-none rows left rest whole so_far none = so_far ∙ ap (λ (b : Bool). ahead rows (cond b (with_row (row_in rest) (rows_in left (drop (key_length rest + 10) rest))) None)) none

-- a row stands there
pub ahead-one : (rows : List Tuple) (left : ℕ) (rest : List ℕ) (whole : Option (List Tuple)) → whole ≡ ahead rows (rows_in (suc left) rest) → is_row rest ≡ true → whole ≡ ahead (rows ++ row_in rest ∷ []) (rows_in left (drop (key_length rest + 10) rest))
ahead-one rows left rest whole so_far there =
    so_far ∙ ap (λ (b : Bool). ahead rows (cond b (with_row (row_in rest) (rows_in left (drop (key_length rest + 10) rest))) None)) there
    ∙ ahead-row rows (row_in rest) (rows_in left (drop (key_length rest + 10) rest))

-- what was found there tells whether one does
pub found_none : (bytes : List ℕ) (found : Found) → found ≡ None → found ≡ found_in bytes → is_row bytes ≡ false
found_none bytes found none is = by (is_row bytes) (sym none ∙ is)
  where
    by : (b : Bool) → None ≡ cond b (one (row_in bytes) (key_length bytes + 10)) None → b ≡ false
    by true e = absurd (cc e)
    by false e = refl

pub found_some : (bytes : List ℕ) (row : Tuple) (len : ℕ) → one row len ≡ found_in bytes → (is_row bytes ≡ true) × (row ≡ row_in bytes) × (len ≡ key_length bytes + 10)
found_some bytes row len is = by (is_row bytes) is
  where
    by : (b : Bool) → one row len ≡ cond b (one (row_in bytes) (key_length bytes + 10)) None → (b ≡ true) × (row ≡ row_in bytes) × (len ≡ key_length bytes + 10)
    by true e =
        let p : Path (Tuple × ℕ) (row, len) (row_in bytes, key_length bytes + 10) = cc in
        (refl, ap (λ (x : Tuple × ℕ). x.0) p, ap (λ (x : Tuple × ℕ). x.1) p)
    by false e = absurd (cc e)

-- at the end: no rows are left, and bytes or none
pub ahead-end : (rows : List Tuple) (left : ℕ) (rest : List ℕ) (whole : Option (List Tuple)) → whole ≡ ahead rows (rows_in left rest) → left ≡ 0 → length rest ≡ 0 → whole ≡ Some rows
ahead-end rows left [] whole so_far done none = so_far ∙ ap (λ (n : ℕ). ahead rows (rows_in n [])) done ∙ ap Some (append-nil rows)
ahead-end rows left (byte ∷ rest) whole so_far done none = absurd (omega arith)

pub ahead-over : (rows : List Tuple) (left : ℕ) (rest : List ℕ) (whole : Option (List Tuple)) → whole ≡ ahead rows (rows_in left rest) → left ≡ 0 → 0 < length rest → whole ≡ None
ahead-over rows left [] whole so_far done some = absurd (omega arith)
ahead-over rows left (byte ∷ rest) whole so_far done some = so_far ∙ ap (λ (n : ℕ). ahead rows (rows_in n (byte ∷ rest))) done

-- one row more was read
pub ahead-next : (rows next : List Tuple) (row : Tuple) (len count done : ℕ) (rest after : List ℕ) (whole : Option (List Tuple)) → done < count → whole ≡ ahead rows (rows_in (count - done) rest) → one row len ≡ found_in rest → next ≡ rows ++ row ∷ [] → after ≡ drop len rest
    → whole ≡ ahead next (rows_in (count - (done + 1)) after)
ahead-next rows next row len count done rest after whole lt so_far found pushed split =
    let one_more : count - done ≡ suc (count - (done + 1)) = omega arith in
    let f = found_some rest row len found in
    ahead-one rows (count - (done + 1)) rest whole (so_far ∙ ap (λ (n : ℕ). ahead rows (rows_in n rest)) one_more) f.0
    ∙ ap (λ (r : Tuple). ahead (rows ++ r ∷ []) (rows_in (count - (done + 1)) (drop (key_length rest + 10) rest))) (sym f.1)
    ∙ ap (λ (n : ℕ). ahead (rows ++ row ∷ []) (rows_in (count - (done + 1)) (drop n rest))) (sym f.2)
    ∙ (λ i. ahead (sym pushed i) (rows_in (count - (done + 1)) (sym split i)))

-- none was there to be read
pub ahead-stop : (rows : List Tuple) (count done : ℕ) (rest : List ℕ) (found : Found) (whole : Option (List Tuple)) → done < count → whole ≡ ahead rows (rows_in (count - done) rest) → found ≡ None → found ≡ found_in rest → whole ≡ None
ahead-stop rows count done rest found whole lt so_far none is =
    let one_more : count - done ≡ suc (count - (done + 1)) = omega arith in
    ahead-none rows (count - (done + 1)) rest whole (so_far ∙ ap (λ (n : ℕ). ahead rows (rows_in n rest)) one_more) (found_none rest found none is)
