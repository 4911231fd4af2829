-- A field that is read is the field that was written, and what was written is read again.
use Rattle.std.proofs.Common.{◌≡◌, ℕ, zero, suc, ◌+◌, ◌-◌, ◌^◌, ◌<◌, ◌≤◌, Bool, true, false, cond, ltb, leb, List, [], ◌∷◌, ◌++◌, length, take, drop, Option, Some, None, Result, Ok, Err, refl, sym, ap, subst, ◌∙◌, append_assoc, arith}
use Rattle.std.specs.Prelude.{FitsSigned}
use Rattle.std.specs.Int.{Width, w16, w32, w64, byte_len, from_be_bytes, to_be_bytes, cast_signed, cast_unsigned}
use Rattle.std.proofs.lemmas.Bool.{ltb-false, le-ltb, leb-false, lt-leb}
use Rattle.std.proofs.lemmas.List.{take_at, drop_at, take-append-drop, length-append, length-take}
use Rattle.std.proofs.lemmas.Int.{of_z-to_z, to_z-of_z}
use Rattle.std.proofs.Math.Facts.{sfits_to_z, Fits-of_z}
use Rattle.apx_wire.specs.Spelling.{AreBytes}
use Rattle.apx_wire.proofs.Fields.{IsWide, wide16, wide32, wide64, AreBytes-drop, AreBytes-take}
use Rattle.apx_tuple.specs.State.{Pair}
use Rattle.apx_statebytes.specs.Rows.{IsRow, key_may_follow, row_may_follow}
use Rattle.apx_statebytes.specs.Spelling.{row_spelling}
use Rattle.apx_statebytes.specs.Reading.{◌>>=◌, number_at, key_at, row_behind, row_at}

-- the value of a step that was not refused
pub bind_ok : {A B : Type 0} (r : Result A ℕ) (f : A → Result B ℕ) (y : B) → (r >>= f) ≡ Ok y → (x : A) × (r ≡ Ok x) × (f x ≡ Ok y)
bind_ok (Ok x) f y e = (x, refl, e)
bind_ok (Err place) f y e = absurd cc

-- a test that was not failed
pub guard_ok : {A : Type 0} (b : Bool) (place : ℕ) (x y : A) → cond b (Err place) (Ok x) ≡ Ok y → (b ≡ false) × (x ≡ y)
guard_ok true place x y e = absurd cc
guard_ok false place x y e = (refl, cc)

-- a test that was passed
pub passed : {A : Type 0} (b : Bool) (place : ℕ) (r : Result A ℕ) (y : A) → cond b r (Err place) ≡ Ok y → (b ≡ true) × (r ≡ Ok y)
passed true place r y e = (refl, e)
passed false place r y e = absurd cc

abbrev done : {A : Type 0} → A → Result A ℕ
done x = Ok x

pub ok_is : {A : Type 0} (x y : A) → done x ≡ done y → x ≡ y
ok_is x y e = cc

-- what a reader took from the front
pub record Takes (bytes text rest : List ℕ) : Type 0 where
  pub parts : bytes ≡ text ++ rest
  pub rest_fits : AreBytes rest

pub Takes-then : (a x b y c : List ℕ) → Takes a x b → Takes b y c → Takes a (x ++ y) c
Takes-then a x b y c p q = record { parts = p.parts ∙ (ap (λ (t : List ℕ). x ++ t) q.parts ∙ sym (append_assoc x y c)); rest_fits = q.rest_fits }

-- ---- numbers

pub number_takes : (w : Width) (limit : ℕ) (wide : IsWide w limit) (total : ℕ) (bytes : List ℕ) (n : ℕ) (rest : List ℕ) → AreBytes bytes → number_at w total bytes ≡ Ok (n, rest) → Takes bytes (to_be_bytes w n) rest × (n < limit)
number_takes w limit wide total bytes n rest fits e =
    let g = guard_ok (ltb (length bytes) (byte_len w)) total (from_be_bytes w (take (byte_len w) bytes), drop (byte_len w) bytes) (n, rest) e in
    let long : byte_len w ≤ length bytes = ltb-false _ _ g.0 in
    let n-is : from_be_bytes w (take (byte_len w) bytes) ≡ n = ap (λ (p : ℕ × List ℕ). p.0) g.1 in
    let rest-is : drop (byte_len w) bytes ≡ rest = ap (λ (p : ℕ × List ℕ). p.1) g.1 in
    let front : to_be_bytes w n ≡ take (byte_len w) bytes = rw (← n-is) (wide.back (take (byte_len w) bytes) (omega (arith, length-take (byte_len w) bytes)) (AreBytes-take (byte_len w) bytes fits)) in
    (record { parts = rw (front, ← rest-is) (sym (take-append-drop (byte_len w) bytes)); rest_fits = rw (← rest-is) (AreBytes-drop (byte_len w) bytes fits) }, rw (← n-is) (wide.below (take (byte_len w) bytes) (AreBytes-take (byte_len w) bytes fits)))

pub number_again : (w : Width) (limit : ℕ) (wide : IsWide w limit) (total n : ℕ) (rest : List ℕ) → n < limit → number_at w total (to_be_bytes w n ++ rest) ≡ Ok (n, rest)
number_again w limit wide total n rest lt =
    let len = wide.len n in
    let long : ltb (length (to_be_bytes w n ++ rest)) (byte_len w) ≡ false = le-ltb _ _ (omega (arith, length-append (to_be_bytes w n) rest)) in
    rw (long, take_at (to_be_bytes w n) rest (byte_len w) len, drop_at (to_be_bytes w n) rest (byte_len w) len, wide.again n lt) refl

-- ---- keys

guards : {A : Type 0} (a b c : Bool) (p q r : ℕ) (x y : A) → cond a (Err p) (cond b (Err q) (cond c (Err r) (Ok x))) ≡ Ok y → (a ≡ false) × (b ≡ false) × (c ≡ false) × (x ≡ y)
guards true b c p q r x y e = absurd cc
guards false true c p q r x y e = absurd cc
guards false false true p q r x y e = absurd cc
guards false false false p q r x y e = (refl, refl, refl, cc)

-- what is known of a key that was read
pub record TakesKey (room : ℕ) (bytes key rest : List ℕ) : Type 0 where
  pub takes : Takes bytes (to_be_bytes w16 (length key) ++ key) rest
  pub fits : AreBytes key
  pub short : length key ≤ 1024
  pub there : length key + 10 < room

pub key_takes : (total room : ℕ) (bytes key rest : List ℕ) → AreBytes bytes → key_at total room bytes ≡ Ok (key, rest) → TakesKey room bytes key rest
unfolding key_at
key_takes total room bytes key rest fits e =
    let b = bind_ok (number_at w16 total bytes) (λ len. cond (ltb 1024 len.0) (Err (total - length bytes)) (cond (leb room (len.0 + 10)) (Err (total - length bytes)) (cond (ltb (length len.1) len.0) (Err total) (Ok (take len.0 len.1, drop len.0 len.1))))) (key, rest) e in
    let n = b.0 in
    let t = number_takes w16 (2 ^ 16) wide16 total bytes n.0 n.1 fits b.1 in
    let g = guards (ltb 1024 n.0) (leb room (n.0 + 10)) (ltb (length n.1) n.0) (total - length bytes) (total - length bytes) total (take n.0 n.1, drop n.0 n.1) (key, rest) b.2 in
    let few : n.0 ≤ 1024 = ltb-false _ _ g.0 in
    let has_room : n.0 + 10 < room = leb-false room (n.0 + 10) g.1 in
    let long : n.0 ≤ length n.1 = ltb-false _ _ g.2 in
    let len : length (take n.0 n.1) ≡ n.0 = omega (arith, length-take n.0 n.1) in
    let second : Takes n.1 (take n.0 n.1) (drop n.0 n.1) = record { parts = sym (take-append-drop n.0 n.1); rest_fits = AreBytes-drop n.0 n.1 t.0.rest_fits } in
    let both = Takes-then bytes (to_be_bytes w16 n.0) n.1 (take n.0 n.1) (drop n.0 n.1) t.0 second in
    let whole : TakesKey room bytes (take n.0 n.1) (drop n.0 n.1) = record {
      takes = subst (λ (k : ℕ). Takes bytes (to_be_bytes w16 k ++ take n.0 n.1) (drop n.0 n.1)) (sym len) both;
      fits = AreBytes-take n.0 n.1 t.0.rest_fits;
      short = omega (arith, len, few);
      there = omega (arith, len, has_room);
    } in
    subst (λ (p : List ℕ × List ℕ). TakesKey room bytes p.0 p.1) g.3 whole

pub key_again : (total room : ℕ) (key rest : List ℕ) → length key ≤ 1024 → length key + 10 < room → key_at total room (to_be_bytes w16 (length key) ++ (key ++ rest)) ≡ Ok (key, rest)
unfolding key_at
key_again total room key rest short there =
    let few : ltb 1024 (length key) ≡ false = le-ltb _ _ short in
    let has_room : leb room (length key + 10) ≡ false = lt-leb room (length key + 10) there in
    let long : ltb (length (key ++ rest)) (length key) ≡ false = le-ltb _ _ (omega (arith, length-append key rest)) in
    rw (number_again w16 (2 ^ 16) wide16 total (length key) (key ++ rest) (omega (arith, short)), few, has_room, long, take_at key rest (length key) refl, drop_at key rest (length key) refl) refl

-- ---- rows

pub record TakesRow (each_once : Bool) (room : ℕ) (before : Option Pair) (bytes : List ℕ) (row : Pair) (rest : List ℕ) : Type 0 where
  pub takes : Takes bytes (row_spelling row) rest
  pub fits : IsRow row
  pub there : length row.0 + 10 < room
  pub key_follows : key_may_follow each_once before row.0 ≡ true
  pub row_follows : row_may_follow each_once before row ≡ true

pub row_takes : (each_once : Bool) (total room : ℕ) (before : Option Pair) (bytes : List ℕ) (x : Pair × List ℕ) → AreBytes bytes → row_at each_once total room before bytes ≡ Ok x → TakesRow each_once room before bytes x.0 x.1
unfolding row_at row_behind
row_takes each_once total room before bytes x fits e =
    let place = total - length bytes in
    let a = bind_ok (key_at total room bytes) (λ key. cond (key_may_follow each_once before key.0) (row_behind each_once total place before key.0 key.1) (Err place)) x e in
    let key = a.0.0 in
    let k = key_takes total room bytes key a.0.1 fits a.1 in
    let p = passed (key_may_follow each_once before key) place (row_behind each_once total place before key a.0.1) x a.2 in
    let b = bind_ok (number_at w64 total a.0.1) (λ value. cond (row_may_follow each_once before (key, cast_signed w64 value.0)) (Ok ((key, cast_signed w64 value.0), value.1)) (Err place)) x p.1 in
    let n = b.0 in
    let t = number_takes w64 (2 ^ 64) wide64 total a.0.1 n.0 n.1 k.takes.rest_fits b.1 in
    let q = passed (row_may_follow each_once before (key, cast_signed w64 n.0)) place (Ok ((key, cast_signed w64 n.0), n.1)) x b.2 in
    let value : cast_unsigned w64 (cast_signed w64 n.0) ≡ n.0 = of_z-to_z w64 n.0 t.1 in
    let both = Takes-then bytes (to_be_bytes w16 (length key) ++ key) a.0.1 (to_be_bytes w64 n.0) n.1 k.takes t.0 in
    let spelled : (to_be_bytes w16 (length key) ++ key) ++ to_be_bytes w64 n.0 ≡ row_spelling (key, cast_signed w64 n.0) = append_assoc (to_be_bytes w16 (length key)) key (to_be_bytes w64 n.0) ∙ ap (λ (v : ℕ). to_be_bytes w16 (length key) ++ (key ++ to_be_bytes w64 v)) (sym value) in
    let whole : TakesRow each_once room before bytes (key, cast_signed w64 n.0) n.1 = record {
      takes = subst (λ (text : List ℕ). Takes bytes text n.1) spelled both;
      fits = record { bytes = k.fits; short = k.short; value = sfits_to_z {w = w64} {n = n.0} (record { fits = t.1 }) };
      there = k.there;
      key_follows = p.0;
      row_follows = q.0;
    } in
    subst (λ (y : Pair × List ℕ). TakesRow each_once room before bytes y.0 y.1) (ok_is ((key, cast_signed w64 n.0), n.1) x q.1) whole

pub row_again : (each_once : Bool) (total room : ℕ) (before : Option Pair) (row : Pair) (rest : List ℕ) → IsRow row → length row.0 + 10 < room → key_may_follow each_once before row.0 ≡ true → row_may_follow each_once before row ≡ true → row_at each_once total room before (row_spelling row ++ rest) ≡ Ok (row, rest)
unfolding row_at row_behind
row_again each_once total room before row rest fits there key_follows row_follows =
    let value = to_be_bytes w64 (cast_unsigned w64 row.1) in
    let regrouped : row_spelling row ++ rest ≡ to_be_bytes w16 (length row.0) ++ (row.0 ++ (value ++ rest)) = append_assoc (to_be_bytes w16 (length row.0)) (row.0 ++ value) rest ∙ ap (λ (x : List ℕ). to_be_bytes w16 (length row.0) ++ x) (append_assoc row.0 value rest) in
    let below : cast_unsigned w64 row.1 < 2 ^ 64 = (Fits-of_z {w = w64} {z = row.1} fits.value).fits in
    let signed : cast_signed w64 (cast_unsigned w64 row.1) ≡ row.1 = to_z-of_z w64 row.1 fits.value in
    ap (row_at each_once total room before) regrouped ∙ rw (key_again total room row.0 (value ++ rest) fits.short there, key_follows, number_again w64 (2 ^ 64) wide64 total (cast_unsigned w64 row.1) rest below, signed, row_follows) refl
