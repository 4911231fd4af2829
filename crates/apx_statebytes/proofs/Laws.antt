-- What is read is spelled so, and what is spelled so is read.
use Rattle.std.proofs.Common.{◌≡◌, ℕ, zero, suc, ◌+◌, ◌-◌, ◌*◌, ◌/◌, ◌%◌, ◌^◌, ◌<◌, ◌≤◌, Bool, true, false, cond, eqb, List, [], ◌∷◌, ◌++◌, length, map, Option, Some, None, Result, Ok, Err, refl, sym, ap, subst, ◌∙◌, append_assoc, arith, inl, inr}
use Rattle.std.specs.Prelude.{IfOk}
use Rattle.std.specs.List.{flat_map}
use Rattle.std.specs.Int.{w32, to_be_bytes}
use Rattle.std.proofs.lemmas.Bool.{eqb-true, ne_eqb}
use Rattle.std.proofs.lemmas.List.{append-nil, nil_from_length}
use Rattle.std.proofs.lemmas.List.Concat.{flat_map-cons}
use Rattle.apx_wire.specs.Spelling.{AreBytes}
use Rattle.apx_wire.proofs.Fields.{wide32}
use Rattle.apx_tuple.specs.declared.progress.Progress.{Progress}
use Rattle.apx_tuple.specs.Size.{size_by}
use Rattle.apx_tuple.specs.State.{Pair, pair_key, IsState}
use Rattle.apx_tuple.specs.Tuple.{IsBag, tuple_key}
use Rattle.apx_statebytes.specs.declared.fault.StateFault.{StateFault}
use Rattle.apx_statebytes.specs.Rows.{tuple_of, row_of, IsRow, AreRows, AreInRow, key_may_follow, row_may_follow}
use Rattle.apx_statebytes.specs.Spelling.{row_spelling, rows_spelling, left_rows, right_rows, first_spelling, second_spelling, IsProgress, Spells}
use Rattle.apx_statebytes.specs.Reading.{◌>>=◌, Gives, number_at, row_at, rows_at, rows_of, first_form, second_form, marked_form, progress_in}
use Rattle.apx_statebytes.proofs.Loop.{RowsRead}
use Rattle.apx_statebytes.proofs.Numbers.{bind_ok, passed, ok_is, Takes, Takes-then, number_takes, number_again, row_takes, row_again}
use Rattle.apx_statebytes.proofs.Order.{strict_of, in_row_of_strict, ascending_of, in_row_of_ascending, tuples_again, rows_again, size_of_tuples, size_of_rows, few_rows}

abbrev Read : Type 0
Read = List Pair × ℕ × List ℕ

-- what is known of rows that were read
pub record TakesRows (each_once : Bool) (room : ℕ) (before : Option Pair) (bytes text : List ℕ) (x : List Pair × ℕ × List ℕ) : Type 0 where
  pub takes : Takes bytes text x.2
  pub fit : AreRows x.0
  pub in_row : AreInRow each_once before x.0
  pub size : size_by pair_key x.0 + x.1 ≡ room
  pub room_left : 0 < room → 0 < x.1

pub rows_take : (each_once : Bool) (total count room : ℕ) (before : Option Pair) (bytes : List ℕ) (x : List Pair × ℕ × List ℕ) → AreBytes bytes → rows_at each_once total count room before bytes ≡ Ok x → TakesRows each_once room before bytes (flat_map row_spelling x.0) x × (length x.0 ≡ count)
unfolding rows_at
rows_take each_once total zero room before bytes x fits e =
    let none : Read = ([], room, bytes) in
    subst (λ (y : List Pair × ℕ × List ℕ). TakesRows each_once room before bytes (flat_map row_spelling y.0) y × (length y.0 ≡ 0)) (ok_is none x e) (record { takes = record { parts = refl; rest_fits = fits }; fit = tt; in_row = tt; size = omega arith; room_left = λ some. some }, refl)
rows_take each_once total (suc count) room before bytes x fits e =
    let a = bind_ok (row_at each_once total room before bytes) (λ row. rows_at each_once total count (room - (length row.0.0 + 10)) (Some row.0) row.1 >>= λ others. Ok (row.0 ∷ others.0, others.1, others.2)) x e in
    let row = a.0.0 in
    let less = room - (length row.0 + 10) in
    let b = bind_ok (rows_at each_once total count less (Some row) a.0.1) (λ others. Ok (row ∷ others.0, others.1, others.2)) x a.2 in
    let first = row_takes each_once total room before bytes a.0 fits a.1 in
    let others = rows_take each_once total count less (Some row) a.0.1 b.0 first.takes.rest_fits b.1 in
    let both = Takes-then bytes (row_spelling row) a.0.1 (flat_map row_spelling b.0.0) b.0.2 first.takes others.0.takes in
    let made : Read = (row ∷ b.0.0, b.0.1, b.0.2) in
    subst (λ (y : List Pair × ℕ × List ℕ). TakesRows each_once room before bytes (flat_map row_spelling y.0) y × (length y.0 ≡ suc count)) (ok_is made x b.2) (
      record {
        takes = rw flat_map-cons both;
        fit = (first.fits, others.0.fit);
        in_row = (first.key_follows, first.row_follows, others.0.in_row);
        size = omega (arith, others.0.size, first.there);
        room_left = λ some. others.0.room_left (omega (arith, first.there));
      },
      ap suc others.1,
    )

pub rows_of_take : (each_once : Bool) (total room : ℕ) (bytes : List ℕ) (x : List Pair × ℕ × List ℕ) → AreBytes bytes → rows_of each_once total room bytes ≡ Ok x → TakesRows each_once room None bytes (rows_spelling x.0) x
unfolding rows_of
rows_of_take each_once total room bytes x fits e =
    let a = bind_ok (number_at w32 total bytes) (λ count. rows_at each_once total count.0 room None count.1) x e in
    let count = number_takes w32 (2 ^ 32) wide32 total bytes a.0.0 a.0.1 fits a.1 in
    let rows = rows_take each_once total a.0.0 room None a.0.1 x count.0.rest_fits a.2 in
    let both = Takes-then bytes (to_be_bytes w32 a.0.0) a.0.1 (flat_map row_spelling x.0) x.2 count.0 rows.0.takes in
    record {
      takes = subst (λ (k : ℕ). Takes bytes (to_be_bytes w32 k ++ flat_map row_spelling x.0) x.2) (sym rows.1) both;
      fit = rows.0.fit;
      in_row = rows.0.in_row;
      size = rows.0.size;
      room_left = rows.0.room_left;
    }

pub rows_at_again : (each_once : Bool) (total room : ℕ) (before : Option Pair) (rows : List Pair) (rest : List ℕ) → AreRows rows → AreInRow each_once before rows → size_by pair_key rows < room → rows_at each_once total (length rows) room before (flat_map row_spelling rows ++ rest) ≡ Ok (rows, room - size_by pair_key rows, rest)
unfolding rows_at
rows_at_again each_once total room before [] rest fit in_row small =
    let same : room ≡ room - 0 = omega arith in
    ap (λ (n : ℕ). Ok ([], n, rest)) same
rows_at_again each_once total room before (row ∷ rows) rest fit in_row small =
    let regrouped : flat_map row_spelling (row ∷ rows) ++ rest ≡ row_spelling row ++ (flat_map row_spelling rows ++ rest) = ap (λ (x : List ℕ). x ++ rest) (flat_map-cons row_spelling row rows) ∙ append_assoc (row_spelling row) (flat_map row_spelling rows) rest in
    let less = room - (length row.0 + 10) in
    let first = row_again each_once total room before row (flat_map row_spelling rows ++ rest) fit.0 (omega (arith, small)) in_row.0 in_row.1 in
    let others = rows_at_again each_once total less (Some row) rows rest fit.1 in_row.2 (omega (arith, small)) in
    let left : less - size_by pair_key rows ≡ room - size_by pair_key (row ∷ rows) = omega arith in
    ap (rows_at each_once total (suc (length rows)) room before) regrouped ∙ (rw (first, others) refl ∙ ap (λ (n : ℕ). Ok (row ∷ rows, n, rest)) left)

pub rows_of_again : (each_once : Bool) (total room : ℕ) (rows : List Pair) (rest : List ℕ) → AreRows rows → AreInRow each_once None rows → size_by pair_key rows < room → length rows < 2 ^ 32 → rows_of each_once total room (rows_spelling rows ++ rest) ≡ Ok (rows, room - size_by pair_key rows, rest)
unfolding rows_of
rows_of_again each_once total room rows rest fit in_row small few =
    let regrouped : rows_spelling rows ++ rest ≡ to_be_bytes w32 (length rows) ++ (flat_map row_spelling rows ++ rest) = append_assoc (to_be_bytes w32 (length rows)) (flat_map row_spelling rows) rest in
    ap (rows_of each_once total room) regrouped ∙ (rw (number_again w32 (2 ^ 32) wide32 total (length rows) (flat_map row_spelling rows ++ rest) few) (rows_at_again each_once total room None rows rest fit in_row small))

-- ---- a progress

pub state_is : (total room : ℕ) (bytes : List ℕ) (x : List Pair × ℕ × List ℕ) → AreBytes bytes → 0 < room → room ≤ 4294967232 → rows_of true total room bytes ≡ Ok x → IsState x.0
state_is total room bytes x fits some most e =
    let rows = rows_of_take true total room bytes x fits e in
    record { ascends = strict_of None x.0 rows.in_row; small = omega (arith, rows.size, rows.room_left some) }

pub bag_is : (total room : ℕ) (bytes : List ℕ) (x : List Pair × ℕ × List ℕ) → AreBytes bytes → 0 < room → room ≤ 4294967232 → rows_of false total room bytes ≡ Ok x → IsBag (map tuple_of x.0)
bag_is total room bytes x fits some most e =
    let rows = rows_of_take false total room bytes x fits e in
    record { ascends = ascending_of x.0 rows.in_row; small = omega (arith, rows.size, rows.room_left some, size_of_tuples x.0) }

ends_with : {A : Type 0} (rest : List ℕ) (place : ℕ) (x y : A) → cond (eqb (length rest) 0) (Ok x) (Err place) ≡ Ok y → (rest ≡ []) × (x ≡ y)
ends_with rest place x y e =
    let p = passed (eqb (length rest) 0) place (Ok x) y e in
    (nil_from_length rest (eqb-true _ _ p.0), ok_is x y p.1)

none_fits : IsBag []
none_fits = record { ascends = tt; small = omega arith }

pub first_takes : (total : ℕ) (bytes : List ℕ) (g : Progress) → AreBytes bytes → first_form total bytes ≡ Ok g → Spells bytes g × IsProgress g
unfolding first_form
first_takes total bytes g fits e =
    let a = bind_ok (rows_of true total 4294967232 bytes) (λ state. cond (eqb (length state.2) 0) (Ok (record { state = state.0; left = []; right = [] })) (Err (total - length state.2))) g e in
    let rows = rows_of_take true total 4294967232 bytes a.0 fits a.1 in
    let made : Progress = record { state = a.0.0; left = []; right = [] } in
    let b = ends_with a.0.2 (total - length a.0.2) made g a.2 in
    let whole : bytes ≡ rows_spelling a.0.0 = rows.takes.parts ∙ (ap (λ (rest : List ℕ). rows_spelling a.0.0 ++ rest) b.0 ∙ append-nil (rows_spelling a.0.0)) in
    let state = state_is total 4294967232 bytes a.0 fits (omega arith) (omega arith) a.1 in
    subst (λ (h : Progress). Spells bytes h × IsProgress h) b.1 (inr (whole, refl, refl), record { state = state; left = none_fits; right = none_fits; state_rows = rows.fit; left_are = tt; right_are = tt; small = omega (arith, state.small) })

pub second_takes : (total : ℕ) (bytes : List ℕ) (g : Progress) → AreBytes bytes → second_form total bytes ≡ Ok g → Spells (255 ∷ 2 ∷ bytes) g × IsProgress g
unfolding second_form
second_takes total bytes g fits e =
    let a = bind_ok (rows_of true total 4294967232 bytes) (λ state. rows_of false total state.1 state.2 >>= λ left. rows_of false total left.1 left.2 >>= λ right. cond (eqb (length right.2) 0) (Ok (record { state = state.0; left = map tuple_of left.0; right = map tuple_of right.0 })) (Err (total - length right.2))) g e in
    let b = bind_ok (rows_of false total a.0.1 a.0.2) (λ left. rows_of false total left.1 left.2 >>= λ right. cond (eqb (length right.2) 0) (Ok (record { state = a.0.0; left = map tuple_of left.0; right = map tuple_of right.0 })) (Err (total - length right.2))) g a.2 in
    let c = bind_ok (rows_of false total b.0.1 b.0.2) (λ right. cond (eqb (length right.2) 0) (Ok (record { state = a.0.0; left = map tuple_of b.0.0; right = map tuple_of right.0 })) (Err (total - length right.2))) g b.2 in
    let made : Progress = record { state = a.0.0; left = map tuple_of b.0.0; right = map tuple_of c.0.0 } in
    let d = ends_with c.0.2 (total - length c.0.2) made g c.2 in
    let state_rows = rows_of_take true total 4294967232 bytes a.0 fits a.1 in
    let left_are = rows_of_take false total a.0.1 a.0.2 b.0 state_rows.takes.rest_fits b.1 in
    let right_are = rows_of_take false total b.0.1 b.0.2 c.0 left_are.takes.rest_fits c.1 in
    let some1 : 0 < a.0.1 = state_rows.room_left (omega arith) in
    let some2 : 0 < b.0.1 = left_are.room_left some1 in
    let some3 : 0 < c.0.1 = right_are.room_left some2 in
    let inner = Takes-then a.0.2 (rows_spelling b.0.0) b.0.2 (rows_spelling c.0.0) c.0.2 left_are.takes right_are.takes in
    let outer = Takes-then bytes (rows_spelling a.0.0) a.0.2 (rows_spelling b.0.0 ++ rows_spelling c.0.0) c.0.2 state_rows.takes inner in
    let text = rows_spelling a.0.0 ++ (rows_spelling b.0.0 ++ rows_spelling c.0.0) in
    let whole : bytes ≡ text = outer.parts ∙ (ap (λ (rest : List ℕ). text ++ rest) d.0 ∙ append-nil text) in
    let spelled : 255 ∷ 2 ∷ bytes ≡ second_spelling made = rw (rows_again b.0.0, rows_again c.0.0) (ap (λ (x : List ℕ). 255 ∷ 2 ∷ x) whole) in
    subst (λ (h : Progress). Spells (255 ∷ 2 ∷ bytes) h × IsProgress h) d.1 (
      inl spelled,
      record {
        state = state_is total 4294967232 bytes a.0 fits (omega arith) (omega arith) a.1;
        left = bag_is total a.0.1 a.0.2 b.0 state_rows.takes.rest_fits some1 (omega (arith, state_rows.size)) b.1;
        right = bag_is total b.0.1 b.0.2 c.0 left_are.takes.rest_fits some2 (omega (arith, state_rows.size, left_are.size)) c.1;
        state_rows = state_rows.fit;
        left_are = rw (rows_again b.0.0) left_are.fit;
        right_are = rw (rows_again c.0.0) right_are.fit;
        small = omega (arith, state_rows.size, left_are.size, right_are.size, some3, size_of_tuples b.0.0, size_of_tuples c.0.0);
      },
    )

AreBytes-rest : (b : ℕ) (bytes : List ℕ) → AreBytes (b ∷ bytes) → AreBytes bytes
AreBytes-rest b bytes are i = are (suc i)

marked_takes : (total : ℕ) (bytes : List ℕ) (g : Progress) → AreBytes bytes → marked_form total bytes ≡ Ok g → Spells (255 ∷ bytes) g × IsProgress g
marked_takes total [] g fits e = absurd cc
marked_takes total (number ∷ bytes) g fits e =
    let p = passed (eqb number 2) 1 (second_form total bytes) g e in
    let two : number ≡ 2 = eqb-true number 2 p.0 in
    subst (λ (n : ℕ). Spells (255 ∷ n ∷ bytes) g × IsProgress g) (sym two) (second_takes total bytes g (AreBytes-rest number bytes fits) p.1)

either : (b : Bool) (P : Type 0) (x y : Result Progress ℕ) (g : Progress) → cond b x y ≡ Ok g → (b ≡ true → x ≡ Ok g → P) → (y ≡ Ok g → P) → P
either true P x y g e f h = f refl e
either false P x y g e f h = h e

pub progress_takes : (bytes : List ℕ) (g : Progress) → AreBytes bytes → progress_in bytes ≡ Ok g → Spells bytes g × IsProgress g
progress_takes [] g fits e = first_takes 0 [] g fits e
progress_takes (first ∷ bytes) g fits e =
    either (eqb first 255) (Spells (first ∷ bytes) g × IsProgress g) (marked_form (length (first ∷ bytes)) bytes) (first_form (length (first ∷ bytes)) (first ∷ bytes)) g e
    (λ mark marked. subst (λ (n : ℕ). Spells (n ∷ bytes) g × IsProgress g) (sym (eqb-true first 255 mark)) (marked_takes (length (first ∷ bytes)) bytes g (AreBytes-rest first bytes fits) marked))
    (λ unmarked. first_takes (length (first ∷ bytes)) (first ∷ bytes) g fits unmarked)

pub first_again : (total : ℕ) (g : Progress) → IsProgress g → g.left ≡ [] → g.right ≡ [] → first_form total (first_spelling g.state) ≡ Ok g
unfolding first_form
first_again total g is left right =
    let few : length g.state < 2 ^ 32 = omega (arith, few_rows pair_key g.state, is.state.small) in
    let alone : first_spelling g.state ≡ rows_spelling g.state ++ [] = sym (append-nil (rows_spelling g.state)) in
    let same : record { state = g.state; left = []; right = [] } ≡ g = λ i. record { state = g.state; left = sym left i; right = sym right i } in
    ap (first_form total) alone ∙ (rw (rows_of_again true total 4294967232 g.state [] is.state_rows (in_row_of_strict g.state is.state.ascends) is.state.small few) refl ∙ ap Ok same)

pub second_again : (total : ℕ) (g : Progress) → IsProgress g → second_form total (rows_spelling g.state ++ (rows_spelling (left_rows g) ++ rows_spelling (right_rows g))) ≡ Ok g
unfolding second_form
second_again total g is =
    let few : length g.state < 2 ^ 32 = omega (arith, few_rows pair_key g.state, is.state.small) in
    let left_few : length (left_rows g) < 2 ^ 32 = omega (arith, few_rows pair_key (left_rows g), size_of_rows g.left, is.left.small) in
    let right_few : length (right_rows g) < 2 ^ 32 = omega (arith, few_rows pair_key (right_rows g), size_of_rows g.right, is.right.small) in
    let room1 = 4294967232 - size_by pair_key g.state in
    let room2 = room1 - size_by pair_key (left_rows g) in
    let tail = rows_spelling (right_rows g) in
    let alone : rows_spelling g.state ++ (rows_spelling (left_rows g) ++ tail) ≡ rows_spelling g.state ++ (rows_spelling (left_rows g) ++ (tail ++ [])) = ap (λ (x : List ℕ). rows_spelling g.state ++ (rows_spelling (left_rows g) ++ x)) (sym (append-nil tail)) in
    let state = rows_of_again true total 4294967232 g.state (rows_spelling (left_rows g) ++ (tail ++ [])) is.state_rows (in_row_of_strict g.state is.state.ascends) is.state.small few in
    let left = rows_of_again false total room1 (left_rows g) (tail ++ []) is.left_are (in_row_of_ascending g.left is.left.ascends) (omega (arith, is.small, size_of_rows g.left)) left_few in
    let right = rows_of_again false total room2 (right_rows g) [] is.right_are (in_row_of_ascending g.right is.right.ascends) (omega (arith, is.small, size_of_rows g.left, size_of_rows g.right)) right_few in
    let same : record { state = g.state; left = map tuple_of (left_rows g); right = map tuple_of (right_rows g) } ≡ g = λ i. record { state = g.state; left = tuples_again g.left i; right = tuples_again g.right i } in
    ap (second_form total) alone ∙ (rw (state, left, right) refl ∙ ap Ok same)

-- a state alone doesn't begin with the mark
first_byte : (n : ℕ) (rest : List ℕ) → n < 429496724 → progress_in (to_be_bytes w32 n ++ rest) ≡ first_form (length (to_be_bytes w32 n ++ rest)) (to_be_bytes w32 n ++ rest)
first_byte n rest few =
    let unmarked : eqb (n / 16777216 % 256) 255 ≡ false = ne_eqb (n / 16777216 % 256) 255 (λ e. omega (arith, few, e)) in
    rw unmarked refl

pub progress_again : (bytes : List ℕ) (g : Progress) → IsProgress g → Spells bytes g → progress_in bytes ≡ Ok g
progress_again bytes g is (inl spelled) = ap progress_in spelled ∙ second_again (length (second_spelling g)) g is
progress_again bytes g is (inr (spelled, left, right)) =
    let few : length g.state < 429496724 = omega (arith, few_rows pair_key g.state, is.state.small) in
    ap progress_in spelled ∙ (first_byte (length g.state) (flat_map row_spelling g.state) few ∙ first_again (length (first_spelling g.state)) g is left right)

pub is_found : (r : Result Progress StateFault) (bytes : List ℕ) → AreBytes bytes → Gives (λ g. g) r (progress_in bytes) → IfOk r (λ g. Spells bytes g × IsProgress g)
is_found (Ok g) bytes fits given = progress_takes bytes g fits given
is_found (Err fault) bytes fits given = tt
