-- The body of a window is read back as its rows.
use Rattle.std.proofs.Common.{◌≡◌, ℕ, ◌^◌, ◌<◌, ◌≤◌, Bool, true, false, cond, List, [], ◌∷◌, ◌++◌, length, take, drop, Some, None, nat_le, refl, sym, ap, ◌∙◌, arith, length-append, eq-eqb}
use Rattle.std.specs.Prelude.{◌==◌, ◌&&◌}
use Rattle.std.specs.Int.{w16, w32, w64, to_be_bytes, from_be_bytes, cast_unsigned}
use Rattle.std.proofs.lemmas.Bool.Decides.{nat_tests}
use Rattle.std.proofs.lemmas.Nat.{from_be_bytes-to_be_bytes_4}
use Rattle.std.proofs.lemmas.List.{take_at, drop_at, drop-drop}
use Rattle.apx_tuple.specs.Size.{size_by}
use Rattle.apx_tuple.specs.Tuple.{tuple_key}
use Rattle.apx_tuple.specs.declared.tuple.Tuple.{Tuple}
use Rattle.apx_device.specs.Rows.{row_bytes, rows_bytes, rows_in}
use Rattle.apx_sinklog.specs.Windows.{body_bytes, is_window, body_rows, window_in}

-- rows have as many bytes as their size says
pub rows_length : (rows : List Tuple) → length (rows_bytes rows) ≡ size_by tuple_key rows
rows_length [] = refl
rows_length (row ∷ rows) =
    omega (
      arith,
      rows_length rows,
      length-append (row_bytes row) (rows_bytes rows),
      length-append (to_be_bytes w16 (length row.key)) (row.key ++ to_be_bytes w64 (cast_unsigned w64 row.value)),
      length-append row.key (to_be_bytes w64 (cast_unsigned w64 row.value)),
    )

le_true : (m n : ℕ) → m ≤ n → nat_le m n ≡ true
le_true m n le = grind (arith, nat_tests)

both : (a b : Bool) → a ≡ true → b ≡ true → (a && b) ≡ true
both true b p q = q
both false b p q = absurd (cc p)

pub body_back : (window : ℕ) (rows : List Tuple) (body : List ℕ) → body ≡ body_bytes window rows → window < 2 ^ 32 → length rows < 2 ^ 32 → rows_in (length rows) (rows_bytes rows) ≡ Some rows → window_in window body ≡ Some rows
body_back window rows body is few_windows few_rows back =
    let first = to_be_bytes w32 window in
    let second = to_be_bytes w32 (length rows) in
    let front : take 4 body ≡ first = ap (take 4) is ∙ take_at first (second ++ rows_bytes rows) 4 refl in
    let rest : drop 4 body ≡ second ++ rows_bytes rows = ap (drop 4) is ∙ drop_at first (second ++ rows_bytes rows) 4 refl in
    let behind : drop 8 body ≡ rows_bytes rows = sym (drop-drop 4 4 body) ∙ ap (drop 4) rest ∙ drop_at second (rows_bytes rows) 4 refl in
    let number : from_be_bytes w32 (take 4 body) ≡ window = ap (from_be_bytes w32) front ∙ from_be_bytes-to_be_bytes_4 window few_windows in
    let count : from_be_bytes w32 (take 4 (drop 4 body)) ≡ length rows = ap (λ (b : List ℕ). from_be_bytes w32 (take 4 b)) rest ∙ ap (from_be_bytes w32) (take_at second (rows_bytes rows) 4 refl) ∙ from_be_bytes-to_be_bytes_4 (length rows) few_rows in
    let lengths = ap length is in
    let long : 8 ≤ length body = omega (arith, lengths, length-append first (second ++ rows_bytes rows), length-append second (rows_bytes rows)) in
    let there : is_window window body ≡ true = both (nat_le 8 (length body)) (from_be_bytes w32 (take 4 body) == window) (le_true 8 (length body) long) (eq-eqb (from_be_bytes w32 (take 4 body)) window number) in
    ap (λ (b : Bool). cond b (body_rows body) None) there
    ∙ (λ i. rows_in (count i) (behind i)) ∙ back
