-- The groups of an input, and their tuples.
use Rattle.std.proofs.Common.{◌≡◌, ℕ, ◌+◌, ◌-◌, ◌*◌, ◌/◌, ◌<◌, ◌≤◌, Bool, true, false, ◌==◌, cond, List, [], ◌∷◌, length, take, drop, filter_map, Option, Some, None, refl, sym, ap, ◌∙◌, arith, All, zero, suc, ℤ, pos, length-take}
use Rattle.std.proofs.lemmas.List.{drop-take, drop_all}
use Rattle.std.proofs.lemmas.Nat.{div-mul-add}
use Rattle.std.proofs.lemmas.List.Elements.{All-head, All-tail}
use Rattle.std.specs.List.{cons_option}
use Rattle.std.proofs.Math.Nat.{mul-le-mul_left}
use Rattle.std.specs.Option.{option_map, option_or, option_and_then}
use Rattle.apx_order.specs.Sorted.{sorted}
use Rattle.apx_tuple.specs.declared.kind.InputKind.{InputKind}
use Rattle.apx_tuple.specs.declared.kind.InputKind.TheVariants.{Lines, Pairs}
use Rattle.apx_tuple.specs.declared.tuple.Tuple.{Tuple}
use Rattle.apx_tuple.specs.Size.{size_by}
use Rattle.apx_tuple.specs.Tuple.{tuple_key, bag_of}
use Rattle.apx_pass.specs.Groups.{Input, group, groups, window_bag}
use Rattle.apx_decimal.specs.Decimal.{integer_of}
use Rattle.apx_pass.specs.Pairs.{tuple_of, pair_of, at_last_tab}

quotient : (k n len : ℕ) → 1 ≤ n → len ≤ k * n → (0 < k → (k - 1) * n < len) → k ≡ (len + (n - 1)) / n
quotient zero n len some full begun =
    let e : len + (n - 1) ≡ 0 * n + (n - 1) = omega arith in
    rw e (sym (div-mul-add 0 n (n - 1) (omega arith)))
quotient (suc k) n len some full begun =
    let back : suc k - 1 ≡ k = omega arith in
    let low : k * n < len = rw back at (begun (omega arith)) in
    let e : len + (n - 1) ≡ suc k * n + (len + (n - 1) - suc k * n) = omega arith in
    let fits : len + (n - 1) - suc k * n < n = omega arith in
    let whole : (suc k * n + (len + (n - 1) - suc k * n)) / n ≡ suc k = div-mul-add (suc k) n (len + (n - 1) - suc k * n) fits in
    sym (ap (λ m. m / n) e ∙ whole)

-- the count of groups: one for each that has begun
pub groups_are : (input : Input) (k : ℕ) → 1 ≤ input.per_window → length input.lines ≤ k * input.per_window → (0 < k → (k - 1) * input.per_window < length input.lines) → k ≡ groups input
unfolding groups
groups_are input k some full begun = quotient k input.per_window (length input.lines) some full begun

-- a window's lines follow those of the windows before
pub group_at : (input : Input) (w : ℕ) → 0 < w → group input w ≡ take input.per_window (drop ((w - 1) * input.per_window) input.lines)
unfolding group
group_at input zero h = absurd (omega arith)
group_at input (suc w) h =
    let e : suc w * input.per_window ≡ (suc w - 1) * input.per_window + input.per_window = (let back : suc w - 1 ≡ w = omega arith in rw back (omega arith)) in
    rw e (drop-take ((suc w - 1) * input.per_window) input.per_window input.lines)

-- there is no window 0, and none past the last
empty_bag : (input : Input) (w : ℕ) → group input w ≡ [] → window_bag input w ≡ []
unfolding window_bag sorted
empty_bag input w e = ap (λ lines. bag_of (filter_map (tuple_of input.kind) lines)) e

group_none : (input : Input) → group input 0 ≡ []
unfolding group
group_none input =
    let z : 0 * input.per_window ≡ 0 = omega arith in
    rw z refl

pub bag_of_none : (input : Input) → window_bag input 0 ≡ []
bag_of_none input = empty_bag input 0 (group_none input)

lines_past : (n len w : ℕ) → 1 ≤ n → (len + (n - 1)) / n < w → len ≤ (w - 1) * n
lines_past n len w some past =
    let whole : ℕ = (len + (n - 1)) / n in
    let le : whole ≤ w - 1 = omega arith in
    let product : n * whole ≤ n * (w - 1) = mul-le-mul_left n le in
    omega (arith, product)

group_past : (input : Input) (w : ℕ) → 1 ≤ input.per_window → groups input < w → group input w ≡ []
unfolding group groups
group_past input w some past =
    let all : length input.lines ≤ (w - 1) * input.per_window = lines_past input.per_window (length input.lines) w some past in
    drop_all ((w - 1) * input.per_window) (take (w * input.per_window) input.lines) (omega (arith, length-take (w * input.per_window) input.lines))

pub bag_past : (input : Input) (w : ℕ) → 1 ≤ input.per_window → groups input < w → window_bag input w ≡ []
bag_past input w some past = empty_bag input w (group_past input w some past)

-- a key is no longer than its line
cut_shorter : (line key text : List ℕ) → at_last_tab line ≡ Some (key, text) → length key ≤ length line
unfolding at_last_tab
cut_shorter [] key text e = cc
cut_shorter (byte ∷ bytes) key text e = by (at_last_tab bytes) refl e (λ k t h. cut_shorter bytes k t h)
  where
    here : (b : Bool) → cond {A = Option (List ℕ × List ℕ)} b (Some ([], bytes)) None ≡ Some (key, text) → length key ≤ length (byte ∷ bytes)
    here true h =
        let none : List ℕ × List ℕ = ([], bytes) in
        let parts : List ℕ × List ℕ = (key, text) in
        let same : none ≡ parts = cc in
        let is : 0 ≡ length key = ap (λ (p : List ℕ × List ℕ). length p.0) same in
        omega (arith, is)
    here false h = cc

    by : (o : Option (List ℕ × List ℕ)) → at_last_tab bytes ≡ o →
        option_or (option_map (λ parts. let both : List ℕ × List ℕ = (byte ∷ parts.0, parts.1) in both) o) (cond (byte == 9) (Some ([], bytes)) None) ≡ Some (key, text) →
        ((k t : List ℕ) → at_last_tab bytes ≡ Some (k, t) → length k ≤ length bytes) → length key ≤ length (byte ∷ bytes)
    by None h same shorter = here (byte == 9) same
    by (Some parts) h same shorter =
        let longer : List ℕ × List ℕ = (byte ∷ parts.0, parts.1) in
        let both : List ℕ × List ℕ = (key, text) in
        let is : longer ≡ both = cc in
        let lengths : length (byte ∷ parts.0) ≡ length key = ap (λ (p : List ℕ × List ℕ). length p.0) is in
        omega (arith, lengths, shorter parts.0 parts.1 h)

pub key_shorter : (kind : InputKind) (line : List ℕ) (tuple : Tuple) → tuple_of kind line ≡ Some tuple → length tuple.key ≤ length line
unfolding tuple_of pair_of
key_shorter Lines line tuple e =
    let whole : Tuple = record { key = line; value = pos 1 } in
    let same : whole ≡ tuple = cc in
    let is : length line ≡ length tuple.key = ap (λ (t : Tuple). length t.key) same in
    omega (arith, is)
key_shorter Pairs line tuple e = by (at_last_tab line) refl e
  where
    pair : List ℕ → ℤ → Tuple
    pair key value = record { key = key; value = value }

    with_value : (key text : List ℕ) → at_last_tab line ≡ Some (key, text) → (value : Option ℤ) → option_map (pair key) value ≡ Some tuple → length tuple.key ≤ length line
    with_value key text h None same = cc
    with_value key text h (Some value) same =
        let is : pair key value ≡ tuple = cc in
        let lengths : length key ≡ length tuple.key = ap (λ (t : Tuple). length t.key) is in
        omega (arith, lengths, cut_shorter line key text h)

    by : (o : Option (List ℕ × List ℕ)) → at_last_tab line ≡ o → option_and_then (λ parts. option_map (pair parts.0) (integer_of parts.1)) o ≡ Some tuple → length tuple.key ≤ length line
    by None h same = cc
    by (Some parts) h same = with_value parts.0 parts.1 h (integer_of parts.1) same

-- so tuples of n short lines are not large
pub size_of_short : (kind : InputKind) (n : ℕ) (lines : List (List ℕ)) → All (λ line. length line ≤ 1024) lines → size_by tuple_key (filter_map (tuple_of kind) (take n lines)) ≤ 1034 * n
size_of_short kind zero lines short = omega arith
size_of_short kind (suc n) [] short = omega arith
size_of_short kind (suc n) (line ∷ lines) short = by (tuple_of kind line) refl (size_of_short kind n lines (All-tail (λ l. length l ≤ 1024) line lines short))
  where
    head : length line ≤ 1024
    head = All-head (λ l. length l ≤ 1024) line lines short

    by : (o : Option Tuple) → tuple_of kind line ≡ o → size_by tuple_key (filter_map (tuple_of kind) (take n lines)) ≤ 1034 * n → size_by tuple_key (cons_option o (filter_map (tuple_of kind) (take n lines))) ≤ 1034 * suc n
    by None e rest = omega (arith, rest)
    by (Some tuple) e rest = let key : length tuple.key ≤ length line = key_shorter kind line tuple e in omega (arith, rest, key, head)
