-- Within the limits of a job: an operator has at most eight partitions in every epoch, and the choices are few.
use Rattle.std.proofs.Common.{ℕ, zero, suc, ◌+◌, ◌*◌, ◌<◌, ◌≤◌, inl, inr, Bool, true, false, cond, List, [], ◌∷◌, ◌++◌, length, length-append, arith}
use Rattle.std.specs.Prelude.{unwrap_or}
use Rattle.std.specs.List.{filter}
use Rattle.apx_history.specs.declared.Event.{Event}
use Rattle.apx_history.specs.declared.Event.TheVariants.{Start, Finish, Save, Advance, Purge, Kill, Repartition, End}
use Rattle.apx_history.specs.declared.Act.{Act}
use Rattle.apx_history.specs.declared.Act.TheVariants.{Fails, Splits}
use Rattle.apx_history.specs.Plan.{Plan, operator, line, count_or}
use Rattle.apx_history.specs.Enabled.{can, advance_to}
use Rattle.apx_history.specs.Choices.{list_below, lists_below, list_slots, lines_met, starts, writes, finishes, saves, advances, commits, purges, purge_to, choices}
use Rattle.apx_history.specs.State.{State, oper, parts, slot, open_window}
use Rattle.apx_history.specs.Kept.{Kept}
use Rattle.apx_history.proofs.Lines.{number-from}
use Rattle.apx_machine.specs.Small.{IsSmall}

either_count : (a : Act) (n : ℕ) → n ≤ 8 → count_or 0 a ≤ 8 → count_or n a ≤ 8
either_count (Fails point part) n h k = h
either_count (Splits count) n h k = k

pub parts_few : (plan : Plan) (m : State) → IsSmall plan → Kept plan m → (o : ℕ) → o < length m.ops → parts m o ≤ 8
parts_few plan m small kept o h =
    let e = kept.number o h in
    let f = small.first o (let a = kept.ops in omega arith) in
    elim (number-from o plan.lines (oper m o).boundary (operator plan o).first) [
      | inl g ↦ omega (arith, g)
      | inr g ↦ (let c = either_count (line plan g.0).act (operator plan o).first f (small.counts g.0 g.1) in let k = g.3 in omega arith)
    ]

filter_most : {X : Type 0} (p : X → Bool) (xs : List X) → length (filter p xs) ≤ length xs
filter_most p [] = omega arith
filter_most p (x ∷ xs) = by (p x) (filter_most p xs)
  where
    by : (b : Bool) → length (filter p xs) ≤ length xs → length (cond b (x ∷ filter p xs) (filter p xs)) ≤ length (x ∷ xs)
    by true h = omega arith
    by false h = omega arith

joined_most : {X : Type 0} (xs ys : List X) (a b : ℕ) → length xs ≤ a → length ys ≤ b → length (xs ++ ys) ≤ a + b
joined_most xs ys a b h g = let e = length-append xs ys in omega arith

listed_most : {X : Type 0} (n : ℕ) (f : ℕ → X) → length (list_below n f) ≤ n
unfolding list_below
listed_most zero f = omega arith
listed_most (suc n) f = let e = joined_most (list_below n f) (f n ∷ []) n 1 (listed_most n f) (omega arith) in omega arith

lists_most : {X : Type 0} (n : ℕ) (f : ℕ → List X) → ((o : ℕ) → o < n → length (f o) ≤ 8) → length (lists_below n f) ≤ n * 8
unfolding lists_below
lists_most zero f h = omega arith
lists_most (suc n) f h = let e = joined_most (lists_below n f) (f n) (n * 8) 8 (lists_most n f (λ o r. h o (omega arith))) (h n (omega arith)) in omega arith

-- there are never more than a few thousand events to choose from
pub choices_few : (plan : Plan) (m : State) → IsSmall plan → Kept plan m → length (choices plan m) ≤ 10000
unfolding choices
choices_few plan m small kept =
    let to_starts : length (filter (can plan m) (starts m)) ≤ 128 = row (λ o i. Start o i ((slot m o i).at + 1)) in
    let to_write = joined_most _ (filter (can plan m) (writes m)) 128 1 to_starts (filter_most (can plan m) (writes m)) in
    let to_finishes = joined_most _ (filter (can plan m) (finishes m)) (128 + 1) 128 to_write (row (λ o i. Finish o i (unwrap_or (open_window (slot m o i).opened) 0))) in
    let to_saves = joined_most _ (filter (can plan m) (saves m)) (128 + 1 + 128) 128 to_finishes (row (λ o i. Save o i (slot m o i).at)) in
    let to_advances = joined_most _ (filter (can plan m) (advances plan m)) (128 + 1 + 128 + 128) 128 to_saves (row (λ o i. Advance o i (advance_to plan m o i))) in
    let to_commit = joined_most _ (filter (can plan m) (commits plan m)) (128 + 1 + 128 + 128 + 128) 1 to_advances (filter_most (can plan m) (commits plan m)) in
    let to_purges = joined_most _ (filter (can plan m) (purges plan m)) (128 + 1 + 128 + 128 + 128 + 1) 128 to_commit (row (λ o i. Purge o i (purge_to plan m o i))) in
    let to_kills = joined_most _ (filter (can plan m) (lines_met m Kill)) (128 + 1 + 128 + 128 + 128 + 1 + 128) 1000 to_purges (met Kill) in
    let to_replaces = joined_most _ (filter (can plan m) (lines_met m Repartition)) (128 + 1 + 128 + 128 + 128 + 1 + 128 + 1000) 1000 to_kills (met Repartition) in
    let all : length (choices plan m) ≤ 128 + 1 + 128 + 128 + 128 + 1 + 128 + 1000 + 1000 + 1 = joined_most _ (filter (can plan m) (End ∷ [])) (128 + 1 + 128 + 128 + 128 + 1 + 128 + 1000 + 1000) 1 to_replaces (filter_most (can plan m) (End ∷ [])) in
    omega (arith, all)
  where
    row : (f : ℕ → ℕ → Event) → length (filter (can plan m) (list_slots m f)) ≤ 128
    row f =
        let a = filter_most (can plan m) (list_slots m f) in
        let b = lists_most (length m.ops) (λ o. list_below (parts m o) (f o)) (λ o r. (let c = listed_most (parts m o) (f o) in let d = parts_few plan m small kept o r in omega arith)) in
        let c = small.operators in let d = kept.ops in
        omega arith

    met : (f : ℕ → Event) → length (filter (can plan m) (lines_met m f)) ≤ 1000
    met f =
        let a = filter_most (can plan m) (lines_met m f) in
        let b = listed_most (length m.left) f in
        let c = small.lines in let d = kept.flags in
        omega arith
