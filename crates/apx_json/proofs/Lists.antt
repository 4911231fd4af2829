-- Reading the items of a list one after the other, as a loop does.
use Rattle.std.proofs.Common.{◌≡◌, ℕ, ◌+◌, ◌≤◌, ◌<◌, List, [], ◌∷◌, ◌++◌, length, get_or, drop, Ok, Err, refl, sym, ap, ◌∙◌, append_assoc}
use Rattle.std.proofs.lemmas.List.{append-nil, drop_all}
use Rattle.std.proofs.Math.Seq.{drop-cons}
use Rattle.std.proofs.Math.Numerals.{add-one}
use Rattle.serde_json.specs.declared.value.Value.{Value}
use Rattle.serde_json.specs.Data.{Data, item}
use Rattle.serde_json.specs.View.{view, items_view}
use Rattle.apx_json.specs.declared.refusal.JsonRefusal.{JsonRefusal}
use Rattle.apx_json.specs.declared.refusal.JsonRefusal.TheVariants.{Syntax, Shape, Memory}
use Rattle.apx_json.specs.Checks.{◌>>=◌}
use Rattle.apx_json.specs.Shape.{Shaped, Fails, each_at}

-- what was read before, and what is still read
abbrev pub with_front : {X : Type 0} → List X → Shaped (List X) → Shaped (List X)
with_front front read = read >>= λ xs. Ok (front ++ xs)

regroup : {X : Type 0} (front : List X) (x : X) (read : Shaped (List X)) → with_front front (read >>= λ xs. Ok (x ∷ xs)) ≡ with_front (front ++ x ∷ []) read
regroup front x (Ok xs) = ap (λ ys. Ok ys) (simp append_assoc)
regroup front x (Err place) = refl

-- the items from i on begin with item i
opens : {X : Type 0} (item_at : ℕ → Data → Shaped X) (values : List Value) (i : ℕ) (value : Value) → i < length values → value ≡ get_or values i value
    → each_at item_at i (items_view (drop i values)) ≡ (item_at i (view value) >>= λ x. each_at item_at (i + 1) (items_view (drop (i + 1) values)) >>= λ xs. Ok (x ∷ xs))
unfolding each_at
opens item_at values i value lt is =
    let first : items_view (drop i values) ≡ item (view value) (items_view (drop (i + 1) values)) = rw (add-one, is) (ap items_view (drop-cons values i value lt)) in
    rw first refl

pub goes_on : {X : Type 0} (item_at : ℕ → Data → Shaped X) (front : List X) (values : List Value) (i : ℕ) (value : Value) (x : X) (total : Shaped (List X)) → i < length values → value ≡ get_or values i value → item_at i (view value) ≡ Ok x
    → with_front front (each_at item_at i (items_view (drop i values))) ≡ total → with_front (front ++ x ∷ []) (each_at item_at (i + 1) (items_view (drop (i + 1) values))) ≡ total
goes_on item_at front values i value x total lt is read so_far =
    let one : with_front front (each_at item_at i (items_view (drop i values))) ≡ with_front (front ++ x ∷ []) (each_at item_at (i + 1) (items_view (drop (i + 1) values))) = rw (opens item_at values i value lt is, read) (regroup front x (each_at item_at (i + 1) (items_view (drop (i + 1) values)))) in
    sym one ∙ so_far

pub ends : {X : Type 0} (e : JsonRefusal) (item_at : ℕ → Data → Shaped X) (front : List X) (values : List Value) (i : ℕ) (value : Value) (total : Shaped (List X)) → i < length values → value ≡ get_or values i value → Fails e (item_at i (view value))
    → with_front front (each_at item_at i (items_view (drop i values))) ≡ total → Fails e total
ends Memory item_at front values i value total lt is read so_far = tt
ends Syntax item_at front values i value total lt is read so_far = absurd read
ends (Shape place) item_at front values i value total lt is read so_far =
    let one : with_front front (each_at item_at i (items_view (drop i values))) ≡ Err place = rw (opens item_at values i value lt is, read) refl in
    sym so_far ∙ one

pub is_done : {X : Type 0} (item_at : ℕ → Data → Shaped X) (front : List X) (values : List Value) (i : ℕ) (total : Shaped (List X)) → length values ≤ i → with_front front (each_at item_at i (items_view (drop i values))) ≡ total → total ≡ Ok front
unfolding each_at
is_done item_at front values i total le so_far =
    let none : drop i values ≡ [] = drop_all i values le in
    let one : with_front front (each_at item_at i (items_view (drop i values))) ≡ Ok front = rw none (ap (λ ys. Ok ys) (append-nil front)) in
    sym so_far ∙ one
