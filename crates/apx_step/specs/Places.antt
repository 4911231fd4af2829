-- Tuples in an order by rank.
use Rattle.std.specs.Prelude.{ℕ, suc, List, [], ◌∷◌, map, cond}
use Rattle.std.specs.declared.cmp.Ordering.{Ordering}
use Rattle.std.specs.Ordering.{is_gt}
use Rattle.apx_tuple.specs.declared.tuple.Tuple.{Tuple}
use Rattle.apx_step.specs.declared.top.Ranked.{Ranked}

-- the tuples that stand in the places
abbrev pub tuples_ranked : List Ranked → List Tuple
tuples_ranked places = map (λ place. place.0.now) places

-- how many members x is above, up to the first that it isn't above
abbrev pub place : {X : Type 0} → (X → X → Ordering) → X → List X → ℕ
place cmp x [] = 0
place cmp x (y ∷ ys) = cond (is_gt (cmp x y)) (suc (place cmp x ys)) 0
