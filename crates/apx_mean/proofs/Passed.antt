-- The rows of the windows that were passed, each with its window.
use Rattle.std.proofs.Common.{◌≡◌, ℕ, zero, suc, ◌+◌, List, [], ◌∷◌, ◌++◌, length, refl, sym, ap, ◌∙◌, arith}
use Rattle.std.proofs.lemmas.List.{length_push}
use Rattle.std.proofs.lemmas.List.FromFn.{length-enumerate_from}
use Rattle.std.specs.List.{enumerate_from}
use Rattle.apx_mean.specs.Passing.{dataflow_of}
use Rattle.apx_pass.specs.Graph.{Node}
use Rattle.apx_pass.specs.Groups.{Input}
use Rattle.apx_pass.specs.Pass.{Dataflow, mean_up_to, rows_at, sink_of}
use Rattle.apx_tuple.specs.declared.tuple.Tuple.{Tuple}

enumerate-push : {X : Type 0} (n : ℕ) (xs : List X) (x : X) → enumerate_from n (xs ++ x ∷ []) ≡ enumerate_from n xs ++ (n + length xs, x) ∷ []
enumerate-push n [] x = let e : n ≡ n + 0 = omega arith in ap (λ (k : ℕ). (k, x) ∷ []) e
enumerate-push n (y ∷ ys) x = ap (λ rest. (n, y) ∷ rest) (enumerate-push (n + 1) ys x ∙ ap (λ (k : ℕ). enumerate_from (n + 1) ys ++ (k, x) ∷ []) (let e : n + 1 + length ys ≡ n + length (y ∷ ys) = omega arith in e))

mean-length : (flow : Dataflow) (w : ℕ) → length (mean_up_to flow w) ≡ w
unfolding mean_up_to
mean-length flow zero = refl
mean-length flow (suc w) = length_push (mean_up_to flow w) (rows_at flow (suc w) (sink_of flow.nodes)) ∙ let e = mean-length flow w in omega (arith, e)

-- no window yet
pub mean-none : (flow : Dataflow) (items : List (ℕ × List Tuple)) → items ≡ [] → items ≡ enumerate_from 1 (mean_up_to flow 0)
unfolding mean_up_to
mean-none flow items e = e

-- how many windows were passed
pub mean-count : (flow : Dataflow) (w : ℕ) (items : List (ℕ × List Tuple)) → items ≡ enumerate_from 1 (mean_up_to flow w) → length items ≡ w
mean-count flow w items e = ap length e ∙ length-enumerate_from 1 (mean_up_to flow w) ∙ mean-length flow w

-- one window more
pub mean-more : (flow : Dataflow) (w v : ℕ) (made : List Tuple) (before after : List (ℕ × List Tuple)) → v ≡ w + 1 → before ≡ enumerate_from 1 (mean_up_to flow w) → made ≡ rows_at flow (suc w) (sink_of flow.nodes) →
    after ≡ before ++ (v, made) ∷ [] → after ≡ enumerate_from 1 (mean_up_to flow (w + 1))
unfolding mean_up_to
mean-more flow w v made before after e b m a =
    let one : w + 1 ≡ suc w = omega arith in
    let place : v ≡ 1 + length (mean_up_to flow w) = omega (arith, mean-length flow w) in
    a ∙ (λ j. b j ++ (place j, m j) ∷ []) ∙ sym (enumerate-push 1 (mean_up_to flow w) (rows_at flow (suc w) (sink_of flow.nodes))) ∙ ap (λ (k : ℕ). enumerate_from 1 (mean_up_to flow k)) (sym one)

-- a dataflow is that of its parts
pub flow-of : (flow : Dataflow) (nodes : List Node) (inputs : List Input) → nodes ≡ flow.nodes → inputs ≡ flow.inputs → dataflow_of nodes inputs ≡ flow
flow-of flow nodes inputs p q = λ i. record { nodes = p i; inputs = q i }
