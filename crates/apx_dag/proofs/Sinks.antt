-- The first sink, looked for from the front.
use Rattle.std.proofs.Common.{◌≡◌, ℕ, ◌+◌, ◌<◌, ◌≤◌, Bool, true, false, cond, List, [], ◌∷◌, length, drop, get_or, ap, ◌∙◌, arith, drop-cons, add-one, suc, zero}
use Rattle.apx_pass.specs.Graph.{Role, Input, Inner, Sink, Node, node_at, is_sink}
use Rattle.apx_pass.specs.Valid.{IsValidRole, IsValid}
use Rattle.apx_dag.specs.Valid.{IsRole, IsGraph}
use Rattle.std.proofs.lemmas.List.{drop_all}
use Rattle.apx_pass.specs.Pass.{sink_of}

sink_of-cons : (node : Node) (nodes : List Node) (b : Bool) → is_sink node.role ≡ b → sink_of (node ∷ nodes) ≡ cond b 0 (1 + sink_of nodes)
unfolding sink_of
sink_of-cons node nodes b e = ap (λ v. cond v 0 (1 + sink_of nodes)) e

module _ (nodes : List Node) (i : ℕ) (within : i < length nodes) (so_far : sink_of nodes ≡ i + sink_of (drop i nodes)) where
  front : drop i nodes ≡ node_at nodes i ∷ drop (suc i) nodes
  front = drop-cons nodes i _ within

  pub sink-here : is_sink (node_at nodes i).role ≡ true → sink_of nodes ≡ i
  sink-here e = let here : sink_of (drop i nodes) ≡ 0 = ap sink_of front ∙ sink_of-cons (node_at nodes i) (drop (suc i) nodes) true e in omega arith

  pub sink-past : is_sink (node_at nodes i).role ≡ false → sink_of nodes ≡ (i + 1) + sink_of (drop (i + 1) nodes)
  sink-past e =
      let past : sink_of (drop i nodes) ≡ 1 + sink_of (drop (suc i) nodes) = ap sink_of front ∙ sink_of-cons (node_at nodes i) (drop (suc i) nodes) false e in
      rw add-one (omega arith)

sink-up-to : (nodes : List Node) (i : ℕ) (d : Node) → i < length nodes → is_sink (get_or nodes i d).role ≡ true → sink_of nodes ≤ i
unfolding sink_of
sink-up-to [] i d h e = absurd (omega arith)
sink-up-to (node ∷ nodes) zero d h e = omega (arith, ap (λ v. cond v 0 (1 + sink_of nodes)) e)
sink-up-to (node ∷ nodes) (suc i) d h e = later (is_sink node.role) (sink-up-to nodes i d (omega arith) e)
  where
    later : (b : Bool) → sink_of nodes ≤ i → cond b 0 (1 + sink_of nodes) ≤ suc i
    later true r = omega arith
    later false r = omega arith

valid-role : (role : Role) → IsRole role → IsValidRole role
unfolding IsValidRole
valid-role (Input kind file per_window) r = r
valid-role (Inner kind) r = tt
valid-role Sink r = tt

-- a graph of the dag is one that the pass can go over
pub valid-graph : (nodes : List Node) → length nodes ≤ 16 → IsGraph nodes → IsValid nodes
valid-graph nodes few g =
    let s = g.sink in
    record {
      few = few;
      nodes_valid = λ k h. let n = g.each k h in record { role = valid-role _ n.role; some_partitions = n.partitions.0; few_partitions = n.partitions.1; some_windows = n.app_windows.0; few_windows = n.app_windows.1 };
      sink = let up = sink-up-to nodes s.0 _ s.1 (ap is_sink s.2) in let within : s.0 < length nodes = s.1 in omega arith;
    }

-- past the last operator there is no sink left to find
pub sink-nowhere : (nodes : List Node) (i : ℕ) → length nodes ≤ i → sink_of nodes ≡ i + sink_of (drop i nodes) → sink_of nodes ≡ i
unfolding sink_of
sink-nowhere nodes i h e = let none : sink_of (drop i nodes) ≡ 0 = ap sink_of (drop_all i nodes h) in omega arith
