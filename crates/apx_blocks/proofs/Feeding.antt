-- What comes on the ports that an operator has.
use Rattle.std.specs.Prelude.{⊤}
use Rattle.std.proofs.Common.{◌≡◌, ◌≢◌, ℕ, ◌<◌, Bool, true, false, cond, List, [], ◌∷◌, ◌++◌, length, Some, None, refl, sym, ap, subst, inl, inr}
use Rattle.std.specs.Bool.{MatchBool}
use Rattle.std.proofs.lemmas.List.{get_or-map}
use Rattle.apx_dag.specs.Graph as dag
use Rattle.apx_dag.specs.Order.{IsSource}
use Rattle.apx_dag.specs.Valid.{IsGraph}
use Rattle.apx_pass.specs.Job.{Job}
use Rattle.apx_list.specs.declared.block.Block.{Block}
use Rattle.apx_list.specs.declared.plan.CutPlan.{CutPlan}
use Rattle.apx_list.specs.Window.{SpellWindow}
use Rattle.apx_part.specs.Fed.{plan_in, AreWindows, given_in, IsFed, IsFedAll}
use Rattle.apx_pass.specs.Graph.{Role, Input, Inner, Sink, Node, node_at, is_sink}
use Rattle.apx_pass.specs.Order.{OfPorts}
use Rattle.apx_tuple.specs.declared.tuple.Tuple.{Tuple}
use Rattle.apx_tuple.specs.Kind.{has_right}
use Rattle.apx_blocks.specs.Came.{reads_left, reads_right, came_left, came_right}

-- what holds of the ports, by the tests of the code
pub ports-of : (role : Role) (A B : Type 0) → OfPorts role A B → (reads_left role ≡ true → A) × (reads_right role ≡ true → B)
unfolding OfPorts
ports-of (Input kind file per_window) A B h = (λ e. absurd (cc e), λ e. absurd (cc e))
ports-of (Inner kind) A B h = (λ _. h.0, by (has_right kind) h.1)
  where
    by : (b : Bool) → MatchBool b B ⊤ → b ≡ true → B
    by true p e = p
    by false p e = absurd (cc e)
ports-of Sink A B h = (λ _. h, λ e. absurd (cc e))

pub ports-by : (role : Role) (A B : Type 0) → (reads_left role ≡ true → A) → (reads_right role ≡ true → B) → OfPorts role A B
unfolding OfPorts
ports-by (Input kind file per_window) A B l r = tt
ports-by (Inner kind) A B l r = (l refl, by (has_right kind) r)
  where
    by : (b : Bool) → (b ≡ true → B) → MatchBool b B ⊤
    by true p = p refl
    by false p = tt
ports-by Sink A B l r = l refl

module _ (plan : CutPlan) (w : ℕ) where
  -- of a port that there is, and of one that there isn't
  pub port-given : (b : Bool) (lists : List (List Block)) (bags : List (List Tuple)) → AreWindows plan w lists (cond b bags []) → b ≡ true → AreWindows plan w lists bags
  port-given true lists bags h e = h
  port-given false lists bags h e = absurd (cc e)

  pub port-comes : (b : Bool) (lists : List (List Block)) (bags : List (List Tuple)) → (b ≡ true → AreWindows plan w lists bags) → AreWindows plan w (cond b lists []) (cond b bags [])
  port-comes true lists bags h = h refl
  port-comes false lists bags h = tt

  -- a list more
  pub windows-push : (lists : List (List Block)) (bags : List (List Tuple)) (blocks : List Block) (bag : List Tuple) → AreWindows plan w lists bags → SpellWindow plan w blocks bag → AreWindows plan w (lists ++ blocks ∷ []) (bags ++ bag ∷ [])
  windows-push [] [] blocks bag h s = (s, tt)
  windows-push [] (b ∷ bags) blocks bag h s = absurd h
  windows-push (l ∷ lists) [] blocks bag h s = absurd h
  windows-push (l ∷ lists) (b ∷ bags) blocks bag h s = (h.0, windows-push lists bags blocks bag h.1 s)

-- the blocks that come on the ports are those of the sources
pub fed-all : (job : Job) (w o : ℕ) (left right : List (List Block)) → AreWindows (plan_in job) w left (came_left job w o) → AreWindows (plan_in job) w right (came_right job w o) → IsFedAll job o w left right
fed-all job w o left right l r =
    let node = node_at job.flow.nodes o in
    ports-by node.role (IsFed job w left node.left) (IsFed job w right node.right)
    (port-given (plan_in job) w (reads_left node.role) left (given_in job w node.left) l)
    (port-given (plan_in job) w (reads_right node.role) right (given_in job w node.right) r)

-- no operator reads the sink
sink-not : (role : Role) → role ≢ Sink → is_sink role ≡ false
sink-not (Input kind file per_window) h = refl
sink-not (Inner kind) h = refl
sink-not Sink h = absurd (h refl)

left-source : (role : Role) (left right : ℕ) → reads_left role ≡ true → IsSource (dag.link_by role left right) left
left-source (Input kind file per_window) left right e = absurd (cc e)
left-source (Inner kind) left right e = inl refl
left-source Sink left right e = inl refl

right-source : (role : Role) (left right : ℕ) → reads_right role ≡ true → IsSource (dag.link_by role left right) right
right-source (Input kind file per_window) left right e = absurd (cc e)
right-source (Inner kind) left right e = inr (ap (λ b. cond b (Some right) None) e)
right-source Sink left right e = absurd (cc e)

module _ (nodes : List Node) (graph : IsGraph nodes) (o : ℕ) (there : o < length nodes) where
  feeds : (s : ℕ) → IsSource (dag.sources_of (node_at nodes o)) s → is_sink (node_at nodes s).role ≡ false
  feeds s source =
      sink-not (node_at nodes s).role
      (graph.outputs s o (subst (λ l. IsSource l s) (sym (get_or-map dag.sources_of nodes o _ _ there)) source))

  pub left-no-sink : reads_left (node_at nodes o).role ≡ true → is_sink (node_at nodes (node_at nodes o).left).role ≡ false
  left-no-sink e = feeds (node_at nodes o).left (left-source (node_at nodes o).role (node_at nodes o).left (node_at nodes o).right e)

  pub right-no-sink : reads_right (node_at nodes o).role ≡ true → is_sink (node_at nodes (node_at nodes o).right).role ≡ false
  right-no-sink e = feeds (node_at nodes o).right (right-source (node_at nodes o).role (node_at nodes o).left (node_at nodes o).right e)
