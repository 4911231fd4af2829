-- One operator more of an order: what its sources send is there, and what it sends is put to it.
use Rattle.std.proofs.Common.{◌≡◌, ◌≢◌, ℕ, ◌+◌, ◌<◌, ◌≤◌, Bool, true, false, cond, List, [], length, get_or, set, slice_index, refl, sym, ap, subst, ◌∙◌, ◌⊎◌, inl, inr, arith}
use Rattle.apx_dag.specs.Valid.{IsGraph}
use Rattle.apx_pass.specs.Job.{Job}
use Rattle.apx_list.specs.declared.block.Block.{Block}
use Rattle.apx_part.specs.Fed.{plan_in, AreWindows, given_in}
use Rattle.apx_pass.specs.Graph.{Role, node_at, is_sink}
use Rattle.apx_pass.specs.Order.{IsBefore, IsOrder}
use Rattle.apx_pass.specs.Pass.{rows_at, sink_of}
use Rattle.apx_tuple.specs.declared.tuple.Tuple.{Tuple}
use Rattle.apx_blocks.specs.Came.{reads_left, reads_right}
use Rattle.apx_blocks.proofs.Feeding.{ports-of, left-no-sink, right-no-sink}
use Rattle.apx_blocks.proofs.Placing.{before-next, at-set, one-sink, sink-there}

-- what is sent by an operator that isn't the sink
abbrev pub IsSent : Job → ℕ → ℕ → List (List Block) → Type 0
IsSent job w o sent = is_sink (node_at job.flow.nodes o).role ≡ false → AreWindows (plan_in job) w sent (given_in job w o)

module _ (job : Job) (graph : IsGraph job.flow.nodes) (order : List ℕ) (ordered : IsOrder job.flow.nodes order) (w k : ℕ) (within : k < length order) where
  abbrev op : ℕ
  op = slice_index order k

  abbrev role : ℕ → Role
  role o = (node_at job.flow.nodes o).role

  pub there : op < length job.flow.nodes
  there = ordered.known k within

  before-there : (n o : ℕ) → n ≤ length order → IsBefore order n o → o < length job.flow.nodes
  before-there n o l b = let e : b.place < n = b.earlier in subst (λ q. q < length job.flow.nodes) b.is (ordered.known b.place (omega arith))

  -- the rows that reach the sink stay, or are those of the operator
  pub rows-next : (rows : List Tuple) → ((o : ℕ) → IsBefore order k o → is_sink (role o) ≡ true → rows ≡ rows_at job.flow w o) →
      (n : ℕ) → n ≡ k + 1 → (new after : List Tuple) → after ≡ cond (is_sink (role op)) new rows → (is_sink (role op) ≡ true → new ≡ rows_at job.flow w op) →
      (o : ℕ) → IsBefore order n o → is_sink (role o) ≡ true → after ≡ rows_at job.flow w o
  rows-next rows rows-are n e new after a is o b s = a ∙ by (is_sink (role op)) refl (before-next order k o (subst (λ (m : ℕ). IsBefore order m o) e b))
    where
      by : (t : Bool) → is_sink (role op) ≡ t → (o ≡ op) ⊎ IsBefore order k o → cond t new rows ≡ rows_at job.flow w o
      by true t (inl same) = is t ∙ ap (λ (q : ℕ). rows_at job.flow w q) (sym same)
      by true t (inr earlier) =
          is t ∙ ap (λ (q : ℕ). rows_at job.flow w q) (one-sink job.flow.nodes graph op o there (before-there k o (omega arith) earlier) t s)
      by false t (inl same) = absurd (let no : is_sink (role o) ≡ false = ap (λ (q : ℕ). is_sink (role q)) same ∙ t in cc)
      by false t (inr earlier) = rows-are o earlier s

  module _ (sent : List (List (List Block))) (size : length sent ≡ length job.flow.nodes)
      (sent-are : (o : ℕ) → IsBefore order k o → IsSent job w o (get_or sent o [])) where
    source : (s : ℕ) → IsBefore order k s → is_sink (role s) ≡ false → (s < length sent) × AreWindows (plan_in job) w (get_or sent s []) (given_in job w s)
    source s b e = let l = before-there k s (omega arith) b in (omega (arith, l, size), sent-are s b e)

    -- what its sources send is there
    pub left-comes : reads_left (role op) ≡ true → ((node_at job.flow.nodes op).left < length sent)
        × AreWindows (plan_in job) w (get_or sent (node_at job.flow.nodes op).left []) (given_in job w (node_at job.flow.nodes op).left)
    left-comes e =
        source (node_at job.flow.nodes op).left ((ports-of (role op) _ _ (ordered.behind k within)).0 e) (left-no-sink job.flow.nodes graph op there e)

    pub right-comes : reads_right (role op) ≡ true → ((node_at job.flow.nodes op).right < length sent)
        × AreWindows (plan_in job) w (get_or sent (node_at job.flow.nodes op).right []) (given_in job w (node_at job.flow.nodes op).right)
    right-comes e =
        source (node_at job.flow.nodes op).right ((ports-of (role op) _ _ (ordered.behind k within)).1 e) (right-no-sink job.flow.nodes graph op there e)

    -- what it sends is put to it
    pub sent-next : (n : ℕ) → n ≡ k + 1 → (new : List (List Block)) (after : List (List (List Block))) → after ≡ set sent op new → IsSent job w op new →
        (o : ℕ) → IsBefore order n o → IsSent job w o (get_or after o [])
    sent-next n e new after a is o b =
        subst (λ (xs : List (List (List Block))). IsSent job w o (get_or xs o [])) (sym a)
        (at-set (IsSent job w) sent op o new [] (omega (arith, there, size)) is (λ apart. by apart (before-next order k o (subst (λ (m : ℕ). IsBefore order m o) e b))))
      where
        by : o ≢ op → (o ≡ op) ⊎ IsBefore order k o → IsSent job w o (get_or sent o [])
        by apart (inl same) = absurd (apart same)
        by apart (inr earlier) = sent-are o earlier

-- at the end the sink has been gone through
pub sink-rows : (job : Job) → IsGraph job.flow.nodes → (order : List ℕ) → IsOrder job.flow.nodes order → (w n : ℕ) → n ≡ length order → (rows : List Tuple) →
    ((o : ℕ) → IsBefore order n o → is_sink (node_at job.flow.nodes o).role ≡ true → rows ≡ rows_at job.flow w o) → rows ≡ rows_at job.flow w (sink_of job.flow.nodes)
sink-rows job graph order ordered w n e rows h =
    let s = sink-there job.flow.nodes graph in
    h (sink_of job.flow.nodes) (subst (λ (m : ℕ). IsBefore order m (sink_of job.flow.nodes)) (sym e) (ordered.whole (sink_of job.flow.nodes) s.0)) s.1
