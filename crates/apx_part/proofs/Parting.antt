-- Where the blocks of all partitions of its sources come, what is made is the partition's.
use Rattle.std.specs.Prelude.{⊤}
use Rattle.std.proofs.Common.{◌≡◌, ℕ, zero, suc, ◌-◌, ◌≤◌, ◌<◌, Result, Ok, Err, Bool, true, false, cond, List, [], ◌∷◌, ◌++◌, length, slice_index, Option, refl, sym, ap, subst, ◌∙◌, IsTrue, arith}
use Rattle.std.specs.Bool.{MatchBool}
use Rattle.apx_dag.specs.Valid.{IsGraph}
use Rattle.apx_pass.specs.Job.{Job}
use Rattle.apx_job.specs.Job.{IsJob, in_force}
use Rattle.std.specs.Prelude.{IfOk}
use Rattle.apx_list.specs.declared.block.Block.{Block}
use Rattle.apx_tuple.specs.declared.refusal.Short.{Short}
use Rattle.apx_part.specs.declared.window.Done.{Done}
use Rattle.apx_tuple.specs.declared.progress.Progress.{Progress}
use Rattle.apx_tuple.specs.declared.tuple.Tuple.{Tuple}
use Rattle.apx_tuple.specs.Kind.{has_right}
use Rattle.apx_rules.specs.Parts.{cut_bag}
use Rattle.apx_pass.specs.Graph.{Role, Input, Inner, Sink, Node, node_at, is_sink}
use Rattle.apx_pass.specs.Groups as groups
use Rattle.apx_pass.specs.Order.{OfPorts, IsBefore, IsOrder}
use Rattle.apx_pass.specs.Pass.{Passed, gather, pass_role, input_at, progress_after, rows_at}
use Rattle.apx_pass.proofs.Passing.{OfPorts-map}
use Rattle.apx_shares.specs.Given.{unify_of, pass_part, part_progress, part_passed, part_rows}
use Rattle.apx_shares.proofs.Flows.{gives, parts-carry-on, parts-give-all}
use Rattle.apx_part.specs.Fed.{plan_in, AreWindows, given_in, IsFed, IsFedAll}
use Rattle.apx_part.specs.Made.{made_of, IsMade, IsPart}
use Rattle.apx_part.proofs.Forces.{in-force}

-- the operators that an operator reads are there
pub sources-there : (nodes : List Node) (order : List ℕ) → IsOrder nodes order → (o : ℕ) → o < length nodes →
    OfPorts (node_at nodes o).role ((node_at nodes o).left < length nodes) ((node_at nodes o).right < length nodes)
sources-there nodes order ordered o l =
    let at = ordered.whole o l in
    subst (λ q. OfPorts (node_at nodes q).role ((node_at nodes q).left < length nodes) ((node_at nodes q).right < length nodes)) at.is
    (OfPorts-map (node_at nodes (slice_index order at.place)).role _ _ _ _ (known at.place at.earlier) (known at.place at.earlier) (ordered.behind at.place at.earlier))
  where
    known : (k : ℕ) → k < length order → {s : ℕ} → IsBefore order k s → s < length nodes
    known k h b = let e : b.place < k = b.earlier in subst (λ q. q < length nodes) b.is (ordered.known b.place (omega arith))

-- what a partition makes depends on what comes on those ports alone that its operator has
pub pass_part-ports : (n i : ℕ) (role : Role) (app_windows : ℕ) (input : Option groups.Input) (w : ℕ) (progress : Progress) (left left' right right' : List Tuple) →
    OfPorts role (left ≡ left') (right ≡ right') → pass_part n i role app_windows input w progress left right ≡ pass_part n i role app_windows input w progress left' right'
unfolding OfPorts pass_part
pass_part-ports n i (Input kind file per_window) app_windows input w progress left left' right right' h = refl
pass_part-ports n i (Inner kind) app_windows input w progress left left' right right' h =
    let e = none-or-same (has_right kind) h.1 in
    λ j. gather kind app_windows w progress (cut_bag n i (h.0 j)) (cut_bag n i (e j))
  where
    none-or-same : (b : Bool) → MatchBool b (right ≡ right') ⊤ → cond b right [] ≡ cond b right' []
    none-or-same true p = p
    none-or-same false p = refl
pass_part-ports n i Sink app_windows input w progress left left' right right' h = λ j. record { progress = record { state = []; left = []; right = [] }; rows = h j }

-- the sink gives all that reaches it
sink-whole : (n i : ℕ) (role : Role) (app_windows : ℕ) (input : Option groups.Input) (w : ℕ) (progress whole : Progress) (left right : List Tuple) → IsTrue (is_sink role) →
    (pass_part n i role app_windows input w progress left right).rows ≡ (pass_role role app_windows input w whole left right).rows
unfolding pass_part pass_role
sink-whole n i (Input kind file per_window) app_windows input w progress whole left right h = refl
sink-whole n i (Inner kind) app_windows input w progress whole left right h = absurd (cc h)
sink-whole n i Sink app_windows input w progress whole left right h = refl

-- bags that come on the ports, which are those of all partitions of the sources where the operator has the port
record Chosen (role : Role) (L R : List (List Tuple) → Type 0) (E F : List (List Tuple) → Type 0) : Type 0 where
  lefts : List (List Tuple)
  rights : List (List Tuple)
  left : L lefts
  right : R rights
  ports : OfPorts role (E lefts) (F rights)

choose : (role : Role) (L R E F : List (List Tuple) → Type 0) (given given' : List (List Tuple)) →
    OfPorts role (L given × E given) (R given' × F given') → (bags : List (List Tuple)) → L bags → (bags' : List (List Tuple)) → R bags' → Chosen role L R E F
unfolding OfPorts
choose (Input kind file per_window) L R E F given given' h bags l bags' r = record { lefts = bags; rights = bags'; left = l; right = r; ports = tt }
choose (Inner kind) L R E F given given' h bags l bags' r = by (has_right kind) refl h.1
  where
    by : (b : Bool) → has_right kind ≡ b → MatchBool b (R given' × F given') ⊤ → Chosen (Inner kind) L R E F
    by true e p = record { lefts = given; rights = given'; left = h.0.0; right = p.0; ports = (h.0.1, subst (λ c. MatchBool c (F given') ⊤) (sym e) p.1) }
    by false e p = record { lefts = given; rights = bags'; left = h.0.0; right = r; ports = (h.0.1, subst (λ c. MatchBool c (F bags') ⊤) (sym e) tt) }
choose Sink L R E F given given' h bags l bags' r = record { lefts = given; rights = bags'; left = h.0; right = r; ports = h.1 }

both-ports : (role : Role) (A B C D : Type 0) → OfPorts role A B → OfPorts role C D → OfPorts role (A × C) (B × D)
unfolding OfPorts
both-ports (Input kind file per_window) A B C D h k = tt
both-ports (Inner kind) A B C D h k = ((h.0, k.0), by (has_right kind) h.1 k.1)
  where
    by : (b : Bool) → MatchBool b B ⊤ → MatchBool b D ⊤ → MatchBool b (B × D) ⊤
    by true p q = (p, q)
    by false p q = tt
both-ports Sink A B C D h k = (h, k)

module _ (job : Job) (order : List ℕ) (ordered : IsOrder job.flow.nodes order) (graph : IsGraph job.flow.nodes) (accepted : IsJob job) (o i v : ℕ) (there : o < length job.flow.nodes)
    (left right : List (List Block)) where
  abbrev node : Node
  node = node_at job.flow.nodes o

  abbrev n : ℕ
  n = in_force job o (suc v)

  -- what all partitions of a source give is what it gives
  source-gives : (s : ℕ) → s < length job.flow.nodes → unify_of (node_at job.flow.nodes s).role (given_in job (suc v) s) ≡ rows_at job.flow (suc v) s
  source-gives s l = parts-give-all job.flow order ordered (in_force job s (suc v)) (suc v) s l (in-force job accepted graph s (suc v) l).0

  abbrev made : Passed
  made = part_passed job.flow n i (suc v) (part_progress job.flow n i v o) o

  pub part-is : (progress : Progress) → progress ≡ part_progress job.flow n i v o → IsFedAll job o (suc v) left right →
      (bags : List (List Tuple)) → AreWindows (plan_in job) (suc v) left bags → (bags' : List (List Tuple)) → AreWindows (plan_in job) (suc v) right bags' →
      (state : Progress) (rows : List Tuple) (blocks : List Block) →
      ((lefts rights : List (List Tuple)) → AreWindows (plan_in job) (suc v) left lefts → AreWindows (plan_in job) (suc v) right rights →
      IsMade job o (suc v) (made_of job o i (suc v) progress lefts rights) state rows blocks) →
      IsPart job o i (suc v) state rows blocks
  unfolding part_rows
  part-is progress p fed bags l bags' r state rows blocks h =
      let chosen = choose node.role (AreWindows (plan_in job) (suc v) left) (AreWindows (plan_in job) (suc v) right)
      (λ lefts. unify_of (node_at job.flow.nodes node.left).role lefts ≡ rows_at job.flow (suc v) node.left)
      (λ rights. unify_of (node_at job.flow.nodes node.right).role rights ≡ rows_at job.flow (suc v) node.right)
      (given_in job (suc v) node.left) (given_in job (suc v) node.right)
      (both-ports node.role _ _ _ _ fed (OfPorts-map node.role _ _ _ _ (source-gives node.left) (source-gives node.right) (sources-there job.flow.nodes order ordered o there)))
      bags l bags' r in
      let is = h chosen.lefts chosen.rights chosen.left chosen.right in
      let same : made_of job o i (suc v) progress chosen.lefts chosen.rights ≡ made =
      ap (λ (g : Progress). made_of job o i (suc v) g chosen.lefts chosen.rights) p
      ∙ pass_part-ports n i node.role node.app_windows (input_at job.flow o) (suc v) (part_progress job.flow n i v o) _ _ _ _ chosen.ports in
      let rows_are : rows ≡ made.rows = is.rows_are ∙ ap (λ (x : Passed). x.rows) same in
      record {
        progress_is = is.progress_is ∙ ap (λ (x : Passed). x.progress) same ∙ parts-carry-on job.flow order ordered n i v o there;
        rows_are = rows_are;
        whole = λ sink. rows_are
            ∙ sink-whole n i node.role node.app_windows (input_at job.flow o) (suc v) (part_progress job.flow n i v o) (progress_after job.flow v o) (rows_at job.flow (suc v) node.left) (rows_at job.flow (suc v) node.right) sink
            ∙ sym (gives job.flow order ordered v o there);
        blocks_are = is.blocks_are;
      }

-- the same of what a call answers, for a window by its number
pub window-is : (job : Job) (order : List ℕ) → IsOrder job.flow.nodes order → IsGraph job.flow.nodes → IsJob job → (o i w : ℕ) → 1 ≤ w → o < length job.flow.nodes → (left right : List (List Block)) →
    (progress : Progress) → progress ≡ part_progress job.flow (in_force job o w) i (w - 1) o → IsFedAll job o w left right →
    (bags : List (List Tuple)) → AreWindows (plan_in job) w left bags → (bags' : List (List Tuple)) → AreWindows (plan_in job) w right bags' →
    (result : Result Done Short) →
    ((lefts rights : List (List Tuple)) → AreWindows (plan_in job) w left lefts → AreWindows (plan_in job) w right rights →
    IfOk result (λ done. IsMade job o w (made_of job o i w progress lefts rights) done.state done.rows done.blocks.items)) →
    IfOk result (λ done. IsPart job o i w done.state done.rows done.blocks.items)
window-is job order ordered graph accepted o i zero low there left right progress p fed bags l bags' r result h = absurd (omega arith)
window-is job order ordered graph accepted o i (suc v) low there left right progress p fed bags l bags' r (Err short) h = tt
window-is job order ordered graph accepted o i (suc v) low there left right progress p fed bags l bags' r (Ok done) h =
    let before : suc v - 1 ≡ v = omega arith in
    part-is job order ordered graph accepted o i v there left right progress (p ∙ ap (λ k. part_progress job.flow (in_force job o (suc v)) i k o) before) fed bags l bags' r done.state done.rows done.blocks.items h
