-- A claim whose partition has its window open for its worker: the worker may end the window, and of the sink store it.
use Rattle.std.proofs.Common.{◌≡◌, ℕ, ◌<◌, inl, inr, true, false, ◌&&◌, ◌==◌, Option, None, Some, IsTrue, refl, sym, ap, subst, ◌∙◌}
use Rattle.std.proofs.lemmas.Bool.{cases_lt, eq-eqb}
use Rattle.std.proofs.lemmas.List.{get_or_past}
use Rattle.apx_history.specs.declared.Event.TheVariants.{Write, Finish, Kill}
use Rattle.apx_history.specs.declared.Act.{Act}
use Rattle.apx_history.specs.declared.Act.TheVariants.{Fails, Splits}
use Rattle.apx_history.specs.Plan.{Plan, line, fails_part}
use Rattle.apx_history.specs.State.{Slot, State, fresh, oper, parts, slot, open_worker}
use Rattle.apx_history.specs.Journals.{owed, owed_act, bears}
use Rattle.apx_history.specs.Conditions.{CanWrite}
use Rattle.apx_history.specs.Kept.{IsPlan, Kept}
use Rattle.apx_history.proofs.Conditions.{equal_at}
use Rattle.apx_history.proofs.Frames.{sink_part}
use Rattle.apx_history.proofs.Tests.{both}
use Rattle.apx_pass.specs.Graph.{Sink, node_at, is_sink}
use Rattle.apx_pass.specs.Pass.{rows_at, sink_of}
use Rattle.apx_job.specs.Job.{plan_of}
use Rattle.apx_dag.specs.Valid.{IsGraph}
use Rattle.apx_part.specs.declared.window.Done.{Done}
use Rattle.apx_course.specs.Run.{Run}
use Rattle.apx_core.specs.Claim.{Claimed, IsOpenFor, TakesClaim, IsWork}
use Rattle.apx_core.proofs.Graphs.{sink_is}

-- what is open is there
open_there : (m : State) (o i : ℕ) (v : ℕ × ℕ) → (slot m o i).opened ≡ Some v → i < parts m o
open_there m o i v opened = elim (cases_lt i (parts m o)) [
  | inl lt ↦ lt
  | inr ge ↦ absurd (let e : None ≡ Some v = sym (ap (λ (x : Slot). x.opened) (get_or_past (oper m o).parts i (fresh 0) ge)) ∙ opened in cc)
]

module _ (plan : Plan) (m : State) (c : Claimed) (opened : IsOpenFor m c) where
  -- who began a window may end it
  pub finish_bears : bears (owed plan m (Finish c.op c.part c.window)) c.worker ≡ true
  finish_bears = ap (λ (x : Option (ℕ × ℕ)). bears (open_worker x) c.worker) opened ∙ eq-eqb c.worker c.worker refl

  -- and of the sink store it
  pub write_bears : IsPlan plan → Kept plan m → CanWrite plan m c.window → c.op ≡ plan.sink → bears (owed plan m (Write c.window)) c.worker ≡ true
  write_bears is kept can sink =
      let at_sink : (slot m plan.sink c.part).opened ≡ Some (c.window, c.worker) = subst (λ (o : ℕ). (slot m o c.part).opened ≡ Some (c.window, c.worker)) sink opened in
      let one : c.part ≡ 0 = sink_part plan is m kept c.part (can.part.0, open_there m plan.sink c.part (c.window, c.worker) at_sink) in
      let first : (slot m plan.sink 0).opened ≡ Some (c.window, c.worker) = subst (λ (i : ℕ). (slot m plan.sink i).opened ≡ Some (c.window, c.worker)) one at_sink in
      ap (λ (x : Option (ℕ × ℕ)). bears (open_worker x) c.worker) first ∙ eq-eqb c.worker c.worker refl

-- what the sink makes of a window is what the one pass stores of it
pub work_rows : (run : Run) (c : Claimed) (done : Done) → run.plan ≡ plan_of run.job → IsGraph run.job.flow.nodes → c.op ≡ run.plan.sink → IsWork run c done → IsTrue run.told
    → done.rows ≡ rows_at run.job.flow c.window (sink_of run.job.flow.nodes)
work_rows run c done planned graph sink work t =
    let nodes = run.job.flow.nodes in
    let at : c.op ≡ sink_of nodes = sink ∙ ap (λ (p : Plan). p.sink) planned in
    let role : (node_at nodes c.op).role ≡ Sink = ap (λ (o : ℕ). (node_at nodes o).role) at ∙ sink_is nodes graph in
    (work.part t).whole (ap is_sink role) ∙ ap (λ (o : ℕ). rows_at run.job.flow c.window o) at

-- a claim with these numbers
abbrev pub numbered : ℕ → ℕ → ℕ → Claimed → Claimed
numbered o i w c = record { op = o; part = i; window = w; worker = c.worker; state = c.state; left = c.left; right = c.right }

-- what was made of a claim's window, by the claim's numbers
pub work_at : (run : Run) (c : Claimed) (done : Done) (o i w : ℕ) → o ≡ c.op → i ≡ c.part → w ≡ c.window → IsWork run c done → IsWork run (numbered o i w c) done
work_at run c done o i w eo ei ew work =
    subst (λ (k : ℕ). IsWork run (numbered k i w c) done) (sym eo)
    (subst (λ (k : ℕ). IsWork run (numbered c.op k w c) done) (sym ei)
    (subst (λ (k : ℕ). IsWork run (numbered c.op c.part k c) done) (sym ew) work))

-- who takes the claim of an open partition may kill it, and anybody a closed one
pub kill_bears : (plan : Plan) (m : State) (l u : ℕ) (claim : Option Claimed) → TakesClaim plan m l u claim → bears (owed plan m (Kill l)) u ≡ true
kill_bears plan m l u None takes = ap (λ (x : Option ℕ). bears x u) takes.none
kill_bears plan m l u (Some c) takes = by (line plan l).op (line plan l).act takes.taken.0
  where
    by : (o : ℕ) (a : Act) → (o == c.op && fails_part c.part a) ≡ true → bears (owed_act m o a) u ≡ true
    by o (Splits count) h = let b = both (o == c.op) false h in absurd (let e : false ≡ true = b.1 in cc)
    by o (Fails point part) h =
        let b = both (o == c.op) (part == c.part) h in
        subst (λ (p : ℕ). bears (open_worker (slot m p part).opened) u ≡ true) (sym (equal_at o c.op b.0))
        (subst (λ (i : ℕ). bears (open_worker (slot m c.op i).opened) u ≡ true) (sym (equal_at part c.part b.1))
        (ap (λ (x : Option (ℕ × ℕ)). bears (open_worker x) u) takes.taken.1 ∙ eq-eqb c.worker u takes.taken.2))
