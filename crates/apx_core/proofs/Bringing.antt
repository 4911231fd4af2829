-- What a partition has once it has finished a window.
use Rattle.std.proofs.Common.{◌≡◌, ℕ, ◌+◌, ◌<◌, ◌≤◌, inl, inr, Bool, List, [], length, Option, IsTrue, refl, sym, ap, subst, ◌∙◌, arith}
use Rattle.apx_tuple.specs.declared.tuple.Tuple.{Tuple}
use Rattle.apx_device.specs.declared.vault.SaveId.{SaveId}
use Rattle.apx_history.specs.State.{Slot, State, oper, slot, put}
use Rattle.apx_history.specs.Enabled.{limit}
use Rattle.apx_history.specs.Effects.{finished}
use Rattle.apx_history.specs.Conditions.{CanFinish}
use Rattle.apx_history.specs.Kept.{IsPlan, Kept}
use Rattle.apx_history.proofs.Frames.{in_epoch}
use Rattle.apx_history.proofs.Lines.{limit-start}
use Rattle.apx_history.proofs.Tests.{alike}
use Rattle.apx_list.specs.declared.block.Block.{Block}
use Rattle.apx_list.specs.declared.plan.CutPlan.{CutPlan}
use Rattle.apx_list.specs.Cut.{blocks_of}
use Rattle.apx_list.specs.Listed.{Listed}
use Rattle.apx_list.specs.Window.{SpellWindow}
use Rattle.apx_pass.specs.Pass.{windows, sink_of}
use Rattle.apx_pass.specs.Graph.{Role, Input, Inner, Sink, node_at}
use Rattle.apx_pass.specs.Job.{Job}
use Rattle.apx_job.specs.Job.{plan_of, boundary_of}
use Rattle.apx_shares.specs.Given.{part_progress, part_rows}
use Rattle.apx_part.specs.declared.window.Done.{Done}
use Rattle.apx_part.specs.Fed.{plan_in}
use Rattle.apx_part.specs.Made.{HasBlocks}
use Rattle.apx_dag.specs.Valid.{IsGraph}
use Rattle.apx_held.specs.declared.held.Unnamed.{Unnamed}
use Rattle.apx_held.specs.Holding.{Holding, holding, put_holding, with_blocks, brought, IsHeld, AreNext}
use Rattle.apx_held.specs.Partition.{parts_from, progress_at, tuples_at, blocks_at}
use Rattle.apx_held.specs.Fits.{Telling, FitsList, Fits}
use Rattle.apx_held.proofs.Blocks.{takes_window}
use Rattle.apx_held.proofs.Puts.{held_ops, held_parts}
use Rattle.apx_held.proofs.Fitting.{list_more, fits_finish}
use Rattle.apx_course.specs.Run.{Run}
use Rattle.apx_core.specs.Claim.{Claimed, IsWork}
use Rattle.apx_core.proofs.Graphs.{sink_is, sink_only}
use Rattle.apx_core.proofs.Planned.{windows_are, operators_are, boundary_is}

-- something is kept for a partition, also once that was changed
pub held_put : (hs : List (List Holding)) (o i : ℕ) (h : Holding) → IsHeld hs o i → IsHeld (put_holding hs o i h) o i
held_put hs o i h there = (let a = held_ops hs o i h there in let b = there.0 in omega (arith, a, b), let a = held_parts hs o i h there o in let b = there.1 in omega (arith, a, b))

-- What a window brings to the list of its partition: of the sink no blocks, and of another operator those of its rows.
pub record IsBrought (job : Job) (o w : ℕ) (rows : List Tuple) (blocks : List Block) : Type 0 where
  pub sink : o ≡ sink_of job.flow.nodes → blocks ≡ []
  pub rows_blocks : (o ≡ sink_of job.flow.nodes → ⊥) → blocks ≡ blocks_of (plan_in job) w rows
  pub spelled : (o ≡ sink_of job.flow.nodes → ⊥) → SpellWindow (plan_in job) w blocks rows

-- so does what a partition made
pub brought_by : (job : Job) → IsGraph job.flow.nodes → (o w : ℕ) → o < length job.flow.nodes → (rows : List Tuple) (blocks : List Block)
    → HasBlocks (plan_in job) (node_at job.flow.nodes o).role w rows blocks → IsBrought job o w rows blocks
brought_by job graph o w there rows blocks has = record {
  sink = λ e. none (node_at job.flow.nodes o).role (ap (λ k. (node_at job.flow.nodes k).role) e ∙ sink_is job.flow.nodes graph) has;
  rows_blocks = λ n. (some (node_at job.flow.nodes o).role (λ r. n (sink_only job.flow.nodes graph o there r)) has).0;
  spelled = λ n. (some (node_at job.flow.nodes o).role (λ r. n (sink_only job.flow.nodes graph o there r)) has).1;
}
  where
    none : (role : Role) → role ≡ Sink → HasBlocks (plan_in job) role w rows blocks → blocks ≡ []
    none role e h = subst (λ r. HasBlocks (plan_in job) r w rows blocks) e h

    some : (role : Role) → (role ≡ Sink → ⊥) → HasBlocks (plan_in job) role w rows blocks → (blocks ≡ blocks_of (plan_in job) w rows) × SpellWindow (plan_in job) w blocks rows
    some (Input kind file per_window) n h = h
    some (Inner kind) n h = h
    some Sink n h = absurd (n refl)

module _ (job : Job) (told : Bool) (o b i : ℕ) (x : Slot) (list : Listed Unnamed) (rows : List Tuple) (blocks : List Block)
    (comes : IsBrought job o (x.at + 1) rows blocks) (there : x.at + 1 ≤ windows job.flow)
    (fits : (o ≡ sink_of job.flow.nodes → ⊥) → FitsList job told o b i x list) where
  -- the window's blocks may be appended
  pub brought_next : AreNext list blocks
  brought_next = elim (alike o (sink_of job.flow.nodes)) [
    | inl e ↦ subst (λ (bs : List Block). AreNext list bs) (sym (comes.sink e)) tt
    | inr n ↦ inner n
  ]
    where
      inner : (o ≡ sink_of job.flow.nodes → ⊥) → AreNext list blocks
      inner n =
          let f = fits n in
          let top : list.top + 1 ≡ x.at + 1 = ap (λ (k : ℕ). k + 1) f.top in
          let spell : SpellWindow list.plan (list.top + 1) blocks rows = subst (λ (w : ℕ). SpellWindow list.plan w blocks rows) (sym top)
          (subst (λ (p : CutPlan). SpellWindow p (x.at + 1) blocks rows) (sym f.cut) (comes.spelled n)) in
          let within : list.top + 1 ≤ list.plan.windows = subst (λ (p : CutPlan). list.top + 1 ≤ p.windows) (sym f.cut) (omega (arith, top, there)) in
          (takes_window list blocks rows spell within f.whole).next

  -- and the list has the window then
  pub brought_fits : x.floor ≤ x.at → (IsTrue told → rows ≡ tuples_at job o b i (x.at + 1)) → (o ≡ sink_of job.flow.nodes → ⊥)
      → FitsList job told o b i (finished (x.at + 1) x) (with_blocks list blocks)
  unfolding blocks_at
  brought_fits low named n =
      list_more job told o b i x list blocks rows (fits n) there low (comes.spelled n)
      (λ t. comes.rows_blocks n ∙ ap (λ (bag : List Tuple). blocks_of (plan_in job) (x.at + 1) bag) (named t)) named

-- What a claim's work makes may be brought, and what is kept then fits the state that the finish leaves.
module _ (run : Run) (tells : Telling) (at : SaveId → Option (List ℕ)) (m : State) (hs : List (List Holding)) (c : Claimed) (done : Done)
    (planned : run.plan ≡ plan_of run.job) (graph : IsGraph run.job.flow.nodes) (kept : Kept run.plan m)
    (fits : Fits run.job tells at m hs) (can : CanFinish run.plan m c.op c.part c.window) (work : IsWork run c done) where
  opened : (c.window ≡ (slot m c.op c.part).at + 1) × (c.window ≤ limit run.plan m c.op)
  opened = let o = (kept.each c.op c.part can.part).opened c.window can.opened in (o.0, o.1)

  there : c.window ≤ windows run.job.flow
  there = let a = opened.1 in let b = limit-start c.op run.plan.lines m.left run.plan.windows in let d = windows_are run.plan run.job planned in omega (arith, a, b, d)

  next_there : (slot m c.op c.part).at + 1 ≤ windows run.job.flow
  next_there = let a = opened.0 in omega (arith, a, there)

  comes : IsBrought run.job c.op c.window done.rows done.blocks.items
  comes =
      let op_there : c.op < length run.job.flow.nodes = (let a = can.part.0 in let b = kept.ops in let d = operators_are run.plan run.job planned in omega (arith, a, b, d)) in
      brought_by run.job graph c.op c.window op_there done.rows done.blocks.items work.blocks

  next_comes : IsBrought run.job c.op ((slot m c.op c.part).at + 1) done.rows done.blocks.items
  next_comes = subst (λ (k : ℕ). IsBrought run.job c.op k done.rows done.blocks.items) opened.0 comes

  pub finish_next : AreNext (holding hs c.op c.part).list done.blocks.items
  finish_next = brought_next run.job tells.all c.op (oper m c.op).boundary c.part (slot m c.op c.part) (holding hs c.op c.part).list done.rows done.blocks.items
      next_comes next_there (fits.each c.op c.part can.part).list

  -- the window is one of the epoch that its operator is in
  epoch : IsPlan run.plan → boundary_of run.job c.op c.window ≡ (oper m c.op).boundary
  epoch is =
      let sound = kept.each c.op c.part can.part in
      let base = sound.saved (slot m c.op c.part).rc sound.rc_saved in
      let above : (oper m c.op).boundary < c.window = (let a = base.2 in let b = sound.rc in let d = opened.0 in omega (arith, a, b, d)) in
      sym (boundary_is run.plan run.job planned c.op c.window) ∙ in_epoch run.plan is m kept c.op c.window can.part.0 above opened.1

  pub finish_fits : IsPlan run.plan → (IsTrue tells.all → IsTrue run.told)
      → Fits run.job tells at (put m c.op c.part (finished c.window (slot m c.op c.part))) (put_holding hs c.op c.part (brought done.state done.blocks.items (holding hs c.op c.part)))
  unfolding progress_at tuples_at
  finish_fits is told =
      let next : (slot m c.op c.part).at + 1 ≡ c.window = sym opened.0 in
      let b = (oper m c.op).boundary in
      let x = slot m c.op c.part in
      let state : IsTrue tells.all → done.state ≡ progress_at run.job c.op b c.part (x.at + 1) = λ t.
      (work.part (told t)).progress_is ∙ (ap (λ (e : ℕ). part_progress run.job.flow (parts_from run.job c.op e) c.part c.window c.op) (epoch is)
      ∙ ap (λ (k : ℕ). part_progress run.job.flow (parts_from run.job c.op b) c.part k c.op) (sym next)) in
      let rows : IsTrue tells.all → done.rows ≡ tuples_at run.job c.op b c.part (x.at + 1) = λ t.
      (work.part (told t)).rows_are ∙ (ap (λ (e : ℕ). part_rows run.job.flow (parts_from run.job c.op e) c.part c.window c.op) (epoch is)
      ∙ ap (λ (k : ℕ). part_rows run.job.flow (parts_from run.job c.op b) c.part k c.op) (sym next)) in
      subst (λ (k : ℕ). Fits run.job tells at (put m c.op c.part (finished k x)) (put_holding hs c.op c.part (brought done.state done.blocks.items (holding hs c.op c.part)))) next
      (fits_finish run.job tells at m hs c.op c.part fits can.part done.state done.blocks.items state
      (brought_fits run.job tells.all c.op b c.part x (holding hs c.op c.part).list done.rows done.blocks.items next_comes next_there (fits.each c.op c.part can.part).list
      (kept.each c.op c.part can.part).floor rows))
