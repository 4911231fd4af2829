-- What the events of a run put into its checkpoint store.
use Rattle.std.proofs.Common.{◌≡◌, ℕ, true, List, Some, sym, subst, arith}
use Rattle.apx_device.specs.declared.vault.SaveId.{SaveId}
use Rattle.apx_history.specs.declared.Event.{Event}
use Rattle.apx_history.specs.declared.Event.TheVariants.{Save, Repartition}
use Rattle.apx_history.specs.Plan.{Plan, line, count_or}
use Rattle.apx_history.specs.State.{State, oper}
use Rattle.apx_history.specs.Enabled.{can}
use Rattle.apx_history.specs.Kept.{IsPlan, Kept}
use Rattle.apx_job.specs.Job.{plan_of}
use Rattle.apx_promise.specs.Checkpoints.{MayBeSaved, IsMadeBy}
use Rattle.apx_promise.proofs.Making.{made-may-be}
use Rattle.apx_course.specs.Run.{Run}
use Rattle.apx_held.specs.Fits.{save_id, IsSaved}
use Rattle.apx_stores.specs.Crashes.{IsPut}
use Rattle.apx_reset.specs.Put.{IsRenewal}
use Rattle.apx_core.specs.Crashes.{IsOfRun}

module _ (run : Run) (planned : run.plan ≡ plan_of run.job) (m : State) (is : IsPlan run.plan) (kept : Kept run.plan m) (u : ℕ) where
  -- what an event makes may be put
  made_stands : (e : Event) → can run.plan m e ≡ true → (id : SaveId) (bytes : List ℕ) → IsMadeBy run.plan m e id
      → IsSaved run.job run.told id.op id.boundary id.part id.window (Some bytes) → IsOfRun run.job run.told id bytes
  made_stands e may id bytes made saved =
      let h = made-may-be run.plan m u e is kept may id made in
      record {
        may = subst (λ (p : Plan). MayBeSaved p 0 id) planned
            (record { of_part = h.of_part; checkpoint = h.checkpoint; positive = h.positive; committed = omega arith });
        saved = saved;
      }

  -- a Save
  pub save_stands : (o i w : ℕ) (bytes : List ℕ) → can run.plan m (Save o i w) ≡ true → IsSaved run.job run.told o (oper m o).boundary i w (Some bytes)
      → (id : SaveId) (found : List ℕ) → IsPut (save_id o (oper m o).boundary i w) bytes id found → IsOfRun run.job run.told id found
  save_stands o i w bytes may saved = λ id found put.
      made_stands (Save o i w) may id found put.0
      (subst (λ (d : SaveId). IsSaved run.job run.told d.op d.boundary d.part d.window (Some found)) (sym put.0)
      (subst (λ (b : List ℕ). IsSaved run.job run.told o (oper m o).boundary i w (Some b)) (sym put.1) saved))

  -- a Repartition
  pub renewal_stands : (l : ℕ) → can run.plan m (Repartition l) ≡ true → (id : SaveId) (found : List ℕ)
      → IsRenewal run (line run.plan l).op (line run.plan l).window (count_or 0 (line run.plan l).act) id found → IsOfRun run.job run.told id found
  renewal_stands l may = λ id found put.
      made_stands (Repartition l) may id found (put.part, put.few, put.at)
      (subst (λ (d : SaveId). IsSaved run.job run.told d.op d.boundary d.part d.window (Some found)) (sym put.at) put.saved)
