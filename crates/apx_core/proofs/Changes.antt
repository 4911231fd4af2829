-- What is kept fits after each event: on plain values.
use Rattle.std.proofs.Common.{◌≡◌, ℕ, ◌≤◌, List, Option, IsTrue, sym, ap, subst, ◌∙◌, arith}
use Rattle.apx_device.specs.declared.vault.SaveId.{SaveId}
use Rattle.apx_device.specs.Vault.{Entry, entry_at, with_entry}
use Rattle.apx_device.proofs.Lookups.{entry_at-put, entry_at-put_other}
use Rattle.apx_history.specs.Plan.{Plan}
use Rattle.apx_history.specs.State.{Oper, State, oper, slot, put}
use Rattle.apx_history.specs.Effects.{saves, purged}
use Rattle.apx_history.specs.Conditions.{CanSave, CanPurge}
use Rattle.apx_pass.specs.Job.{Job}
use Rattle.apx_job.specs.Job.{plan_of}
use Rattle.apx_held.specs.Holding.{Holding, holding, put_holding, dropped, IsHeld, IsSpelled}
use Rattle.apx_held.specs.Fits.{Telling, Fits, save_id}
use Rattle.apx_held.proofs.Fitting.{held_of, fits_purge, fits_save}

module _ (job : Job) (tells : Telling) (m : State) (hs : List (List Holding)) where
  -- what changes beside the partitions is no matter
  pub fits_same : (at : SaveId → Option (List ℕ)) (n : State) → n.ops ≡ m.ops → Fits job tells at m hs → Fits job tells at n hs
  fits_same at n same fits =
      let P : List Oper → Type 0 = λ ops. Fits job tells at (record { ops = ops; committed = n.committed; stored = n.stored; left = n.left; ended = n.ended; fault = n.fault }) hs in
      subst P (sym same) (record { ops = fits.ops; sizes = fits.sizes; each = fits.each; vault = fits.vault })

  -- Save, where the checkpoint store got the bytes of the partition's progress
  pub saved_fits : (entries entries' : List Entry) (o i w : ℕ) (bytes : List ℕ) (plan : Plan) → CanSave plan m o i w
      → (IsTrue tells.vault → entries' ≡ with_entry entries (save_id o (oper m o).boundary i w) bytes)
      → IsSpelled (holding hs o i) bytes
      → Fits job tells (entry_at entries) m hs → Fits job tells (entry_at entries') (put m o i (saves w (slot m o i))) hs
  saved_fits entries entries' o i w bytes plan can put_is is fits =
      let id = save_id o (oper m o).boundary i w in
      fits_save job tells (entry_at entries) m hs o i fits can.part (entry_at entries') w bytes can.now can.closed can.unsaved
      (λ t. ap (λ (es : List Entry). entry_at es id) (put_is t) ∙ entry_at-put entries id bytes)
      (λ t other differs. ap (λ (es : List Entry). entry_at es other) (put_is t) ∙ entry_at-put_other entries id other bytes differs)
      is

  -- what a purge asks of what is kept
  pub purge_asks : (at : SaveId → Option (List ℕ)) (o i to : ℕ) (plan : Plan) → plan ≡ plan_of job → CanPurge plan m o i to → Fits job tells at m hs
      → IsHeld hs o i × ((holding hs o i).list.floor ≤ to) × (to ≤ (holding hs o i).list.top)
  purge_asks at o i to plan planned can fits =
      let list = (fits.each o i can.part).list (λ e. can.inner (e ∙ sym (ap (λ (p : Plan). p.sink) planned))) in (
        held_of job tells at m hs o i fits can.part,
        let a = list.floor in let b = can.above in omega (arith, a, b),
        let a = list.top in let b = can.within in omega (arith, a, b),
      )

  -- Purge
  pub purged_fits : (at : SaveId → Option (List ℕ)) (o i to : ℕ) (plan : Plan) → CanPurge plan m o i to
      → Fits job tells at m hs → Fits job tells at (put m o i (purged to (slot m o i))) (put_holding hs o i (dropped to (holding hs o i)))
  purged_fits at o i to plan can fits =
      fits_purge job tells at m hs o i fits can.part to (let a = can.above in omega arith) can.within
