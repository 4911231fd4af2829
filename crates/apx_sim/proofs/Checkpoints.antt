-- The checkpoints that are there when a run has ended, from what a core knows of its checkpoint store.
use Rattle.std.proofs.Common.{◌≡◌, ℕ, Bool, List, [], map, Option, None, Some, IsTrue, sym, ap, subst, ◌∙◌}
use Rattle.std.specs.Map.{keys_of}
use Rattle.std.specs.Option.{unwrap_or}
use Rattle.apx_device.specs.declared.vault.SaveId.{SaveId}
use Rattle.apx_device.specs.Vault as vault
use Rattle.apx_history.specs.declared.Entry.{Entry}
use Rattle.apx_history.specs.declared.Event.TheVariants.{End}
use Rattle.apx_history.specs.Plan.{Plan}
use Rattle.apx_history.specs.State.{State}
use Rattle.apx_history.specs.Laws.{IsHistory}
use Rattle.apx_statebytes.specs.Spelling.{second_spelling}
use Rattle.apx_job.specs.Job.{plan_of}
use Rattle.apx_course.specs.declared.faults.CoreFault.{CoreFault}
use Rattle.apx_course.specs.Run.{Run}
use Rattle.apx_held.specs.Partition.{progress_at}
use Rattle.apx_held.specs.Fits.{IsSaved}
use Rattle.apx_core.specs.Core.{IsCheckpoint, HasRunSaves}
use Rattle.apx_promise.specs.Histories.{state_after, EndsWith}
use Rattle.apx_promise.specs.Checkpoints.{IsLastSave, last_saves}
use Rattle.apx_promise.specs.Contents.{HasLastSaves}
use Rattle.apx_promise.proofs.Keeping.{last_at_end}
use Rattle.apx_promise.proofs.Saved.{last-are-saved}
use Rattle.apx_promise.proofs.Listing.{listed_keys, last-is-the-list}
use Rattle.apx_sim.specs.Headline.{checkpoint_of, HasCheckpoints}

module _ (run : Run) (es : List Entry) (history : IsHistory run.plan run.stored run.from es) (end : EndsWith End es) (entries : List vault.Entry)
    (saves : HasRunSaves run (state_after run.plan run.stored run.from es) (vault.entry_at entries)) where
  -- the last checkpoints are there
  each_saved : (id : SaveId) → IsLastSave run.plan id → IsSaved run.job run.told id.op id.boundary id.part id.window (vault.entry_at entries id)
  each_saved id last =
      let right = saves.saved id last.positive ((last-are-saved run.plan run.stored run.from es history end id).0 last) in
      subst (λ (found : Option (List ℕ)). IsSaved run.job run.told id.op id.boundary id.part id.window found) (sym right.1) right.2

  module _ (empty : run.entries ≡ []) (ordered : vault.IsInOrder entries) where
    -- and no other where the store began empty
    last_alone : HasLastSaves (IsCheckpoint run) run.plan (vault.entry_at entries)
    last_alone = last_at_end (IsCheckpoint run) run.plan run.stored run.from es (vault.entry_at entries) history end saves.saved (saves.no_more empty)

    -- so it is their list, whatever says their bytes
    list_by : (bytes : SaveId → List ℕ) → ((id : SaveId) (found : List ℕ) → vault.entry_at entries id ≡ Some found → IsCheckpoint run id found → found ≡ bytes id)
        → entries ≡ map (λ (id : SaveId). (id, bytes id)) (last_saves run.plan)
    list_by bytes is = last-is-the-list run.plan bytes entries history.is ordered (record {
      each = λ id last. (let right = last_alone.each id last in (right.0, right.1, is id right.0 right.1 right.2));
      only = λ id found there. (let may = last_alone.only id found there in (may.0, is id found there may.1));
    })

    their_ids : keys_of entries ≡ last_saves run.plan
    their_ids =
        ap keys_of (list_by (λ (id : SaveId). vault.bytes_at entries id) (λ id found there right. sym (ap (λ (o : Option (List ℕ)). unwrap_or o []) there)))
        ∙ listed_keys (λ (id : SaveId). vault.bytes_at entries id) (last_saves run.plan)

    their_bytes : IsTrue run.told → entries ≡ map (checkpoint_of run.job) (last_saves run.plan)
    their_bytes told = list_by (λ (id : SaveId). second_spelling (progress_at run.job id.op id.boundary id.part id.window)) (λ id found there right.
        let same : Some found ≡ Some (second_spelling right.progress) = right.spelled in
        let is : found ≡ second_spelling right.progress = cc in
        is ∙ ap second_spelling (right.named told))

-- what a core that has ended knows of its checkpoint store
pub has_checkpoints : (F : Type 0) (run : Run) (es : List Entry) (fault : Option (CoreFault F)) (vt : Bool) (m : State) (entries : List vault.Entry) → run.plan ≡ plan_of run.job
    → IsHistory run.plan run.stored run.from es → m ≡ state_after run.plan run.stored run.from es → (fault ≡ None → EndsWith End es)
    → (IsTrue vt → vault.IsInOrder entries) → (fault ≡ None → IsTrue vt → HasRunSaves run m (vault.entry_at entries))
    → HasCheckpoints run.job run.told vt fault run.entries entries
has_checkpoints F run es fault vt m entries planned history now ends ordered saves =
    let there : fault ≡ None → IsTrue vt → HasRunSaves run (state_after run.plan run.stored run.from es) (vault.entry_at entries) =
    λ none tells. subst (λ (n : State). HasRunSaves run n (vault.entry_at entries)) now (saves none tells) in
    record {
      each = λ none tells id last. each_saved run es history (ends none) entries (there none tells) id (subst (λ (p : Plan). IsLastSave p id) (sym planned) last);
      only = λ none tells empty. their_ids run es history (ends none) entries (there none tells) empty (ordered tells) ∙ ap last_saves planned;
      exact = λ none tells told empty. their_bytes run es history (ends none) entries (there none tells) empty (ordered tells) told
          ∙ ap (λ (p : Plan). map (checkpoint_of run.job) (last_saves p)) planned;
    }
