-- What the checkpoint store has, from event to event: on plain values.
use Rattle.std.proofs.Common.{◌≡◌, ℕ, true, List, None, Some, refl, sym, ap, subst, ◌∙◌}
use Rattle.apx_device.specs.declared.vault.SaveId.{SaveId}
use Rattle.apx_device.specs.Vault.{Entry, entry_at, with_entry, entries_from}
use Rattle.apx_history.specs.declared.Event.{Event}
use Rattle.apx_history.specs.declared.Event.TheVariants.{Save, Commit, Repartition}
use Rattle.apx_history.specs.Plan.{line, count_or}
use Rattle.apx_history.specs.State.{State, oper}
use Rattle.apx_history.specs.Effects.{next}
use Rattle.apx_history.specs.Enabled.{can}
use Rattle.apx_history.specs.Journals.{beginning}
use Rattle.apx_history.specs.Kept.{IsPlan, Kept}
use Rattle.apx_statebytes.specs.Spelling.{second_spelling}
use Rattle.apx_course.specs.Run.{Run}
use Rattle.apx_held.specs.Fits.{save_id}
use Rattle.apx_renew.specs.Renewed.{KeepRenewed}
use Rattle.apx_promise.specs.Contents.{IsRight, ChangesBy, leaves}
use Rattle.apx_promise.proofs.Keeping.{saved_stays, no_more_stays, saved_at_first}
use Rattle.apx_promise.proofs.Calling.{put_save, drop_commit, unchanged}
use Rattle.apx_core.specs.Core.{IsCheckpoint, HasRunSaves}

-- an event that may come changes what the checkpoint store has as it must
pub record Changes (run : Run) (m : State) (e : Event) (old new : List Entry) : Type 0 where
  pub is : IsPlan run.plan
  pub kept : Kept run.plan m
  pub may : can run.plan m e ≡ true
  pub by : ChangesBy (IsCheckpoint run) run.plan m e (entry_at old) (entry_at new)

module _ (run : Run) where
  -- at first nothing must be there
  pub saves_first : (s : ℕ) (entries : List Entry) → run.entries ≡ entries → HasRunSaves run (beginning run.plan s 0) (entry_at entries)
  saves_first s entries is = record {
    saved = saved_at_first (IsCheckpoint run) run.plan s (entry_at entries);
    no_more = λ empty id bytes there. absurd (let none : None ≡ Some bytes = sym (ap (λ (es : List Entry). entry_at es id) (sym is ∙ empty)) ∙ there in cc);
  }

  -- and from event to event it stays so
  pub saves_next : (m : State) (u : ℕ) (e : Event) (old new : List Entry) → Changes run m e old new → HasRunSaves run m (entry_at old) → HasRunSaves run (next run.plan m u e) (entry_at new)
  saves_next m u e old new change saves = record {
    saved = saved_stays (IsCheckpoint run) run.plan m u e (entry_at old) (entry_at new) change.is change.kept change.may change.by saves.saved;
    no_more = λ empty. no_more_stays (IsCheckpoint run) run.plan m u e (entry_at old) (entry_at new) change.is change.kept change.may change.by (saves.no_more empty);
  }

  module _ (m : State) (is : IsPlan run.plan) (kept : Kept run.plan m) where
    -- most events leave all as it is
    pub left_so : (e : Event) (old new : List Entry) → can run.plan m e ≡ true → leaves e ≡ true → new ≡ old → Changes run m e old new
    left_so e old new may calm same = record {
      is = is;
      kept = kept;
      may = may;
      by = subst (λ (es : List Entry). ChangesBy (IsCheckpoint run) run.plan m e (entry_at old) (entry_at es)) (sym same)
          (unchanged (IsCheckpoint run) run.plan m e (entry_at old) calm);
    }

    -- Save puts the checkpoint of its partition
    pub put_so : (o i w : ℕ) (old new : List Entry) (bytes : List ℕ) → can run.plan m (Save o i w) ≡ true → new ≡ with_entry old (save_id o (oper m o).boundary i w) bytes
        → IsCheckpoint run (save_id o (oper m o).boundary i w) bytes → Changes run m (Save o i w) old new
    put_so o i w old new bytes may put_is right = record {
      is = is;
      kept = kept;
      may = may;
      by = subst (λ (es : List Entry). ChangesBy (IsCheckpoint run) run.plan m (Save o i w) (entry_at old) (entry_at es)) (sym put_is)
          (put_save (IsCheckpoint run) run.plan m old o i w bytes right);
    }

    -- Commit drops what is below its window
    pub dropped_so : (w : ℕ) (old new : List Entry) → can run.plan m (Commit w) ≡ true → new ≡ entries_from old w → Changes run m (Commit w) old new
    dropped_so w old new may dropped = record {
      is = is;
      kept = kept;
      may = may;
      by = subst (λ (es : List Entry). ChangesBy (IsCheckpoint run) run.plan m (Commit w) (entry_at old) (entry_at es)) (sym dropped)
          (drop_commit (IsCheckpoint run) run.plan m old w);
    }

    -- Repartition puts the checkpoint of each new partition
    pub renewed_so : (l : ℕ) (old new : List Entry) → can run.plan m (Repartition l) ≡ true
        → KeepRenewed run.job run.told (line run.plan l).op (line run.plan l).window (count_or 0 (line run.plan l).act) (entry_at old) (entry_at new)
        → Changes run m (Repartition l) old new
    renewed_so l old new may renewed = record {
      is = is;
      kept = kept;
      may = may;
      by = record {
        made = λ id made.
            let s = renewed.saved made.0 made.1 in
            subst (λ (x : SaveId). IsRight (IsCheckpoint run) x (entry_at new x)) (sym made.2)
            (second_spelling s.progress, s.spelled, record { progress = s.progress; spelled = refl; small = s.small; named = s.named });
        dropped = λ id none. cc;
        rest = λ id unmade stays. renewed.others id (λ i low same. unmade (i, low, same));
      };
    }
