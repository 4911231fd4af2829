-- An operator goes on in other partitions: what is kept for them, and the checkpoints that the store has of them.
use Rattle.std.proofs.Common.{◌≡◌, ℕ, ◌+◌, ◌<◌, inl, inr, Bool, List, [], ◌∷◌, ◌++◌, length, length-append, get_or, set, Option, Some, IsTrue, refl, sym, ap, subst, ◌∙◌, arith}
use Rattle.std.proofs.Math.ListN.{get_or-append}
use Rattle.std.proofs.Math.Seq.{get_or-append_seam}
use Rattle.std.proofs.lemmas.Bool.{cases_lt}
use Rattle.apx_device.specs.declared.vault.SaveId.{SaveId}
use Rattle.apx_history.specs.State.{State, fresh}
use Rattle.apx_history.specs.Effects.{meet, split}
use Rattle.apx_pass.specs.Job.{Job}
use Rattle.apx_part.specs.Fed.{plan_in}
use Rattle.apx_pass.specs.Pass.{progress_after}
use Rattle.apx_rules.specs.Parts.{of_parts}
use Rattle.apx_shares.specs.Carried.{cut_progress}
use Rattle.apx_tuple.specs.declared.progress.Progress.{Progress}
use Rattle.apx_held.specs.Fits.{Telling, FitsPart, IsSaved, save_id, Fits}
use Rattle.apx_held.specs.Holding.{Holding, no_holding, empty_list}
use Rattle.apx_held.specs.Partition.{parts_from, progress_at}
use Rattle.apx_held.proofs.Fitting.{list_none}
use Rattle.apx_held.proofs.Renewing.{fits_split}
use Rattle.apx_renew.specs.Renewed.{AreRenewed, KeepRenewed}

-- at each window the partitions of an epoch carry the cuts of what the operator carries
pub carried_cuts : (job : Job) (o b w n : ℕ) → n ≡ parts_from job o b → of_parts n (λ i. progress_at job o b i w) ≡ of_parts n (λ i. cut_progress n i (progress_after job.flow w o))
unfolding progress_at
carried_cuts job o b w n is = subst (λ (k : ℕ). of_parts n (λ i. cut_progress k i (progress_after job.flow w o)) ≡ of_parts n (λ i. cut_progress n i (progress_after job.flow w o))) is refl

module _ (job : Job) (told : Bool) (o b : ℕ) where
  -- what is kept for a partition that begins an epoch
  pub fits_fresh : (i : ℕ) (progress : Progress) → (IsTrue told → progress ≡ progress_at job o b i b) → FitsPart job told o b i (fresh b) (record { state = Some progress; list = empty_list (plan_in job) b })
  fits_fresh i progress is = record { home = λ e. refl; state = is; list = λ n. list_none job told o b i (fresh b) b refl refl }

  -- one partition more
  pub renewed_more : (made : ℕ) (group : List Holding) (h : Holding) → AreRenewed job told o b made group → FitsPart job told o b made (fresh b) h → AreRenewed job told o b (made + 1) (group ++ h ∷ [])
  renewed_more made group h are last = record {
    count = omega (arith, length-append group (h ∷ []), are.count);
    each = λ i lt. elim (cases_lt i made) [
      | inl below ↦ subst (λ (g : Holding). FitsPart job told o b i (fresh b) g) (sym (get_or-append group (h ∷ []) no_holding i (omega (arith, below, are.count)))) (are.each i below)
      | inr behind ↦
          let at_end : i ≡ length group = omega (arith, behind, lt, are.count) in
          let at_made : made ≡ i = omega (arith, at_end, are.count) in
          let e : get_or (group ++ h ∷ []) i no_holding ≡ h = ap (λ (j : ℕ). get_or (group ++ h ∷ []) j no_holding) at_end ∙ get_or-append_seam group h [] no_holding in
          subst (λ (g : Holding). FitsPart job told o b i (fresh b) g) (sym e) (subst (λ (j : ℕ). FitsPart job told o b j (fresh b) h) at_made last)
    ];
  }

  -- one checkpoint more
  pub kept_more : (made : ℕ) (old mid new : SaveId → Option (List ℕ)) → KeepRenewed job told o b made old mid → IsSaved job told o b made b (new (save_id o b made b))
      → ((id : SaveId) → (id ≡ save_id o b made b → ⊥) → new id ≡ mid id) → KeepRenewed job told o b (made + 1) old new
  kept_more made old mid new kept last same = record {
    saved = λ i lt. elim (cases_lt i made) [
      | inl below ↦
          let e : new (save_id o b i b) ≡ mid (save_id o b i b) = same (save_id o b i b) (λ is. (let k : i ≡ made = ap (λ (id : SaveId). id.part) is in omega (arith, below, k))) in
          subst (λ (found : Option (List ℕ)). IsSaved job told o b i b found) (sym e) (kept.saved i below)
      | inr behind ↦
          let at_made : made ≡ i = omega (arith, behind, lt) in
          subst (λ (j : ℕ). IsSaved job told o b j b (new (save_id o b j b))) at_made last
    ];
    others = λ id n. same id (n made (omega arith)) ∙ kept.others id (λ i lt. n i (omega (arith, lt)));
  }

-- none is made at first
pub renewed_none : (job : Job) (told : Bool) (o b : ℕ) → AreRenewed job told o b 0 []
renewed_none job told o b = record { count = refl; each = λ i lt. absurd (omega (arith, lt)) }

pub kept_none : (job : Job) (told : Bool) (o b : ℕ) (old : SaveId → Option (List ℕ)) → KeepRenewed job told o b 0 old old
kept_none job told o b old = record { saved = λ i lt. absurd (omega (arith, lt)); others = λ id n. refl }

-- the operator goes on with all of them
pub fits_renewed : (job : Job) (tells : Telling) (at at' : SaveId → Option (List ℕ)) (m : State) (hs : List (List Holding)) → Fits job tells at m hs → (l o b n : ℕ) → o < length m.ops → (group : List Holding)
    → AreRenewed job tells.all o b n group → (IsTrue tells.vault → KeepRenewed job tells.all o b n at at') → Fits job tells at' (meet l (split o b n m)) (set hs o group)
fits_renewed job tells at at' m hs fits l o b n there group are kept =
    fits_split job tells at at' m hs fits l o b n there group are.count are.each (λ t j lt pos. (kept t).saved j lt) (λ t id ne. (kept t).others id (λ i lt is. ne (ap (λ (d : SaveId). d.op) is)))
