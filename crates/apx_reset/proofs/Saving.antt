-- The checkpoints of an operator's partitions that begin an epoch.
use Rattle.std.proofs.Common.{◌≡◌, ℕ, zero, suc, ◌+◌, ◌<◌, Bool, List, [], ◌∷◌, ◌++◌, length, get_or, Option, Some, IsTrue, refl, sym, ap, subst, ◌∙◌, arith}
use Rattle.apx_device.specs.declared.vault.SaveId.{SaveId}
use Rattle.apx_device.specs.Vault.{Entry, entry_at, with_entry}
use Rattle.apx_device.proofs.Lookups.{entry_at-put, entry_at-put_other}
use Rattle.apx_pass.specs.Job.{Job}
use Rattle.apx_statebytes.specs.Spelling.{second_spelling, IsProgress}
use Rattle.apx_tuple.specs.declared.progress.Progress.{Progress}
use Rattle.apx_history.specs.State.{fresh}
use Rattle.apx_list.specs.declared.plan.CutPlan.{CutPlan}
use Rattle.apx_part.specs.Fed.{plan_in}
use Rattle.apx_held.specs.Fits.{FitsPart, save_id}
use Rattle.apx_held.specs.Holding.{Holding, empty_list}
use Rattle.apx_held.specs.Partition.{progress_at}
use Rattle.apx_renew.specs.Renewed.{AreRenewed, KeepRenewed}
use Rattle.apx_renew.proofs.Group.{kept_more, renewed_more, fits_fresh}
use Rattle.apx_course.specs.Run.{Run}
use Rattle.apx_stores.specs.Crashes.{EntriesFollow}
use Rattle.apx_stores.proofs.Crashing.{entries_go_on, entries_weaker}
use Rattle.apx_reset.specs.Put.{IsProgressPut, IsRenewal}
use Rattle.apx_reset.proofs.Killing.{behind}

module _ (job : Job) (told : Bool) (o b : ℕ) where
  -- one checkpoint more
  pub saved_more : (made : ℕ) (old : SaveId → Option (List ℕ)) (entries entries' : List Entry) (g : Progress) → KeepRenewed job told o b made old (entry_at entries)
      → entries' ≡ with_entry entries (save_id o b made b) (second_spelling g) → IsProgress g → (IsTrue told → g ≡ progress_at job o b made b) → KeepRenewed job told o b (made + 1) old (entry_at entries')
  saved_more made old entries entries' g kept put is named =
      kept_more job told o b made old (entry_at entries) (entry_at entries') kept
      (record { progress = g; spelled = ap (λ (es : List Entry). entry_at es (save_id o b made b)) put ∙ entry_at-put entries (save_id o b made b) (second_spelling g); small = is; named = named })
      (λ id differs. ap (λ (es : List Entry). entry_at es id) put ∙ entry_at-put_other entries (save_id o b made b) id (second_spelling g) differs)

-- the id of the checkpoint with which a partition begins the epoch
pub begun_here : (first : SaveId) (n k : ℕ) → first.window ≡ first.boundary → k ≡ n → save_id first.op first.boundary k first.window ≡ save_id first.op first.boundary n first.boundary
begun_here first n k window part =
    ap (λ (w : ℕ). save_id first.op first.boundary k w) window ∙ ap (λ (j : ℕ). save_id first.op first.boundary j first.boundary) part

-- the checkpoint of a partition that begins the epoch is put
pub renewal_put : (run : Run) {V : Type 0} (time : V → ℕ) (left : V → ℕ → List Entry → Type 0) (held : V → List Entry) (first : SaveId) (n k all : ℕ) (g : Progress) (old mid new : V)
    → n < all → first.window ≡ first.boundary → k ≡ n → (IsTrue run.told → g ≡ progress_at run.job first.op first.boundary n first.boundary)
    → EntriesFollow (IsRenewal run first.op first.boundary all) time left held old mid
    → EntriesFollow (IsProgressPut (save_id first.op first.boundary k first.window) g) time left held mid new
    → EntriesFollow (IsRenewal run first.op first.boundary all) time left held old new
renewal_put run time left held first n k all g old mid new few window part named follow put =
    entries_go_on time left held (IsRenewal run first.op first.boundary all) old mid new follow
    (entries_weaker time left held (IsRenewal run first.op first.boundary all) (IsProgressPut (save_id first.op first.boundary k first.window) g)
    (λ id bytes is. record {
      part = n;
      few = few;
      at = is.at ∙ begun_here first n k window part;
      saved = record { progress = g; spelled = ap Some is.bytes; small = is.small; named = named };
    }) mid new put)

-- one partition more
pub one_more : (job : Job) (told : Bool) (o b w made : ℕ) (group all : List Holding) (g : Progress) (h : Holding) (cuts : CutPlan) → AreRenewed job told o b made group → cuts ≡ plan_in job → w ≡ b
    → h ≡ record { state = Some g; list = empty_list cuts w } → all ≡ group ++ h ∷ [] → (IsTrue told → g ≡ progress_at job o b made b) → AreRenewed job told o b (made + 1) all
one_more job told o b w made group all g h cuts are cut window made_is joined named =
    let is : h ≡ behind (plan_in job) b g = made_is ∙ (ap (λ (p : CutPlan). behind p w g) cut ∙ ap (λ (k : ℕ). behind (plan_in job) k g) window) in
    subst (λ (hs : List Holding). AreRenewed job told o b (made + 1) hs) (sym joined)
    (renewed_more job told o b made group h are (subst (λ (x : Holding). FitsPart job told o b made (fresh b) x) (sym is) (fits_fresh job told o b made g named)))

-- of a place that is there the default is no matter
pub any_default : {X : Type 0} (xs : List X) (k : ℕ) (d e : X) → k < length xs → get_or xs k d ≡ get_or xs k e
any_default [] k d e h = absurd (omega arith)
any_default (x ∷ xs) zero d e h = refl
any_default (x ∷ xs) (suc k) d e h = any_default xs k d e (omega arith)
