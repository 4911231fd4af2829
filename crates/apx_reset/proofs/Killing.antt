-- A tree goes back, one partition after the other.
use Rattle.std.proofs.Common.{◌≡◌, ℕ, ◌+◌, Bool, true, List, length, Some, IsTrue, sym, ap, subst, ◌∙◌}
use Rattle.apx_device.specs.Vault.{Entry, entry_at}
use Rattle.apx_history.specs.Plan.{Plan}
use Rattle.apx_history.specs.State.{State, oper, slot, IsPart}
use Rattle.apx_history.specs.Enabled.{in_tree}
use Rattle.apx_history.specs.Effects.{next}
use Rattle.apx_history.specs.declared.Event.TheVariants.{Kill}
use Rattle.apx_list.specs.declared.plan.CutPlan.{CutPlan}
use Rattle.apx_pass.specs.Job.{Job}
use Rattle.apx_part.specs.Fed.{plan_in}
use Rattle.apx_tuple.specs.declared.progress.Progress.{Progress}
use Rattle.apx_course.specs.Run.{Run}
use Rattle.apx_held.specs.Holding.{Holding, put_holding, empty_list}
use Rattle.apx_held.specs.Partition.{progress_at}
use Rattle.apx_held.specs.Partly.{Partly}
use Rattle.apx_held.proofs.Mapping.{partly_reset, fits_kill}
use Rattle.apx_reset.specs.Kept.{FitsRun}

-- what is kept for a partition that begins behind a window
abbrev pub behind : CutPlan → ℕ → Progress → Holding
behind cuts w progress = record { state = Some progress; list = empty_list cuts w }

-- the next one is put back behind its recovery checkpoint
pub reset_here : (job : Job) (told : Bool) (plan : Plan) (m : State) (l o i w : ℕ) (hs gs : List (List Holding)) (progress : Progress) (held : Holding) (cuts : CutPlan) → Partly job told plan m l o i hs → IsPart m o i
    → in_tree plan l o i ≡ true → w ≡ (slot m o i).rc → cuts ≡ plan_in job → held ≡ behind cuts w progress → gs ≡ put_holding hs o i held
    → (IsTrue told → progress ≡ progress_at job o (oper m o).boundary i w) → Partly job told plan m l o (i + 1) gs
reset_here job told plan m l o i w hs gs progress held cuts partly part inside at cut made put carried =
    let is : held ≡ behind (plan_in job) (slot m o i).rc progress = made ∙ ap (λ (p : CutPlan). behind p w progress) cut ∙ ap (λ (k : ℕ). behind (plan_in job) k progress) at in
    subst (λ (k : List (List Holding)). Partly job told plan m l o (i + 1) k) (sym (put ∙ ap (λ (x : Holding). put_holding hs o i x) is))
    (partly_reset job (record { all = told; vault = told }) plan m l o i hs progress partly part (λ t. carried t ∙ ap (λ (k : ℕ). progress_at job o (oper m o).boundary i k) at) inside)

-- the whole tree is back
pub tree_back : (run : Run) (vault : Bool) (entries entries' : List Entry) (m : State) (hs gs : List (List Holding)) (u l n : ℕ) → FitsRun run vault entries m hs → Partly run.job run.told run.plan m l n 0 gs
    → n ≡ length m.ops → (IsTrue vault → entries' ≡ entries) → FitsRun run vault entries' (next run.plan m u (Kill l)) gs
tree_back run vault entries entries' m hs gs u l n fits partly all same =
    fits_kill run.job (record { all = run.told; vault = vault }) run.plan m l n (entry_at entries) (entry_at entries') hs gs fits partly all (λ t id. ap (λ (es : List Entry). entry_at es id) (same t))
