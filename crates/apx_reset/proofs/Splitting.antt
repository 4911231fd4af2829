-- What an operator carried, in the partitions of one epoch and of the next.
use Rattle.std.proofs.Common.{◌≡◌, ℕ, zero, suc, ◌<◌, ◌≤◌, inl, inr, Bool, true, List, length, get_or, Option, sym, ap, subst, ◌∙◌, arith}
use Rattle.std.proofs.lemmas.List.FromFn.{get_or-map-range_with_len, length-map-range_with_len}
use Rattle.apx_device.specs.declared.vault.SaveId.{SaveId}
use Rattle.apx_device.specs.Vault.{Entry, entry_at}
use Rattle.apx_history.specs.declared.Act.{Act}
use Rattle.apx_history.specs.declared.Act.TheVariants.{Fails, Splits}
use Rattle.apx_history.specs.declared.Event.TheVariants.{Repartition}
use Rattle.apx_history.specs.Plan.{Plan, has, line, splits, count_or, number}
use Rattle.apx_history.specs.State.{State, oper, parts, slot}
use Rattle.apx_history.specs.Enabled.{can}
use Rattle.apx_history.specs.Kept.{IsAct, IsPlan, Kept}
use Rattle.apx_history.specs.Conditions.{CanRepartition}
use Rattle.apx_history.proofs.Frames.{line_there, op_there, some_part}
use Rattle.apx_history.proofs.Legal.{can_facts}
use Rattle.apx_machine.specs.Small.{IsSmall}
use Rattle.apx_machine.proofs.Few.{parts_few}
use Rattle.apx_pass.specs.Large.{IsLargeDataflow}
use Rattle.apx_pass.specs.Pass.{Dataflow, at_start, progress_after, windows}
use Rattle.apx_pass.specs.Job.{Job}
use Rattle.apx_rules.specs.Parts.{of_parts}
use Rattle.apx_shares.specs.Carried.{cut_progress, merge_progress}
use Rattle.apx_shares.specs.Laws.{IsOrdered}
use Rattle.apx_shares.proofs.Merging.{cuts-merge}
use Rattle.apx_shares.proofs.Ordered.{carried-is-ordered}
use Rattle.apx_tuple.specs.declared.progress.Progress.{Progress}
use Rattle.apx_tuple.specs.Progress.{IsLargeProgress}
use Rattle.apx_held.specs.Fits.{save_id, IsSaved, AreSaved}
use Rattle.apx_held.specs.Holding.{Holding}
use Rattle.apx_held.specs.Partition.{parts_from, progress_at}
use Rattle.apx_renew.specs.Owned.{owned_of, repartitioned}
use Rattle.apx_renew.specs.Renewed.{AreRenewed, KeepRenewed}
use Rattle.apx_renew.proofs.Group.{carried_cuts}
use Rattle.apx_renew.proofs.Splitting.{owned_cuts}
use Rattle.apx_reset.proofs.Planned.{split_number}

-- what the partitions of an epoch carried are cuts of what the operator carried
pub were_cuts : (job : Job) (o b w n : ℕ) (parts : List Progress) → n ≡ parts_from job o b → length parts ≡ n → parts ≡ of_parts n (λ i. progress_at job o b i w)
    → parts ≡ of_parts (length parts) (λ i. cut_progress (length parts) i (progress_after job.flow w o))
were_cuts job o b w n parts force count is =
    subst (λ (k : ℕ). parts ≡ of_parts k (λ i. cut_progress k i (progress_after job.flow w o))) (sym count) (is ∙ carried_cuts job o b w n force)

-- its cuts are what the partitions of the next epoch carry
pub are_cuts : (job : Job) (o b w n : ℕ) (cuts : List Progress) → n ≡ parts_from job o b → cuts ≡ of_parts n (λ i. cut_progress n i (progress_after job.flow w o))
    → (i : ℕ) → i < n → get_or cuts i at_start ≡ progress_at job o b i w
are_cuts job o b w n cuts force is i lt =
    ap (λ (gs : List Progress). get_or gs i at_start) (is ∙ sym (carried_cuts job o b w n force))
    ∙ get_or-map-range_with_len (λ (j : ℕ). progress_at job o b j w) 0 n i i at_start lt (omega arith)

-- each partition of an operator that may be repartitioned has a checkpoint at the line's window
pub saved_rests : (job : Job) (told : Bool) (at : SaveId → Option (List ℕ)) (plan : Plan) (m : State) (l : ℕ) → Kept plan m → CanRepartition plan m l → AreSaved job told at m
    → (line plan l).op < length m.ops → (i : ℕ) → i < parts m (line plan l).op → 0 < (line plan l).window
    → IsSaved job told (line plan l).op (oper m (line plan l).op).boundary i (line plan l).window (at (save_id (line plan l).op (oper m (line plan l).op).boundary i (line plan l).window))
saved_rests job told at plan m l kept can saved there i lt pos =
    let o = (line plan l).op in
    let w = (line plan l).window in
    saved o i (there, lt) w pos (subst (λ (k : ℕ). has (slot m o i).saved k ≡ true) (can.rests i lt).0 (kept.each o i (there, lt)).rc_saved)

-- ---- what is known where a line may repartition its operator

module _ (plan : Plan) (m : State) (l : ℕ) (is : IsPlan plan) (kept : Kept plan m) (may : can plan m (Repartition l) ≡ true) where
  can_split : CanRepartition plan m l
  can_split = can_facts plan m (Repartition l) may

  line_here : l < length plan.lines
  line_here = line_there plan is m kept l can_split.left

  pub split_there : (line plan l).op < length m.ops
  split_there = op_there plan is m kept l line_here

  pub split_some : 1 ≤ parts m (line plan l).op
  split_some = some_part plan is m kept (line plan l).op split_there

  pub split_few : IsSmall plan → parts m (line plan l).op ≤ 8
  split_few small = parts_few plan m small kept (line plan l).op split_there

  pub split_low : 1 ≤ count_or 0 (line plan l).act
  split_low = by (line plan l).act can_split.splits (is.act l line_here)
    where
      by : (a : Act) → splits a ≡ true → IsAct plan (line plan l).op (line plan l).window a → 1 ≤ count_or 0 a
      by (Splits count) s h = h.2
      by (Fails point part) s h = cc

  pub split_was : parts m (line plan l).op ≡ number plan (line plan l).op (oper m (line plan l).op).boundary
  split_was = kept.number (line plan l).op split_there

  pub split_is : count_or 0 (line plan l).act ≡ number plan (line plan l).op (line plan l).window
  split_is = sym (split_number plan is l line_here can_split.splits)

  pub split_within : (line plan l).window ≤ plan.windows
  split_within = (is.window l line_here).1

-- ---- what is renewed

-- there are as many as the operator goes on with
pub renewed_count : (parts cuts : List Progress) (n : ℕ) → cuts ≡ repartitioned parts n → length cuts ≡ n
renewed_count parts cuts n is = ap (λ (gs : List Progress). length gs) is ∙ length-map-range_with_len (λ (i : ℕ). cut_progress n i (merge_progress (owned_of parts))) 0 n

-- what is kept under the ids of an epoch, by the id of its first partition
pub kept_from : (job : Job) (told : Bool) (first : SaveId) (o w k n : ℕ) (entries before after : List Entry) → first ≡ save_id o w 0 w → k ≡ n → before ≡ entries
    → KeepRenewed job told first.op first.boundary k (entry_at before) (entry_at after) → KeepRenewed job told o w n (entry_at entries) (entry_at after)
kept_from job told first o w k n entries before after is count same kept =
    subst (λ (es : List Entry). KeepRenewed job told o w n (entry_at es) (entry_at after)) same
    (subst (λ (j : ℕ). KeepRenewed job told o w j (entry_at before) (entry_at after)) count
    (subst (λ (d : SaveId). KeepRenewed job told d.op d.boundary k (entry_at before) (entry_at after)) is kept))

-- what is kept for the partitions of an epoch, by the id of its first partition
pub group_from : (job : Job) (told : Bool) (first : SaveId) (o w k n : ℕ) (group : List Holding) → first ≡ save_id o w 0 w → k ≡ n → AreRenewed job told first.op first.boundary k group → AreRenewed job told o w n group
group_from job told first o w k n group is count are =
    subst (λ (j : ℕ). AreRenewed job told o w j group) count (subst (λ (d : SaveId). AreRenewed job told d.op d.boundary k group) is are)

-- what comes of the checkpoints of one epoch is what the partitions of the next begin with
pub moved_carried : (job : Job) (o b w from to : ℕ) (last first : SaveId) (parts cuts : List Progress) → last ≡ save_id o b 0 w → first ≡ save_id o w 0 w → from ≡ parts_from job o b → to ≡ parts_from job o w
    → length parts ≡ from → parts ≡ of_parts from (λ i. progress_at job last.op last.boundary i last.window)
    → ((g : Progress) → IsOrdered g → parts ≡ of_parts (length parts) (λ i. cut_progress (length parts) i g) → cuts ≡ of_parts to (λ i. cut_progress to i g))
    → (i : ℕ) → i < to → get_or cuts i at_start ≡ progress_at job first.op first.boundary i first.window
moved_carried job o b w from to last first parts cuts last_is first_is was is count carried whole i lt =
    let carried' : parts ≡ of_parts from (λ j. progress_at job o b j w) = carried ∙ ap (λ (d : SaveId). of_parts from (λ j. progress_at job d.op d.boundary j d.window)) last_is in
    let moved = whole (progress_after job.flow w o) (carried-is-ordered job.flow w o) (were_cuts job o b w from parts was count carried') in
    are_cuts job o w w to cuts is moved i lt ∙ ap (λ (d : SaveId). progress_at job d.op d.boundary i d.window) (sym first_is)

-- ---- what is too large

-- what an operator carries from a window of the dataflow is too large only where that is
pub carried_large : (flow : Dataflow) (v o : ℕ) → v ≤ windows flow → o < length flow.nodes → IsLargeProgress (progress_after flow v o) → IsLargeDataflow flow
unfolding progress_after
carried_large flow zero o within there h = absurd (omega (arith, h))
carried_large flow (suc u) o within there h = record { passed = u; within = omega (arith, within); operator = o; there = there; is = record { is = inr (inr (inl h)) } }

-- so is what comes of the checkpoints of all partitions of an epoch
pub moved_large : (job : Job) (o b w from : ℕ) (last : SaveId) (parts : List Progress) → last ≡ save_id o b 0 w → from ≡ parts_from job o b → length parts ≡ from → 1 ≤ from
    → parts ≡ of_parts from (λ i. progress_at job last.op last.boundary i last.window) → w ≤ windows job.flow → o < length job.flow.nodes
    → IsLargeProgress (merge_progress (owned_of parts)) → IsLargeDataflow job.flow
moved_large job o b w from last parts last_is was count some carried within there large =
    let carried' : parts ≡ of_parts from (λ j. progress_at job o b j w) = carried ∙ ap (λ (d : SaveId). of_parts from (λ j. progress_at job d.op d.boundary j d.window)) last_is in
    let g = progress_after job.flow w o in
    let whole : merge_progress (owned_of parts) ≡ g = ap merge_progress (owned_cuts parts g (were_cuts job o b w from parts was count carried')) ∙ cuts-merge (length parts) (omega (arith, count, some)) g (carried-is-ordered job.flow w o) in
    carried_large job.flow w o within there (subst (λ (x : Progress). IsLargeProgress x) whole large)
