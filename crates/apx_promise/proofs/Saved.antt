-- When a run has ended, the last checkpoints are what must be there, and all that may be there.
use Rattle.std.proofs.Common.{◌≡◌, ℕ, ◌<◌, ◌≤◌, inl, inr, true, ◌==◌, [], ◌∷◌, length, sym, ap, subst, ◌∙◌, arith}
use Rattle.apx_device.specs.declared.vault.SaveId.{SaveId}
use Rattle.apx_history.specs.declared.Event.TheVariants.{End}
use Rattle.apx_history.specs.Plan.{Plan, has, line, splits, number}
use Rattle.apx_history.specs.State.{State, oper, slot, IsPart}
use Rattle.apx_history.specs.Conditions.{CanEnd}
use Rattle.apx_history.specs.Journals.{beginning}
use Rattle.apx_history.specs.Kept.{IsPlan, Kept}
use Rattle.apx_history.proofs.Tests.{both, alike}
use Rattle.apx_history.proofs.Conditions.{equal_at}
use Rattle.apx_history.proofs.Finding.{last_most}
use Rattle.apx_history.proofs.Frames.{some_part}
use Rattle.apx_history.proofs.Legal.{can_facts, fits_parts, after-append, histories-keep}
use Rattle.apx_course.specs.Course.{entry}
use Rattle.apx_promise.specs.Histories.{state_after}
use Rattle.apx_promise.specs.Checkpoints.{reach, IsLastSave, MustBeSaved, MayBeSaved}
use Rattle.apx_promise.specs.Laws.{LastAreSaved}
use Rattle.apx_promise.proofs.Reading.{front_of}
use Rattle.apx_promise.proofs.Saving.{not_more, SplitsAt, reach-le, reach-last, split_at, epoch_of}

-- ---- a state that may end

module _ (plan : Plan) (is : IsPlan plan) (m : State) (kept : Kept plan m) (end : CanEnd plan m) where
  -- no repartition is behind the boundary of its operator
  none_behind : (o k : ℕ) → SplitsAt plan o k → (line plan k).window ≤ (oper m o).boundary
  none_behind o k at = not_more (oper m o).boundary (line plan k).window (λ more.
      let test = both (splits (line plan k).act) ((line plan k).op == o) at.1 in
      let same : (line plan k).op ≡ o = equal_at (line plan k).op o test.1 in
      let left = kept.still k at.0 test.0 (subst (λ p. (oper m p).boundary < (line plan k).window) (sym same) more) in
      absurd (cc (sym left ∙ end.met k)))

  module _ (id : SaveId) (last : IsLastSave plan id) where
    there : id.op < length m.ops
    there = let a = kept.ops in let b = last.of_part.op in omega arith

    -- the epoch is that of the state, or one before it
    not_behind : id.boundary ≤ (oper m id.op).boundary
    not_behind = elim last.of_part.boundary [
      | inl first ↦ omega arith
      | inr split ↦ (let at = split_at plan id.op id.boundary split in let a = none_behind id.op at.0 at.1 in let e = at.2 in omega arith)
    ]

    -- of the state's epoch the checkpoint is saved
    now : id.boundary ≡ (oper m id.op).boundary → MustBeSaved plan m id
    now same =
        let part : IsPart m id.op id.part = (there, (let n = kept.number id.op there in let e = ap (λ b. number plan id.op b) same in let a = last.of_part.part in omega arith)) in
        let saved = (kept.each id.op id.part part).rc_saved in
        let window : (slot m id.op id.part).rc ≡ id.window = end.rc id.op id.part part ∙ sym last.last in
        inl (part, same, subst (λ w. has (slot m id.op id.part).saved w ≡ true) window saved)

    -- an epoch before it was left at the window
    before : id.boundary < (oper m id.op).boundary → MustBeSaved plan m id
    before less = elim (kept.boundary id.op there) [
      | inl first ↦ absurd (omega arith)
      | inr at ↦
          let splits_at : SplitsAt plan id.op at.0 = (at.1, at.2) in
          let window = at.3 in
          let far : reach plan id.op id.boundary ≤ (line plan at.0).window = reach-le plan id.op id.boundary at.0 splits_at (omega arith) in
          let zeroth : IsPart m id.op 0 = (there, some_part plan is m kept id.op there) in
          let sound = kept.each id.op 0 zeroth in
          let since = (sound.saved (slot m id.op 0).rc sound.rc_saved).2 in
          let rc = end.rc id.op 0 zeroth in
          let reached = last.of_part.reached in
          let last_is = last.last in
          let here : (line plan at.0).window ≡ id.window = omega arith in
          inr (
            record {
              by = at.0;
              there = at.1;
              splits = at.2;
              window = here;
              met = end.met at.0;
              epoch = epoch_of plan id.op id.boundary id.window last.of_part.boundary (omega arith) last.of_part.reached;
            },
            last.of_part.part,
            (let c = end.committed in omega arith),
          )
    ]

    must : MustBeSaved plan m id
    must = elim (alike id.boundary (oper m id.op).boundary) [
      | inl same ↦ now same
      | inr other ↦ before (let a = not_behind in omega arith)
    ]

  -- what may be there is after the last window at which checkpoints are made
  may : (id : SaveId) → MayBeSaved plan m.committed id → IsLastSave plan id
  may id h =
      let within = reach-last plan id.op id.boundary in
      let reached = h.of_part.reached in
      let most = last_most plan is plan.windows id.window h.checkpoint (omega arith) in
      let committed = end.committed in
      let least = h.committed in
      record { of_part = h.of_part; last = omega arith; positive = h.positive }

-- ---- a run that has ended

-- what must be there of a state must be there once that has ended
stays_owed : (plan : Plan) (m : State) (id : SaveId) → MustBeSaved plan m id → MustBeSaved plan (record m { ended = true }) id
stays_owed plan m id (inl now) = inl now
stays_owed plan m id (inr left) = inr (
  record { by = left.0.by; there = left.0.there; splits = left.0.splits; window = left.0.window; met = left.0.met; epoch = left.0.epoch },
  left.1,
  left.2,
)

pub last-are-saved : LastAreSaved
last-are-saved plan s c es h end id =
    let begun = front_of plan s c es end.front (entry end.worker End ∷ []) h end.is in
    let m = state_after plan s c end.front in
    let kept = histories-keep plan s c end.front begun.0 in
    let can : CanEnd plan m = can_facts plan m End (fits_parts plan m (entry end.worker End) [] begun.1).0 in
    let same : state_after plan s c es ≡ record m { ended = true } =
    ap (λ xs. state_after plan s c xs) end.is ∙ after-append plan (beginning plan s c) end.front (entry end.worker End ∷ []) in
    subst (λ (n : State). (IsLastSave plan id → MustBeSaved plan n id) × (MayBeSaved plan n.committed id → IsLastSave plan id)) (sym same)
    (λ last. stays_owed plan m id (must plan h.is m kept can id last), may plan h.is m kept can id)
