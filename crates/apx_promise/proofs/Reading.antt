-- Whatever is read is there.
use Rattle.std.proofs.Common.{◌≡◌, ℕ, true, List, ◌∷◌, ◌++◌, subst, arith}
use Rattle.apx_history.specs.declared.Entry.{Entry}
use Rattle.apx_history.specs.declared.Event.TheVariants.{Start}
use Rattle.apx_history.specs.Plan.{Plan, reads}
use Rattle.apx_history.specs.State.{State, slot, IsPart}
use Rattle.apx_history.specs.Conditions.{CanStart}
use Rattle.apx_history.specs.Journals.{beginning, is_legal}
use Rattle.apx_history.specs.Kept.{Kept}
use Rattle.apx_history.specs.Laws.{IsHistory}
use Rattle.apx_history.proofs.Held.{keeps-needed}
use Rattle.apx_history.proofs.Legal.{can_facts, fits_parts, legal-append, histories-keep}
use Rattle.apx_course.specs.Course.{entry}
use Rattle.apx_promise.specs.Histories.{state_after, HoldsWindow}
use Rattle.apx_promise.specs.Laws.{AllFindWhatTheyRead}

-- a front of a history, and what follows it
pub front_of : (plan : Plan) (s c : ℕ) (es front rest : List Entry) → IsHistory plan s c es → es ≡ front ++ rest →
    IsHistory plan s c front × (is_legal plan (state_after plan s c front) rest ≡ true)
front_of plan s c es front rest h is =
    let whole : is_legal plan (beginning plan s c) (front ++ rest) ≡ true = subst (λ xs. is_legal plan (beginning plan s c) xs ≡ true) is h.legal in
    let parts = legal-append plan (beginning plan s c) front rest whole in
    (record { is = h.is; start = h.start; legal = parts.0 }, parts.1)

-- what a partition reads has the window that it begins
begins_with : (plan : Plan) (m : State) → Kept plan m → (o i w : ℕ) → CanStart plan m o i w → (q j : ℕ) → reads plan o q ≡ true → IsPart m q j →
    HoldsWindow (slot m q j) w
begins_with plan m kept o i w can q j reader there =
    let ordered = kept.ordered o q reader i j can.part there in
    let dropped = ordered.floor in
    let behind = (kept.each o i can.part).rc in
    let is = can.next in
    (omega arith, can.sources q j there reader)

pub finds : AllFindWhatTheyRead
finds plan s c es h = record {
  needed = λ front rest is o i w there need.
      let begun = front_of plan s c es front rest h is in
      let kept = histories-keep plan s c front begun.0 in
      (keeps-needed plan (state_after plan s c front) kept o i w there need, need.1);
  begun = λ front rest worker o i w is q j reader there.
      let begun = front_of plan s c es front (entry worker (Start o i w) ∷ rest) h is in
      let kept = histories-keep plan s c front begun.0 in
      let may = fits_parts plan (state_after plan s c front) (entry worker (Start o i w)) rest begun.1 in
      begins_with plan (state_after plan s c front) kept o i w (can_facts plan (state_after plan s c front) (Start o i w) may.0) q j reader there;
}
