-- A journal that ends with the end of the run.
use Rattle.std.proofs.Common.{◌≡◌, ℕ, suc, ◌+◌, ◌-◌, true, List, [], ◌∷◌, length, refl, arith}
use Rattle.apx_history.specs.declared.Entry.{Entry}
use Rattle.apx_history.specs.declared.Event.{Event}
use Rattle.apx_history.specs.declared.Event.TheVariants.{End}
use Rattle.apx_history.specs.Plan.{Plan}
use Rattle.apx_history.specs.State.{State}
use Rattle.apx_history.specs.Effects.{next}
use Rattle.apx_history.specs.Journals.{beginning, after}
use Rattle.apx_history.proofs.Once.{ends-well}
use Rattle.apx_audit.specs.declared.audited.AuditEnd.TheVariants.{Ended}
use Rattle.apx_audit.specs.Verdict.{end_by, end_of}
use Rattle.apx_audit.specs.Laws.{EndedIsWhole}

ended_by : (plan : Plan) (m : State) (worker : ℕ) (e : Event) → end_by e ≡ Ended → (next plan m worker e).ended ≡ true
ended_by plan m worker End is = refl
ended_by plan m worker _ is = cc

ended_after : (plan : Plan) (m : State) (es : List Entry) → end_of es ≡ Ended → (after plan m es).ended ≡ true
ended_after plan m [] is = cc
ended_after plan m (e ∷ []) is = ended_by plan m e.worker e.event is
ended_after plan m (e ∷ f ∷ es) is =
    let last : length (e ∷ f ∷ es) - 1 ≡ suc (length (f ∷ es) - 1) = omega arith in
    ended_after plan (next plan m e.worker e.event) (f ∷ es) (rw last at is)

pub ended-is-whole : EndedIsWhole
ended-is-whole plan text es journal is = ends-well plan 0 0 es journal.legal (ended_after plan (beginning plan 0 0) es is)
