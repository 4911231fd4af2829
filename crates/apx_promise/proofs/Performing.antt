-- A run that has ended has done all.
use Rattle.std.proofs.Common.{◌≡◌, ℕ, ◌+◌, ◌-◌, Bool, true, false, cond, not, ◌&&◌, ◌==◌, List, [], ◌∷◌, length, refl, ap, subst, ◌∙◌, arith}
use Rattle.std.specs.List.{range_with_len}
use Rattle.apx_history.specs.declared.Entry.{Entry}
use Rattle.apx_history.specs.declared.Event.{Event}
use Rattle.apx_history.specs.declared.Event.TheVariants.{Start, Write, Finish, Save, Advance, Commit, Purge, Kill, Repartition, End, Fault}
use Rattle.apx_history.specs.declared.Act.{Act}
use Rattle.apx_history.specs.declared.Act.TheVariants.{Fails, Splits}
use Rattle.apx_history.specs.Plan.{Plan, line, splits}
use Rattle.apx_history.specs.State.{State}
use Rattle.apx_history.specs.Enabled.{at_act}
use Rattle.apx_history.specs.Effects.{next}
use Rattle.apx_history.specs.Conditions.{Enabled}
use Rattle.apx_history.specs.Journals.{beginning, is_legal, meets, times_met}
use Rattle.apx_history.proofs.Conditions.{equal_at, due_at}
use Rattle.apx_history.proofs.Legal.{can_facts, fits_parts, after-append}
use Rattle.apx_history.proofs.Once.{ends-well}
use Rattle.apx_course.specs.Course.{entry}
use Rattle.apx_promise.specs.Histories.{state_after, windows_stored, times, performs, EndsWith}
use Rattle.apx_promise.specs.Laws.{EndedAreDone}
use Rattle.apx_promise.proofs.Storing.{stores}

-- the act of a kill that is due kills
pub kills_act : (plan : Plan) (m : State) (o w : ℕ) (a : Act) → at_act plan m o w a ≡ true → splits a ≡ false
kills_act plan m o w (Fails point part) h = refl
kills_act plan m o w (Splits count) h = cc

-- a test that holds where a second one does
in_kill : (a b : Bool) → (b ≡ true → a ≡ false) → (not a && b) ≡ b
in_kill true true h = cc (h refl)
in_kill true false h = refl
in_kill false b h = refl

in_split : (a b : Bool) → (b ≡ true → a ≡ true) → (a && b) ≡ b
in_split true b h = refl
in_split false true h = cc (h refl)
in_split false false h = refl

-- an event performs a line exactly where it meets it
performs_is : (plan : Plan) (m : State) (l : ℕ) (e : Event) → Enabled plan m e → performs (line plan l).act l e ≡ meets l e
performs_is plan m l (Start o i w) h = refl
performs_is plan m l (Write w) h = refl
performs_is plan m l (Finish o i w) h = refl
performs_is plan m l (Save o i w) h = refl
performs_is plan m l (Advance o i w) h = refl
performs_is plan m l (Commit w) h = refl
performs_is plan m l (Purge o i w) h = refl
performs_is plan m l (Kill k) h = in_kill (splits (line plan l).act) (k == l)
    (λ s. let e : k ≡ l = equal_at k l s in
    subst (λ j. splits (line plan j).act ≡ false) e (kills_act plan m (line plan k).op (line plan k).window (line plan k).act (due_at plan m k h.due).point))
performs_is plan m l (Repartition k) h = in_split (splits (line plan l).act) (k == l)
    (λ s. let e : k ≡ l = equal_at k l s in subst (λ j. splits (line plan j).act ≡ true) e h.splits)
performs_is plan m l End h = refl
performs_is plan m l (Fault s) h = refl

-- so a line is performed as often as it is met
performed : (plan : Plan) (m : State) (es : List Entry) → is_legal plan m es ≡ true → (l : ℕ) → times (performs (line plan l).act l) es ≡ times_met l es
performed plan m [] h l = refl
performed plan m (e ∷ es) h l =
    let p = fits_parts plan m e es h in
    let a = ap (λ b. cond {A = ℕ} b 1 0) (performs_is plan m l e.event (can_facts plan m e.event p.0)) in
    let b = performed plan (next plan m e.worker e.event) es p.2 l in
    omega arith

-- the last event ends the run
pub ended_after : (plan : Plan) (s c : ℕ) (es : List Entry) → EndsWith End es → (state_after plan s c es).ended ≡ true
ended_after plan s c es end =
    ap (λ xs. (state_after plan s c xs).ended) end.is
    ∙ ap (λ (m : State). m.ended) (after-append plan (beginning plan s c) end.front (entry end.worker End ∷ []))

pub done : EndedAreDone
done plan s c es h end =
    let at_end = ends-well plan s c es h (ended_after plan s c es end) in
    let order = stores plan s c es h in
    let all : length (windows_stored es) ≡ plan.windows - s = (let a = order.up_to in let b = at_end.stored in let d = h.start.stored in omega arith) in
    record {
      at_end = at_end;
      windows = order.in_order ∙ ap (λ n. range_with_len (s + 1) n) all;
      lines = λ l there. performed plan (beginning plan s c) es h.legal l ∙ at_end.once l there;
    }
