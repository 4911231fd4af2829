-- The numbers of a report are what they are said to be.
use Rattle.std.proofs.Common.{◌≡◌, ℕ, ◌+◌, ◌≤◌, max, Bool, true, false, cond, not, List, [], ◌∷◌, set, None, Some, refl, sym, ap, subst, ◌∙◌, arith}
use Rattle.std.specs.Prelude.{count_by, unwrap_or}
use Rattle.std.specs.List.{cons_option, filter_map, last_or}
use Rattle.apx_history.specs.declared.Entry.{Entry}
use Rattle.apx_history.specs.declared.Event.{Event}
use Rattle.apx_history.specs.declared.Event.TheVariants.{Start, Write, Finish, Save, Advance, Commit, Purge, Kill, Repartition, End, Fault}
use Rattle.apx_history.specs.declared.Line.{Line}
use Rattle.apx_history.specs.Plan.{Plan, line, splits}
use Rattle.apx_history.specs.State.{State, is_left, put, map_slots}
use Rattle.apx_history.specs.Effects.{meet, split, next}
use Rattle.apx_history.specs.Conditions.{Enabled, CanEnd}
use Rattle.apx_history.specs.Journals.{beginning, is_legal, after}
use Rattle.apx_history.specs.Kept.{IsPlan, Kept}
use Rattle.apx_history.specs.Laws.{IsHistory}
use Rattle.apx_history.proofs.Conditions.{due_at}
use Rattle.apx_history.proofs.Frames.{line_there}
use Rattle.apx_history.proofs.Legal.{can_facts, fits_parts, after-append, events-keep, kept_start}
use Rattle.apx_course.specs.Course.{entry}
use Rattle.apx_promise.specs.Histories.{state_after, EndsWith}
use Rattle.apx_promise.proofs.Performing.{kills_act}
use Rattle.apx_promise.proofs.Reading.{front_of}
use Rattle.apx_tally.specs.declared.report.Counted.{Counted}
use Rattle.apx_tally.specs.declared.report.Counted.TheVariants.{Writes, Kills, Repartitions}
use Rattle.apx_tally.specs.Report.{counts, commit_in, count_of, committed}
use Rattle.apx_tally.specs.Laws.{ReportsAreTrue, EndedReportsAreWhole}
use Rattle.apx_tally.proofs.Counting.{count_more, left_of, left_all, left_none, left_met}

-- ---- what is stored

written : (plan : Plan) (m : State) (u : ℕ) (e : Event) → Enabled plan m e → m.stored + cond {A = ℕ} (counts Writes e) 1 0 ≡ (next plan m u e).stored
unfolding put map_slots meet split
written plan m u (Start o i w) h = omega arith
written plan m u (Write w) h = sym h.next
written plan m u (Finish o i w) h = omega arith
written plan m u (Save o i w) h = omega arith
written plan m u (Advance o i w) h = omega arith
written plan m u (Commit w) h = omega arith
written plan m u (Purge o i w) h = omega arith
written plan m u (Kill l) h = omega arith
written plan m u (Repartition l) h = omega arith
written plan m u End h = omega arith
written plan m u (Fault s) h = omega arith

all_written : (plan : Plan) (m : State) (es : List Entry) → is_legal plan m es ≡ true → m.stored + count_of Writes es ≡ (after plan m es).stored
all_written plan m [] h = omega arith
all_written plan m (e ∷ es) h =
    let p = fits_parts plan m e es h in
    let one = written plan m e.worker e.event (can_facts plan m e.event p.0) in
    let more = count_more Writes e es in
    let rest = all_written plan (next plan m e.worker e.event) es p.2 in
    omega arith

-- ---- what is committed

-- the windows of the Commits, in order
abbrev commits_of : List Entry → List ℕ
commits_of es = filter_map (λ e. commit_in e.event) es

-- the last of some numbers, or another one
last_of : ℕ → List ℕ → ℕ
last_of n [] = n
last_of n (x ∷ xs) = last_of x xs

last_some : (n : ℕ) (xs : List ℕ) (d : ℕ) → unwrap_or (last_or (Some n) xs) d ≡ last_of n xs
unfolding last_of
last_some n [] d = refl
last_some n (x ∷ xs) d = last_some x xs d

last_none : (xs : List ℕ) (d : ℕ) → unwrap_or (last_or None xs) d ≡ last_of d xs
unfolding last_of
last_none [] d = refl
last_none (x ∷ xs) d = last_some x xs d

commits : (plan : Plan) (m : State) (u : ℕ) (e : Event) (xs : List ℕ) → last_of m.committed (cons_option (commit_in e) xs) ≡ last_of (next plan m u e).committed xs
unfolding put map_slots meet split last_of
commits plan m u (Start o i w) xs = refl
commits plan m u (Write w) xs = refl
commits plan m u (Finish o i w) xs = refl
commits plan m u (Save o i w) xs = refl
commits plan m u (Advance o i w) xs = refl
commits plan m u (Commit w) xs = refl
commits plan m u (Purge o i w) xs = refl
commits plan m u (Kill l) xs = refl
commits plan m u (Repartition l) xs = refl
commits plan m u End xs = refl
commits plan m u (Fault s) xs = refl

all_committed : (plan : Plan) (m : State) (es : List Entry) → last_of m.committed (commits_of es) ≡ (after plan m es).committed
unfolding last_of
all_committed plan m [] = refl
all_committed plan m (e ∷ es) = commits plan m e.worker e.event (commits_of es) ∙ all_committed plan (next plan m e.worker e.event) es

-- what is committed doesn't fall
rises : (plan : Plan) (m : State) (u : ℕ) (e : Event) → Enabled plan m e → m.committed ≤ (next plan m u e).committed
unfolding put map_slots meet split
rises plan m u (Start o i w) h = omega arith
rises plan m u (Write w) h = omega arith
rises plan m u (Finish o i w) h = omega arith
rises plan m u (Save o i w) h = omega arith
rises plan m u (Advance o i w) h = omega arith
rises plan m u (Commit w) h = let a = h.above in omega arith
rises plan m u (Purge o i w) h = omega arith
rises plan m u (Kill l) h = omega arith
rises plan m u (Repartition l) h = omega arith
rises plan m u End h = omega arith
rises plan m u (Fault s) h = omega arith

all_rise : (plan : Plan) (m : State) (es : List Entry) → is_legal plan m es ≡ true → m.committed ≤ (after plan m es).committed
all_rise plan m [] h = omega arith
all_rise plan m (e ∷ es) h =
    let p = fits_parts plan m e es h in
    let one = rises plan m e.worker e.event (can_facts plan m e.event p.0) in
    let rest = all_rise plan (next plan m e.worker e.event) es p.2 in
    omega arith

-- the last of some numbers, where it isn't below another one
greater : (c : ℕ) (xs : List ℕ) → c ≤ last_of c xs → max c (last_of 0 xs) ≡ last_of c xs
unfolding last_of
greater c [] h = omega arith
greater c (x ∷ xs) h = omega arith

pub reports-are-true : ReportsAreTrue
unfolding beginning committed
reports-are-true plan s c es h = record {
  writes = all_written plan (beginning plan s c) es h.legal;
  committed =
      let all = all_committed plan (beginning plan s c) es in
      ap (λ n. max c n) (last_none (commits_of es) 0)
      ∙ greater c (commits_of es) (subst (λ n. c ≤ n) (sym all) (all_rise plan (beginning plan s c) es h.legal)) ∙ all;
}

-- ---- the script

-- the kind of events that meets lines which pass: Kills those that kill, Repartitions those that repartition
abbrev Meets : Counted → (Line → Bool) → Type 0
Meets kind p = (plan : Plan) (m : State) (l : ℕ) → (Enabled plan m (Kill l) → counts kind (Kill l) ≡ p (line plan l)) × (Enabled plan m (Repartition l) → counts kind (Repartition l) ≡ p (line plan l))

kills_meet : Meets Kills (λ l. not (splits l.act))
kills_meet plan m l = (
  λ h. ap not (sym (kills_act plan m (line plan l).op (line plan l).window (line plan l).act (due_at plan m l h.due).point)),
  λ h. ap not (sym h.splits),
)

splits_meet : Meets Repartitions (λ l. splits l.act)
splits_meet plan m l = (
  λ h. sym (kills_act plan m (line plan l).op (line plan l).window (line plan l).act (due_at plan m l h.due).point),
  λ h. sym h.splits,
)

module _ (kind : Counted) (p : Line → Bool) (meets : Meets kind p) (only : (e : Event) → ((l : ℕ) → e ≡ Kill l → ⊥) → ((l : ℕ) → e ≡ Repartition l → ⊥) → counts kind e ≡ false) where
  -- a line that is met is counted
  met : (plan : Plan) (is : IsPlan plan) (m : State) → Kept plan m → (k : ℕ) → is_left m k ≡ true → (b : Bool) → b ≡ p (line plan k) →
      cond {A = ℕ} b 1 0 + left_of p plan.lines (set m.left k false) ≡ left_of p plan.lines m.left
  met plan is m kept k left b e =
      ap (λ c. cond {A = ℕ} c 1 0 + left_of p plan.lines (set m.left k false)) e
      ∙ left_met p plan.lines m.left k (line_there plan is m kept k left) left

  counted : (plan : Plan) (is : IsPlan plan) (m : State) → Kept plan m → (u : ℕ) (e : Event) → Enabled plan m e →
      cond {A = ℕ} (counts kind e) 1 0 + left_of p plan.lines (next plan m u e).left ≡ left_of p plan.lines m.left
  unfolding put map_slots meet split
  counted plan is m kept u (Start o i w) h = ap (λ b. cond {A = ℕ} b 1 0 + left_of p plan.lines m.left) (only (Start o i w) (λ l e. cc) (λ l e. cc)) ∙ omega arith
  counted plan is m kept u (Write w) h = ap (λ b. cond {A = ℕ} b 1 0 + left_of p plan.lines m.left) (only (Write w) (λ l e. cc) (λ l e. cc)) ∙ omega arith
  counted plan is m kept u (Finish o i w) h = ap (λ b. cond {A = ℕ} b 1 0 + left_of p plan.lines m.left) (only (Finish o i w) (λ l e. cc) (λ l e. cc)) ∙ omega arith
  counted plan is m kept u (Save o i w) h = ap (λ b. cond {A = ℕ} b 1 0 + left_of p plan.lines m.left) (only (Save o i w) (λ l e. cc) (λ l e. cc)) ∙ omega arith
  counted plan is m kept u (Advance o i w) h = ap (λ b. cond {A = ℕ} b 1 0 + left_of p plan.lines m.left) (only (Advance o i w) (λ l e. cc) (λ l e. cc)) ∙ omega arith
  counted plan is m kept u (Commit w) h = ap (λ b. cond {A = ℕ} b 1 0 + left_of p plan.lines m.left) (only (Commit w) (λ l e. cc) (λ l e. cc)) ∙ omega arith
  counted plan is m kept u (Purge o i w) h = ap (λ b. cond {A = ℕ} b 1 0 + left_of p plan.lines m.left) (only (Purge o i w) (λ l e. cc) (λ l e. cc)) ∙ omega arith
  counted plan is m kept u (Kill k) h = met plan is m kept k (due_at plan m k h.due).left (counts kind (Kill k)) ((meets plan m k).0 h)
  counted plan is m kept u (Repartition k) h = met plan is m kept k h.left (counts kind (Repartition k)) ((meets plan m k).1 h)
  counted plan is m kept u End h = ap (λ b. cond {A = ℕ} b 1 0 + left_of p plan.lines m.left) (only End (λ l e. cc) (λ l e. cc)) ∙ omega arith
  counted plan is m kept u (Fault s) h = ap (λ b. cond {A = ℕ} b 1 0 + left_of p plan.lines m.left) (only (Fault s) (λ l e. cc) (λ l e. cc)) ∙ omega arith

  all_counted : (plan : Plan) (is : IsPlan plan) (m : State) → Kept plan m → (es : List Entry) → is_legal plan m es ≡ true →
      count_of kind es + left_of p plan.lines (after plan m es).left ≡ left_of p plan.lines m.left
  all_counted plan is m kept [] h = omega arith
  all_counted plan is m kept (e ∷ es) h =
      let f = fits_parts plan m e es h in
      let one = counted plan is m kept e.worker e.event (can_facts plan m e.event f.0) in
      let more = count_more kind e es in
      let rest = all_counted plan is (next plan m e.worker e.event) (events-keep plan m is kept e.worker e.event f.0) es f.2 in
      omega arith

  whole : (plan : Plan) (s c : ℕ) (es : List Entry) → IsHistory plan s c es → ((l : ℕ) → is_left (state_after plan s c es) l ≡ false) →
      count_of kind es ≡ count_by p plan.lines
  unfolding beginning
  whole plan s c es h none =
      let all = all_counted plan h.is (beginning plan s c) (kept_start plan s c h.is h.start) es h.legal in
      let gone = left_none p plan.lines (state_after plan s c es).left none in
      let begun = left_all p plan.lines in
      omega arith

-- a run that has ended has no line left
none_left : (plan : Plan) (s c : ℕ) (es : List Entry) → IsHistory plan s c es → EndsWith End es → (l : ℕ) → is_left (state_after plan s c es) l ≡ false
none_left plan s c es h end l =
    let begun = front_of plan s c es end.front (entry end.worker End ∷ []) h end.is in
    let m = state_after plan s c end.front in
    let can : CanEnd plan m = can_facts plan m End (fits_parts plan m (entry end.worker End) [] begun.1).0 in
    let same : state_after plan s c es ≡ record m { ended = true } =
    ap (λ xs. state_after plan s c xs) end.is ∙ after-append plan (beginning plan s c) end.front (entry end.worker End ∷ []) in
    ap (λ (n : State). is_left n l) same ∙ can.met l

only_kills : (e : Event) → ((l : ℕ) → e ≡ Kill l → ⊥) → ((l : ℕ) → e ≡ Repartition l → ⊥) → counts Kills e ≡ false
only_kills (Start o i w) k r = refl
only_kills (Write w) k r = refl
only_kills (Finish o i w) k r = refl
only_kills (Save o i w) k r = refl
only_kills (Advance o i w) k r = refl
only_kills (Commit w) k r = refl
only_kills (Purge o i w) k r = refl
only_kills (Kill l) k r = absurd (k l refl)
only_kills (Repartition l) k r = refl
only_kills End k r = refl
only_kills (Fault s) k r = refl

only_splits : (e : Event) → ((l : ℕ) → e ≡ Kill l → ⊥) → ((l : ℕ) → e ≡ Repartition l → ⊥) → counts Repartitions e ≡ false
only_splits (Start o i w) k r = refl
only_splits (Write w) k r = refl
only_splits (Finish o i w) k r = refl
only_splits (Save o i w) k r = refl
only_splits (Advance o i w) k r = refl
only_splits (Commit w) k r = refl
only_splits (Purge o i w) k r = refl
only_splits (Kill l) k r = refl
only_splits (Repartition l) k r = absurd (r l refl)
only_splits End k r = refl
only_splits (Fault s) k r = refl

pub ended-reports-are-whole : EndedReportsAreWhole
ended-reports-are-whole plan s c es h end = record {
  kills = whole Kills (λ l. not (splits l.act)) kills_meet only_kills plan s c es h (none_left plan s c es h end);
  repartitions = whole Repartitions (λ l. splits l.act) splits_meet only_splits plan s c es h (none_left plan s c es h end);
}
