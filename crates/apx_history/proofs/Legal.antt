-- Every event, and so every history, keeps what every state keeps.
use Rattle.std.proofs.Common.{◌≡◌, ℕ, zero, suc, ◌+◌, ◌<◌, ◌≤◌, ◌⊎◌, inl, inr, Bool, true, false, cond, not, ◌&&◌, ◌||◌, ◌==◌, List, [], ◌∷◌, ◌++◌, length, map, replicate, get_or, refl, sym, ap, subst, ◌∙◌, arith, Option, None, Some}
use Rattle.std.proofs.Math.ListN.{length-replicate, get_or-map}
use Rattle.std.proofs.lemmas.List.{length-map}
use Rattle.apx_history.specs.declared.Entry.{Entry}
use Rattle.apx_history.specs.declared.Event.{Event}
use Rattle.apx_history.specs.declared.Event.TheVariants.{Start, Write, Finish, Save, Advance, Commit, Purge, Kill, Repartition, End, Fault}
use Rattle.apx_history.specs.Plan.{Point, Before, Act, Fails, Splits, Line, Plan, Operator, no_operator, no_line, has, operator, line, reads, is_checkpoint, splits, splits_op, count_or, number, number_in}
use Rattle.apx_history.specs.State.{Slot, Oper, State, fresh, no_oper, oper, parts, slot, IsPart, is_left, open_window, running}
use Rattle.apx_history.specs.Enabled.{limit, limit_in, can, can_now}
use Rattle.apx_history.specs.Effects.{next}
use Rattle.apx_history.specs.Conditions.{Enabled}
use Rattle.apx_history.specs.Journals.{beginning, owed, bears, fits, is_legal, after}
use Rattle.apx_history.specs.Kept.{IsAct, IsPlan, IsStart, Sound, Ordered, IsAhead, ActAhead, Kept}
use Rattle.apx_history.specs.Laws.{IsHistory, StartsKeep, EventsKeep, HistoriesKeep}
use Rattle.apx_history.proofs.Tests.{both}
use Rattle.apx_history.proofs.Conditions.{all_true, equal_at, equal_by, facts_of}
use Rattle.apx_history.proofs.Lines.{flag_there}
use Rattle.apx_history.proofs.Keeps.{keeps_start, keeps_write, keeps_finish, keeps_save, keeps_advance, keeps_purge, keeps_end, keeps_fault, none_open}
use Rattle.apx_history.proofs.Trees.{keeps_commit, keeps_kill}
use Rattle.apx_history.proofs.Renewed.{Rests, fresh_rests, fresh_at, keeps_repartition}

-- ---- events

module _ (plan : Plan) (is : IsPlan plan) (m : State) (kept : Kept plan m) (u : ℕ) where
  pub keeps_event : (e : Event) → Enabled plan m e → Kept plan (next plan m u e)
  keeps_event (Start o i w) h = keeps_start plan is m kept o i w u h
  keeps_event (Write w) h = keeps_write plan is m kept w h
  keeps_event (Finish o i w) h = keeps_finish plan is m kept o i w h
  keeps_event (Save o i w) h = keeps_save plan is m kept o i w h
  keeps_event (Advance o i w) h = keeps_advance plan is m kept o i w h
  keeps_event (Commit w) h = keeps_commit plan is m kept w h
  keeps_event (Purge o i w) h = keeps_purge plan is m kept o i w h
  keeps_event (Kill l) h = keeps_kill plan is m kept l h
  keeps_event (Repartition l) h = keeps_repartition plan is m kept l h
  keeps_event End h = keeps_end plan is m kept
  keeps_event (Fault s) h = keeps_fault plan is m kept s

pub can_facts : (plan : Plan) (m : State) (e : Event) → can plan m e ≡ true → Enabled plan m e
can_facts plan m e h = facts_of plan m e (both (running m) (can_now plan m e) h).1

pub can_runs : (plan : Plan) (m : State) (e : Event) → can plan m e ≡ true → running m ≡ true
can_runs plan m e h = (both (running m) (can_now plan m e) h).0

pub events-keep : EventsKeep
events-keep plan m is kept u e h = keeps_event plan is m kept u e (can_facts plan m e h)

-- ---- journals

pub fits_parts : (plan : Plan) (m : State) (e : Entry) (es : List Entry) → is_legal plan m (e ∷ es) ≡ true →
    (can plan m e.event ≡ true) × (bears (owed plan m e.event) e.worker ≡ true) × (is_legal plan (next plan m e.worker e.event) es ≡ true)
fits_parts plan m e es h =
    let a = both (fits plan m e) (is_legal plan (next plan m e.worker e.event) es) h in
    let b = both (can plan m e.event) (bears (owed plan m e.event) e.worker) a.0 in
    (b.0, b.1, a.1)

pub kept_after : (plan : Plan) → IsPlan plan → (m : State) → Kept plan m → (es : List Entry) → is_legal plan m es ≡ true → Kept plan (after plan m es)
kept_after plan is m kept [] h = kept
kept_after plan is m kept (e ∷ es) h =
    let p = fits_parts plan m e es h in
    kept_after plan is (next plan m e.worker e.event) (events-keep plan m is kept e.worker e.event p.0) es p.2

pub after-append : (plan : Plan) (m : State) (xs ys : List Entry) → after plan m (xs ++ ys) ≡ after plan (after plan m xs) ys
after-append plan m [] ys = refl
after-append plan m (x ∷ xs) ys = after-append plan (next plan m x.worker x.event) xs ys

-- what comes first of a legal journal is legal, and what follows is legal after it
pub legal-append : (plan : Plan) (m : State) (xs ys : List Entry) → is_legal plan m (xs ++ ys) ≡ true → (is_legal plan m xs ≡ true) × (is_legal plan (after plan m xs) ys ≡ true)
legal-append plan m [] ys h = (refl, h)
legal-append plan m (x ∷ xs) ys h =
    let a = both (fits plan m x) (is_legal plan (next plan m x.worker x.event) (xs ++ ys)) h in
    let b = legal-append plan (next plan m x.worker x.event) xs ys a.1 in
    (all_true a.0 b.0, b.1)

pub append-legal : (plan : Plan) (m : State) (xs ys : List Entry) → is_legal plan m xs ≡ true → is_legal plan (after plan m xs) ys ≡ true → is_legal plan m (xs ++ ys) ≡ true
append-legal plan m [] ys h k = k
append-legal plan m (x ∷ xs) ys h k =
    let a = both (fits plan m x) (is_legal plan (next plan m x.worker x.event) xs) h in
    all_true a.0 (append-legal plan (next plan m x.worker x.event) xs ys a.1 k)

-- ---- the start

number-none : (ls : List Line) (o b n : ℕ) → ((k : ℕ) → k < length ls → (get_or ls k no_line).window ≡ b → ⊥) → number_in ls o b n ≡ n
unfolding number_in
number-none [] o b n h = refl
number-none (x ∷ ls) o b n h = by (splits_op o x) (x.window == b) refl (number-none ls o b n (λ k r. h (suc k) (omega arith)))
  where
    by : (s t : Bool) → t ≡ x.window == b → number_in ls o b n ≡ n → cond (s && t) (count_or n x.act) (number_in ls o b n) ≡ n
    by true true e r = absurd (h 0 (omega arith) (equal_at x.window b (sym e)))
    by true false e r = r
    by false t e r = r

pub all_left : (ls : List Line) (l : ℕ) → l < length ls → get_or (map (λ (x : Line). true) ls) l false ≡ true
all_left [] l h = absurd (omega arith)
all_left (x ∷ ls) zero h = refl
all_left (x ∷ ls) (suc l) h = all_left ls l (omega arith)

no_lines : (ls : List Line) → ls ≡ [] → length ls ≡ 0
no_lines ls e = ap length e

module _ (plan : Plan) (s c : ℕ) (is : IsPlan plan) (start : IsStart plan s c) where
  m : State
  m = beginning plan s c

  oper_is : (o : ℕ) → oper (beginning plan s c) o ≡ record { boundary = 0; parts = replicate (operator plan o).first (fresh c) }
  unfolding beginning
  oper_is o = get_or-map (λ (p : Operator). record { boundary = 0; parts = replicate p.first (fresh c) }) plan.operators o no_operator

  parts_is : (o : ℕ) → parts (beginning plan s c) o ≡ (operator plan o).first
  parts_is o = ap (λ (q : Oper). length q.parts) (oper_is o) ∙ length-replicate (operator plan o).first (fresh c)

  slot_is : (o i : ℕ) → IsPart (beginning plan s c) o i → slot (beginning plan s c) o i ≡ fresh c
  slot_is o i r = ap (λ (q : Oper). get_or q.parts i (fresh 0)) (oper_is o) ∙ fresh_at c (operator plan o).first i (let a = parts_is o in let b = r.1 in omega arith)

  slot_rests : (o i : ℕ) → Rests c (slot (beginning plan s c) o i)
  slot_rests o i = subst (λ (q : Oper). Rests c (get_or q.parts i (fresh 0))) (sym (oper_is o)) (fresh_rests c (operator plan o).first i)

  limit_least : (o : ℕ) → c ≤ limit plan (beginning plan s c) o
  unfolding limit_in
  limit_least o = elim start.script [
    | inl e ↦ omega arith
    | inr e ↦ subst (λ (ls : List Line). c ≤ limit_in ls (beginning plan s c).left o plan.windows) (sym e) (none (beginning plan s c).left)
  ]
    where
      none : (bs : List Bool) → c ≤ limit_in [] bs o plan.windows
      none bs = let a = start.behind in let b = start.stored in omega arith

  fresh_sound : (n : ℕ) → c ≤ n → Sound plan c 0 n (fresh c)
  unfolding has
  fresh_sound n h = record {
    committed = omega arith;
    rc = omega arith;
    at = h;
    floor = omega arith;
    rc_saved = ap (λ (b : Bool). b || false) (equal_by c c refl);
    saved = λ w g. (let e : c ≡ w = equal_at c w (one g) in (subst (λ (k : ℕ). is_checkpoint plan k ≡ true) e start.checkpoint, omega arith, omega arith, omega arith));
    whole = λ w a b d g. absurd (omega arith);
    ascending = ((λ w g. (let e : false ≡ true = g in cc)), tt);
    opened = λ w g. absurd (none_open None refl g);
  }
    where
      one : {b : Bool} → (b || false) ≡ true → b ≡ true
      one {b = true} g = refl
      one {b = false} g = g

  pub kept_start : Kept plan (beginning plan s c)
  unfolding beginning
  kept_start = record {
    ops = length-map plan.operators _;
    flags = length-map plan.lines _;
    each = λ o i r. subst (λ (q : Oper). Sound plan c q.boundary (limit plan (beginning plan s c) o) (slot (beginning plan s c) o i)) (sym (oper_is o))
        (subst (λ (x : Slot). Sound plan c 0 (limit plan (beginning plan s c) o) x) (sym (slot_is o i r)) (fresh_sound (limit plan (beginning plan s c) o) (limit_least o)));
    ordered = λ o q h i j r t. subst (λ (x : Slot). Ordered x (slot (beginning plan s c) o i)) (sym (slot_is q j t)) (subst (λ (x : Slot). Ordered (fresh c) x) (sym (slot_is o i r))
        (record { rc = omega arith; floor = omega arith; opened = λ w g. absurd (none_open None refl g) }));
    sink = (let a = (slot_rests plan.sink 0).at in let b = start.behind in omega arith);
    stored = start.stored;
    lines = λ l h. (let r = there l h in subst (λ (q : Oper). q.boundary < (line plan l).window) (sym (oper_is (line plan l).op)) (is.window l r).0);
    ahead = λ l h. ahead_of l (there l h) (line plan l).act;
    still = λ l r a h. all_left plan.lines l r;
    boundary = λ o h. inl (ap (λ (q : Oper). q.boundary) (oper_is o));
    number = λ o h. parts_is o ∙ sym (number-none plan.lines o 0 (operator plan o).first (λ k r e. (let a = (is.window k r).0 in omega arith)))
        ∙ ap (λ (q : Oper). number plan o q.boundary) (sym (oper_is o));
  }
    where
      there : (l : ℕ) → get_or (map (λ (x : Line). true) plan.lines) l false ≡ true → l < length plan.lines
      there l h = let a = flag_there (map (λ (x : Line). true) plan.lines) l h in let b = length-map plan.lines (λ (x : Line). true) in omega arith

      ahead_of : (l : ℕ) → l < length plan.lines → (a : Act) → ActAhead (beginning plan s c) (limit plan (beginning plan s c) (line plan l).op) (line plan l).op (line plan l).window a
      ahead_of l r (Splits count) = tt
      ahead_of l r (Fails point part) = λ within.
          let x = slot_rests (line plan l).op part in
          let z : c ≡ 0 = elim start.script [ inl e ↦ e | inr e ↦ absurd (let b = no_lines plan.lines e in omega arith) ] in
          inl ((let a = x.at in let b = (is.window l r).0 in omega arith), λ d g. none_open (slot (beginning plan s c) (line plan l).op part).opened x.closed g)

pub starts-keep : StartsKeep
starts-keep plan s c is start = kept_start plan s c is start

pub histories-keep : HistoriesKeep
histories-keep plan s c es h = kept_after plan h.is (beginning plan s c) (kept_start plan s c h.is h.start) es h.legal
