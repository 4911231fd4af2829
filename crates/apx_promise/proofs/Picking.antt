-- The history that numbers pick: there is one that ends, and it is the only one.
use Rattle.std.proofs.Common.{◌≡◌, ℕ, zero, suc, ◌+◌, ◌<◌, ◌≤◌, ◌%◌, ◌⊎◌, inl, inr, Bool, true, false, cond, List, [], ◌∷◌, ◌++◌, length, get_or, Option, None, Some, is_none, refl, sym, ap, subst, ◌∙◌, arith}
use Rattle.apx_history.specs.declared.Entry.{Entry}
use Rattle.apx_history.specs.declared.Event.{Event}
use Rattle.apx_history.specs.declared.Event.TheVariants.{Start, Write, Finish, Save, Advance, Commit, Purge, Kill, Repartition, End, Fault}
use Rattle.apx_history.specs.declared.Act.{Act}
use Rattle.apx_history.specs.declared.Act.TheVariants.{Fails, Splits}
use Rattle.apx_history.specs.Plan.{Plan, line}
use Rattle.apx_history.specs.State.{State, slot, open_worker, running, put, map_slots}
use Rattle.apx_history.specs.Enabled.{can}
use Rattle.apx_history.specs.Effects.{meet, split, next}
use Rattle.apx_history.specs.Journals.{beginning, owed_act, owed, bears, is_legal, after}
use Rattle.apx_history.specs.Choices.{choices, picked, IsPicked, IsListed, Among}
use Rattle.apx_history.specs.Conditions.{Enabled}
use Rattle.apx_history.specs.Kept.{IsPlan, IsStart, Kept}
use Rattle.apx_history.specs.Laws.{bound}
use Rattle.apx_history.proofs.Tests.{test}
use Rattle.apx_history.proofs.Conditions.{all_true, equal_by}
use Rattle.apx_history.proofs.Bounded.{is-bounded}
use Rattle.apx_history.proofs.Listed.{choices-exact, always-goes-on}
use Rattle.apx_history.proofs.Legal.{can_facts, events-keep, kept_start}
use Rattle.apx_course.specs.Course.{entry}
use Rattle.apx_promise.specs.Histories.{state_after}
use Rattle.apx_promise.specs.Orders.{AllAreBy}
use Rattle.apx_promise.specs.Laws.{PicksAreHistories, SomeIsPicked, PicksAreFronts, OneIsPicked}
use Rattle.apx_promise.proofs.Owning.{opened_before, none_begun}

-- what stands at a place of a list is among it
among_at : (es : List Event) (k : ℕ) (d : Event) → k < length es → Among (get_or es k d) es
among_at [] k d h = absurd (omega arith)
among_at (e ∷ es) zero d h = inl refl
among_at (e ∷ es) (suc k) d h = inr (among_at es k d (omega arith))

-- ---- one worker

-- whatever is open, the worker began
abbrev OpenBy : ℕ → State → Type 0
OpenBy u m = (o i w v : ℕ) → (slot m o i).opened ≡ Some (w, v) → v ≡ u

begins_own : (plan : Plan) (s c u : ℕ) → OpenBy u (beginning plan s c)
begins_own plan s c u o i w v is = absurd (none_begun plan s c o i w v is)

stays_own : (plan : Plan) (m : State) (u : ℕ) (e : Event) → Enabled plan m e → OpenBy u m → OpenBy u (next plan m u e)
stays_own plan m u e h own o i w v is = elim (opened_before plan m u e h w v o i is) [ inl old ↦ own o i w v old.0 | inr new ↦ sym new.1 ]

module _ (m : State) (u : ℕ) (own : OpenBy u m) where
  -- the worker may do each event
  borne : (x : Option (ℕ × ℕ)) → ((w v : ℕ) → x ≡ Some (w, v) → v ≡ u) → bears (open_worker x) u ≡ true
  borne None h = refl
  borne (Some x) h = equal_by x.1 u (h x.0 x.1 refl)

  act_borne : (o : ℕ) (a : Act) → bears (owed_act m o a) u ≡ true
  act_borne o (Fails point part) = borne (slot m o part).opened (own o part)
  act_borne o (Splits count) = refl

  bears_own : (plan : Plan) (e : Event) → bears (owed plan m e) u ≡ true
  bears_own plan (Start o i w) = refl
  bears_own plan (Write w) = borne (slot m plan.sink 0).opened (own plan.sink 0)
  bears_own plan (Finish o i w) = borne (slot m o i).opened (own o i)
  bears_own plan (Save o i w) = refl
  bears_own plan (Advance o i w) = refl
  bears_own plan (Commit w) = refl
  bears_own plan (Purge o i w) = refl
  bears_own plan (Kill l) = act_borne (line plan l).op (line plan l).act
  bears_own plan (Repartition l) = refl
  bears_own plan End = refl
  bears_own plan (Fault s) = refl

-- ---- what is picked

module _ (plan : Plan) (is : IsPlan plan) where
  -- where a run stands that worker 0 does
  pub record Stands (m : State) : Type 0 where
    -- what every state keeps
    pub kept : Kept plan m
    -- whatever is open, worker 0 began
    pub own : OpenBy 0 m
    -- it hasn't met a fault
    pub sound : m.fault ≡ None

  module _ (m : State) (at : Stands m) (runs : running m ≡ true) (word : ℕ) where
    -- the place of the choice
    place : word % length (choices plan m) < length (choices plan m)
    place = let some = always-goes-on plan m is at.kept runs in omega arith

    -- what is picked may come next, and is listed
    chosen : (can plan m (picked plan m word) ≡ true) × IsListed plan m (picked plan m word)
    unfolding picked
    chosen = (choices-exact plan m (picked plan m word)).0 (among_at (choices plan m) (word % length (choices plan m)) End place)

    pub may : can plan m (picked plan m word) ≡ true
    may = chosen.0

    -- what is listed is no fault
    fault_after : (e : Event) → IsListed plan m e → (next plan m 0 e).fault ≡ m.fault
    unfolding put map_slots meet split
    fault_after (Start o i w) h = refl
    fault_after (Write w) h = refl
    fault_after (Finish o i w) h = refl
    fault_after (Save o i w) h = refl
    fault_after (Advance o i w) h = refl
    fault_after (Commit w) h = refl
    fault_after (Purge o i w) h = refl
    fault_after (Kill l) h = refl
    fault_after (Repartition l) h = refl
    fault_after End h = refl
    fault_after (Fault s) h = absurd h

    pub stands_next : Stands (next plan m 0 (picked plan m word))
    stands_next = record {
      kept = events-keep plan m is at.kept 0 (picked plan m word) may;
      own = stays_own plan m 0 (picked plan m word) (can_facts plan m (picked plan m word) may) at.own;
      sound = fault_after (picked plan m word) chosen.1 ∙ at.sound;
    }

  -- what numbers pick may come in this order
  pub legal_picks : (word : ℕ → ℕ) (k : ℕ) (m : State) (es : List Entry) → Stands m → IsPicked plan word k m es → is_legal plan m es ≡ true
  legal_picks word k m [] at h = refl
  legal_picks word k m (e ∷ es) at h =
      let first = picked plan m (word k) in
      let here = all_true (may m at h.0 (word k)) (bears_own m 0 at.own plan first) in
      let rest = legal_picks word (k + 1) (next plan m 0 first) es (stands_next m at h.0 (word k)) h.2 in
      subst (λ x. is_legal plan m (x ∷ es) ≡ true) (sym h.1) (all_true here rest)

  pub by_worker : (word : ℕ → ℕ) (k : ℕ) (m : State) (es : List Entry) → IsPicked plan word k m es → AllAreBy 0 es
  by_worker word k m [] h = tt
  by_worker word k m (e ∷ es) h = (ap (λ (x : Entry). x.worker) h.1, by_worker word (k + 1) (next plan m 0 (picked plan m (word k))) es h.2)

  -- at most n events that numbers pick, to where the run goes on no more
  pub record Picks (word : ℕ → ℕ) (k : ℕ) (m : State) (n : ℕ) : Type 0 where
    -- the entries
    pub entries : List Entry
    -- they are picked
    pub are : IsPicked plan word k m entries
    -- the run hasn't met a fault
    pub stands : Stands (after plan m entries)
    -- it goes on no more, or there are n of them
    pub far : (running (after plan m entries) ≡ false) ⊎ (length entries ≡ n)

  pub picks : (word : ℕ → ℕ) (k : ℕ) (m : State) (n : ℕ) → Stands m → Picks word k m n
  picks word k m zero at = record { entries = []; are = tt; stands = at; far = inr refl }
  picks word k m (suc n) at = elim (test (running m)) [
    | inr stood ↦ record { entries = []; are = tt; stands = at; far = inl stood }
    | inl runs ↦
        let e = picked plan m (word k) in
        let rest = picks word (k + 1) (next plan m 0 e) n (stands_next m at runs (word k)) in
        record {
          entries = entry 0 e ∷ rest.entries;
          are = (runs, refl, rest.are);
          stands = rest.stands;
          far = elim rest.far [ inl stood ↦ inl stood | inr is ↦ inr (ap suc is) ];
        }
  ]

-- the start
pub begins : (plan : Plan) (s c : ℕ) (is : IsPlan plan) → IsStart plan s c → Stands plan is (beginning plan s c)
unfolding beginning
begins plan s c is start = record { kept = kept_start plan s c is start; own = begins_own plan s c 0; sound = refl }

pub picks-are-histories : PicksAreHistories
picks-are-histories plan word s c es is start h = (
  record { is = is; start = start; legal = legal_picks plan is word 0 (beginning plan s c) es (begins plan s c is start) h },
  by_worker plan is word 0 (beginning plan s c) es h,
)

-- a run that goes on no more and has met no fault has ended
over : (m : State) → running m ≡ false → m.fault ≡ None → m.ended ≡ true
over m stood sound = by m.ended m.fault stood sound
  where
    by : (b : Bool) (f : Option ℕ) → cond b false (is_none f) ≡ false → f ≡ None → b ≡ true
    by true f stood sound = refl
    by false None stood sound = cc
    by false (Some x) stood sound = cc

pub some-is-picked : SomeIsPicked
some-is-picked plan word s c is start =
    let all = picks plan is word 0 (beginning plan s c) (bound plan + 1) (begins plan s c is start) in
    let history = (picks-are-histories plan word s c all.entries is start all.are).0 in
    let few = is-bounded plan s c all.entries history in (
      all.entries,
      record {
        picked = all.are;
        ended = elim all.far [
          | inl stood ↦ over (state_after plan s c all.entries) stood all.stands.sound
          | inr many ↦ absurd (omega arith)
        ];
      },
    )

-- a run that has ended goes on no more
stands : (m : State) → m.ended ≡ true → running m ≡ false
stands m h = ap (λ b. cond b false (is_none m.fault)) h

differ : {b : Bool} → b ≡ true → b ≡ false → ⊥
differ h g = let e : true ≡ false = sym h ∙ g in cc

front_of_picks : (plan : Plan) (word : ℕ → ℕ) (k : ℕ) (m : State) (es front : List Entry) → IsPicked plan word k m es → running (after plan m es) ≡ false →
    IsPicked plan word k m front → (rest : List Entry) × (es ≡ front ++ rest)
front_of_picks plan word k m es [] h stood f = (es, refl)
front_of_picks plan word k m [] (x ∷ front) h stood f = absurd (differ f.0 stood)
front_of_picks plan word k m (e ∷ es) (x ∷ front) h stood f =
    let first = picked plan m (word k) in
    let same : after plan (next plan m e.worker e.event) es ≡ after plan (next plan m 0 first) es = ap (λ (y : Entry). after plan (next plan m y.worker y.event) es) h.1 in
    let rest = front_of_picks plan word (k + 1) (next plan m 0 first) es front h.2 (subst (λ n. running n ≡ false) same stood) f.2 in
    (rest.0, ap (λ y. y ∷ es) (h.1 ∙ sym f.1) ∙ ap (λ ys. x ∷ ys) rest.1)

pub picks-are-fronts : PicksAreFronts
picks-are-fronts plan word s c es front h f =
    front_of_picks plan word 0 (beginning plan s c) es front h.picked (stands (state_after plan s c es) h.ended) f

none_more : (xs ys zs : List Entry) → xs ≡ ys ++ zs → length xs ≤ length ys → xs ≡ ys
none_more xs [] [] is h = is
none_more xs [] (z ∷ zs) is h = absurd (let e = ap length is in omega arith)
none_more [] (y ∷ ys) zs is h = cc
none_more (x ∷ xs) (y ∷ ys) zs is h =
    let rest : xs ≡ ys ++ zs = cc in
    let first : x ≡ y = cc in
    ap (λ w. w ∷ xs) first ∙ ap (λ ws. y ∷ ws) (none_more xs ys zs rest (omega arith))

pub one-is-picked : OneIsPicked
one-is-picked plan word s c es fs h g =
    let a = picks-are-fronts plan word s c es fs h g.picked in
    let b = picks-are-fronts plan word s c fs es g h.picked in
    none_more es fs a.0 a.1 (shorter fs es b.0 b.1)
  where
    shorter : (xs ys zs : List Entry) → xs ≡ ys ++ zs → length ys ≤ length xs
    shorter xs [] zs is = omega arith
    shorter [] (y ∷ ys) zs is = cc
    shorter (x ∷ xs) (y ∷ ys) zs is = let rest : xs ≡ ys ++ zs = cc in let n = shorter xs ys zs rest in omega arith
