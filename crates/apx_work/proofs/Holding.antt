-- What a worker claims: it is what it has open, and it changes with the worker's own entries.
use Rattle.std.proofs.Common.{◌≡◌, ℕ, ◌⊎◌, inl, inr, Bool, true, false, cond, ◌&&◌, ◌==◌, List, [], ◌∷◌, ◌++◌, Option, None, Some, refl, sym, ap, subst, ◌∙◌}
use Rattle.apx_history.specs.declared.Entry.{Entry}
use Rattle.apx_history.specs.declared.Event.{Event}
use Rattle.apx_history.specs.declared.Event.TheVariants.{Start, Write, Finish, Save, Advance, Commit, Purge, Kill, Repartition, End, Fault}
use Rattle.apx_history.specs.Plan.{Plan, line, kills}
use Rattle.apx_history.specs.State.{State, oper, slot}
use Rattle.apx_history.specs.Laws.{IsHistory, IsOpen}
use Rattle.apx_history.proofs.Tests.{both, test}
use Rattle.apx_history.proofs.Conditions.{all_true, equal_at, equal_by}
use Rattle.apx_course.specs.Course.{entry}
use Rattle.apx_lock.proofs.Entries.{one_own}
use Rattle.apx_work.specs.declared.hands.OpenWindow.{OpenWindow}
use Rattle.apx_work.specs.Own.{own, state_of, open_for, open_after, open_behind, ends_window}
use Rattle.apx_work.specs.Claims.{open_window, IsOpenFor, unless_killed, claim_after, claim_behind, IsAllowed, AreOneByOne, Claims, claimed_at, ClaimIsOpen}
use Rattle.apx_work.specs.Turns.{goes_alone, Adds, Stops}
use Rattle.apx_work.proofs.Opening.{own-tells, open-stays}

-- ---- what is claimed is open

none_by : (b : Bool) → cond {A = Option ℕ} b None None ≡ None
none_by true = refl
none_by false = refl

gone_by : (b : Bool) (w : Option ℕ) → cond b None (cond b w None) ≡ None
gone_by true w = refl
gone_by false w = refl

module _ (plan : Plan) (u o i : ℕ) where
  -- what a worker has open of a partition, where that is what it claims
  abbrev at : Option OpenWindow → Option ℕ
  at x = claimed_at o i x

  begins : (p j w : ℕ) (x : Option OpenWindow) → x ≡ None → cond (p == o && j == i) (Some w) (claimed_at o i x) ≡ claimed_at o i (Some (open_window p j w u))
  begins p j w x none = ap (λ (y : Option OpenWindow). cond (p == o && j == i) (Some w) (claimed_at o i y)) none

  finishes : (p j : ℕ) (x : OpenWindow) → p ≡ x.op → j ≡ x.part → cond (p == o && j == i) None (claimed_at o i (Some x)) ≡ None
  finishes p j x e f =
      ap (λ (k : ℕ). cond (k == o && j == i) None (claimed_at o i (Some x))) e ∙ ap (λ (k : ℕ). cond (x.op == o && k == i) None (claimed_at o i (Some x))) f
      ∙ gone_by (x.op == o && x.part == i) (Some x.window)

  killed_there : (l : ℕ) (x : OpenWindow) → kills x.op x.part (line plan l) ≡ true → cond (kills o i (line plan l)) None (claimed_at o i (Some x)) ≡ None
  killed_there l x killed = by (test (x.op == o && x.part == i))
    where
      by : ((x.op == o && x.part == i) ≡ true) ⊎ ((x.op == o && x.part == i) ≡ false) → cond (kills o i (line plan l)) None (cond (x.op == o && x.part == i) (Some x.window) None) ≡ None
      by (inl s) =
          let e = both (x.op == o) (x.part == i) s in
          let k : kills o i (line plan l) ≡ true = subst (λ (p : ℕ). kills p i (line plan l) ≡ true) (equal_at x.op o e.0)
          (subst (λ (j : ℕ). kills x.op j (line plan l) ≡ true) (equal_at x.part i e.1) killed) in
          ap (λ (b : Bool). cond {A = Option ℕ} b None (cond (x.op == o && x.part == i) (Some x.window) None)) k
      by (inr s) = ap (λ (b : Bool). cond {A = Option ℕ} (kills o i (line plan l)) None (cond b (Some x.window) None)) s ∙ none_by (kills o i (line plan l))

  killed_claim : (l : ℕ) (x : OpenWindow) → kills x.op x.part (line plan l) ≡ true → unless_killed plan l (Some x) ≡ None
  killed_claim l x killed = ap (λ (b : Bool). cond {A = Option OpenWindow} b None (Some x)) killed

  -- an event that is allowed changes both alike
  step : (x : Option OpenWindow) (e : Event) → IsAllowed plan x e → open_after plan o i (claimed_at o i x) e ≡ claimed_at o i (claim_after plan u x e)
  step None (Start p j w) h = refl
  step None (Write w) h = refl
  step None (Finish p j w) h = none_by (p == o && j == i)
  step None (Save p j w) h = refl
  step None (Advance p j w) h = refl
  step None (Commit w) h = refl
  step None (Purge p j w) h = refl
  step None (Kill l) h = none_by (kills o i (line plan l))
  step None (Repartition l) h = refl
  step None End h = refl
  step None (Fault s) h = refl
  step (Some x) (Start p j w) h = elim h [ inl a ↦ absurd a | inr f ↦ absurd (cc f) ]
  step (Some x) (Write w) h = refl
  step (Some x) (Finish p j w) h = elim h [ inl a ↦ finishes p j x a.0 a.1 | inr f ↦ absurd (cc f) ]
  step (Some x) (Save p j w) h = refl
  step (Some x) (Advance p j w) h = refl
  step (Some x) (Commit w) h = refl
  step (Some x) (Purge p j w) h = refl
  step (Some x) (Kill l) h = elim h [
    | inl a ↦ killed_there l x a ∙ ap (claimed_at o i) (sym (killed_claim l x a))
    | inr f ↦ absurd (cc f)
  ]
  step (Some x) (Repartition l) h = refl
  step (Some x) End h = refl
  step (Some x) (Fault s) h = refl

  steps : (x : Option OpenWindow) (es : List Entry) → AreOneByOne plan u x es → open_behind plan o i (claimed_at o i x) es ≡ claimed_at o i (claim_behind plan u x es)
  steps x [] h = refl
  steps x (e ∷ es) h = ap (λ (y : Option ℕ). open_behind plan o i y es) (step x e.event h.0) ∙ steps (claim_after plan u x e.event) es h.1

pub claim-is-open : ClaimIsOpen
claim-is-open plan u mine x h o i = steps plan u o i None mine h.0 ∙ ap (claimed_at o i) h.1

-- ---- a worker's claims are its own

IsBy : ℕ → Option OpenWindow → Type 0
IsBy u x = (y : OpenWindow) → x ≡ Some y → y.worker ≡ u

module _ (plan : Plan) (u : ℕ) where
  by_none : IsBy u None
  unfolding IsBy
  by_none y e = absurd (cc e)

  by_some : (x : OpenWindow) → x.worker ≡ u → IsBy u (Some x)
  unfolding IsBy
  by_some x h y e = let f : y ≡ x = cc in ap (λ (z : OpenWindow). z.worker) f ∙ h

  by_killed : (l : ℕ) (x : Option OpenWindow) → IsBy u x → IsBy u (unless_killed plan l x)
  by_killed l None h = h
  by_killed l (Some x) h = by (kills x.op x.part (line plan l))
    where
      by : (b : Bool) → IsBy u (cond b None (Some x))
      by true = by_none
      by false = h

  by_after : (x : Option OpenWindow) (e : Event) → IsBy u x → IsBy u (claim_after plan u x e)
  by_after x (Start o i w) h = by_some (open_window o i w u) refl
  by_after x (Write w) h = h
  by_after x (Finish o i w) h = by_none
  by_after x (Save o i w) h = h
  by_after x (Advance o i w) h = h
  by_after x (Commit w) h = h
  by_after x (Purge o i w) h = h
  by_after x (Kill l) h = by_killed l x h
  by_after x (Repartition l) h = h
  by_after x End h = h
  by_after x (Fault s) h = h

  by_behind : (x : Option OpenWindow) (es : List Entry) → IsBy u x → IsBy u (claim_behind plan u x es)
  by_behind x [] h = h
  by_behind x (e ∷ es) h = by_behind (claim_after plan u x e.event) es (by_after x e.event h)

pub claims_by : (plan : Plan) (u : ℕ) (mine : List Entry) (x : OpenWindow) → Claims plan u mine (Some x) → x.worker ≡ u
unfolding IsBy
claims_by plan u mine x h = by_behind plan u None mine (by_none plan u) x h.1

-- ---- one entry more

module _ (plan : Plan) (u : ℕ) where
  behind-append : (x : Option OpenWindow) (xs ys : List Entry) → claim_behind plan u x (xs ++ ys) ≡ claim_behind plan u (claim_behind plan u x xs) ys
  behind-append x [] ys = refl
  behind-append x (e ∷ xs) ys = behind-append (claim_after plan u x e.event) xs ys

  one-append : (x : Option OpenWindow) (xs ys : List Entry) → AreOneByOne plan u x xs → AreOneByOne plan u (claim_behind plan u x xs) ys → AreOneByOne plan u x (xs ++ ys)
  one-append x [] ys h k = k
  one-append x (e ∷ xs) ys h k = (h.0, one-append (claim_after plan u x e.event) xs ys h.1 k)

  -- behind an entry that is allowed
  pub claims_push : (old new : List Entry) (x : Option OpenWindow) (e : Event) → Claims plan u (own u old) x → IsAllowed plan x e → Adds u e old new → Claims plan u (own u new) (claim_after plan u x e)
  claims_push old new x e h may adds =
      let longer : own u new ≡ own u old ++ entry u e ∷ [] = ap (own u) adds ∙ one_own (λ (y : Entry). y.worker) u old (entry u e) refl in
      let last : AreOneByOne plan u (claim_behind plan u None (own u old)) (entry u e ∷ []) = (subst (λ (y : Option OpenWindow). IsAllowed plan y e) (sym h.1) may, tt) in
      subst (λ (es : List Entry). Claims plan u es (claim_after plan u x e)) (sym longer) (
        one-append None (own u old) (entry u e ∷ []) h.0 last,
        behind-append None (own u old) (entry u e ∷ []) ∙ ap (λ (y : Option OpenWindow). claim_after plan u y e) h.1,
      )

  -- a fault is always allowed
  fault_allowed : (x : Option OpenWindow) (s : ℕ) → IsAllowed plan x (Fault s)
  fault_allowed None s = refl
  fault_allowed (Some x) s = inr refl

  pub stops_push : (old new : List Entry) → AreOneByOne plan u None (own u old) → Stops u old new → AreOneByOne plan u None (own u new)
  stops_push old new h stops =
      (claims_push old new (claim_behind plan u None (own u old)) (Fault stops.0) (h, refl) (fault_allowed (claim_behind plan u None (own u old)) stops.0) stops.1).0

  -- an event that has to do with no claim
  alone_allowed : (e : Event) → goes_alone e ≡ true → ends_window e ≡ false
  alone_allowed (Start p j w) h = absurd (cc h)
  alone_allowed (Write w) h = absurd (cc h)
  alone_allowed (Finish p j w) h = absurd (cc h)
  alone_allowed (Save p j w) h = refl
  alone_allowed (Advance p j w) h = refl
  alone_allowed (Commit w) h = refl
  alone_allowed (Purge p j w) h = refl
  alone_allowed (Kill l) h = refl
  alone_allowed (Repartition l) h = refl
  alone_allowed End h = refl
  alone_allowed (Fault s) h = refl

  alone_same : (e : Event) → goes_alone e ≡ true → claim_after plan u None e ≡ None
  alone_same (Start p j w) h = absurd (cc h)
  alone_same (Write w) h = refl
  alone_same (Finish p j w) h = refl
  alone_same (Save p j w) h = refl
  alone_same (Advance p j w) h = refl
  alone_same (Commit w) h = refl
  alone_same (Purge p j w) h = refl
  alone_same (Kill l) h = refl
  alone_same (Repartition l) h = refl
  alone_same End h = refl
  alone_same (Fault s) h = refl

  pub alone_push : (old new : List Entry) (e : Event) → Claims plan u (own u old) None → goes_alone e ≡ true → Adds u e old new → Claims plan u (own u new) None
  alone_push old new e h alone adds =
      subst (λ (y : Option OpenWindow). Claims plan u (own u new) y) (alone_same e alone) (claims_push old new None e h (alone_allowed e alone) adds)

  pub start_push : (old new : List Entry) (o i w : ℕ) (x : OpenWindow) → Claims plan u (own u old) None → x ≡ open_window o i w u → Adds u (Start o i w) old new
      → Claims plan u (own u new) (Some x)
  start_push old new o i w x h is adds =
      subst (λ (y : OpenWindow). Claims plan u (own u new) (Some y)) (sym is) (claims_push old new None (Start o i w) h refl adds)

  pub write_push : (old new : List Entry) (x : OpenWindow) → Claims plan u (own u old) (Some x) → x.op ≡ plan.sink → x.part ≡ 0 → Adds u (Write x.window) old new
      → Claims plan u (own u new) (Some x)
  write_push old new x h sink first adds = claims_push old new (Some x) (Write x.window) h (inl (sink, first, refl)) adds

  pub finish_push : (old new : List Entry) (x : OpenWindow) → Claims plan u (own u old) (Some x) → Adds u (Finish x.op x.part x.window) old new → Claims plan u (own u new) None
  finish_push old new x h adds = claims_push old new (Some x) (Finish x.op x.part x.window) h (inl (refl, refl, refl)) adds

  pub kill_push : (old new : List Entry) (x : OpenWindow) (l : ℕ) → Claims plan u (own u old) (Some x) → kills x.op x.part (line plan l) ≡ true → Adds u (Kill l) old new
      → Claims plan u (own u new) None
  kill_push old new x l h killed adds =
      subst (λ (y : Option OpenWindow). Claims plan u (own u new) y) (ap (λ (b : Bool). cond {A = Option OpenWindow} b None (Some x)) killed)
      (claims_push old new (Some x) (Kill l) h (inl killed) adds)

-- ---- under a turn

module _ (plan : Plan) (s c u : ℕ) (es : List Entry) (m : State) (is : IsHistory plan s c es) (now : m ≡ state_of plan s c es) where
  -- a worker with nothing open
  pub free_facts : Claims plan u (own u es) None → (o i : ℕ) → open_for u (slot m o i).opened ≡ None
  free_facts none o i = ap (λ (n : State). open_for u (slot n o i).opened) now ∙ own-tells plan s c es is u o i ∙ claim-is-open plan u (own u es) None none o i

  -- a worker with a claim
  pub claim_facts : (x : OpenWindow) → Claims plan u (own u es) (Some x) → IsOpen m x.op x.part x.window u (oper m x.op).boundary
  claim_facts x one = subst (λ (n : State). IsOpen n x.op x.part x.window u (oper n x.op).boundary) (sym now)
      (open-stays plan s c es is u x.op x.part x.window (claim-is-open plan u (own u es) (Some x) one x.op x.part ∙ here))
    where
      here : cond (x.op == x.op && x.part == x.part) (Some x.window) None ≡ Some x.window
      here = ap (λ (b : Bool). cond b (Some x.window) None) (all_true (equal_by x.op x.op refl) (equal_by x.part x.part refl))

  -- what it claims is open for it
  pub claim_open : (x : OpenWindow) → Claims plan u (own u es) (Some x) → IsOpenFor m x
  claim_open x one = (claim_facts x one).opened ∙ ap (λ (k : ℕ). Some (x.window, k)) (sym (claims_by plan u (own u es) x one))
