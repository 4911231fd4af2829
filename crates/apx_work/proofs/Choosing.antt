-- What a worker is to do, from the first event that it may do.
use Rattle.std.proofs.Common.{◌≡◌, ℕ, ◌⊎◌, inl, inr, true, false, List, Option, None, Some, sym, ap, subst, ◌∙◌}
use Rattle.apx_history.specs.declared.Entry.{Entry}
use Rattle.apx_history.specs.declared.Event.{Event}
use Rattle.apx_history.specs.declared.Event.TheVariants.{Write, Finish, Kill, Fault}
use Rattle.apx_history.specs.Plan.{Plan}
use Rattle.apx_history.specs.State.{State, oper}
use Rattle.apx_history.specs.Enabled.{can}
use Rattle.apx_history.specs.Journals.{owed, bears}
use Rattle.apx_history.specs.Laws.{IsHistory}
use Rattle.apx_history.proofs.Tests.{both}
use Rattle.apx_course.specs.Faults.{is_fault}
use Rattle.apx_machine.specs.Picked.{ended_by, is_claimed, may_do}
use Rattle.apx_work.specs.declared.hands.OpenWindow.{OpenWindow}
use Rattle.apx_work.specs.declared.hands.Task.TheVariants.{Strike}
use Rattle.apx_work.specs.declared.hands.Due.TheVariants.{Store, Close, Drop}
use Rattle.apx_work.specs.Own.{own, state_of, Ends, ends_window}
use Rattle.apx_work.specs.Claims.{Claims}
use Rattle.apx_work.specs.Hands.{IsTask, IsDue}
use Rattle.apx_work.proofs.Ending.{claim-ends, free-ends-none, kills_nobody}
use Rattle.apx_work.proofs.Holding.{free_facts, claim_facts}

-- who may do an event bears what it ends
pub bears_of : (plan : Plan) (m : State) (u : ℕ) (claim : Option (ℕ × ℕ)) (e : Event) → may_do plan m u claim e ≡ true → bears (owed plan m e) u ≡ true
bears_of plan m u claim e may = (both (bears (owed plan m e) u) (is_claimed claim (ended_by plan e)) may).0

-- an event that ends nothing and is no fault is none of these
pub is_none_of : (e : Event) → ends_window e ≡ false → is_fault e ≡ false → ((w : ℕ) × (e ≡ Write w)) ⊎ (((o : ℕ) × (i : ℕ) × (w : ℕ) × (e ≡ Finish o i w)) ⊎ ((s : ℕ) × (e ≡ Fault s))) → ⊥
is_none_of e ends goes (inl h) = let f : true ≡ false = sym (ap ends_window h.1) ∙ ends in cc
is_none_of e ends goes (inr (inl h)) = let f : true ≡ false = sym (ap ends_window h.3) ∙ ends in cc
is_none_of e ends goes (inr (inr h)) = let f : true ≡ false = sym (ap is_fault h.1) ∙ goes in cc

module _ (plan : Plan) (s c u : ℕ) (es : List Entry) (m : State) (is : IsHistory plan s c es) (now : m ≡ state_of plan s c es) where
  -- without a claim it is no Write and no Finish
  pub ends_none : Claims plan u (own u es) None → (e : Event) → can plan m e ≡ true → may_do plan m u None e ≡ true → ends_window e ≡ false
  ends_none none e next may = free-ends-none plan m u (free_facts plan s c u es m is now none) e next (bears_of plan m u None e may)

  -- a kill that it may do then is of a partition that nobody has open
  pub task_strike : Claims plan u (own u es) None → (l : ℕ) → can plan m (Kill l) ≡ true → may_do plan m u None (Kill l) ≡ true → IsTask plan m u (Strike l)
  task_strike none l next may = (next, kills_nobody plan m u (free_facts plan s c u es m is now none) l (bears_of plan m u None (Kill l) may))

  module _ (x : OpenWindow) (one : Claims plan u (own u es) (Some x)) where
    -- with one it ends what is claimed
    pub ends_claim : (e : Event) → can plan m e ≡ true → may_do plan m u (Some (x.op, x.part)) e ≡ true → Ends plan x.op x.part x.window e
    ends_claim e next may = claim-ends plan m x.op x.part x.window u (oper m x.op).boundary (claim_facts plan s c u es m is now x one) e next may

    -- the first event that it may do, where it is looked for by what a claim y tells, which is x
    write_due : (w : ℕ) → can plan m (Write w) ≡ true → may_do plan m u (Some (x.op, x.part)) (Write w) ≡ true → IsDue plan m u x Store
    write_due w next may =
        let e = ends_claim (Write w) next may in
        (subst (λ (k : ℕ). can plan m (Write k) ≡ true) e.2 next, bears_of plan m u (Some (x.op, x.part)) (Write w) may, e.0, e.1)

    pub due_store : (y : OpenWindow) (e : Event) (w : ℕ) → y ≡ x → e ≡ Write w → can plan m e ≡ true → may_do plan m u (Some (y.op, y.part)) e ≡ true → IsDue plan m u x Store
    due_store y e w same is next may =
        write_due w (subst (λ (f : Event). can plan m f ≡ true) is next)
        (subst (λ (z : OpenWindow). may_do plan m u (Some (z.op, z.part)) (Write w) ≡ true) same (subst (λ (f : Event). may_do plan m u (Some (y.op, y.part)) f ≡ true) is may))

    finish_due : (p j w : ℕ) → can plan m (Finish p j w) ≡ true → may_do plan m u (Some (x.op, x.part)) (Finish p j w) ≡ true → IsDue plan m u x Close
    finish_due p j w next may =
        let e = ends_claim (Finish p j w) next may in
        let b = bears_of plan m u (Some (x.op, x.part)) (Finish p j w) may in (
          subst (λ (k : ℕ). can plan m (Finish k x.part x.window) ≡ true) e.0
              (subst (λ (k : ℕ). can plan m (Finish p k x.window) ≡ true) e.1 (subst (λ (k : ℕ). can plan m (Finish p j k) ≡ true) e.2 next)),
          subst (λ (k : ℕ). bears (owed plan m (Finish k x.part x.window)) u ≡ true) e.0
              (subst (λ (k : ℕ). bears (owed plan m (Finish p k x.window)) u ≡ true) e.1 b),
        )

    pub due_close : (y : OpenWindow) (e : Event) (p j w : ℕ) → y ≡ x → e ≡ Finish p j w → can plan m e ≡ true → may_do plan m u (Some (y.op, y.part)) e ≡ true → IsDue plan m u x Close
    due_close y e p j w same is next may =
        finish_due p j w (subst (λ (f : Event). can plan m f ≡ true) is next)
        (subst (λ (z : OpenWindow). may_do plan m u (Some (z.op, z.part)) (Finish p j w) ≡ true) same (subst (λ (f : Event). may_do plan m u (Some (y.op, y.part)) f ≡ true) is may))

    pub due_drop : (l : ℕ) → can plan m (Kill l) ≡ true → may_do plan m u (Some (x.op, x.part)) (Kill l) ≡ true → IsDue plan m u x (Drop l)
    due_drop l next may = (next, bears_of plan m u (Some (x.op, x.part)) (Kill l) may, ends_claim (Kill l) next may)
