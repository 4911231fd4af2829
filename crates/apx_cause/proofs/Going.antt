-- What a crash may leave, from one call to a run of calls.
use Rattle.std.proofs.Common.{ℕ, ◌≡◌, ◌<◌, inl, inr, arith, subst}
use Rattle.apx_cause.specs.Steps.{Steps}

module _ {X : Type 0} where
  -- no call: a crash leaves what it might leave
  pub stay : (now : ℕ) (left : ℕ → X → Type 0) (P : X → Type 0) → ((x : X) → left now x → P x) → Steps now now left left P
  stay now left P here = record {
    later = omega arith;
    only = λ t x le h. inl h;
    here = here;
    kept = λ t x le h. h;
  }

  -- a weaker property
  pub weaker : {before now : ℕ} {old new : ℕ → X → Type 0} {P Q : X → Type 0} → ((x : X) → P x → Q x) → Steps before now old new P → Steps before now old new Q
  weaker weak steps = record {
    later = steps.later;
    only = λ t x le h. elim (steps.only t x le h) [ inl was ↦ inl was | inr p ↦ inr (weak x p) ];
    here = λ x h. weak x (steps.here x h);
    kept = steps.kept;
  }

  -- one call, and then another that leaves nothing further
  pub go_on : {before mid now : ℕ} {old between new : ℕ → X → Type 0} {P Q : X → Type 0} → ((x : X) → Q x → P x)
      → Steps before mid old between P → Steps mid now between new Q → Steps before now old new P
  go_on weak first second = record {
    later = let a = first.later in let b = second.later in omega arith;
    only = λ t x le h. elim (second.only t x (let a = first.later in omega arith) h) [
      | inl was ↦ first.only t x le was
      | inr q ↦ inr (weak x q)
    ];
    here = λ x h. weak x (second.here x h);
    kept = λ t x le h. second.kept t x (let a = first.later in omega arith) (first.kept t x le h);
  }

  -- one call, and then another that leaves what the first one left
  pub look_on : {before mid now : ℕ} {old between new : ℕ → X → Type 0} {P : X → Type 0} → Steps before mid old between P
      → Steps mid now between new (between mid) → Steps before now old new P
  look_on first second = go_on first.here first second

  -- Calls that take away something that might have been left raise the time.
  pub rises : {before now : ℕ} {old new : ℕ → X → Type 0} {P : X → Type 0} → Steps before now old new P → (x : X) → old before x → (P x → ⊥) → before < now
  rises {before = before} {now = now} {new = new} steps x was gone =
      let differ : before ≡ now → ⊥ = λ same. gone (steps.here x (subst (λ t. new t x) same (steps.kept before x (omega arith) was))) in
      let le = steps.later in
      omega arith

-- from contents to what they stand for: c opens to x
pub lifted : {C X : Type 0} (opens : C → X → Type 0) {before now : ℕ} {old new : ℕ → C → Type 0} {P : C → Type 0} {Q : X → Type 0}
    → ((c : C) (x : X) → P c → opens c x → Q x) → Steps before now old new P
    → Steps before now (λ t x. (c : C) × old t c × opens c x) (λ t x. (c : C) × new t c × opens c x) Q
lifted opens stands steps = record {
  later = steps.later;
  only = λ t x le h. elim (steps.only t h.0 le h.1) [ inl was ↦ inl (h.0, was, h.2) | inr p ↦ inr (stands h.0 x p h.2) ];
  here = λ x h. stands h.0 x (steps.here h.0 h.1) h.2;
  kept = λ t x le h. (h.0, steps.kept t h.0 le h.1, h.2);
}
