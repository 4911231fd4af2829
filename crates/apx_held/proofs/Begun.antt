-- What is kept fits the machine at the start of a run that begins from nothing.
use Rattle.std.proofs.Common.{◌≡◌, ℕ, zero, suc, ◌+◌, ◌<◌, inl, inr, List, [], ◌∷◌, ◌++◌, length, length-append, replicate, get_or, refl, sym, ap, subst, ◌∙◌, arith, Option}
use Rattle.std.proofs.Math.ListN.{length-replicate, get_or-map, get_or-append}
use Rattle.std.proofs.Math.Seq.{get_or-append_seam}
use Rattle.std.proofs.lemmas.Bool.{cases_lt}
use Rattle.apx_device.specs.declared.vault.SaveId.{SaveId}
use Rattle.apx_history.specs.Plan.{Operator, Plan, operator, no_operator}
use Rattle.apx_history.specs.State.{Slot, Oper, fresh, oper, slot, IsPart}
use Rattle.apx_history.specs.Journals.{beginning}
use Rattle.apx_history.proofs.Renewed.{fresh_at}
use Rattle.apx_pass.specs.Pass.{at_start, progress_after}
use Rattle.apx_pass.specs.Job.{Job}
use Rattle.apx_part.specs.Fed.{plan_in}
use Rattle.apx_held.specs.Holding.{Holding, holding, no_holding}
use Rattle.apx_held.specs.Partition.{progress_at}
use Rattle.apx_held.specs.Fits.{Telling, FitsPart, FitsVault, Fits}
use Rattle.apx_held.specs.Begun.{first_holding, AreFirst}
use Rattle.apx_held.proofs.Fitting.{list_none, has_one}

-- what a partition carries from the start is nothing
pub carries_nothing : (job : Job) (o b i : ℕ) → progress_at job o b i 0 ≡ at_start
unfolding progress_at progress_after
carries_nothing job o b i = refl

module _ (plan : Plan) (stored : ℕ) where
  oper_first : (o : ℕ) → oper (beginning plan stored 0) o ≡ record { boundary = 0; parts = replicate (operator plan o).first (fresh 0) }
  unfolding beginning
  oper_first o = get_or-map (λ (p : Operator). record { boundary = 0; parts = replicate p.first (fresh 0) }) plan.operators o no_operator

  slot_first : (o i : ℕ) → IsPart (beginning plan stored 0) o i → slot (beginning plan stored 0) o i ≡ fresh 0
  slot_first o i r = ap (λ (q : Oper). get_or q.parts i (fresh 0)) (oper_first o)
      ∙ fresh_at 0 (operator plan o).first i (let e = ap (λ (q : Oper). length q.parts) (oper_first o) ∙ length-replicate (operator plan o).first (fresh 0) in let h = r.1 in omega arith)

replicate_at : {X : Type 0} (n i : ℕ) (x d : X) → i < n → get_or (replicate n x) i d ≡ x
replicate_at zero i x d h = absurd (omega arith)
replicate_at (suc n) zero x d h = refl
replicate_at (suc n) (suc i) x d h = replicate_at n i x d (omega arith)

pub fits_begin : (job : Job) (tells : Telling) (at : SaveId → Option (List ℕ)) (plan : Plan) (stored : ℕ) (hs : List (List Holding)) → AreFirst (plan_in job) (beginning plan stored 0) hs
    → Fits job tells at (beginning plan stored 0) hs
fits_begin job tells at plan stored hs first = record {
  ops = first.ops;
  sizes = λ o r. ap (λ (g : List Holding). length g) (first.groups o r) ∙ length-replicate (length (oper (beginning plan stored 0) o).parts) (first_holding (plan_in job));
  each = λ o i r. subst (λ (g : Holding). FitsPart job tells.all o (oper (beginning plan stored 0) o).boundary i (slot (beginning plan stored 0) o i) g) (sym (kept_is o i r))
      (subst (λ (y : Slot). FitsPart job tells.all o (oper (beginning plan stored 0) o).boundary i y (first_holding (plan_in job))) (sym (slot_first plan stored o i r)) (one o (oper (beginning plan stored 0) o).boundary i));
  vault = λ t o i r. subst (λ (y : Slot). FitsVault job tells.all at o (oper (beginning plan stored 0) o).boundary i y) (sym (slot_first plan stored o i r))
      (λ w pos h. absurd (let e : 0 ≡ w = has_one 0 w h in omega arith));
}
  where
    kept_is : (o i : ℕ) → IsPart (beginning plan stored 0) o i → holding hs o i ≡ first_holding (plan_in job)
    kept_is o i r = ap (λ (g : List Holding). get_or g i no_holding) (first.groups o r.0) ∙ replicate_at (length (oper (beginning plan stored 0) o).parts) i (first_holding (plan_in job)) no_holding r.1

    one : (o b i : ℕ) → FitsPart job tells.all o b i (fresh 0) (first_holding (plan_in job))
    one o b i = record {
      home = λ e. refl;
      state = λ t. sym (carries_nothing job o b i);
      list = λ n. list_none job tells.all o b i (fresh 0) 0 refl refl;
    }

-- one group more
pub groups_more : (f : ℕ → List Holding) (groups : List (List Holding)) (group : List Holding) (n : ℕ) → length groups ≡ n → ((o : ℕ) → o < n → get_or groups o [] ≡ f o) → group ≡ f n
    → (all : List (List Holding)) → all ≡ groups ++ group ∷ [] → (length all ≡ n + 1) × ((o : ℕ) → o < n + 1 → get_or all o [] ≡ f o)
groups_more f groups group n count first is all joined = (
  omega (arith, ap (λ (gs : List (List Holding)). length gs) joined, length-append groups (group ∷ []), count),
  λ o lt. ap (λ (gs : List (List Holding)). get_or gs o []) joined ∙ elim (cases_lt o n) [
    | inl below ↦ get_or-append groups (group ∷ []) [] o (omega (arith, below, count)) ∙ first o below
    | inr behind ↦
        let e : o ≡ length groups = omega (arith, behind, lt, count) in
        let f' : n ≡ o = omega (arith, e, count) in
        ap (λ (k : ℕ). get_or (groups ++ group ∷ []) k []) e ∙ get_or-append_seam groups group [] [] ∙ is ∙ ap f f'
  ],
)
