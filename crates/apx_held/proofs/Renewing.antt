-- What is kept goes on fitting the machine at a repartition.
use Rattle.std.proofs.Common.{◌≡◌, ℕ, ◌<◌, inl, inr, List, [], length, replicate, get_or, set, sym, ap, subst, ◌∙◌, arith, Option, IsTrue}
use Rattle.std.proofs.Math.ListN.{length-set, length-replicate}
use Rattle.std.proofs.lemmas.List.{get_or-set_same, get_or-set_other}
use Rattle.apx_device.specs.declared.vault.SaveId.{SaveId}
use Rattle.apx_history.specs.State.{Slot, Oper, State, fresh, no_oper, oper, slot, IsPart}
use Rattle.apx_history.specs.Effects.{meet, split}
use Rattle.apx_history.proofs.Tests.{alike}
use Rattle.apx_history.proofs.Renewed.{fresh_at}
use Rattle.apx_pass.specs.Job.{Job}
use Rattle.apx_held.specs.Holding.{Holding, holding, no_holding}
use Rattle.apx_held.proofs.Fitting.{has_one}
use Rattle.apx_held.specs.Fits.{Telling, FitsPart, save_id, IsSaved, FitsVault, Fits}

module _ (job : Job) (tells : Telling) (at at' : SaveId → Option (List ℕ)) (m : State) (hs : List (List Holding)) (fits : Fits job tells at m hs) (l o b n : ℕ) (there : o < length m.ops) (group : List Holding) where
  renewed : Oper
  renewed = record { boundary = b; parts = replicate n (fresh b) }

  oper_here : oper (meet l (split o b n m)) o ≡ record { boundary = b; parts = replicate n (fresh b) }
  unfolding meet split
  oper_here = get_or-set_same m.ops o (record { boundary = b; parts = replicate n (fresh b) }) no_oper there

  oper_there : (p : ℕ) → (p ≡ o → ⊥) → oper (meet l (split o b n m)) p ≡ oper m p
  unfolding meet split
  oper_there p h = get_or-set_other m.ops o p (record { boundary = b; parts = replicate n (fresh b) }) no_oper h

  ops_are : length (meet l (split o b n m)).ops ≡ length m.ops
  unfolding meet split
  ops_are = length-set m.ops o (record { boundary = b; parts = replicate n (fresh b) })

  group_here : get_or (set hs o group) o [] ≡ group
  group_here = get_or-set_same hs o group [] (let a = fits.ops in omega arith)

  group_there : (p : ℕ) → (p ≡ o → ⊥) → get_or (set hs o group) p [] ≡ get_or hs p []
  group_there p h = get_or-set_other hs o p group [] h

  -- the operator goes on with what is kept for its new partitions, whose checkpoints the vault got; those of other operators stay
  pub fits_split : length group ≡ n → ((j : ℕ) → j < n → FitsPart job tells.all o b j (fresh b) (get_or group j no_holding))
      → (IsTrue tells.vault → (j : ℕ) → j < n → 0 < b → IsSaved job tells.all o b j b (at' (save_id o b j b)))
      → (IsTrue tells.vault → (id : SaveId) → (id.op ≡ o → ⊥) → at' id ≡ at id)
      → Fits job tells at' (meet l (split o b n m)) (set hs o group)
  fits_split count each saved others = record {
    ops = length-set hs o group ∙ fits.ops ∙ sym ops_are;
    sizes = λ p r. elim (alike p o) [
      | inl e ↦ subst (λ (k : ℕ). length (get_or (set hs o group) k []) ≡ length (oper (meet l (split o b n m)) k).parts) (sym e)
          (ap (λ (g : List Holding). length g) group_here ∙ count ∙ sym (ap (λ (q : Oper). length q.parts) oper_here ∙ length-replicate n (fresh b)))
      | inr ne ↦ ap (λ (g : List Holding). length g) (group_there p ne) ∙ fits.sizes p (let a = ops_are in omega arith) ∙ sym (ap (λ (q : Oper). length q.parts) (oper_there p ne))
    ];
    each = λ p j r. elim (alike p o) [
      | inl e ↦ subst (λ (k : ℕ). FitsPart job tells.all k (oper (meet l (split o b n m)) k).boundary j (slot (meet l (split o b n m)) k j) (holding (set hs o group) k j)) (sym e)
          (part_here j (inside p j e r))
      | inr ne ↦
          subst (λ (q : Oper). FitsPart job tells.all p q.boundary j (get_or q.parts j (fresh 0)) (holding (set hs o group) p j)) (sym (oper_there p ne))
          (subst (λ (g : List Holding). FitsPart job tells.all p (oper m p).boundary j (slot m p j) (get_or g j no_holding)) (sym (group_there p ne)) (fits.each p j (was p j ne r)))
    ];
    vault = λ t p j r. elim (alike p o) [
      | inl e ↦ subst (λ (k : ℕ). FitsVault job tells.all at' k (oper (meet l (split o b n m)) k).boundary j (slot (meet l (split o b n m)) k j)) (sym e)
          (vault_here t j (inside p j e r))
      | inr ne ↦
          subst (λ (q : Oper). FitsVault job tells.all at' p q.boundary j (get_or q.parts j (fresh 0))) (sym (oper_there p ne))
          (λ w pos h. subst (λ (found : Option (List ℕ)). IsSaved job tells.all p (oper m p).boundary j w found) (sym (others t (save_id p (oper m p).boundary j w) ne)) (fits.vault t p j (was p j ne r) w pos h))
    ];
  }
    where
      inside : (p j : ℕ) → p ≡ o → IsPart (meet l (split o b n m)) p j → j < n
      inside p j e r =
          let s : j < length (oper (meet l (split o b n m)) o).parts = subst (λ (k : ℕ). j < length (oper (meet l (split o b n m)) k).parts) e r.1 in
          let a = ap (λ (q : Oper). length q.parts) oper_here ∙ length-replicate n (fresh b) in
          omega arith

      was : (p j : ℕ) → (p ≡ o → ⊥) → IsPart (meet l (split o b n m)) p j → IsPart m p j
      was p j ne r = let a = ops_are in let c = ap (λ (q : Oper). length q.parts) (oper_there p ne) in (omega (arith, r.0), omega (arith, r.1))

      part_here : (j : ℕ) → j < n → FitsPart job tells.all o (oper (meet l (split o b n m)) o).boundary j (slot (meet l (split o b n m)) o j) (holding (set hs o group) o j)
      part_here j lt =
          subst (λ (q : Oper). FitsPart job tells.all o q.boundary j (get_or q.parts j (fresh 0)) (holding (set hs o group) o j)) (sym oper_here)
          (subst (λ (y : Slot). FitsPart job tells.all o b j y (holding (set hs o group) o j)) (sym (fresh_at b n j lt))
          (subst (λ (g : List Holding). FitsPart job tells.all o b j (fresh b) (get_or g j no_holding)) (sym group_here) (each j lt)))

      vault_here : IsTrue tells.vault → (j : ℕ) → j < n → FitsVault job tells.all at' o (oper (meet l (split o b n m)) o).boundary j (slot (meet l (split o b n m)) o j)
      vault_here t j lt =
          subst (λ (q : Oper). FitsVault job tells.all at' o q.boundary j (get_or q.parts j (fresh 0))) (sym oper_here)
          (subst (λ (y : Slot). FitsVault job tells.all at' o b j y) (sym (fresh_at b n j lt))
          (λ w pos h. subst (λ (k : ℕ). IsSaved job tells.all o b j k (at' (save_id o b j k))) (has_one b w h)
          (saved t j lt (subst (λ (k : ℕ). 0 < k) (sym (has_one b w h)) pos))))
