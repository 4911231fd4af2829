-- What is kept goes on fitting the machine when an event changes all partitions: Commit, and Kill, where the partitions of a
-- tree go back one after the other.
use Rattle.std.proofs.Common.{◌≡◌, ℕ, ◌+◌, ◌<◌, ◌≤◌, inl, inr, Bool, true, false, cond, nat_le, List, [], length, get_or, refl, sym, ap, subst, ◌∙◌, arith, Option, Some, IsTrue}
use Rattle.std.specs.List.{filter}
use Rattle.std.proofs.lemmas.Bool.{leb-true}
use Rattle.apx_device.specs.declared.vault.SaveId.{SaveId}
use Rattle.apx_history.specs.Plan.{Plan, has}
use Rattle.apx_history.specs.State.{Slot, State, oper, slot, IsPart, map_slots}
use Rattle.apx_history.specs.Enabled.{in_tree}
use Rattle.apx_history.specs.Effects.{trimmed, back, back_in, meet}
use Rattle.apx_history.proofs.Tests.{both, alike, has-filter}
use Rattle.apx_history.proofs.Slots.{map_ops, map_boundary, map_parts, map_was, slot_map}
use Rattle.apx_tuple.specs.declared.progress.Progress.{Progress}
use Rattle.apx_pass.specs.Job.{Job}
use Rattle.apx_part.specs.Fed.{plan_in}
use Rattle.apx_held.specs.Holding.{Holding, holding, put_holding, IsHeld, empty_list}
use Rattle.apx_held.specs.Partition.{progress_at}
use Rattle.apx_held.specs.Fits.{Telling, FitsPart, save_id, IsSaved, FitsVault, Fits}
use Rattle.apx_held.specs.Partly.{IsBefore, Partly}
use Rattle.apx_held.proofs.Puts.{held_ops, held_parts, held_put}
use Rattle.apx_held.proofs.Fitting.{list_none}

-- ---- each partition changed

module _ (job : Job) (tells : Telling) (m : State) (f : ℕ → ℕ → Slot → Slot) (at : SaveId → Option (List ℕ)) (hs : List (List Holding)) where
  pub fits_map : length hs ≡ length m.ops → ((o : ℕ) → o < length m.ops → length (get_or hs o []) ≡ length (oper m o).parts)
      → ((o i : ℕ) → IsPart m o i → FitsPart job tells.all o (oper m o).boundary i (f o i (slot m o i)) (holding hs o i))
      → (IsTrue tells.vault → (o i : ℕ) → IsPart m o i → FitsVault job tells.all at o (oper m o).boundary i (f o i (slot m o i)))
      → Fits job tells at (map_slots f m) hs
  fits_map ops sizes each vault = record {
    ops = ops ∙ sym (map_ops f m);
    sizes = λ o l. (let h : o < length m.ops = (let a = map_ops f m in omega arith) in sizes o h ∙ sym (map_parts f m o h));
    each = λ o i r. (let a = map_was f m o i r in
        subst (λ (b : ℕ). FitsPart job tells.all o b i (slot (map_slots f m) o i) (holding hs o i)) (sym (map_boundary f m o a.0))
        (subst (λ (y : Slot). FitsPart job tells.all o (oper m o).boundary i y (holding hs o i)) (sym (slot_map f m o i a)) (each o i a)));
    vault = λ t o i r. (let a = map_was f m o i r in
        subst (λ (b : ℕ). FitsVault job tells.all at o b i (slot (map_slots f m) o i)) (sym (map_boundary f m o a.0))
        (subst (λ (y : Slot). FitsVault job tells.all at o (oper m o).boundary i y) (sym (slot_map f m o i a)) (vault t o i a)));
  }

-- a number that is kept by a filter was there, and passes
was_there : (p : ℕ → Bool) (xs : List ℕ) (w : ℕ) → has (filter p xs) w ≡ true → (has xs w ≡ true) × (p w ≡ true)
was_there p xs w h = both (has xs w) (p w) (sym (has-filter p xs w) ∙ h)

-- Commit drops what was saved below a window
pub fits_commit : (job : Job) (tells : Telling) (at at' : SaveId → Option (List ℕ)) (m : State) (hs : List (List Holding)) (to : ℕ) → Fits job tells at m hs
    → (IsTrue tells.vault → (id : SaveId) → to ≤ id.window → at' id ≡ at id) → Fits job tells at' (record (map_slots (λ o i. trimmed to) m) { committed = to }) hs
fits_commit job tells at at' m hs to fits stays =
    let new = fits_map job tells m (λ o i. trimmed to) at' hs fits.ops fits.sizes
    (λ o i r. trimmed_part o i (fits.each o i r))
    (λ t o i r w pos h.
    (let old = was_there (λ v. nat_le to v) (slot m o i).saved w h in
    subst (λ (found : Option (List ℕ)). IsSaved job tells.all o (oper m o).boundary i w found) (sym (stays t (save_id o (oper m o).boundary i w) (leb-true to w old.1))) (fits.vault t o i r w pos old.0))) in
    record { ops = new.ops; sizes = new.sizes; each = new.each; vault = new.vault }
  where
    trimmed_part : (o i : ℕ) → FitsPart job tells.all o (oper m o).boundary i (slot m o i) (holding hs o i) → FitsPart job tells.all o (oper m o).boundary i (trimmed to (slot m o i)) (holding hs o i)
    trimmed_part o i f = record {
      home = f.home;
      state = f.state;
      list = λ n. (let l = f.list n in record { cut = l.cut; floor = l.floor; top = l.top; whole = l.whole; named = l.named; spelled = l.spelled });
    }

-- ---- a kill

-- what is kept for a partition that is back
pub fits_made : (job : Job) (told : Bool) (o b i : ℕ) (x : Slot) (progress : Progress) → (IsTrue told → progress ≡ progress_at job o b i x.rc)
    → FitsPart job told o b i (back x) (record { state = Some progress; list = empty_list (plan_in job) x.rc })
fits_made job told o b i x progress is = record {
  home = λ e. refl;
  state = is;
  list = λ n. list_none job told o b i (back x) x.rc refl refl;
}

module _ (job : Job) (tells : Telling) (plan : Plan) (m : State) (l : ℕ) where
  -- none is back
  pub partly_start : (at : SaveId → Option (List ℕ)) (hs : List (List Holding)) → Fits job tells at m hs → Partly job tells.all plan m l 0 0 hs
  partly_start at hs fits = record {
    ops = fits.ops;
    sizes = fits.sizes;
    done = λ p j r before t. absurd (nobody p j before);
    rest = λ p j r n. fits.each p j r;
  }
    where
      nobody : (p j : ℕ) → IsBefore 0 0 p j → ⊥
      nobody p j (inl h) = omega arith
      nobody p j (inr h) = omega (arith, h.1)

  -- the next one isn't in the tree
  pub partly_skip : (o i : ℕ) (hs : List (List Holding)) → Partly job tells.all plan m l o i hs → in_tree plan l o i ≡ false → Partly job tells.all plan m l o (i + 1) hs
  partly_skip o i hs partly out = record {
    ops = partly.ops;
    sizes = partly.sizes;
    done = λ p j r before t. partly.done p j r (earlier p j before t) t;
    rest = λ p j r n. partly.rest p j r (λ before t. n (later p j before) t);
  }
    where
      clash : true ≡ false → ⊥
      clash h = cc

      earlier : (p j : ℕ) → IsBefore o (i + 1) p j → in_tree plan l p j ≡ true → IsBefore o i p j
      earlier p j (inl h) t = inl h
      earlier p j (inr h) t = elim (alike j i) [
        | inl e ↦ absurd (clash (sym t ∙ ap (λ (k : ℕ). in_tree plan l k j) h.0 ∙ ap (λ (k : ℕ). in_tree plan l o k) e ∙ out))
        | inr n ↦ inr (h.0, omega (arith, h.1, n))
      ]

      later : (p j : ℕ) → IsBefore o i p j → IsBefore o (i + 1) p j
      later p j (inl h) = inl h
      later p j (inr h) = inr (h.0, omega (arith, h.1))

  -- the next one is back
  pub partly_set : (o i : ℕ) (hs : List (List Holding)) (h : Holding) → Partly job tells.all plan m l o i hs → IsPart m o i
      → FitsPart job tells.all o (oper m o).boundary i (back (slot m o i)) h → in_tree plan l o i ≡ true → Partly job tells.all plan m l o (i + 1) (put_holding hs o i h)
  partly_set o i hs h partly part one inside = record {
    ops = held_ops hs o i h q ∙ partly.ops;
    sizes = λ p r. held_parts hs o i h q p ∙ partly.sizes p r;
    done = λ p j r before t. held_put hs o i h q (λ p j g. IsPart m p j → IsBefore o (i + 1) p j → in_tree plan l p j ≡ true → FitsPart job tells.all p (oper m p).boundary j (back (slot m p j)) g)
        (λ _ _ _. one) p j (λ n r before t. partly.done p j r (earlier p j before n) t) r before t;
    rest = λ p j r out. held_put hs o i h q (λ p j g. IsPart m p j → (IsBefore o (i + 1) p j → in_tree plan l p j ≡ true → ⊥) → FitsPart job tells.all p (oper m p).boundary j (slot m p j) g)
        (λ _ n. absurd (n (inr (refl, omega arith)) inside)) p j (λ n r out. partly.rest p j r (λ before t. out (later p j before) t)) r out;
  }
    where
      q : IsHeld hs o i
      q = let a = partly.ops in let b = partly.sizes o part.0 in (omega arith, omega arith)

      earlier : (p j : ℕ) → IsBefore o (i + 1) p j → (p ≡ o → j ≡ i → ⊥) → IsBefore o i p j
      earlier p j (inl h) n = inl h
      earlier p j (inr h) n = elim (alike j i) [ inl e ↦ absurd (n h.0 e) | inr ne ↦ inr (h.0, omega (arith, h.1, ne)) ]

      later : (p j : ℕ) → IsBefore o i p j → IsBefore o (i + 1) p j
      later p j (inl h) = inl h
      later p j (inr h) = inr (h.0, omega (arith, h.1))

  -- the next one is put back behind its recovery checkpoint
  pub partly_reset : (o i : ℕ) (hs : List (List Holding)) (progress : Progress) → Partly job tells.all plan m l o i hs → IsPart m o i
      → (IsTrue tells.all → progress ≡ progress_at job o (oper m o).boundary i (slot m o i).rc) → in_tree plan l o i ≡ true
      → Partly job tells.all plan m l o (i + 1) (put_holding hs o i (record { state = Some progress; list = empty_list (plan_in job) (slot m o i).rc }))
  partly_reset o i hs progress partly part is inside = partly_set o i hs (record { state = Some progress; list = empty_list (plan_in job) (slot m o i).rc }) partly part
      (fits_made job tells.all o (oper m o).boundary i (slot m o i) progress is) inside

  -- an operator's partitions are passed
  pub partly_next : (o n : ℕ) (hs : List (List Holding)) → Partly job tells.all plan m l o n hs → n ≡ length (oper m o).parts → Partly job tells.all plan m l (o + 1) 0 hs
  partly_next o n hs partly all = record {
    ops = partly.ops;
    sizes = partly.sizes;
    done = λ p j r before t. partly.done p j r (earlier p j r before) t;
    rest = λ p j r out. partly.rest p j r (λ before t. out (later p j before) t);
  }
    where
      earlier : (p j : ℕ) → IsPart m p j → IsBefore (o + 1) 0 p j → IsBefore o n p j
      earlier p j r (inl h) = elim (alike p o) [
        | inl e ↦ inr (e, subst (λ (k : ℕ). j < k) (ap (λ (k : ℕ). length (oper m k).parts) e ∙ sym all) r.1)
        | inr ne ↦ inl (omega (arith, h, ne))
      ]
      earlier p j r (inr h) = absurd (omega (arith, h.1))

      later : (p j : ℕ) → IsBefore o n p j → IsBefore (o + 1) 0 p j
      later p j (inl h) = inl (omega arith)
      later p j (inr h) = inl (omega (arith, h.0))

  choose : (t : Bool) (P : Slot → Type 0) (x : Slot) → (t ≡ true → P (back x)) → (t ≡ false → P x) → P (cond t (back x) x)
  choose true P x h k = h refl
  choose false P x h k = k refl

  -- all of the tree is back
  pub fits_kill : (n : ℕ) (at at' : SaveId → Option (List ℕ)) (hs gs : List (List Holding)) → Fits job tells at m hs → Partly job tells.all plan m l n 0 gs → n ≡ length m.ops
      → (IsTrue tells.vault → (id : SaveId) → at' id ≡ at id) → Fits job tells at' (meet l (map_slots (back_in plan l) m)) gs
  unfolding meet
  fits_kill n at at' hs gs fits partly all same =
      let new = fits_map job tells m (back_in plan l) at' gs partly.ops partly.sizes
      (λ o i r. choose (in_tree plan l o i) (λ y. FitsPart job tells.all o (oper m o).boundary i y (holding gs o i)) (slot m o i)
      (λ t. partly.done o i r (inl (omega (arith, r.0, all))) t)
      (λ out. partly.rest o i r (λ _ t. clash (sym t ∙ out))))
      (λ t o i r. choose (in_tree plan l o i) (λ y. FitsVault job tells.all at' o (oper m o).boundary i y) (slot m o i)
      (λ _ w pos h. saved t o i r w pos (was_there (λ v. nat_le v (slot m o i).rc) (slot m o i).saved w h).0)
      (λ _ w pos h. saved t o i r w pos h)) in
      record { ops = new.ops; sizes = new.sizes; each = new.each; vault = new.vault }
    where
      clash : true ≡ false → ⊥
      clash h = cc

      saved : IsTrue tells.vault → (o i : ℕ) → IsPart m o i → FitsVault job tells.all at' o (oper m o).boundary i (slot m o i)
      saved t o i r w pos h = subst (λ (found : Option (List ℕ)). IsSaved job tells.all o (oper m o).boundary i w found) (sym (same t (save_id o (oper m o).boundary i w))) (fits.vault t o i r w pos h)
