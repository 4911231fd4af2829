-- What is so of a run after each kind of change.
use Rattle.std.proofs.Common.{◌≡◌, ℕ, ◌+◌, ◌≤◌, ◌⊎◌, inl, inr, Bool, true, List, [], ◌∷◌, ◌++◌, Option, None, Some, IsTrue, IfSome, refl, sym, ap, subst, ◌∙◌, Err, arith, add-one}
use Rattle.apx_tuple.specs.declared.tuple.Tuple.{Tuple}
use Rattle.apx_cause.specs.Cause.{Rose}
use Rattle.apx_device.specs.declared.keeper.KeepRefusal.{KeepRefusal}
use Rattle.apx_device.specs.declared.keeper.KeepRefusal.TheVariants as refusals
use Rattle.apx_device.specs.Keeper.{LeftBy}
use Rattle.apx_pass.specs.Pass.{Dataflow, mean_up_to, rows_at, sink_of}
use Rattle.apx_course.specs.declared.faults.CoreFault.{CoreFault}
use Rattle.apx_course.specs.declared.faults.CoreFault.TheVariants.{Keeper, Memory}
use Rattle.apx_course.specs.Faults.{status, status_of}
use Rattle.apx_course.specs.Run.{Run}
use Rattle.apx_stores.specs.Caused.{IsCaused}
use Rattle.apx_stores.specs.Whole.{FitsKeeper, Tells, BeginsRight, counted, IsWhole}

-- one window more of the one pass
pub mean_more : (flow : Dataflow) (s : ℕ) → mean_up_to flow (s + 1) ≡ mean_up_to flow s ++ rows_at flow (s + 1) (sink_of flow.nodes) ∷ []
unfolding mean_up_to
mean_more flow s = let P : ℕ → Type 0 = λ k. mean_up_to flow k ≡ mean_up_to flow s ++ rows_at flow k (sink_of flow.nodes) ∷ [] in subst P (sym (add-one s)) refl

-- a run that goes on has exactly the windows that are counted as stored
pub fits_exactly : (flow : Dataflow) (s : ℕ) (rows : List (List Tuple)) → FitsKeeper flow None s rows → rows ≡ mean_up_to flow s
fits_exactly flow s rows h = elim h [ inl e ↦ e | inr two ↦ absurd (cc two.0) ]

-- after a failed write the sink's store has the windows from before it, or those and one more
pub fits_failed : (flow : Dataflow) (s w : ℕ) (rows rows' : List (List Tuple)) (row : List Tuple) → FitsKeeper flow None s rows → w ≡ s + 1
    → row ≡ rows_at flow w (sink_of flow.nodes) → (rows' ≡ rows) ⊎ (rows' ≡ rows ++ row ∷ []) → FitsKeeper flow (Some 9) s rows'
fits_failed flow s w rows rows' row fits next is left =
    let exact = fits_exactly flow s rows fits in
    elim left [
      | inl e ↦ inl (e ∙ exact)
      | inr e ↦ inr (
        refl,
        e ∙ (ap (λ (xs : List (List Tuple)). xs ++ row ∷ []) exact
            ∙ (ap (λ (r : List Tuple). mean_up_to flow s ++ r ∷ []) (is ∙ ap (λ (n : ℕ). rows_at flow n (sink_of flow.nodes)) next) ∙ sym (mean_more flow s))),
      )
    ]

-- what a failed write leaves, and what one leaves for which there was no memory
pub left_failed : {X : Type 0} (r : KeepRefusal) (before after now : X) → r ≡ refusals.Failed → LeftBy (Err r) before after now → (now ≡ before) ⊎ (now ≡ after)
left_failed refusals.Failed before after now e h = h
left_failed refusals.Memory before after now e h = absurd (cc e)

pub left_memory : {X : Type 0} (r : KeepRefusal) (before after now : X) → r ≡ refusals.Memory → LeftBy (Err r) before after now → now ≡ before
left_memory refusals.Failed before after now e h = absurd (cc e)
left_memory refusals.Memory before after now e h = h

module _ {F : Type 0} (run : Run) {tells : Tells} (s : ℕ) (fault : Option (CoreFault F)) (rows : List (List Tuple)) (last : ℕ) (ks vs : Bool) (k v p : ℕ)
    (whole : IsWhole run tells s fault rows last ks vs k v p) where
  -- a fault has its cause, by these counts
  abbrev pub Caused : ℕ → ℕ → ℕ → CoreFault F → Type 0
  Caused k v p why = IsCaused run.job run.told tells.vault tells.spools (counted run) (record { keeper = k; vault = v; spools = p }) why

  -- the same, where the machine counts as many windows and the fault is the same
  pub whole_same : (s' : ℕ) (fault' : Option (CoreFault F)) → s' ≡ s → fault' ≡ fault → IsWhole run tells s' fault' rows last ks vs k v p
  whole_same s' fault' stored same =
      subst (λ (n : ℕ). IsWhole run tells n fault' rows last ks vs k v p) (sym stored)
      (subst (λ (f : Option (CoreFault F)). IsWhole run tells s f rows last ks vs k v p) (sym same) whole)

  -- the checkpoint store did what was asked
  pub whole_vault : (s' : ℕ) (fault' : Option (CoreFault F)) (vs' : Bool) (v' : ℕ) → s' ≡ s → fault' ≡ fault → fault ≡ None → vs' ≡ true → v ≤ v'
      → IsWhole run tells s' fault' rows last ks vs' k v' p
  whole_vault s' fault' vs' v' stored same none sound later =
      let w = whole_same s' fault' stored same in
      record {
        rows_fit = w.rows_fit;
        last_is = w.last_is;
        is_sound = w.is_sound;
        is_vault_sound = λ _. sound;
        keeper_counts = w.keeper_counts;
        vault_counts = let a = w.vault_counts in omega arith;
        spools_count = w.spools_count;
        caused = subst (λ (f : Option (CoreFault F)). IfSome f (Caused k v' p)) (sym (same ∙ none)) tt;
      }

  -- the maker of spools did what was asked
  pub whole_spools : (p' : ℕ) → fault ≡ None → p ≤ p' → IsWhole run tells s fault rows last ks vs k v p'
  whole_spools p' none later = record {
    rows_fit = whole.rows_fit;
    last_is = whole.last_is;
    is_sound = whole.is_sound;
    is_vault_sound = whole.is_vault_sound;
    keeper_counts = whole.keeper_counts;
    vault_counts = whole.vault_counts;
    spools_count = let a = whole.spools_count in omega arith;
    caused = subst (λ (f : Option (CoreFault F)). IfSome f (Caused k v p')) (sym none) tt;
  }

  -- the sink's store got the next window
  pub whole_write : (w : ℕ) (row : List Tuple) (s' : ℕ) (fault' : Option (CoreFault F)) (rows' : List (List Tuple)) (last' : ℕ) (ks' : Bool) (k' : ℕ)
      → fault ≡ None → w ≡ s + 1 → s' ≡ w → fault' ≡ fault → (IsTrue run.told → row ≡ rows_at run.job.flow w (sink_of run.job.flow.nodes))
      → (IsTrue tells.keeper → rows' ≡ rows ++ row ∷ []) → last' ≡ last + 1 → ks' ≡ true → k ≤ k'
      → IsWhole run tells s' fault' rows' last' ks' vs k' v p
  whole_write w row s' fault' rows' last' ks' k' none next stored same is more last_more sound later =
      let flow = run.job.flow in
      let none' = same ∙ none in
      let whole_none : IsWhole run tells s None rows last ks vs k v p = subst (λ (f : Option (CoreFault F)). IsWhole run tells s f rows last ks vs k v p) none whole in
      record {
        rows_fit = λ t. inl (
            more t.keeper_tells ∙ (ap (λ (xs : List (List Tuple)). xs ++ row ∷ []) (fits_exactly flow s rows (whole_none.rows_fit t))
            ∙ (ap (λ (r : List Tuple). mean_up_to flow s ++ r ∷ []) (is t.told ∙ ap (λ (n : ℕ). rows_at flow n (sink_of flow.nodes)) next)
            ∙ (sym (mean_more flow s) ∙ ap (mean_up_to flow) (sym (stored ∙ next))))));
        last_is = λ _. let a = whole.last_is none in omega arith;
        is_sound = λ _. sound;
        is_vault_sound = λ _. whole.is_vault_sound none;
        keeper_counts = let a = whole.keeper_counts in omega arith;
        vault_counts = whole.vault_counts;
        spools_count = whole.spools_count;
        caused = subst (λ (f : Option (CoreFault F)). IfSome f (Caused k' v p)) (sym none') tt;
      }

  -- the run stopped with a fault
  pub whole_stop : (why : CoreFault F) (s' : ℕ) (fault' : Option (CoreFault F)) (rows' : List (List Tuple)) (last' : ℕ) (ks' vs' : Bool) (k' v' p' : ℕ)
      → s' ≡ s → fault' ≡ Some why → (BeginsRight run tells.keeper → FitsKeeper run.job.flow (Some (status why)) s rows')
      → k ≤ k' → v ≤ v' → p ≤ p' → Caused k' v' p' why
      → IsWhole run tells s' fault' rows' last' ks' vs' k' v' p'
  whole_stop why s' fault' rows' last' ks' vs' k' v' p' stored kept fits keeper vault spools cause =
      record {
        rows_fit = λ t. subst (λ (n : ℕ). FitsKeeper run.job.flow (status_of fault') n rows') (sym stored)
            (subst (λ (f : Option (CoreFault F)). FitsKeeper run.job.flow (status_of f) s rows') (sym kept) (fits t));
        last_is = λ e. absurd (cc (sym kept ∙ e));
        is_sound = λ e. absurd (cc (sym kept ∙ e));
        is_vault_sound = λ e. absurd (cc (sym kept ∙ e));
        keeper_counts = let a = whole.keeper_counts in omega arith;
        vault_counts = let a = whole.vault_counts in omega arith;
        spools_count = let a = whole.spools_count in omega arith;
        caused = subst (λ (f : Option (CoreFault F)). IfSome f (Caused k' v' p')) (sym kept) cause;
      }

  -- a run that goes on has exactly what is counted
  pub whole_exact : fault ≡ None → BeginsRight run tells.keeper → rows ≡ mean_up_to run.job.flow s
  whole_exact none t =
      fits_exactly run.job.flow s rows (subst (λ (f : Option (CoreFault F)). FitsKeeper run.job.flow (status_of f) s rows) none (whole.rows_fit t))

  -- it stopped, and no device changed
  pub whole_own : (why : CoreFault F) (s' : ℕ) (fault' : Option (CoreFault F)) → fault ≡ None → s' ≡ s → fault' ≡ Some why → Caused k v p why
      → IsWhole run tells s' fault' rows last ks vs k v p
  whole_own why s' fault' none stored kept cause =
      whole_stop why s' fault' rows last ks vs k v p stored kept (λ t. inl (whole_exact none t)) (omega arith) (omega arith) (omega arith) cause

  -- it stopped, and the checkpoint store changed
  pub whole_vault_stop : (why : CoreFault F) (s' : ℕ) (fault' : Option (CoreFault F)) (vs' : Bool) (v' : ℕ) → fault ≡ None → s' ≡ s → fault' ≡ Some why
      → v ≤ v' → Caused k v' p why → IsWhole run tells s' fault' rows last ks vs' k v' p
  whole_vault_stop why s' fault' vs' v' none stored kept later cause =
      whole_stop why s' fault' rows last ks vs' k v' p stored kept (λ t. inl (whole_exact none t)) (omega arith) later (omega arith) cause

  -- it stopped, and the maker of spools changed
  pub whole_spools_stop : (why : CoreFault F) (s' : ℕ) (fault' : Option (CoreFault F)) (p' : ℕ) → fault ≡ None → s' ≡ s → fault' ≡ Some why
      → p ≤ p' → Caused k v p' why → IsWhole run tells s' fault' rows last ks vs k v p'
  whole_spools_stop why s' fault' p' none stored kept later cause =
      whole_stop why s' fault' rows last ks vs k v p' stored kept (λ t. inl (whole_exact none t)) (omega arith) (omega arith) later cause

  -- it stopped after a failed write
  pub whole_failed : (w : ℕ) (row : List Tuple) (s' : ℕ) (fault' : Option (CoreFault F)) (rows' : List (List Tuple)) (last' : ℕ) (ks' : Bool) (k' : ℕ)
      → fault ≡ None → w ≡ s + 1 → s' ≡ s → fault' ≡ Some Keeper → (IsTrue run.told → row ≡ rows_at run.job.flow w (sink_of run.job.flow.nodes))
      → (IsTrue tells.keeper → (rows' ≡ rows) ⊎ (rows' ≡ rows ++ row ∷ [])) → k ≤ k' → Rose run.keeper k'
      → IsWhole run tells s' fault' rows' last' ks' vs k' v p
  whole_failed w row s' fault' rows' last' ks' k' none next stored kept is left later cause =
      whole_stop Keeper s' fault' rows' last' ks' vs k' v p stored kept
      (λ t. fits_failed run.job.flow s w rows rows' row (inl (whole_exact none t)) next (is t.told) (left t.keeper_tells)) later (omega arith) (omega arith) cause

  -- it stopped, since there was no memory for a write
  pub whole_refused : (s' : ℕ) (fault' : Option (CoreFault F)) (rows' : List (List Tuple)) (last' : ℕ) (ks' : Bool) (k' : ℕ)
      → fault ≡ None → s' ≡ s → fault' ≡ Some Memory → (IsTrue tells.keeper → rows' ≡ rows) → k ≤ k'
      → IsWhole run tells s' fault' rows' last' ks' vs k' v p
  whole_refused s' fault' rows' last' ks' k' none stored kept left later =
      whole_stop Memory s' fault' rows' last' ks' vs k' v p stored kept (λ t. inl (left t.keeper_tells ∙ whole_exact none t)) later (omega arith) (omega arith) tt

-- a run that has met no fault yet
pub whole_new : {F : Type 0} (run : Run) {tells : Tells} (s : ℕ) (fault : Option (CoreFault F)) (rows : List (List Tuple)) (last : ℕ) (ks vs : Bool) (k v p : ℕ)
    → fault ≡ None → last ≡ s → (BeginsRight run tells.keeper → rows ≡ mean_up_to run.job.flow s) → run.keeper ≤ k → run.vault ≤ v → run.spools ≤ p → IsTrue ks → IsTrue vs
    → IsWhole run tells s fault rows last ks vs k v p
whole_new {F = F} run {tells} s fault rows last ks vs k v p none is fits keeper vault spools sound vault_sound = record {
  rows_fit = λ t. inl (fits t);
  last_is = λ _. is;
  is_sound = λ _. sound;
  is_vault_sound = λ _. vault_sound;
  keeper_counts = keeper;
  vault_counts = vault;
  spools_count = spools;
  caused = subst (λ (f : Option (CoreFault F)). IfSome f (IsCaused run.job run.told tells.vault tells.spools (counted run) (record { keeper = k; vault = v; spools = p }))) (sym none) tt;
}
