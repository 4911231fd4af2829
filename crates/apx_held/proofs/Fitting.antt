-- What is kept goes on fitting the machine when an event changes one partition.
use Rattle.std.proofs.Common.{◌≡◌, ℕ, suc, ◌+◌, ◌<◌, ◌≤◌, inl, inr, Bool, true, false, ◌||◌, ◌==◌, List, [], ◌∷◌, ◌++◌, drop, refl, sym, ap, subst, ◌∙◌, arith, Option, None, Some, IsTrue, IsSome}
use Rattle.std.specs.Prelude.{IfSome}
use Rattle.std.proofs.lemmas.Bool.{cases_lt}
use Rattle.std.proofs.lemmas.Bool.Decides.{nat_tests}
use Rattle.apx_device.specs.declared.vault.SaveId.{SaveId}
use Rattle.apx_history.specs.Plan.{has}
use Rattle.apx_history.specs.State.{Slot, State, oper, slot, IsPart, put}
use Rattle.apx_history.specs.Effects.{started, finished, saves, advanced, purged}
use Rattle.apx_history.proofs.Tests.{has-append, one_of}
use Rattle.apx_history.proofs.Slots.{put_ops, put_boundary, put_parts, part_was, put_slot}
use Rattle.apx_tuple.specs.declared.progress.Progress.{Progress}
use Rattle.apx_tuple.specs.declared.tuple.Tuple.{Tuple}
use Rattle.apx_list.specs.declared.block.Block.{Block}
use Rattle.apx_list.specs.declared.plan.CutPlan.{CutPlan}
use Rattle.apx_list.specs.Listed.{Listed, before}
use Rattle.apx_list.specs.Window.{SpellWindow}
use Rattle.apx_pass.specs.Pass.{windows, sink_of}
use Rattle.apx_pass.specs.Job.{Job}
use Rattle.apx_part.specs.Fed.{plan_in}
use Rattle.apx_statebytes.specs.Spelling.{second_spelling, IsProgress}
use Rattle.apx_held.specs.declared.held.Unnamed.{Unnamed}
use Rattle.apx_held.specs.Holding.{Holding, holding, put_holding, IsHeld, empty_list, with_blocks, without}
use Rattle.apx_held.specs.Partition.{progress_at, tuples_at, blocks_at, blocks_above}
use Rattle.apx_held.specs.Fits.{Telling, FitsList, FitsPart, save_id, IsSaved, FitsVault, Fits}
use Rattle.apx_held.proofs.Puts.{held_ops, held_parts, pair_put}
use Rattle.apx_held.proofs.Blocks.{up_append, up_higher, up_drop, drop_gone, above_next, above_none, above_split, above_up, above_above, takes_window, window_up}

-- ---- a list

module _ (job : Job) (told : Bool) (o b i : ℕ) (x : Slot) where
  next_above : (n : ℕ) → x.floor ≤ n → blocks_above job o b i x.floor n ++ blocks_at job o b i (n + 1) ≡ blocks_above job o b i x.floor (n + 1)
  next_above n le =
      let e : n + 1 ≡ suc n = omega arith in
      subst (λ (k : ℕ). blocks_above job o b i x.floor n ++ blocks_at job o b i k ≡ blocks_above job o b i x.floor k) (sym e) (sym (above_next job o b i x.floor n le))

  -- one window more
  pub list_more : (list : Listed Unnamed) (blocks : List Block) (tuples : List Tuple) → FitsList job told o b i x list → x.at + 1 ≤ windows job.flow → x.floor ≤ x.at
      → SpellWindow (plan_in job) (x.at + 1) blocks tuples → (IsTrue told → blocks ≡ blocks_at job o b i (x.at + 1)) → (IsTrue told → tuples ≡ tuples_at job o b i (x.at + 1))
      → FitsList job told o b i (finished (x.at + 1) x) (with_blocks list blocks)
  list_more list blocks tuples fits there low spell named given =
      let top : list.top + 1 ≡ x.at + 1 = ap (λ (k : ℕ). k + 1) fits.top in
      let spell' : SpellWindow list.plan (list.top + 1) blocks tuples = subst (λ (w : ℕ). SpellWindow list.plan w blocks tuples) (sym top) (subst (λ (p : CutPlan). SpellWindow p (x.at + 1) blocks tuples) (sym fits.cut) spell) in
      let fit : list.top + 1 ≤ list.plan.windows = subst (λ (p : CutPlan). list.top + 1 ≤ p.windows) (sym fits.cut) (subst (λ (k : ℕ). k ≤ windows job.flow) (sym top) there) in
      let takes = takes_window list blocks tuples spell' fit fits.whole in
      subst (λ (l : Listed Unnamed). FitsList job told o b i (finished (x.at + 1) x) l) (sym takes.all) (record {
        cut = fits.cut;
        floor = fits.floor;
        top = top;
        whole = up_append (list.top + 1) list.blocks blocks (up_higher list.top (list.top + 1) list.blocks (omega arith) fits.whole) (window_up list.plan (list.top + 1) 0 blocks tuples spell');
        named = λ t. ap (λ (bs : List Block). bs ++ blocks) (fits.named t) ∙ ap (λ (bs : List Block). blocks_above job o b i x.floor x.at ++ bs) (named t)
            ∙ next_above x.at low;
        spelled = λ t w above below. elim (cases_lt w (x.at + 1)) [
          | inl lt ↦ fits.spelled t w above (omega (arith, lt))
          | inr ge ↦
              let high : w ≤ x.at + 1 = below in
              let e : w ≡ x.at + 1 = omega (arith, ge, high) in
              subst (λ (k : ℕ). SpellWindow (plan_in job) k (blocks_at job o b i k) (tuples_at job o b i k)) (sym e)
              (subst (λ (bs : List Block). SpellWindow (plan_in job) (x.at + 1) bs (tuples_at job o b i (x.at + 1))) (named t)
              (subst (λ (ts : List Tuple). SpellWindow (plan_in job) (x.at + 1) blocks ts) (given t) spell))
        ];
      })

  -- windows up to one dropped
  pub list_less : (list : Listed Unnamed) (to : ℕ) → FitsList job told o b i x list → x.floor ≤ to → to ≤ x.at → FitsList job told o b i (purged to x) (without to list)
  list_less list to fits low high = record {
    cut = fits.cut;
    floor = refl;
    top = fits.top;
    whole = up_drop list.top (before (to + 1) list.blocks) list.blocks fits.whole;
    named = λ t. (let e = fits.named t ∙ above_split job o b i x.floor to x.at low high in
        ap (λ (bs : List Block). drop (before (to + 1) bs) bs) e
        ∙ drop_gone to (blocks_above job o b i x.floor to) (blocks_above job o b i to x.at) (above_up job o b i x.floor to) (above_above job o b i to x.at));
    spelled = λ t w above below. fits.spelled t w (let h : to < w = above in omega (arith, h, low)) below;
  }

-- an empty list, behind a window that is the last one finished and dropped
pub list_none : (job : Job) (told : Bool) (o b i : ℕ) (x : Slot) (w : ℕ) → x.at ≡ w → x.floor ≡ w → FitsList job told o b i x (empty_list (plan_in job) w)
list_none job told o b i x w at floor = record {
  cut = refl;
  floor = sym floor;
  top = sym at;
  whole = tt;
  named = λ t. sym (above_none job o b i x.floor x.at (omega arith));
  spelled = λ t v above below. absurd (omega arith);
}

-- ---- one partition

-- one number stands alone in a list of one
pub has_one : (v w : ℕ) → has (v ∷ []) w ≡ true → v ≡ w
unfolding has
has_one v w h = by (v == w) refl h
  where
    by : (t : Bool) → t ≡ (v == w) → (t || false) ≡ true → v ≡ w
    by true e h = grind (arith, nat_tests)
    by false e h = cc

-- bytes that spell what a partition at home carries are its checkpoint
pub spelled_saved : (job : Job) (told : Bool) (o b i w at : ℕ) (bytes : List ℕ) (s : Option Progress) → w ≡ at → IsSome s → (IsTrue told → IfSome s (λ g. g ≡ progress_at job o b i at))
    → IfSome s (λ g. (bytes ≡ second_spelling g) × IsProgress g) → IsSaved job told o b i w (Some bytes)
spelled_saved job told o b i w at bytes None now some state is = absurd (cc some)
spelled_saved job told o b i w at bytes (Some g) now some state is = record {
  progress = g;
  spelled = ap Some is.0;
  small = is.1;
  named = λ t. state t ∙ ap (λ (k : ℕ). progress_at job o b i k) (sym now);
}

-- what is kept for a partition is there
pub held_of : (job : Job) (tells : Telling) (at : SaveId → Option (List ℕ)) (m : State) (hs : List (List Holding)) (o i : ℕ) → Fits job tells at m hs → IsPart m o i → IsHeld hs o i
held_of job tells at m hs o i fits part = let a = fits.ops in let b = fits.sizes o part.0 in (omega arith, omega arith)

module _ (job : Job) (tells : Telling) (at : SaveId → Option (List ℕ)) (m : State) (hs : List (List Holding)) (o i : ℕ) (fits : Fits job tells at m hs) (part : IsPart m o i) where
  -- a partition changes with what is kept for it, and both fit: all fits
  pub fits_put : (x : Slot) (h : Holding) → FitsPart job tells.all o (oper m o).boundary i x h → (IsTrue tells.vault → FitsVault job tells.all at o (oper m o).boundary i x)
      → Fits job tells at (put m o i x) (put_holding hs o i h)
  fits_put x h one vault =
      let q = held_of job tells at m hs o i fits part in
      record {
        ops = held_ops hs o i h q ∙ fits.ops ∙ sym (put_ops m o i x part);
        sizes = λ p l. held_parts hs o i h q p ∙ fits.sizes p (let a = put_ops m o i x part in omega arith) ∙ sym (put_parts m o i x part p);
        each = λ p j r. pair_put m hs o i x h part q (λ p j b y g. FitsPart job tells.all p b j y g) one p j (λ n. fits.each p j (part_was m o i x part p j r));
        vault = λ t p j r. pair_put m hs o i x h part q (λ p j b y g. FitsVault job tells.all at p b j y) (vault t) p j (λ n. fits.vault t p j (part_was m o i x part p j r));
      }

  -- a partition changes, and what is kept stays; the vault may have more
  pub fits_slot : (at' : SaveId → Option (List ℕ)) (x : Slot) → FitsPart job tells.all o (oper m o).boundary i x (holding hs o i)
      → (IsTrue tells.vault → FitsVault job tells.all at' o (oper m o).boundary i x)
      → (IsTrue tells.vault → (p j : ℕ) → IsPart m p j → (p ≡ o → j ≡ i → ⊥) → FitsVault job tells.all at' p (oper m p).boundary j (slot m p j))
      → Fits job tells at' (put m o i x) hs
  fits_slot at' x one vault others = record {
    ops = fits.ops ∙ sym (put_ops m o i x part);
    sizes = λ p l. fits.sizes p (let a = put_ops m o i x part in omega arith) ∙ sym (put_parts m o i x part p);
    each = λ p j r. put_slot m o i x part (λ p j y. FitsPart job tells.all p (oper (put m o i x) p).boundary j y (holding hs p j))
        (subst (λ (b : ℕ). FitsPart job tells.all o b i x (holding hs o i)) (sym (put_boundary m o i x part o)) one) p j
        (λ n. subst (λ (b : ℕ). FitsPart job tells.all p b j (slot m p j) (holding hs p j)) (sym (put_boundary m o i x part p)) (fits.each p j (part_was m o i x part p j r)));
    vault = λ t p j r. put_slot m o i x part (λ p j y. FitsVault job tells.all at' p (oper (put m o i x) p).boundary j y)
        (subst (λ (b : ℕ). FitsVault job tells.all at' o b i x) (sym (put_boundary m o i x part o)) (vault t)) p j
        (λ n. subst (λ (b : ℕ). FitsVault job tells.all at' p b j (slot m p j)) (sym (put_boundary m o i x part p)) (others t p j (part_was m o i x part p j r) n));
  }

  -- Start takes the progress out
  pub fits_start : (w worker : ℕ) → Fits job tells at (put m o i (started w worker (slot m o i))) (put_holding hs o i (record (holding hs o i) { state = None }))
  fits_start w worker =
      let f = fits.each o i part in
      fits_put (started w worker (slot m o i)) (record (holding hs o i) { state = None })
      (record { home = λ e. absurd (let g : Some (w, worker) ≡ None = e in cc); state = λ t. tt; list = λ n. same_list (f.list n) })
      (λ t. fits.vault t o i part)
    where
      same_list : FitsList job tells.all o (oper m o).boundary i (slot m o i) (holding hs o i).list → FitsList job tells.all o (oper m o).boundary i (started w worker (slot m o i)) (holding hs o i).list
      same_list l = record { cut = l.cut; floor = l.floor; top = l.top; whole = l.whole; named = l.named; spelled = l.spelled }

  -- Finish brings the next progress and the window's blocks
  pub fits_finish : (progress : Progress) (blocks : List Block)
      → (IsTrue tells.all → progress ≡ progress_at job o (oper m o).boundary i ((slot m o i).at + 1))
      → ((o ≡ sink_of job.flow.nodes → ⊥) → FitsList job tells.all o (oper m o).boundary i (finished ((slot m o i).at + 1) (slot m o i)) (with_blocks (holding hs o i).list blocks))
      → Fits job tells at (put m o i (finished ((slot m o i).at + 1) (slot m o i))) (put_holding hs o i (record { state = Some progress; list = with_blocks (holding hs o i).list blocks }))
  fits_finish progress blocks is list = fits_put (finished ((slot m o i).at + 1) (slot m o i)) (record { state = Some progress; list = with_blocks (holding hs o i).list blocks })
      (record { home = λ e. refl; state = is; list = list })
      (λ t. fits.vault t o i part)

  -- Advance changes nothing that is kept
  pub fits_advance : (w : ℕ) → Fits job tells at (put m o i (advanced w (slot m o i))) hs
  fits_advance w =
      let f = fits.each o i part in
      fits_slot at (advanced w (slot m o i))
      (record { home = f.home; state = f.state; list = λ n. same_list (f.list n) })
      (λ t. fits.vault t o i part)
      (λ t p j r n. fits.vault t p j r)
    where
      same_list : FitsList job tells.all o (oper m o).boundary i (slot m o i) (holding hs o i).list → FitsList job tells.all o (oper m o).boundary i (advanced w (slot m o i)) (holding hs o i).list
      same_list l = record { cut = l.cut; floor = l.floor; top = l.top; whole = l.whole; named = l.named; spelled = l.spelled }

  -- Purge drops blocks
  pub fits_purge : (to : ℕ) → (slot m o i).floor ≤ to → to ≤ (slot m o i).at
      → Fits job tells at (put m o i (purged to (slot m o i))) (put_holding hs o i (record (holding hs o i) { list = without to (holding hs o i).list }))
  fits_purge to low high =
      let f = fits.each o i part in
      fits_put (purged to (slot m o i)) (record (holding hs o i) { list = without to (holding hs o i).list })
      (record { home = f.home; state = f.state; list = λ n. list_less job tells.all o (oper m o).boundary i (slot m o i) (holding hs o i).list to (f.list n) low high })
      (λ t. fits.vault t o i part)

  -- Save adds a window whose progress the vault got
  pub fits_save : (at' : SaveId → Option (List ℕ)) (w : ℕ) (bytes : List ℕ) → w ≡ (slot m o i).at → (slot m o i).opened ≡ None → has (slot m o i).saved w ≡ false
      → (IsTrue tells.vault → at' (save_id o (oper m o).boundary i w) ≡ Some bytes)
      → (IsTrue tells.vault → (id : SaveId) → (id ≡ save_id o (oper m o).boundary i w → ⊥) → at' id ≡ at id)
      → IfSome (holding hs o i).state (λ g. (bytes ≡ second_spelling g) × IsProgress g)
      → Fits job tells at' (put m o i (saves w (slot m o i))) hs
  fits_save at' w bytes now closed unsaved put_is others is =
      let f = fits.each o i part in
      fits_slot at' (saves w (slot m o i))
      (record { home = f.home; state = f.state; list = λ n. same_list (f.list n) })
      (λ t v pos h. elim (one_of (has (slot m o i).saved v) (has (w ∷ []) v) (sym (has-append (slot m o i).saved (w ∷ []) v) ∙ h)) [
        | inl old ↦ was t o i part v pos old
        | inr e ↦ subst (λ (k : ℕ). IsSaved job tells.all o (oper m o).boundary i k (at' (save_id o (oper m o).boundary i k))) (has_one w v e)
            (subst (λ (found : Option (List ℕ)). IsSaved job tells.all o (oper m o).boundary i w found) (sym (put_is t)) (spelled_saved job tells.all o (oper m o).boundary i w (slot m o i).at bytes (holding hs o i).state now (f.home closed) f.state is))
      ])
      (λ t p j r n. was t p j r)
    where
      same_list : FitsList job tells.all o (oper m o).boundary i (slot m o i) (holding hs o i).list → FitsList job tells.all o (oper m o).boundary i (saves w (slot m o i)) (holding hs o i).list
      same_list l = record { cut = l.cut; floor = l.floor; top = l.top; whole = l.whole; named = l.named; spelled = l.spelled }

      was : IsTrue tells.vault → (p j : ℕ) → IsPart m p j → FitsVault job tells.all at' p (oper m p).boundary j (slot m p j)
      was t p j r v pos h =
          subst (λ (found : Option (List ℕ)). IsSaved job tells.all p (oper m p).boundary j v found)
          (sym (others t (save_id p (oper m p).boundary j v) (λ e.
          let eo : p ≡ o = ap (λ (d : SaveId). d.op) e in
          let ei : j ≡ i = ap (λ (d : SaveId). d.part) e in
          let ev : v ≡ w = ap (λ (d : SaveId). d.window) e in
          clash (subst (λ (k : ℕ). has (slot m o i).saved k ≡ true) ev (subst (λ (k : ℕ). has (slot m o k).saved v ≡ true) ei (subst (λ (k : ℕ). has (slot m k j).saved v ≡ true) eo h))))))
          (fits.vault t p j r v pos h)
        where
          clash : has (slot m o i).saved w ≡ true → ⊥
          clash h = let e : true ≡ false = sym h ∙ unsaved in cc
