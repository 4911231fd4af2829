-- What the partitions of a source lend is what the source gives in the window.
use Rattle.std.proofs.Common.{◌≡◌, ℕ, zero, suc, ◌+◌, ◌<◌, ◌≤◌, inl, inr, Bool, true, false, ◌==◌, List, [], ◌∷◌, ◌++◌, length, length-append, get_or, refl, sym, ap, subst, ◌∙◌, arith, Option, IsTrue}
use Rattle.std.proofs.Math.ListN.{get_or-append}
use Rattle.std.proofs.Math.Seq.{get_or-append_seam}
use Rattle.std.proofs.lemmas.Bool.{cases_lt, eq-eqb, ne_eqb}
use Rattle.std.proofs.lemmas.List.{append-nil}
use Rattle.std.proofs.lemmas.List.Elements.{filter-append}
use Rattle.std.proofs.lemmas.List.FromFn.{get_or-map-range_with_len, length-map-range_with_len}
use Rattle.apx_tuple.specs.declared.tuple.Tuple.{Tuple}
use Rattle.apx_list.specs.declared.block.Block.{Block}
use Rattle.apx_list.specs.declared.plan.CutPlan.{CutPlan}
use Rattle.apx_list.specs.Cut.{numbered, blocks_of}
use Rattle.apx_list.specs.Listed.{Listed, AreUpTo, AreAbove}
use Rattle.apx_list.specs.Window.{SpellWindow}
use Rattle.apx_device.specs.declared.vault.SaveId.{SaveId}
use Rattle.apx_history.specs.State.{Slot, State, oper, slot, IsPart}
use Rattle.apx_pass.specs.Pass.{sink_of}
use Rattle.apx_pass.specs.Job.{Job}
use Rattle.apx_job.specs.Job.{boundary_of, in_force}
use Rattle.apx_shares.specs.Given.{part_rows}
use Rattle.apx_part.specs.Fed.{plan_in, AreWindows, given_in, IsFed}
use Rattle.apx_held.specs.declared.held.Unnamed.{Unnamed}
use Rattle.apx_held.specs.Holding.{Holding, holding, no_holding}
use Rattle.apx_held.specs.Partition.{tuples_at, blocks_at, blocks_above}
use Rattle.apx_held.specs.Fits.{Telling, FitsList, Fits}
use Rattle.apx_held.specs.Lent.{of_window, IsLent, AreLent}
use Rattle.apx_held.proofs.Blocks.{above_next, above_split, above_up, above_above}

-- ---- the blocks of one window among those of a partition

none_up : (v w : ℕ) (xs : List Block) → v < w → AreUpTo v xs → of_window w xs ≡ []
none_up v w [] lt h = refl
none_up v w (x ∷ xs) lt h =
    let other : (x.window == w) ≡ false = ne_eqb x.window w (λ e. omega (arith, e, h.0)) in
    rw other (none_up v w xs lt h.1)

none_above : (w : ℕ) (xs : List Block) → AreAbove w xs → of_window w xs ≡ []
none_above w [] h = refl
none_above w (x ∷ xs) h =
    let other : (x.window == w) ≡ false = ne_eqb x.window w (λ e. omega (arith, e, h.0)) in
    rw other (none_above w xs h.1)

all_numbered : (w count index : ℕ) (pieces : List (List ℕ)) → of_window w (numbered w count index pieces) ≡ numbered w count index pieces
all_numbered w count index [] = refl
all_numbered w count index (piece ∷ pieces) =
    let this : (w == w) ≡ true = eq-eqb w w refl in
    rw this (ap (λ (bs : List Block). record { window = w; index = index; last = (index + 1 == count); bytes = piece } ∷ bs) (all_numbered w count (index + 1) pieces))

all_at : (job : Job) (o b i w : ℕ) → of_window w (blocks_at job o b i w) ≡ blocks_at job o b i w
unfolding blocks_at blocks_of
all_at job o b i w = all_numbered w _ 0 _

pub window_at : (job : Job) (o b i floor top w : ℕ) → floor < w → w ≤ top → of_window w (blocks_above job o b i floor top) ≡ blocks_at job o b i w
window_at job o b i floor top zero low high = absurd (omega arith)
window_at job o b i floor top (suc v) low high =
    let split : blocks_above job o b i floor top ≡ (blocks_above job o b i floor v ++ blocks_at job o b i (suc v)) ++ blocks_above job o b i (suc v) top =
    above_split job o b i floor (suc v) top (omega arith) high ∙ ap (λ (bs : List Block). bs ++ blocks_above job o b i (suc v) top) (above_next job o b i floor v (omega arith)) in
    ap (of_window (suc v)) split
    ∙ filter-append (λ (x : Block). x.window == suc v) (blocks_above job o b i floor v ++ blocks_at job o b i (suc v)) (blocks_above job o b i (suc v) top)
    ∙ ap (λ (bs : List Block). of_window (suc v) (blocks_above job o b i floor v ++ blocks_at job o b i (suc v)) ++ bs) (none_above (suc v) (blocks_above job o b i (suc v) top) (above_above job o b i (suc v) top))
    ∙ append-nil _
    ∙ filter-append (λ (x : Block). x.window == suc v) (blocks_above job o b i floor v) (blocks_at job o b i (suc v))
    ∙ ap (λ (bs : List Block). bs ++ of_window (suc v) (blocks_at job o b i (suc v))) (none_up v (suc v) (blocks_above job o b i floor v) (omega arith) (above_up job o b i floor v))
    ∙ all_at job o b i (suc v)

-- what a list lends of a window is the partition's
pub lent_named : (job : Job) (told tells : Bool) (o b i w : ℕ) (x : Slot) (list : Listed Unnamed) (blocks : List Block) → FitsList job told o b i x list → x.floor < w → w ≤ x.at → IsTrue told → IsTrue tells → IsLent tells w list blocks
    → SpellWindow (plan_in job) w blocks (tuples_at job o b i w)
lent_named job told tells o b i w x list blocks fits low high t s lent =
    let is : blocks ≡ blocks_at job o b i w = lent.same s ∙ ap (of_window w) (fits.named t) ∙ window_at job o b i x.floor x.at w low high in
    subst (λ (bs : List Block). SpellWindow (plan_in job) w bs (tuples_at job o b i w)) (sym is) (fits.spelled t w low high)

-- ---- the blocks of all partitions of a source

-- one partition more has lent
pub lent_more : (tells : Bool) (w : ℕ) (group : List Holding) (lists : List (List Block)) (n : ℕ) (blocks : List Block) → length lists ≡ n
    → ((i : ℕ) → i < n → IsLent tells w (get_or group i no_holding).list (get_or lists i [])) → IsLent tells w (get_or group n no_holding).list blocks
    → (all : List (List Block)) → all ≡ lists ++ blocks ∷ [] → (length all ≡ n + 1) × ((i : ℕ) → i < n + 1 → IsLent tells w (get_or group i no_holding).list (get_or all i []))
lent_more tells w group lists n blocks count each last all joined = (
  omega (arith, ap (λ (ls : List (List Block)). length ls) joined, length-append lists (blocks ∷ []), count),
  λ i lt. elim (cases_lt i n) [
    | inl below ↦
        let e : get_or all i [] ≡ get_or lists i [] = ap (λ (ls : List (List Block)). get_or ls i []) joined ∙ get_or-append lists (blocks ∷ []) [] i (omega (arith, below, count)) in
        subst (λ (bs : List Block). IsLent tells w (get_or group i no_holding).list bs) (sym e) (each i below)
    | inr behind ↦
        let at_end : i ≡ length lists = omega (arith, behind, lt, count) in
        let at_n : n ≡ i = omega (arith, at_end, count) in
        let e : get_or all i [] ≡ blocks = ap (λ (ls : List (List Block)). get_or ls i []) joined ∙ ap (λ (k : ℕ). get_or (lists ++ blocks ∷ []) k []) at_end ∙ get_or-append_seam lists blocks [] [] in
        subst (λ (bs : List Block). IsLent tells w (get_or group i no_holding).list bs) (sym e) (subst (λ (k : ℕ). IsLent tells w (get_or group k no_holding).list blocks) at_n last)
  ],
)

-- each of the lists spells a bag of the window
windows_by : (plan : CutPlan) (w : ℕ) (lists : List (List Block)) (bags : List (List Tuple)) → length lists ≡ length bags
    → ((j : ℕ) → j < length lists → SpellWindow plan w (get_or lists j []) (get_or bags j [])) → AreWindows plan w lists bags
windows_by plan w [] [] e h = tt
windows_by plan w [] (b ∷ bags) e h = absurd (omega (arith, e))
windows_by plan w (x ∷ lists) [] e h = absurd (omega (arith, e))
windows_by plan w (x ∷ lists) (b ∷ bags) e h = (h 0 (omega arith), windows_by plan w lists bags (omega (arith, e)) (λ j lt. h (suc j) (omega (arith, lt))))

windows_some : (plan : CutPlan) (w : ℕ) (lists : List (List Block)) → ((j : ℕ) → j < length lists → (tuples : List Tuple) × SpellWindow plan w (get_or lists j []) tuples)
    → (bags : List (List Tuple)) × AreWindows plan w lists bags
windows_some plan w [] h = ([], tt)
windows_some plan w (x ∷ lists) h =
    let first = h 0 (omega arith) in
    let rest = windows_some plan w lists (λ j lt. h (suc j) (omega (arith, lt))) in
    let both : AreWindows plan w (x ∷ lists) (first.0 ∷ rest.0) = (first.1, rest.1) in
    (first.0 ∷ rest.0, both)

-- what is lent spells some tuples, whatever devices tell
pub lent_some : (plan : CutPlan) (tells : Bool) (w : ℕ) (group : List Holding) (lists : List (List Block)) → AreLent tells w group lists
    → ((j : ℕ) → j < length group → (get_or group j no_holding).list.plan ≡ plan) → (bags : List (List Tuple)) × AreWindows plan w lists bags
lent_some plan tells w group lists lent cut = windows_some plan w lists (λ j lt.
    let h : j < length group = omega (arith, lt, lent.count) in
    let is = lent.each j h in
    (is.tuples, subst (λ (p : CutPlan). SpellWindow p w (get_or lists j []) is.tuples) (cut j h) is.whole))

-- where the checkpoint store and the spools tell, it is what the source's partitions give
pub lent_all : (job : Job) (tells : Telling) (reads : Bool) (at : SaveId → Option (List ℕ)) (m : State) (hs : List (List Holding)) (s w : ℕ) (lists : List (List Block)) → Fits job tells at m hs
    → s < length m.ops → (s ≡ sink_of job.flow.nodes → ⊥) → ((j : ℕ) → IsPart m s j → ((slot m s j).floor < w) × (w ≤ (slot m s j).at))
    → boundary_of job s w ≡ (oper m s).boundary → length (oper m s).parts ≡ in_force job s w → IsTrue tells.all → IsTrue reads → AreLent reads w (get_or hs s []) lists → IsFed job w lists s
unfolding tuples_at
lent_all job tells reads at m hs s w lists fits there inner within boundary count t r lent =
    windows_by (plan_in job) w lists (given_in job w s)
    (lent.count ∙ fits.sizes s there ∙ count ∙ sym (length-map-range_with_len (λ (j : ℕ). part_rows job.flow (in_force job s w) j w s) 0 (in_force job s w)))
    (λ j lt.
    let h : j < length (get_or hs s []) = omega (arith, lt, lent.count) in
    let part : IsPart m s j = (there, omega (arith, h, fits.sizes s there)) in
    let is = lent_named job tells.all reads s (oper m s).boundary j w (slot m s j) (holding hs s j).list (get_or lists j []) ((fits.each s j part).list inner) (within j part).0 (within j part).1 t r (lent.each j h) in
    let rows : tuples_at job s (oper m s).boundary j w ≡ part_rows job.flow (in_force job s w) j w s = ap (λ (b : ℕ). tuples_at job s b j w) (sym boundary) in
    let given : get_or (given_in job w s) j [] ≡ part_rows job.flow (in_force job s w) j w s =
    get_or-map-range_with_len (λ (j : ℕ). part_rows job.flow (in_force job s w) j w s) 0 (in_force job s w) j j [] (omega (arith, part.1, count)) (omega arith) in
    subst (λ (bag : List Tuple). SpellWindow (plan_in job) w (get_or lists j []) bag) (rows ∙ sym given) is)
