-- What a list keeps when its blocks go to the spool and come back.
use Rattle.std.proofs.Common.{◌≡◌, ◌≢◌, ℕ, zero, suc, ◌+◌, ◌-◌, ◌<◌, ◌≤◌, List, [], ◌∷◌, ◌++◌, length, refl, sym, ap, subst, ◌∙◌, arith, ◌^◌, Bool, true, false, eqb, Option, Some, None, slice_get, set, get_or, drop, inl, inr, append_assoc, length-append}
use Rattle.std.specs.Prelude.{IfSome, IsSome, IsTrue, Err, ◌⊎◌}
use Rattle.std.proofs.lemmas.List.{length-map, map-append}
use Rattle.std.proofs.lemmas.Bool.Decides.{eqb_tells}
use Rattle.apx_device.specs.Spool.{KeepsOthers}
use Rattle.apx_list.specs.declared.plan.CutPlan.{CutPlan}
use Rattle.apx_list.specs.declared.block.Block.{Block}
use Rattle.apx_list.specs.declared.block.Marks.{Marks}
use Rattle.apx_list.specs.declared.kept.Kept.{Kept}
use Rattle.apx_list.specs.declared.kept.Kept.TheVariants.{Held, Spilled}
use Rattle.apx_list.specs.declared.kept.Fetched.{Fetched}
use Rattle.apx_list.specs.Plan.{IsWindow}
use Rattle.apx_list.specs.Block.{Spells, AllSpell}
use Rattle.apx_list.specs.Checking.{block_with, marks_of}
use Rattle.apx_list.specs.declared.fault.ListFault.{ListFault}
use Rattle.apx_list.specs.declared.fault.ListFault.TheVariants.{Fault, Damaged, Memory}
use Rattle.apx_list.specs.Listed.{Listed, next_number, before, AreUpTo, AreNamed, IsWithin, IsKept, IsDropped}
use Rattle.apx_list.specs.Reads.{IsRead, GivesBlock}
use Rattle.apx_list.specs.Kept.{block_of, all_of, IsPut, ArePut, IsForgotten, IsOf, IsFetched, IsLatest, IsLatestOf, KeepsLatest, SpellsPut, IsDamagedBy, IsStored}
use Rattle.apx_list.proofs.Numbers.{AllSpell-get, slice_get-is, kept_in_window, kept_at_end}
use Rattle.apx_list.proofs.Row.{named_at}

-- ---- members by place

pub get_all : (kept : List Kept) (k : ℕ) (one : Kept) → slice_get kept k ≡ Some one → slice_get (all_of kept) k ≡ Some (block_of one)
get_all [] k one e = absurd (cc e)
get_all (x ∷ kept) zero one e = let same : x ≡ one = (cc e) in ap (λ (y : Kept). Some (block_of y)) same
get_all (x ∷ kept) (suc k) one e = get_all kept k one e

get_more : (xs ys : List Block) (k : ℕ) (y : Block) → slice_get xs k ≡ Some y → slice_get (xs ++ ys) k ≡ Some y
get_more [] ys k y e = absurd (cc e)
get_more (x ∷ xs) ys zero y e = e
get_more (x ∷ xs) ys (suc k) y e = get_more xs ys k y e

get_behind : (xs : List Kept) (x : Kept) (k : ℕ) (one : Kept) → slice_get (xs ++ x ∷ []) k ≡ Some one → (slice_get xs k ≡ Some one) ⊎ (x ≡ one)
get_behind [] x zero one e = inr (cc e)
get_behind [] x (suc k) one e = absurd (cc e)
get_behind (y ∷ xs) x zero one e = inl e
get_behind (y ∷ xs) x (suc k) one e = get_behind xs x k one e

get_set : (xs : List Kept) (i : ℕ) (x : Kept) (k : ℕ) (one : Kept) → slice_get (set xs i x) k ≡ Some one → ((k ≡ i) × (x ≡ one)) ⊎ ((k ≢ i) × (slice_get xs k ≡ Some one))
get_set [] i x k one e = absurd (cc e)
get_set (y ∷ xs) zero x zero one e = inl (refl, (cc e))
get_set (y ∷ xs) zero x (suc k) one e = inr ((λ s. absurd (omega (arith, s))), e)
get_set (y ∷ xs) (suc i) x zero one e = inr ((λ s. absurd (omega (arith, s))), e)
get_set (y ∷ xs) (suc i) x (suc k) one e = next (get_set xs i x k one e)
  where
    next : ((k ≡ i) × (x ≡ one)) ⊎ ((k ≢ i) × (slice_get xs k ≡ Some one)) → ((suc k ≡ suc i) × (x ≡ one)) ⊎ ((suc k ≢ suc i) × (slice_get xs k ≡ Some one))
    next (inl (same, is)) = inl (ap suc same, is)
    next (inr (other, is)) = inr ((λ s. other (omega (arith, s))), is)

pub all_of-set : (kept : List Kept) (i : ℕ) (old new : Kept) → slice_get kept i ≡ Some old → block_of new ≡ block_of old → all_of (set kept i new) ≡ all_of kept
all_of-set [] i old new is same = absurd (cc is)
all_of-set (x ∷ kept) zero old new is same =
    let was : x ≡ old = (cc is) in
    ap (λ (b : Block). b ∷ all_of kept) (same ∙ ap block_of (sym was))
all_of-set (x ∷ kept) (suc i) old new is same = ap (λ (bs : List Block). block_of x ∷ bs) (all_of-set kept i old new is same)

-- ---- what the spool has

pub put_same : (tells : Bool) (held now : ℕ → Option (List ℕ)) (first : ℕ) (kept : List Kept) → ((other : ℕ) → now other ≡ held other) → ArePut tells held first kept → ArePut tells now first kept
put_same tells held now first kept same put = λ k one is. subst (λ (p : Option (List ℕ)). IsPut tells p one) (sym (same (first + k))) (put k one is)

-- a put that was refused changes nothing
pub unchanged : (held now : ℕ → Option (List ℕ)) (number : ℕ) → KeepsOthers held now number → now number ≡ held number → (other : ℕ) → now other ≡ held other
unchanged held now number others same other = go (eqb_tells other number)
  where
    go : ((eqb other number ≡ true) × (other ≡ number)) ⊎ ((eqb other number ≡ false) × (other ≢ number)) → now other ≡ held other
    go (inl (t, e)) = ap now e ∙ (same ∙ ap held (sym e))
    go (inr (t, n)) = others other n

-- a block behind the others
pub put_more : (tells : Bool) (held : ℕ → Option (List ℕ)) (first : ℕ) (kept : List Kept) (block : Block) → ArePut tells held first kept → ArePut tells held first (kept ++ Held block ∷ [])
put_more tells held first kept block put = λ k one is. go k one (get_behind kept (Held block) k one is)
  where
    go : (k : ℕ) (one : Kept) → (slice_get kept k ≡ Some one) ⊎ (Held block ≡ one) → IsPut tells (held (first + k)) one
    go k one (inl is) = put k one is
    go k one (inr same) = subst (IsPut tells (held (first + k))) same tt

-- a block that goes to the spool
pub put_one : (tells : Bool) (held now : ℕ → Option (List ℕ)) (first i : ℕ) (kept : List Kept) (new : Kept) → KeepsOthers held now (first + i) → IsPut tells (now (first + i)) new → ArePut tells held first kept → ArePut tells now first (set kept i new)
put_one tells held now first i kept new others is_put put = λ k one is. go k one (get_set kept i new k one is)
  where
    go : (k : ℕ) (one : Kept) → ((k ≡ i) × (new ≡ one)) ⊎ ((k ≢ i) × (slice_get kept k ≡ Some one)) → IsPut tells (now (first + k)) one
    go k one (inl (same, is)) = let at : first + i ≡ first + k = omega (arith, same) in subst (λ (n : ℕ). IsPut tells (now n) one) at (subst (IsPut tells (now (first + i))) is is_put)
    go k one (inr (other, is)) = subst (λ (p : Option (List ℕ)). IsPut tells p one) (sym (others (first + k) (λ e. other (omega (arith, e))))) (put k one is)

-- ---- blocks that are dropped from the front

-- of these blocks so many are gone from the front, up to a window, and the spool has forgotten them
pub record Dropping (tells : Bool) (held now : ℕ → Option (List ℕ)) (first to count : ℕ) (all kept : List Kept) : Type 0 where
  pub gone : List Kept
  pub split : all ≡ gone ++ kept
  pub counted : count ≡ length gone
  pub up : AreUpTo to (all_of gone)
  pub put : ArePut tells held first all → ArePut tells now (first + count) kept
  pub forgotten : (k : ℕ) (one : Kept) → k < count → slice_get all k ≡ Some one → IsForgotten (now (first + k)) one

pub dropping_none : (tells : Bool) (held : ℕ → Option (List ℕ)) (first to : ℕ) (all : List Kept) → Dropping tells held held first to 0 all all
dropping_none tells held first to all = record {
  gone = [];
  split = refl;
  counted = refl;
  up = tt;
  put = λ put. let at : first ≡ first + 0 = omega arith in subst (λ (n : ℕ). ArePut tells held n all) at put;
  forgotten = λ k one lt is. absurd (omega (arith, lt));
}

UpTo-more : (to : ℕ) (gone : List Kept) (one : Kept) → AreUpTo to (all_of gone) → (block_of one).window ≤ to → AreUpTo to (all_of (gone ++ one ∷ []))
UpTo-more to [] one up le = (le, tt)
UpTo-more to (x ∷ gone) one up le = (up.0, UpTo-more to gone one up.1 le)

get_at : (gone rest : List Kept) (one : Kept) → slice_get (gone ++ one ∷ rest) (length gone) ≡ Some one
get_at [] rest one = refl
get_at (x ∷ gone) rest one = get_at gone rest one

pub dropping_more : (tells : Bool) (held now then : ℕ → Option (List ℕ)) (first to count : ℕ) (all kept : List Kept) (one : Kept) (rest : List Kept) → Dropping tells held now first to count all kept → kept ≡ one ∷ rest → (block_of one).window ≤ to → IsForgotten (then (first + count)) one → KeepsOthers now then (first + count) → Dropping tells held then first to (count + 1) all rest
dropping_more tells held now then first to count all kept one rest so_far taken le gone others =
    let split : all ≡ so_far.gone ++ one ∷ rest = so_far.split ∙ ap (λ (ks : List Kept). so_far.gone ++ ks) taken in
    record {
      gone = so_far.gone ++ one ∷ [];
      split = split ∙ sym (append_assoc so_far.gone (one ∷ []) rest);
      counted = omega (arith, so_far.counted, length-append so_far.gone (one ∷ []));
      up = UpTo-more to so_far.gone one so_far.up le;
      put = λ put. λ k other is.
          let before = so_far.put put (suc k) other (ap (λ (ks : List Kept). slice_get ks (suc k)) taken ∙ is) in
          let at : (first + count) + suc k ≡ (first + (count + 1)) + k = omega arith in
          let same : then ((first + (count + 1)) + k) ≡ now ((first + count) + suc k) = others _ (λ e. absurd (omega (arith, e))) ∙ ap now (sym at) in
          subst (λ (p : Option (List ℕ)). IsPut tells p other) (sym same) before;
      forgotten = λ k other lt is. at_place k other lt is (eqb_tells k count);
    }
  where
    at_place : (k : ℕ) (other : Kept) → k < count + 1 → slice_get all k ≡ Some other → ((eqb k count ≡ true) × (k ≡ count)) ⊎ ((eqb k count ≡ false) × (k ≢ count)) → IsForgotten (then (first + k)) other
    at_place k other lt is (inl (t, e)) =
        let at : slice_get all k ≡ Some one = ap (slice_get all) (e ∙ so_far.counted) ∙ (ap (λ (ks : List Kept). slice_get ks (length so_far.gone)) (so_far.split ∙ ap (λ (ks : List Kept). so_far.gone ++ ks) taken) ∙ get_at so_far.gone rest one) in
        let same : one ≡ other = (cc (at, is)) in
        let place : first + count ≡ first + k = omega (arith, e) in
        subst (λ (n : ℕ). IsForgotten (then n) other) place (subst (IsForgotten (then (first + count))) same gone)
    at_place k other lt is (inr (t, n)) =
        subst (λ (p : Option (List ℕ)). IsForgotten p other) (sym (others (first + k) (λ e. n (omega (arith, e))))) (so_far.forgotten k other (omega (arith, lt, n)) is)

pub dropped : (tells : Bool) (held now : ℕ → Option (List ℕ)) (first to count : ℕ) (all kept : List Kept) → Dropping tells held now first to count all kept → IfSome (slice_get (all_of kept) 0) (λ block. to < block.window) → IsDropped (all_of all) (all_of kept) to count
dropped tells held now first to count all kept is front = record {
  gone = all_of is.gone;
  split = ap all_of is.split ∙ map-append block_of is.gone kept;
  are_gone = is.up;
  count_is = is.counted ∙ sym (length-map is.gone block_of);
  front = front;
}

-- ---- what is read

-- a block that says what another one says beside its bytes
says_marks : (block : Block) (marks : Marks) → block.window ≡ marks.window → block.index ≡ marks.index → block.last ≡ marks.last → block ≡ block_with marks block.bytes
says_marks block marks w i l = λ j. record { window = w j; index = i j; last = l j; bytes = block.bytes }

pub read_is : {N : Type 0} (tells : Bool) (told : Option (List Block)) (list : Listed N) (place : ℕ) (block : Block) → IfSome told (λ all. AreNamed all list.first list.blocks) → IsFetched tells list.plan list.first list.blocks place block → IsRead tells told list place block
read_is tells told list place block named is =
    record {
      marks = record { there = is.there; is = is.is; window = is.window; index = is.index; last = is.last };
      spells = is.spells;
      same = λ t. is.is ∙ ap Some (is.same t);
      named = λ t. named_at told list.first place list.blocks block is.after (is.is ∙ ap Some (is.same t)) named;
    }

-- a block that is in memory
pub fetched_held : (tells : Bool) (plan : CutPlan) (first : ℕ) (kept : List Kept) (place : ℕ) (block : Block) → first ≤ place → slice_get kept (place - first) ≡ Some (Held block) → AllSpell plan (all_of kept) → IsFetched tells plan first (all_of kept) place block
fetched_held tells plan first kept place block after is spell =
    let found = get_all kept (place - first) (Held block) is in
    record {
      after = after;
      there = block;
      is = found;
      window = refl;
      index = refl;
      last = refl;
      spells = AllSpell-get plan (all_of kept) (place - first) block spell found;
      same = λ _. refl;
    }

-- a block that is in the spool, with what the spool has under its number
pub record IsOut (tells : Bool) (plan : CutPlan) (first : ℕ) (kept : List Kept) (place : ℕ) (marks : Marks) (bytes : List ℕ) (piece : Option (List ℕ)) : Type 0 where
  pub after : first ≤ place
  pub is : slice_get (all_of kept) (place - first) ≡ Some (block_with marks bytes)
  pub there : IsSome piece
  pub told : IsTrue tells → piece ≡ Some bytes

pub fetched_spilled : (tells : Bool) (plan : CutPlan) (first : ℕ) (kept : List Kept) (place : ℕ) (marks : Marks) (bytes : List ℕ) (block : Block) (piece : Option (List ℕ)) → IsOut tells plan first kept place marks bytes piece → IsOf tells plan piece marks block → IsFetched tells plan first (all_of kept) place block
fetched_spilled tells plan first kept place marks bytes block piece out of = record {
  after = out.after;
  there = block_with marks bytes;
  is = out.is;
  window = ap (λ (b : Block). b.window) of.says;
  index = ap (λ (b : Block). b.index) of.says;
  last = ap (λ (b : Block). b.last) of.says;
  spells = of.spells;
  same = λ t.
      let same : bytes ≡ block.bytes = cc (out.told t, of.told t) in
      ap (block_with marks) same ∙ sym of.says;
}

-- the one that was fetched last, where it is this one
pub latest_of : (tells : Bool) (plan : CutPlan) (first : ℕ) (kept : List Kept) (place : ℕ) (marks : Marks) (bytes : List ℕ) (piece : Option (List ℕ)) (latest : Option Fetched) → IsOut tells plan first kept place marks bytes piece → IsLatest tells plan first (all_of kept) latest → IsLatestOf tells plan place piece marks latest
latest_of tells plan first kept place marks bytes piece None out latest = tt
latest_of tells plan first kept place marks bytes piece (Some l) out latest = λ e.
    let found : slice_get (all_of kept) (place - first) ≡ Some latest.there = subst (λ (n : ℕ). slice_get (all_of kept) (n - first) ≡ Some latest.there) e latest.is in
    let there : latest.there ≡ block_with marks bytes = (cc (found, out.is)) in
    record {
      says = says_marks l.block marks (latest.window ∙ ap (λ (b : Block). b.window) there) (latest.index ∙ ap (λ (b : Block). b.index) there) (latest.last ∙ ap (λ (b : Block). b.last) there);
      spells = latest.spells;
      told = λ t. out.told t ∙ ap Some (sym (ap (λ (b : Block). b.bytes) there) ∙ ap (λ (b : Block). b.bytes) (latest.same t));
    }

pub latest_after : (tells : Bool) (plan : CutPlan) (first : ℕ) (kept : List Kept) (place : ℕ) (marks : Marks) (bytes : List ℕ) (piece : Option (List ℕ)) (old new : Option Fetched) → IsOut tells plan first kept place marks bytes piece → KeepsLatest tells plan place piece marks old new → IsLatest tells plan first (all_of kept) old → IsLatest tells plan first (all_of kept) new
latest_after tells plan first kept place marks bytes piece old None out keeps latest = tt
latest_after tells plan first kept place marks bytes piece old (Some l) out (inl same) latest = subst (IsLatest tells plan first (all_of kept)) same latest
latest_after tells plan first kept place marks bytes piece old (Some l) out (inr (number, of)) latest =
    subst (λ (n : ℕ). IsFetched tells plan first (all_of kept) n l.block) (sym number) (fetched_spilled tells plan first kept place marks bytes l.block piece out of)

pub spells_put : (tells : Bool) (plan : CutPlan) (first : ℕ) (kept : List Kept) (place : ℕ) (marks : Marks) (bytes : List ℕ) (piece : Option (List ℕ)) → IsOut tells plan first kept place marks bytes piece → AllSpell plan (all_of kept) → SpellsPut tells plan piece marks
spells_put tells plan first kept place marks bytes piece out spell = λ t other e.
    let same : bytes ≡ other = cc (out.told t, e) in
    subst (λ (bs : List ℕ). Spells plan (block_with marks bs)) same (AllSpell-get plan (all_of kept) (place - first) (block_with marks bytes) spell out.is)

out_of : (tells : Bool) (held : ℕ → Option (List ℕ)) (plan : CutPlan) (first : ℕ) (kept : List Kept) (place : ℕ) (marks : Marks) (bytes : _) → ArePut tells held first kept → first ≤ place → slice_get kept (place - first) ≡ Some (Spilled marks bytes) → IsOut tells plan first kept place marks bytes.value (held place)
out_of tells held plan first kept place marks bytes put after is =
    let at : first + (place - first) ≡ place = omega (arith, after) in
    let one : IsPut tells (held place) (Spilled marks bytes) = subst (λ (n : ℕ). IsPut tells (held n) (Spilled marks bytes)) at (put (place - first) (Spilled marks bytes) is) in
    record { after = after; is = get_all kept (place - first) (Spilled marks bytes) is; there = one.0; told = one.1 }

pub out_at : (tells : Bool) (held : ℕ → Option (List ℕ)) (plan : CutPlan) (first : ℕ) (kept : List Kept) (place : ℕ) (one : Kept) (marks : Marks) (bytes : _) → ArePut tells held first kept → first ≤ place → place - first < length kept → one ≡ get_or kept (place - first) one → one ≡ Spilled marks bytes → IsOut tells plan first kept place marks bytes.value (held place)
out_at tells held plan first kept place one marks bytes put after within is spilled = out_of tells held plan first kept place marks bytes put after (slice_get-is kept (place - first) one within is ∙ ap Some spilled)

-- why a block that is in the spool isn't read
pub refused : {N F : Type 0} (tells : Bool) (told : Option (List Block)) (list : Listed N) (place : ℕ) (marks : Marks) (bytes : List ℕ) (fault : ListFault F) → slice_get list.blocks (place - list.first) ≡ Some (block_with marks bytes) → place < next_number list → IsDamagedBy tells list.plan place marks fault → GivesBlock tells told list place (Err fault)
refused tells told list place marks bytes Memory is below damaged = below
refused tells told list place marks bytes (Fault fault) is below damaged = below
refused tells told list place marks bytes (Damaged number window index last other) is below damaged = (
  damaged.0,
  record {
    marks = record {
      there = block_with marks bytes;
      is = is;
      window = ap (λ (m : Marks). m.window) damaged.1;
      index = ap (λ (m : Marks). m.index) damaged.1;
      last = ap (λ (m : Marks). m.last) damaged.1;
    };
    damaged = λ spells. damaged.2 (subst (λ (m : Marks). Spells list.plan (block_with m other.items)) damaged.1 spells);
    untold = damaged.3;
  },
)

-- the windows of a list are those of the run
Within-at : (low high : ℕ) (blocks : List Block) (k : ℕ) (block : Block) → IsWithin low high blocks → slice_get blocks k ≡ Some block → low ≤ block.window
Within-at low high [] k block h e = absurd (cc e)
Within-at low high (x ∷ blocks) zero block h e = let same : x ≡ block = (cc e) in subst (λ (b : Block). low ≤ b.window) same h.0
Within-at low high (x ∷ blocks) (suc k) block h e = omega (arith, h.0, Within-at x.window high blocks k block h.2 e)

UpTo-at : (to : ℕ) (blocks : List Block) (k : ℕ) (block : Block) → AreUpTo to blocks → slice_get blocks k ≡ Some block → block.window ≤ to
UpTo-at to [] k block h e = absurd (cc e)
UpTo-at to (x ∷ blocks) zero block h e = let same : x ≡ block = (cc e) in subst (λ (b : Block). b.window ≤ to) same h.0
UpTo-at to (x ∷ blocks) (suc k) block h e = UpTo-at to blocks k block h.1 e

pub in_run : (told : Option (List Block)) (plan : CutPlan) (floor top first : ℕ) (blocks : List Block) (from : ℕ) (starts : List ℕ) (next_start k : ℕ) (block : Block) → IsKept told plan floor top first blocks from starts next_start → slice_get blocks k ≡ Some block → IsWindow plan block.window
in_run told plan floor top first blocks from starts next_start k block kept is = record {
  from_one = omega (arith, Within-at (floor + 1) (top + 1) blocks k block kept.within is);
  there = UpTo-at plan.windows blocks k block kept.run is;
}

-- ---- the block that was fetched last, when others come

pub latest_more : (tells : Bool) (plan : CutPlan) (first : ℕ) (blocks more : List Block) (latest : Option Fetched) → IsLatest tells plan first blocks latest → IsLatest tells plan first (blocks ++ more) latest
latest_more tells plan first blocks more None is = tt
latest_more tells plan first blocks more (Some l) is = record {
  after = is.after;
  there = is.there;
  is = get_more blocks more (l.number - first) is.there is.is;
  window = is.window;
  index = is.index;
  last = is.last;
  spells = is.spells;
  same = is.same;
}

-- ---- what a list keeps

pub stored_in_window : (tells : Bool) (held : ℕ → Option (List ℕ)) (told : Option (List Block)) (plan : CutPlan) (floor top first : ℕ) (kept : List Kept) (from : ℕ) (starts : List ℕ) (next_start : ℕ) (latest : Option Fetched) (block : Block) → IsStored tells held told plan floor top first kept from starts next_start latest → block.window ≡ top + 1 → block.window ≤ plan.windows → before (top + 1) (all_of kept) + block.index ≡ length (all_of kept) → block.index < 2 ^ 32 → Spells plan block → block.last ≡ false → IfSome told (λ all. slice_get all (first + length (all_of kept)) ≡ Some block) → IsStored tells held told plan floor top first (kept ++ Held block ∷ []) from starts next_start latest
stored_in_window tells held told plan floor top first kept from starts next_start latest block s window there index fits spells goes_on named =
    let more : all_of (kept ++ Held block ∷ []) ≡ all_of kept ++ block ∷ [] = map-append block_of kept (Held block ∷ []) in
    record {
      numbers = rw more (kept_in_window told plan floor top first (all_of kept) from starts next_start block s.numbers window there index fits spells goes_on named);
      put = put_more tells held first kept block s.put;
      latest_is = rw more (latest_more tells plan first (all_of kept) (block ∷ []) latest s.latest_is);
    }

pub stored_at_end : (tells : Bool) (held : ℕ → Option (List ℕ)) (told : Option (List Block)) (plan : CutPlan) (floor top first : ℕ) (kept : List Kept) (from : ℕ) (starts : List ℕ) (next_start : ℕ) (latest : Option Fetched) (block : Block) → IsStored tells held told plan floor top first kept from starts next_start latest → block.window ≡ top + 1 → block.window ≤ plan.windows → before (top + 1) (all_of kept) + block.index ≡ length (all_of kept) → block.index < 2 ^ 32 → Spells plan block → block.last ≡ true → IfSome told (λ all. slice_get all (first + length (all_of kept)) ≡ Some block) → IsStored tells held told plan floor (top + 1) first (kept ++ Held block ∷ []) from (starts ++ next_start ∷ []) (first + length (kept ++ Held block ∷ [])) latest
stored_at_end tells held told plan floor top first kept from starts next_start latest block s window there index fits spells ends named =
    let more : all_of (kept ++ Held block ∷ []) ≡ all_of kept ++ block ∷ [] = map-append block_of kept (Held block ∷ []) in
    let count : length (all_of kept ++ block ∷ []) ≡ length (kept ++ Held block ∷ []) = ap length (sym more) ∙ length-map (kept ++ Held block ∷ []) block_of in
    record {
      numbers = rw (more, ← count) (kept_at_end told plan floor top first (all_of kept) from starts next_start block s.numbers window there index fits spells ends named);
      put = put_more tells held first kept block s.put;
      latest_is = rw more (latest_more tells plan first (all_of kept) (block ∷ []) latest s.latest_is);
    }

pub stored_spilled : (tells : Bool) (held now : ℕ → Option (List ℕ)) (told : Option (List Block)) (plan : CutPlan) (floor top first : ℕ) (kept new : List Kept) (from : ℕ) (starts : List ℕ) (next_start : ℕ) (latest : Option Fetched) → IsStored tells held told plan floor top first kept from starts next_start latest → all_of new ≡ all_of kept → ArePut tells now first new → IsStored tells now told plan floor top first new from starts next_start latest
stored_spilled tells held now told plan floor top first kept new from starts next_start latest s same put = record {
  numbers = rw same s.numbers;
  put = put;
  latest_is = rw same s.latest_is;
}

pub stored_fetched : (tells : Bool) (held now : ℕ → Option (List ℕ)) (told : Option (List Block)) (plan : CutPlan) (floor top first : ℕ) (kept : List Kept) (from : ℕ) (starts : List ℕ) (next_start : ℕ) (latest new : Option Fetched) → IsStored tells held told plan floor top first kept from starts next_start latest → ((other : ℕ) → now other ≡ held other) → IsLatest tells plan first (all_of kept) new → IsStored tells now told plan floor top first kept from starts next_start new
stored_fetched tells held now told plan floor top first kept from starts next_start latest new s same is = record {
  numbers = s.numbers;
  put = put_same tells held now first kept same s.put;
  latest_is = is;
}

-- ---- as code does it

pub taken_front : (kept rest : List Kept) (one : Kept) → 0 < length kept → one ≡ get_or kept 0 one → rest ≡ drop 1 kept → kept ≡ one ∷ rest
taken_front [] rest one some is rest_is = absurd (omega (arith, some))
taken_front (x ∷ kept) rest one some is rest_is = rw rest_is (ap (λ (y : Kept). y ∷ kept) (sym is))

pub put_back : (block : Block) (marks : Marks) (bytes : List ℕ) → marks ≡ marks_of block → bytes ≡ block.bytes → block_with marks bytes ≡ block
put_back block marks bytes m b = λ j. block_with (m j) (b j)
