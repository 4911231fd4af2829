-- States of one shape: what stays of the lines and epochs, and where a kill that is due would be refused.
use Rattle.std.proofs.Common.{◌≡◌, ℕ, zero, suc, ◌+◌, ◌<◌, ◌≤◌, ◌⊎◌, inl, inr, Bool, true, false, cond, not, ◌&&◌, ◌==◌, List, [], ◌∷◌, length, get_or, refl, sym, ap, subst, ◌∙◌, arith, Option, None, Some, is_none}
use Rattle.std.proofs.lemmas.Bool.{le-leb}
use Rattle.std.proofs.lemmas.Bool.Decides.{nat_tests}
use Rattle.apx_history.specs.Plan.{Point, Before, Staged, Written, Done, Act, Fails, Splits, Line, Plan, has, operator, line, reads, below, is_checkpoint, splits, splits_op, fails_part, kills, boundary_at, count_or, number}
use Rattle.apx_history.specs.State.{Slot, State, Oper, oper, parts, slot, IsPart, is_left, open_window}
use Rattle.apx_history.specs.Enabled.{limit, at_act, at_point, due}
use Rattle.apx_history.specs.Conditions.{IsDue, IsCalm}
use Rattle.apx_history.specs.Kept.{IsAct, IsPlan, Sound, Ordered, IsAhead, ActAhead, Kept}
use Rattle.apx_history.proofs.Tests.{both}
use Rattle.apx_history.proofs.Conditions.{all_true, equal_at, equal_by, part_by, due_by, none_by, opened_by}
use Rattle.apx_history.proofs.Lines.{flag_there, limit-start, limit-le, boundary-above, boundary-by, number-from}

not_more : (a b : ℕ) → (b < a → ⊥) → a ≤ b
not_more a b h = omega (arith, h)

-- where a partition is at a point
module _ (plan : Plan) (m : State) (o v : ℕ) (x : Slot) where
  pub is_before : (point : Point) → point ≡ Before → x.at + 1 ≡ v → x.opened ≡ None → at_point plan m o point v x ≡ true
  unfolding at_point
  is_before Before b e c = all_true (equal_by (x.at + 1) v e) (none_by x.opened c)
  is_before Staged b e c = cc
  is_before Written b e c = cc
  is_before Done b e c = cc

  pub is_staged : (point : Point) → point ≡ Staged → open_window x.opened ≡ Some v → at_point plan m o point v x ≡ true
  unfolding at_point
  is_staged Staged b e = opened_by v x.opened e
  is_staged Before b e = cc
  is_staged Written b e = cc
  is_staged Done b e = cc

  pub is_written : (point : Point) → point ≡ Written → o ≡ plan.sink → open_window x.opened ≡ Some v → v ≤ m.stored → at_point plan m o point v x ≡ true
  unfolding at_point
  is_written Written b s e h = all_true (all_true (equal_by o plan.sink s) (opened_by v x.opened e)) (le-leb v m.stored h)
  is_written Before b s e h = cc
  is_written Staged b s e h = cc
  is_written Done b s e h = cc

  pub is_done : (point : Point) → point ≡ Done → x.at ≡ v → x.opened ≡ None → at_point plan m o point v x ≡ true
  unfolding at_point
  is_done Done b e c = all_true (equal_by x.at v e) (none_by x.opened c)
  is_done Before b e c = cc
  is_done Staged b e c = cc
  is_done Written b e c = cc

-- the two states have the same operators with the same epochs
pub record Alike (m n : State) : Type 0 where
  pub ops : length n.ops ≡ length m.ops
  pub boundary : (o : ℕ) → o < length m.ops → (oper n o).boundary ≡ (oper m o).boundary
  pub parts : (o : ℕ) → o < length m.ops → parts n o ≡ parts m o

module _ (plan : Plan) (is : IsPlan plan) (m : State) (kept : Kept plan m) where
  -- a line that is left names an operator that is there
  pub line_there : (l : ℕ) → is_left m l ≡ true → l < length plan.lines
  line_there l h = let a = flag_there m.left l h in let b = kept.flags in omega arith

  pub op_there : (l : ℕ) → l < length plan.lines → (line plan l).op < length m.ops
  op_there l h = let a = is.op l h in let b = kept.ops in omega arith

  pub reads_there : (o s : ℕ) → reads plan o s ≡ true → (o < length m.ops) × (s < length m.ops)
  reads_there o s h = let a = is.there o s h in let b = kept.ops in (omega arith, omega arith)

  -- each operator has a partition
  pub some_part : (o : ℕ) → o < length m.ops → 0 < parts m o
  some_part o h =
      let n = (operator plan o).first in
      let first : 0 < n = is.some o (let b = kept.ops in omega arith) in
      let e = kept.number o h in
      elim (number-from o plan.lines (oper m o).boundary n) [
        | inl f ↦ omega (arith, f)
        | inr f ↦ (let g : 0 < count_or n (line plan f.0).act = counted (line plan f.0).op (line plan f.0).window (line plan f.0).act n first (is.act f.0 f.1) in let k = f.3 in omega arith)
      ]
    where
      counted : (o w : ℕ) (a : Act) (n : ℕ) → 0 < n → IsAct plan o w a → 0 < count_or n a
      counted o w (Fails point part) n f h = f
      counted o w (Splits count) n f h = h.2

  -- the sink has one partition
  pub sink_part : (i : ℕ) → IsPart m plan.sink i → i ≡ 0
  sink_part i r =
      let e = kept.number plan.sink r.0 in
      let a = is.single in
      elim (number-from plan.sink plan.lines (oper m plan.sink).boundary (operator plan plan.sink).first) [
        | inl f ↦ omega (arith, f, r.1)
        | inr f ↦
            let b = both (splits (line plan f.0).act) ((line plan f.0).op == plan.sink) f.2 in
            absurd (no_split (line plan f.0).op (line plan f.0).window (line plan f.0).act (is.act f.0 f.1) b.0 (equal_at (line plan f.0).op plan.sink b.1))
      ]
    where
      no_split : (o w : ℕ) (a : Act) → IsAct plan o w a → splits a ≡ true → o ≡ plan.sink → ⊥
      no_split o w (Splits count) h s e = h.1 e
      no_split o w (Fails point part) h s e = cc

  -- a window above the boundary and within the limit lies in the epoch of the boundary
  pub in_epoch : (o w : ℕ) → o < length m.ops → (oper m o).boundary < w → w ≤ limit plan m o → boundary_at plan o w ≡ (oper m o).boundary
  in_epoch o w h above within =
      let most = boundary-by o plan.lines w (oper m o).boundary below_it in
      let least : (oper m o).boundary ≤ boundary_at plan o w = elim (kept.boundary o h) [
        | inl e ↦ omega arith
        | inr e ↦ (let f = boundary-above o plan.lines w e.0 e.1 e.2 (let g = e.3 in omega arith) in let g = e.3 in omega arith)
      ] in
      omega arith
    where
      below_it : (k : ℕ) → k < length plan.lines → splits_op o (line plan k) ≡ true → (line plan k).window < w → (line plan k).window ≤ (oper m o).boundary
      below_it k r s v =
          let b = both (splits (line plan k).act) ((line plan k).op == o) s in
          let e : (line plan k).op ≡ o = equal_at (line plan k).op o b.1 in
          not_more (line plan k).window (oper m o).boundary (λ more.
          let left = kept.still k r b.0 (subst (λ (p : ℕ). (oper m p).boundary < (line plan k).window) (sym e) more) in
          let f = limit-le o plan.lines m.left plan.windows k r left s in
          omega arith)

  -- a kill that is left and within the limit names a partition that is there
  pub named_part : (l i : ℕ) (point : Point) → is_left m l ≡ true → (line plan l).act ≡ Fails point i → (line plan l).window ≤ limit plan m (line plan l).op → IsPart m (line plan l).op i
  named_part l i point h a within =
      let r = line_there l h in
      let o = op_there l r in
      let act : IsAct plan (line plan l).op (line plan l).window (Fails point i) = subst (λ (x : Act). IsAct plan (line plan l).op (line plan l).window x) a (is.act l r) in
      let e = in_epoch (line plan l).op (line plan l).window o (kept.lines l h) within in
      let n = kept.number (line plan l).op o in
      let lt : i < number plan (line plan l).op (oper m (line plan l).op).boundary = subst (λ (b : ℕ). i < number plan (line plan l).op b) e act.0 in
      (o, omega arith)

  -- a kill that is left and at its point is due
  pub due_of : (l i : ℕ) (point : Point) → is_left m l ≡ true → (line plan l).act ≡ Fails point i → (line plan l).window ≤ limit plan m (line plan l).op →
      at_point plan m (line plan l).op point (line plan l).window (slot m (line plan l).op i) ≡ true → due plan m l ≡ true
  due_of l i point h a within at = due_by plan m l (record {
    left = h;
    above = kept.lines l h;
    within = within;
    point = subst (λ (x : Act). at_act plan m (line plan l).op (line plan l).window x ≡ true) (sym a)
        (all_true (part_by m (line plan l).op i (named_part l i point h a within)) at);
  })

  -- so it isn't at its point where no kill is due for the partition
  pub not_due : (l o i : ℕ) (point : Point) → IsCalm plan m o i → is_left m l ≡ true → (line plan l).op ≡ o → (line plan l).act ≡ Fails point i → (line plan l).window ≤ limit plan m o →
      at_point plan m o point (line plan l).window (slot m o i) ≡ true → ⊥
  not_due l o i point calm h e a within at =
      calm l (line_there l h)
      (due_of l i point h a (subst (λ (p : ℕ). (line plan l).window ≤ limit plan m p) (sym e) within) (subst (λ (p : ℕ). at_point plan m p point (line plan l).window (slot m p i) ≡ true) (sym e) at))
      (all_true (equal_by (line plan l).op o e) (ap (fails_part i) a ∙ equal_by i i refl))

  pub sink_at : (o i : ℕ) → o ≡ plan.sink → IsPart m o i → (slot m o i).at ≤ m.stored
  sink_at o i e r =
      let f = sink_part i (subst (λ (p : ℕ). IsPart m p i) e r) in
      subst (λ (p : ℕ). (slot m p i).at ≤ m.stored) (sym e) (subst (λ (j : ℕ). (slot m plan.sink j).at ≤ m.stored) (sym f) kept.sink)

  -- The new state of the same shape, with its facts on partitions and kills.
  pub keeps_shape : (n : State) → Alike m n → length n.left ≡ length m.left →
      ((l : ℕ) → is_left n l ≡ true → is_left m l ≡ true) →
      ((l : ℕ) → splits (line plan l).act ≡ true → is_left m l ≡ true → is_left n l ≡ true) →
      ((o i : ℕ) → IsPart n o i → Sound plan n.committed (oper m o).boundary (limit plan n o) (slot n o i)) →
      ((o s : ℕ) → reads plan o s ≡ true → (i j : ℕ) → IsPart n o i → IsPart n s j → Ordered (slot n s j) (slot n o i)) →
      (slot n plan.sink 0).at ≤ n.stored → n.stored ≤ plan.windows →
      ((l : ℕ) → is_left n l ≡ true → ActAhead n (limit plan n (line plan l).op) (line plan l).op (line plan l).window (line plan l).act) →
      Kept plan n
  keeps_shape n same flags fewer stays each ordered sink stored ahead = record {
    ops = same.ops ∙ kept.ops;
    flags = flags ∙ kept.flags;
    each = λ o i r. subst (λ (b : ℕ). Sound plan n.committed b (limit plan n o) (slot n o i)) (sym (same.boundary o (let e = same.ops in let a = r.0 in omega arith))) (each o i r);
    ordered = ordered;
    sink = sink;
    stored = stored;
    lines = λ l h. (let e = same.boundary (line plan l).op (op_there l (line_there l (fewer l h))) in let a = kept.lines l (fewer l h) in omega arith);
    ahead = ahead;
    still = λ l r s h. stays l s (kept.still l r s (let e = same.boundary (line plan l).op (op_there l r) in omega arith));
    boundary = λ o h. (let e = same.ops in let r : o < length m.ops = omega arith in
        subst (λ (b : ℕ). (b ≡ 0) ⊎ ((l : ℕ) × (l < length plan.lines) × (splits_op o (line plan l) ≡ true) × ((line plan l).window ≡ b))) (sym (same.boundary o r)) (kept.boundary o r));
    number = λ o h. (let e = same.ops in let r : o < length m.ops = omega arith in
        same.parts o r ∙ kept.number o r ∙ ap (λ (b : ℕ). number plan o b) (sym (same.boundary o r)));
  }
