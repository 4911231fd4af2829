-- A table goes on covering what is open.
use Rattle.std.proofs.Common.{◌≡◌, ℕ, ◌<◌, ◌⊎◌, inl, inr, true, List, get_or, replicate, Option, None, Some, sym, ap, subst, ◌∙◌}
use Rattle.std.proofs.Math.ListN.{get_or-map}
use Rattle.apx_history.specs.declared.Event.{Event}
use Rattle.apx_history.specs.declared.Event.TheVariants.{Start}
use Rattle.apx_history.specs.Plan.{Plan, Operator, no_operator, operator}
use Rattle.apx_history.specs.State.{Oper, State, fresh, oper, slot}
use Rattle.apx_history.specs.Enabled.{can}
use Rattle.apx_history.specs.Effects.{next}
use Rattle.apx_history.specs.Journals.{beginning}
use Rattle.apx_history.proofs.Tests.{alike}
use Rattle.apx_history.proofs.Legal.{can_facts}
use Rattle.apx_history.proofs.Renewed.{fresh_rests}
use Rattle.apx_hands.specs.Table.{cell, put_cell, IsTable}
use Rattle.apx_hands.specs.Opened.{Covers}
use Rattle.apx_hands.proofs.Places.{put_is, cell_here, cell_other}
use Rattle.apx_hands.proofs.Opening.{opens-by-start}

module _ {T : Type 0} (P : ℕ → ℕ → ℕ → ℕ → T → Type 0) where
  -- before the first event nothing is open
  pub begins_covered : (plan : Plan) (s c : ℕ) (t : List (List (Option T))) → Covers P (beginning plan s c) t
  unfolding beginning
  begins_covered plan s c t = record {
    each = λ o i w u is.
        let begun : oper (beginning plan s c) o ≡ record { boundary = 0; parts = replicate (operator plan o).first (fresh c) } =
        get_or-map (λ (p : Operator). record { boundary = 0; parts = replicate p.first (fresh c) }) plan.operators o no_operator in
        let none : (slot (beginning plan s c) o i).opened ≡ None =
        ap (λ (q : Oper). (get_or q.parts i (fresh 0)).opened) begun ∙ (fresh_rests c (operator plan o).first i).closed in
        absurd (let e : None ≡ Some (w, u) = sym none ∙ is in cc);
  }

  module _ (plan : Plan) (m : State) (worker : ℕ) (t : List (List (Option T))) (all : Covers P m t) where
    -- behind a Start it covers what is open where what stands at the partition now fits
    pub start_covers : (o i w : ℕ) (x : T) → IsTable t → o < 16 → i < 8 → can plan m (Start o i w) ≡ true → P o i w worker x →
        Covers P (next plan m worker (Start o i w)) (put_cell t o i (Some x))
    start_covers o i w x is row place can fits = record {
      each = λ p j v u opened. elim (alike p o) [
        | inl e ↦ elim (alike j i) [
          | inl f ↦ here p j v u e f (opens-by-start plan m worker (Start o i w) can p j v u opened)
          | inr n ↦ apart p j v u (λ a b. n b) (opens-by-start plan m worker (Start o i w) can p j v u opened)
        ]
        | inr n ↦ apart p j v u (λ a b. n a) (opens-by-start plan m worker (Start o i w) can p j v u opened)
      ];
    }
      where
        here : (p j v u : ℕ) → p ≡ o → j ≡ i →
            ((slot m p j).opened ≡ Some (v, u)) ⊎ ((Start o i w ≡ Start p j v) × (u ≡ worker)) → (y : T) × (cell (put_cell t o i (Some x)) p j ≡ Some y) × P p j v u y
        here p j v u e f (inl was) = absurd (shut (subst (λ (k : ℕ). (slot m k i).opened ≡ Some (v, u)) e (subst (λ (k : ℕ). (slot m p k).opened ≡ Some (v, u)) f was)))
          where
            shut : (slot m o i).opened ≡ Some (v, u) → ⊥
            shut is = let closed = (can_facts plan m (Start o i w) can).closed in let g : None ≡ Some (v, u) = sym closed ∙ is in cc
        here p j v u e f (inr start) = (
          x,
          ap (λ (k : ℕ). cell (put_cell t o i (Some x)) k j) e ∙ ap (λ (k : ℕ). cell (put_cell t o i (Some x)) o k) f ∙ cell_here t o i (Some x) is row place,
          subst (λ (k : ℕ). P k j v u x) (sym e) (subst (λ (k : ℕ). P o k v u x) (sym f)
              (subst (λ (k : ℕ). P o i k u x) (window_is start.0) (subst (λ (k : ℕ). P o i w k x) (sym start.1) fits))),
        )
          where
            window_is : Start o i w ≡ Start p j v → w ≡ v
            window_is s = cc

        apart : (p j v u : ℕ) → (p ≡ o → j ≡ i → ⊥) →
            ((slot m p j).opened ≡ Some (v, u)) ⊎ ((Start o i w ≡ Start p j v) × (u ≡ worker)) → (y : T) × (cell (put_cell t o i (Some x)) p j ≡ Some y) × P p j v u y
        apart p j v u n (inl was) = let old = all.each p j v u was in (old.0, cell_other t o i (Some x) is row p j n ∙ old.1, old.2)
        apart p j v u n (inr start) = absurd (n (sym (op_is start.0)) (sym (part_is start.0)))
          where
            op_is : Start o i w ≡ Start p j v → o ≡ p
            op_is s = cc

            part_is : Start o i w ≡ Start p j v → i ≡ j
            part_is s = cc

    -- behind another event it still does
    pub other_covers : (e : Event) → ((o i w : ℕ) → e ≡ Start o i w → ⊥) → can plan m e ≡ true → Covers P (next plan m worker e) t
    other_covers e other can = record {
      each = λ o i w u opened. elim (opens-by-start plan m worker e can o i w u opened) [
        | inl was ↦ all.each o i w u was
        | inr start ↦ absurd (other o i w start.0)
      ];
    }

  module _ (m : State) (t : List (List (Option T))) (all : Covers P m t) where
    -- What stands at one partition changes: each other place is read as it was, and what stands there now fits where the partition
    -- has a window open.
    pub place_covers : (t' : List (List (Option T))) (o i : ℕ) → ((p j : ℕ) → (p ≡ o → j ≡ i → ⊥) → cell t' p j ≡ cell t p j)
        → ((w u : ℕ) → (slot m o i).opened ≡ Some (w, u) → (x : T) × (cell t' o i ≡ Some x) × P o i w u x) → Covers P m t'
    place_covers t' o i others here = record {
      each = λ p j w u opened. elim (alike p o) [
        | inl e ↦ elim (alike j i) [
          | inl f ↦ subst (λ (k : ℕ). (x : T) × (cell t' k j ≡ Some x) × P k j w u x) (sym e)
              (subst (λ (k : ℕ). (x : T) × (cell t' o k ≡ Some x) × P o k w u x) (sym f)
              (here w u (subst (λ (k : ℕ). (slot m k i).opened ≡ Some (w, u)) e (subst (λ (k : ℕ). (slot m p k).opened ≡ Some (w, u)) f opened))))
          | inr n ↦ apart p j w u (λ a b. n b) opened
        ]
        | inr n ↦ apart p j w u (λ a b. n a) opened
      ];
    }
      where
        apart : (p j w u : ℕ) → (p ≡ o → j ≡ i → ⊥) → (slot m p j).opened ≡ Some (w, u) → (x : T) × (cell t' p j ≡ Some x) × P p j w u x
        apart p j w u n opened = let old = all.each p j w u opened in (old.0, others p j n ∙ old.1, old.2)

    module _ (o i : ℕ) (is : IsTable t) (row : o < 16) where
      -- what stands at a closed partition may be taken out
      pub closed_covers : (slot m o i).opened ≡ None → Covers P m (put_cell t o i None)
      closed_covers none = place_covers (put_cell t o i None) o i (cell_other t o i None is row)
          (λ w u opened. absurd (let e : None ≡ Some (w, u) = sym none ∙ opened in cc))

      -- and what stands at an open one taken out and something that fits put in its place
      pub again_covers : (x : T) → i < 8 → ((w u : ℕ) → (slot m o i).opened ≡ Some (w, u) → P o i w u x) →
          Covers P m (put_cell (put_cell t o i None) o i (Some x))
      again_covers x place fits =
          let out = put_is t o i None is row in
          place_covers (put_cell (put_cell t o i None) o i (Some x)) o i
          (λ p j n. cell_other (put_cell t o i None) o i (Some x) out row p j n ∙ cell_other t o i None is row p j n)
          (λ w u opened. (x, cell_here (put_cell t o i None) o i (Some x) out row place, fits w u opened))
