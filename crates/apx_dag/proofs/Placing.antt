-- Placing one operator after the other, the earliest that is ready each time.
use Rattle.std.proofs.Common.{◌≡◌, ℕ, ◌+◌, ◌≤◌, ◌<◌, Bool, true, false, List, [], ◌∷◌, ◌++◌, length, get_or, set, take, replicate, Contains, inl, inr, refl, ◌∙◌, arith, length-append, length-set}
use Rattle.std.proofs.lemmas.Bool.{cases_eq}
use Rattle.std.proofs.lemmas.List.{take-append-le, get_or_append_left, length-replicate}
use Rattle.std.proofs.lemmas.List.Elements.{Contains-append_left, Contains-push, Contains-push_cases}
use Rattle.std.proofs.Math.Seq.{take-append_seam, get_or-append_seam}
use Rattle.apx_dag.specs.declared.link.Link.{Link}
use Rattle.apx_dag.specs.Order.{IsWithin, IsAcyclic, IsReady, IsNext, IsLinkOrder}
use Rattle.apx_dag.specs.Marks.{mark_at, IsReadyMark, IsNextMark, IsStuck}
use Rattle.apx_dag.proofs.Marking.{unset, unset_falls, none_unset, none_set, all_unset, set_keeps, set_at, set_cases}
use Rattle.apx_dag.proofs.Walk.{loops}

-- what the loop keeps: the marks are those of the operators that were placed, each the next one
pub record Placed (links : List Link) (marks : List Bool) (order : List ℕ) : Type 0 where
  pub size : length marks ≡ length links
  pub there : (i : ℕ) → mark_at marks i ≡ true → Contains order i
  pub marked : (i : ℕ) → Contains order i → mark_at marks i ≡ true
  pub next : (k : ℕ) → k < length order → IsNext links (take k order) (get_or order k 0)
  pub count : length order + unset marks ≡ length links

none_contained : (i : ℕ) → Contains [] i → mark_at [] i ≡ true
none_contained i h = absurd (omega (arith, h.1))

pub none_placed : (links : List Link) (marks : List Bool) (order : List ℕ) → marks ≡ replicate (length links) false → order ≡ [] → Placed links marks order
none_placed links marks order e f =
    rw (e, f) (record {
      size = length-replicate (length links) false;
      there = λ i m. let none : mark_at (replicate (length links) false) i ≡ false = none_set (length links) i in absurd cc;
      marked = λ i h. absurd (omega (arith, h.1));
      next = λ k lt. absurd (omega arith);
      count = omega (arith, all_unset (length links));
    })

-- the next mark is the next operator
module _ (links : List Link) (marks : List Bool) (order : List ℕ) (i : ℕ) (so_far : Placed links marks order) (chosen : IsNextMark links marks i) where
  is_ready_mark : (j : ℕ) → IsReady links order j → IsReadyMark links marks j
  is_ready_mark j ready = record {
    unmarked = not_marked (mark_at marks j) refl;
    fed = λ a f. so_far.marked a (ready.fed a f);
  } where
    not_marked : (b : Bool) → mark_at marks j ≡ b → mark_at marks j ≡ false
    not_marked true e = absurd (ready.unplaced (so_far.there j e))
    not_marked false e = e

  is_next : IsNext links order i
  is_next = record {
    ready = record {
      here = chosen.here;
      unplaced = λ h. let m = so_far.marked i h in let o = chosen.ready.unmarked in absurd cc;
      fed = λ a f. so_far.there a (chosen.ready.fed a f);
    };
    earliest = λ j lt ready. chosen.earliest j lt (is_ready_mark j ready);
  }

  next_push : (k : ℕ) → k < length (order ++ i ∷ []) → IsNext links (take k (order ++ i ∷ [])) (get_or (order ++ i ∷ []) k 0)
  next_push k lt =
      elim (cases_eq k (length order)) [
        | inl last ↦ rw (last, take-append_seam order (i ∷ []), get_or-append_seam order i [] 0) is_next
        | inr less ↦
            let before : k < length order = omega (arith, length-append order (i ∷ [])) in
            let le : k ≤ length order = omega arith in
            rw (take-append-le k order (i ∷ []) le, get_or_append_left order (i ∷ []) 0 k before) (so_far.next k before)
      ]

  pub place : Placed links (set marks i true) (order ++ i ∷ [])
  place =
      let in_marks : i < length marks = rw so_far.size chosen.here in
      record {
        size = length-set marks i true ∙ so_far.size;
        there = λ a e. elim (set_cases marks i a e) [ inl same ↦ rw same (Contains-push order i) | inr before ↦ Contains-append_left order (i ∷ []) a (so_far.there a before) ];
        marked = λ a h. elim (Contains-push_cases order i a h) [ inl before ↦ set_keeps marks i a in_marks (so_far.marked a before) | inr same ↦ rw (← same) (set_at marks i in_marks) ];
        next = next_push;
        count = omega (arith, so_far.count, length-append order (i ∷ []), unset_falls marks i in_marks chosen.ready.unmarked);
      }

-- where nothing is ready, each operator is placed
module _ (links : List Link) (marks : List Bool) (order : List ℕ) (within : IsWithin links) (acyclic : IsAcyclic links) (so_far : Placed links marks order) (stuck : IsStuck links marks) where
  each_marked : (i : ℕ) → i < length links → mark_at marks i ≡ true
  each_marked i lt = by (mark_at marks i) refl where
    by : (b : Bool) → mark_at marks i ≡ b → mark_at marks i ≡ true
    by true e = e
    by false e = let r = loops links marks within stuck i lt e in absurd (acyclic r.0 r.1 r.2)

  pub all_placed : IsLinkOrder links order
  all_placed = record {
    next = so_far.next;
    each = λ i lt. so_far.there i (each_marked i lt);
    size = omega (arith, so_far.count, none_unset marks (λ i lt. each_marked i (omega (arith, so_far.size))));
  }
