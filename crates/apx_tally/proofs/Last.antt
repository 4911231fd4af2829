-- The window of the last Commit, an entry after the other.
use Rattle.std.proofs.Common.{◌≡◌, ℕ, zero, suc, ◌+◌, ◌<◌, List, [], ◌∷◌, length, get_or, take, Option, None, Some, refl, ap, ◌∙◌, arith}
use Rattle.std.specs.Prelude.{unwrap_or}
use Rattle.std.specs.List.{cons_option, filter_map, last_or}
use Rattle.apx_history.specs.declared.Entry.{Entry}
use Rattle.apx_tally.specs.Report.{commit_in, committed}

-- the later of two, where it is there
or_else : {X : Type 0} → Option X → Option X → Option X
or_else None y = y
or_else (Some x) y = Some x

module _ {X Y : Type 0} (h : X → Option Y) where
  last_more : (o : Option Y) (xs : List X) (k : ℕ) (d : X) → k < length xs →
      last_or o (filter_map h (take (suc k) xs)) ≡ or_else (h (get_or xs k d)) (last_or o (filter_map h (take k xs)))
  unfolding or_else
  last_more o [] k d low = absurd (omega arith)
  last_more o (x ∷ xs) zero d low = by (h x)
    where
      by : (y : Option Y) → last_or o (cons_option y []) ≡ or_else y o
      by None = refl
      by (Some y) = refl
  last_more o (x ∷ xs) (suc k) d low = by (h x) (λ p. last_more p xs k d (omega arith))
    where
      by : (y : Option Y) → ((p : Option Y) → last_or p (filter_map h (take (suc k) xs)) ≡ or_else (h (get_or xs k d)) (last_or p (filter_map h (take k xs)))) →
          last_or o (cons_option y (filter_map h (take (suc k) xs))) ≡ or_else (h (get_or xs k d)) (last_or o (cons_option y (filter_map h (take k xs))))
      by None rest = rest o
      by (Some y) rest = rest (Some y)

unwrap_else : (x y : Option ℕ) → unwrap_or (or_else x y) 0 ≡ unwrap_or x (unwrap_or y 0)
unfolding or_else
unwrap_else None y = refl
unwrap_else (Some x) y = refl

pub committed_none : committed [] ≡ 0
unfolding committed
committed_none = refl

pub committed_more : (es : List Entry) (k : ℕ) (d : Entry) → k < length es →
    committed (take (k + 1) es) ≡ unwrap_or (commit_in (get_or es k d).event) (committed (take k es))
unfolding committed
committed_more es k d low =
    let one : k + 1 ≡ suc k = omega arith in
    ap (λ n. committed (take n es)) one
    ∙ ap (λ y. unwrap_or y 0) (last_more (λ (e : Entry). commit_in e.event) None es k d low)
    ∙ unwrap_else (commit_in (get_or es k d).event) (last_or None (filter_map (λ (e : Entry). commit_in e.event) (take k es)))
