-- What a turn leaves of a worker's seat.
use Rattle.std.proofs.Common.{◌≡◌, ℕ, inl, inr, true, false, List, [], ◌∷◌, ◌++◌, refl, sym, ap, subst, ◌∙◌, arith, append_assoc}
use Rattle.apx_history.specs.declared.Entry.{Entry}
use Rattle.apx_course.specs.Course.{entry}
use Rattle.apx_lock.specs.declared.view.View.{View}
use Rattle.apx_lock.specs.Logs.{StartsWith}
use Rattle.apx_lock.specs.Views.{after_entry, after_leave}
use Rattle.apx_lock.specs.Steps.{IsSameSeat, Entered, MayAdd, MayLeave, Leaves}
use Rattle.apx_lock.proofs.Lists.{starts_itself, starts_longer}
use Rattle.apx_lock.proofs.Entries.{one_own}
use Rattle.apx_work.specs.Own.{own}
use Rattle.apx_work.specs.Turns.{Changes}
use Rattle.apx_work.specs.Workers.{IsTurned}

abbrev pub by_worker : Entry → ℕ
by_worker e = e.worker

abbrev pub no_bound : Entry → ℕ
no_bound e = 0

module _ {N : Type 0} (v w : View N Entry) (entered : Entered by_worker no_bound v w) where
  number_is : w.number ≡ v.number
  number_is = ap (λ (y : View N Entry). y.number) entered.view

  -- what a worker had seen of its own is all that there is of it
  pub enters_own : own v.number w.seen ≡ v.mine
  enters_own = ap (λ (k : ℕ). own k w.seen) (sym number_is) ∙ sym entered.whole.own ∙ ap (λ (y : View N Entry). y.mine) entered.view

  pub enters_holds : w.holds ≡ true
  enters_holds = ap (λ (y : View N Entry). y.holds) entered.view

  same_left : IsSameSeat v w
  same_left = record {
    name = ap (λ (y : View N Entry). y.name) entered.view;
    number = ap (λ (y : View N Entry). y.number) entered.view;
    kept = ap (λ (y : View N Entry). y.kept) entered.view;
    marks = ap (λ (y : View N Entry). y.marks) entered.view;
    given = ap (λ (y : View N Entry). y.given) entered.view;
  }

  same_as : (x : View N Entry) → IsSameSeat w x → IsSameSeat v x
  same_as x s = record {
    name = s.name ∙ same_left.name;
    number = s.number ∙ same_left.number;
    kept = s.kept ∙ same_left.kept;
    marks = s.marks ∙ same_left.marks;
    given = s.given ∙ same_left.given;
  }

  nothing_more : IsTurned v (after_leave w)
  nothing_more = record {
    same = same_as (after_leave w) (record { name = refl; number = refl; kept = refl; marks = refl; given = refl });
    idle = refl;
    seen = entered.seen;
    mine = entered.whole.own;
  }

  one_more : (e : Entry) → MayAdd by_worker no_bound w e → IsTurned v (after_leave (after_entry e w))
  one_more e may = record {
    same = same_as (after_leave (after_entry e w)) (record { name = refl; number = refl; kept = refl; marks = refl; given = refl });
    idle = refl;
    seen = starts_longer w.seen v.seen (e ∷ []) entered.seen;
    mine = ap (λ (es : List Entry). es ++ e ∷ []) entered.whole.own ∙ sym (one_own by_worker w.number w.seen e may.own);
  }

  pub turned : {V : Type 0} (stands : V → N → List Entry → Type 0) (x : View N Entry) → Leaves stands by_worker no_bound w x → IsTurned v x
  turned stands x (inl s) = subst (λ (y : View N Entry). IsTurned v y) (sym s) nothing_more
  turned stands x (inr t) = subst (λ (y : View N Entry). IsTurned v y) (sym t.2) (one_more t.0 t.1)

-- the seat of a worker between two turns
pub record Stands {N : Type 0} (old now : View N Entry) : Type 0 where
  pub same : IsSameSeat old now
  pub idle : now.holds ≡ false
  pub seen : StartsWith now.seen old.seen

starts_twice : (xs ys zs : List Entry) → StartsWith ys xs → StartsWith zs ys → StartsWith zs xs
starts_twice xs ys zs h k = (h.0 ++ k.0, k.1 ∙ ap (λ (es : List Entry). es ++ k.0) h.1 ∙ append_assoc xs h.0 k.0)

module _ {N : Type 0} where
  same_twice : (u v w : View N Entry) → IsSameSeat u v → IsSameSeat v w → IsSameSeat u w
  same_twice u v w s t = record {
    name = t.name ∙ s.name;
    number = t.number ∙ s.number;
    kept = t.kept ∙ s.kept;
    marks = t.marks ∙ s.marks;
    given = t.given ∙ s.given;
  }

  pub stands_first : (v : View N Entry) → v.holds ≡ false → Stands v v
  stands_first v idle = record {
    same = record { name = refl; number = refl; kept = refl; marks = refl; given = refl };
    idle = idle;
    seen = starts_itself v.seen;
  }

  pub turned_on : (u v w : View N Entry) → Stands u v → IsTurned v w → IsTurned u w
  turned_on u v w s t = record {
    same = same_twice u v w s.same t.same;
    idle = t.idle;
    seen = starts_twice u.seen v.seen w.seen s.seen t.seen;
    mine = t.mine;
  }

  pub stands_on : (u v : View N Entry) → IsTurned u v → Stands u v
  stands_on u v t = record { same = t.same; idle = t.idle; seen = t.seen }

-- a value that a worker changed may be given back
pub may_leave : {V N : Type 0} (journal : V → List Entry) (old new : V) (name : N) (u : ℕ) (w : View N Entry) → journal old ≡ w.seen → u ≡ w.number →
    Changes u (journal old) (journal new) → MayLeave (λ value name log. journal value ≡ log) by_worker no_bound name new w
may_leave journal old new name u w stand number (inl s) = inl (s ∙ stand)
may_leave journal old new name u w stand number (inr t) = inr (
  entry u t.0,
  t.1 ∙ ap (λ (es : List Entry). es ++ entry u t.0 ∷ []) stand,
  record { own = number; bounded = λ j m at. omega arith },
)
