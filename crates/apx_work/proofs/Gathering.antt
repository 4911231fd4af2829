-- The seats of all workers: how they are dealt, and how they are joined.
use Rattle.std.proofs.Common.{◌≡◌, ℕ, zero, suc, ◌+◌, ◌<◌, ◌⊎◌, inl, inr, Bool, true, false, cond, nat_lt, List, [], ◌∷◌, ◌++◌, length, refl, sym, ap, subst, ◌∙◌, arith, append-nil}
use Rattle.std.specs.Prelude.{None}
use Rattle.atomic_table.specs.Seated.{TableId}
use Rattle.apx_history.specs.declared.Entry.{Entry}
use Rattle.apx_history.specs.Plan.{Plan}
use Rattle.apx_history.specs.Laws.{IsHistory}
use Rattle.apx_lock.specs.declared.rule.Terms.{Terms}
use Rattle.apx_lock.specs.declared.view.View.{View}
use Rattle.apx_lock.specs.declared.view.Part.{Part}
use Rattle.apx_lock.specs.Logs.{Every}
use Rattle.apx_lock.specs.Views.{IsPart, HasNumber, first_view, after_split, dealt_view, after_join}
use Rattle.apx_lock.specs.Seats.{Seated, IsSeatOf}
use Rattle.apx_lock.specs.Steps.{Ends}
use Rattle.apx_lock.proofs.Lists.{Every-weaker, Every-append}
use Rattle.apx_lock.proofs.Entries.{part_of_append, has_either}
use Rattle.apx_work.specs.Turns.{IsOver}
use Rattle.apx_work.specs.Workers.{Worked, IsReady, IsOther, IsDone, OneHas, AreDealt, AreGathered}
use Rattle.apx_work.proofs.Stopping.{over_whole}
use Rattle.apx_work.proofs.Seating.{by_worker, no_bound}

-- ---- numbers

-- a number is below another, or it is that one
which : (k n : ℕ) → k < n + 1 → (k < n) ⊎ (n ≡ k)
which zero zero h = inr refl
which (suc k) zero h = absurd (omega arith)
which zero (suc n) h = inl (omega arith)
which (suc k) (suc n) h = elim (which k n (omega arith)) [ inl a ↦ inl (omega arith) | inr e ↦ inr (ap suc e) ]

-- ---- which numbers the seats have

module _ {N : Type 0} where
  has_same : (v w : View N Entry) (k : ℕ) → w.number ≡ v.number → w.kept ≡ v.kept → HasNumber v k → HasNumber w k
  has_same v w k number kept (inl e) = inl (number ∙ e)
  has_same v w k number kept (inr p) = inr (subst (λ (ps : List (Part Entry)). IsPart k ps) (sym kept) p)

  -- a number of a joined seat is one of the two
  has_which : (v other : View N Entry) (k : ℕ) → HasNumber (after_join v other) k → HasNumber v k ⊎ HasNumber other k
  has_which v other k (inl e) = inl (inl e)
  has_which v other k (inr p) = elim (part_of_append k v.kept (record { number = other.number; entries = other.mine } ∷ other.kept) p) [
    | inl a ↦ inl (inr a)
    | inr b ↦ inr b
  ]

  one_left : (xs ys : List (Seated N Entry)) (k : ℕ) → OneHas xs k → OneHas (xs ++ ys) k
  one_left [] ys k h = absurd h
  one_left (x ∷ xs) ys k (inl h) = inl h
  one_left (x ∷ xs) ys k (inr h) = inr (one_left xs ys k h)

  one_right : (xs ys : List (Seated N Entry)) (k : ℕ) → OneHas ys k → OneHas (xs ++ ys) k
  one_right [] ys k h = h
  one_right (x ∷ xs) ys k h = inr (one_right xs ys k h)

  one_which : (xs ys : List (Seated N Entry)) (k : ℕ) → OneHas (xs ++ ys) k → OneHas xs k ⊎ OneHas ys k
  one_which [] ys k h = inr h
  one_which (x ∷ xs) ys k (inl h) = inl (inl h)
  one_which (x ∷ xs) ys k (inr h) = elim (one_which xs ys k h) [ inl a ↦ inl (inr a) | inr b ↦ inr b ]

  -- the last seat may stand first
  last_first : (xs : List (Seated N Entry)) (y : Seated N Entry) (k : ℕ) → OneHas (xs ++ y ∷ []) k → OneHas (y ∷ xs) k
  last_first xs y k h = elim (one_which xs (y ∷ []) k h) [
    | inl a ↦ inr a
    | inr b ↦ elim b [ inl c ↦ inl c | inr none ↦ absurd none ]
  ]

  first_last : (xs : List (Seated N Entry)) (y : Seated N Entry) (k : ℕ) → OneHas (y ∷ xs) k → OneHas (xs ++ y ∷ []) k
  first_last xs y k (inl h) = one_right xs (y ∷ []) k (inl h)
  first_last xs y k (inr h) = one_left xs (y ∷ []) k h

pub every_last : {A : Type 0} (P : A → Type 0) (xs : List A) (y : A) → Every P (xs ++ y ∷ []) → Every P xs × P y
every_last P [] y h = (tt, h.0)
every_last P (x ∷ xs) y h = let r = every_last P xs y h.1 in ((h.0, r.0), r.1)

-- ---- how they are dealt

module _ {N : Type 0} (table : TableId) (terms : Terms N) where
  pub deal_first : (first : Seated N Entry) → IsSeatOf table terms first → first.view ≡ first_view terms.name terms.marks → AreDealt table terms 1 first []
  deal_first first of fresh = record {
    ready = record { of = of; idle = ap (λ (v : View N Entry). v.holds) fresh; fresh = ap (λ (v : View N Entry). v.mine) fresh };
    given = ap (λ (v : View N Entry). v.given) fresh;
    each = tt;
    all = λ k h. inl (inl (ap (λ (v : View N Entry). v.number) fresh ∙ omega arith));
    below = λ k h. zero_alone k h;
  }
    where
      zero_alone : (k : ℕ) → OneHas (first ∷ []) k → k < 1
      zero_alone k (inl (inl e)) = let f : first.view.number ≡ 0 = ap (λ (v : View N Entry). v.number) fresh in omega arith
      zero_alone k (inl (inr p)) = absurd (subst (λ (ps : List (Part Entry)). IsPart k ps) (ap (λ (v : View N Entry). v.kept) fresh) p)
      zero_alone k (inr none) = absurd none

  pub deal_more : (n : ℕ) (first later other : Seated N Entry) (others : List (Seated N Entry)) → AreDealt table terms n first others →
      IsSeatOf table terms later → later.view ≡ after_split None first.view → IsSeatOf table terms other → other.view ≡ dealt_view None first.view →
      AreDealt table terms (n + 1) later (others ++ other ∷ [])
  deal_more n first later other others d of split there dealt = record {
    ready = record {
      of = of;
      idle = ap (λ (v : View N Entry). v.holds) split ∙ d.ready.idle;
      fresh = ap (λ (v : View N Entry). v.mine) split ∙ d.ready.fresh;
    };
    given = ap (λ (v : View N Entry). v.given) split ∙ ap (λ (k : ℕ). k + 1) d.given;
    each = Every-append (IsOther table terms) others (other ∷ []) d.each ((new_ready, ap (λ (v : View N Entry). v.given) dealt), tt);
    all = λ k h. all_of k (which k n h);
    below = λ k h. below_of k h;
  }
    where
      new_ready : IsReady table terms other
      new_ready = record {
        of = there;
        idle = ap (λ (v : View N Entry). v.holds) dealt;
        fresh = ap (λ (v : View N Entry). v.mine) dealt;
      }

      number_is : other.view.number ≡ n
      number_is = ap (λ (v : View N Entry). v.number) dealt ∙ d.given

      first_has : (k : ℕ) → HasNumber first.view k → HasNumber later.view k
      first_has k h = has_same first.view later.view k (ap (λ (v : View N Entry). v.number) split) (ap (λ (v : View N Entry). v.kept) split) h

      first_had : (k : ℕ) → HasNumber later.view k → HasNumber first.view k
      first_had k h = has_same later.view first.view k (sym (ap (λ (v : View N Entry). v.number) split)) (sym (ap (λ (v : View N Entry). v.kept) split)) h

      all_of : (k : ℕ) → (k < n) ⊎ (n ≡ k) → OneHas (later ∷ (others ++ other ∷ [])) k
      all_of k (inl h) = elim (d.all k h) [
        | inl a ↦ inl (first_has k a)
        | inr b ↦ inr (one_left others (other ∷ []) k b)
      ]
      all_of k (inr e) = inr (one_right others (other ∷ []) k (inl (inl (number_is ∙ e))))

      last_below : (k : ℕ) → OneHas (other ∷ []) k → k < n + 1
      last_below k (inl (inl e)) = let f = number_is in omega arith
      last_below k (inl (inr p)) = absurd (subst (λ (ps : List (Part Entry)). IsPart k ps) (ap (λ (v : View N Entry). v.kept) dealt) p)
      last_below k (inr none) = absurd none

      below_of : (k : ℕ) → OneHas (later ∷ (others ++ other ∷ [])) k → k < n + 1
      below_of k (inl h) = let a = d.below k (inl (first_had k h)) in omega arith
      below_of k (inr h) = elim (one_which others (other ∷ []) k h) [
        | inl a ↦ let b = d.below k (inr a) in omega arith
        | inr b ↦ last_below k b
      ]

  pub deal_next : (n : ℕ) (first later other : Seated N Entry) (others seats : List (Seated N Entry)) → seats ≡ others ++ other ∷ [] → AreDealt table terms n first others →
      IsSeatOf table terms later → later.view ≡ after_split None first.view → IsSeatOf table terms other → other.view ≡ dealt_view None first.view →
      AreDealt table terms (n + 1) later seats
  deal_next n first later other others seats is d of split there dealt =
      subst (λ (ss : List (Seated N Entry)). AreDealt table terms (n + 1) later ss) (sym is) (deal_more n first later other others d of split there dealt)

-- ---- how they are joined

module _ {N : Type 0} (table : TableId) (terms : Terms N) where
  pub gather_one : (first seat : Seated N Entry) → IsDone table terms first seat → AreGathered table terms first [] seat
  gather_one first seat done = record {
    of = done.of;
    idle = done.idle;
    given = done.same.given;
    all = λ k h. elim h [
      | inl a ↦ has_same first.view seat.view k done.same.number done.same.kept a
      | inr none ↦ absurd none
    ];
    only = λ k h. inl (has_same seat.view first.view k (sym done.same.number) (sym done.same.kept) h);
    over = done.over;
  }

  pub gather_more : (first one next rest seat : Seated N Entry) (others : List (Seated N Entry)) → IsDone table terms first one → AreGathered table terms next others rest →
      next.view.given ≡ 0 → IsSeatOf table terms seat → seat.view ≡ after_join one.view rest.view → AreGathered table terms first (others ++ next ∷ []) seat
  gather_more first one next rest seat others done gathered none of joined = record {
    of = of;
    idle = ap (λ (v : View N Entry). v.holds) joined ∙ done.idle;
    given = ap (λ (v : View N Entry). v.given) joined ∙ ap (λ (k : ℕ). cond (nat_lt 0 k) k one.view.given) (gathered.given ∙ none) ∙ done.same.given;
    all = λ k h. subst (λ (v : View N Entry). HasNumber v k) (sym joined) (has_either one.view rest.view k (elim h [
      | inl a ↦ inl (has_same first.view one.view k done.same.number done.same.kept a)
      | inr b ↦ inr (gathered.all k (last_first others next k b))
    ]));
    only = λ k h. elim (has_which one.view rest.view k (subst (λ (v : View N Entry). HasNumber v k) joined h)) [
      | inl a ↦ inl (has_same one.view first.view k (sym done.same.number) (sym done.same.kept) a)
      | inr b ↦ inr (first_last others next k (gathered.only k b))
    ];
    over = subst (λ (es : List Entry). IsOver es) (sym (ap (λ (v : View N Entry). v.seen) joined)) (either (nat_lt (length one.view.seen) (length rest.view.seen)));
  }
    where
      either : (b : Bool) → IsOver (cond b rest.view.seen one.view.seen)
      either true = gathered.over
      either false = done.over

  -- the seats that are all are those of the front, and the last one
  pub gather_next : (first one next rest seat : Seated N Entry) (front all : List (Seated N Entry)) → all ≡ front ++ next ∷ [] → Every (IsOther table terms) all →
      IsDone table terms first one → AreGathered table terms next front rest → IsSeatOf table terms seat → seat.view ≡ after_join one.view rest.view →
      AreGathered table terms first all seat
  gather_next first one next rest seat front all is each done gathered of joined =
      let last = every_last (IsOther table terms) front next (subst (λ (ss : List (Seated N Entry)). Every (IsOther table terms) ss) is each) in
      subst (λ (ss : List (Seated N Entry)). AreGathered table terms first ss seat) (sym is)
      (gather_more first one next rest seat front done gathered last.1.1 of joined)

-- a worker's seat behind its last turn
pub done_by : {N : Type 0} (table : TableId) (terms : Terms N) (plan : Plan) (s c : ℕ) (old new : Seated N Entry) → IsSeatOf table terms new → Worked plan s c old.view new.view
    → IsDone table terms old new
done_by table terms plan s c old new of worked = record { of = of; same = worked.turned.same; idle = worked.turned.idle; over = worked.over }

-- ---- the end

module _ {V N : Type 0} (journal : V → List Entry) (name : N) (value : V) (plan : Plan) (s c : ℕ) (v : View N Entry)
    (is : IsHistory plan s c (journal value)) (ends : Ends (λ value name log. journal value ≡ log) by_worker no_bound name value v) where
  -- the history of a closed lock is over where a seat has seen it so
  pub ends_over : IsOver v.seen → IsOver (journal value)
  ends_over over =
      let begins : journal value ≡ v.seen ++ ends.seen.0 = ends.stand ∙ ends.seen.1 in
      let none : ends.seen.0 ≡ [] = over_whole plan s c v.seen ends.seen.0 (subst (λ (es : List Entry). IsHistory plan s c es) begins is) over in
      subst (λ (es : List Entry). IsOver es) (sym (begins ∙ ap (λ (es : List Entry). v.seen ++ es) none ∙ append-nil v.seen)) over

  -- and each entry is by a number that the seat has
  pub ends_by : (n : ℕ) → ((k : ℕ) → HasNumber v k → k < n) → Every (λ (e : Entry). e.worker < n) (journal value)
  ends_by n few = subst (λ (es : List Entry). Every (λ (e : Entry). e.worker < n) es) (sym ends.stand)
      (Every-weaker (λ (e : Entry). HasNumber v e.worker) (λ (e : Entry). e.worker < n) (λ e h. few e.worker h) ends.log ends.numbered)
