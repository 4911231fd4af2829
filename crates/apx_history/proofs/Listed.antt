-- The list of choices is exact, and isn't empty while a run goes on.
use Rattle.std.proofs.Common.{◌≡◌, ℕ, zero, suc, ◌+◌, ◌<◌, ◌≤◌, ◌⊎◌, inl, inr, Bool, true, false, cond, not, ◌&&◌, List, [], ◌∷◌, ◌++◌, length, refl, sym, ap, subst, ◌∙◌, arith, Option, None, Some, unwrap_or}
use Rattle.std.specs.List.{filter}
use Rattle.apx_history.specs.declared.Event.{Event}
use Rattle.apx_history.specs.declared.Event.TheVariants.{Start, Write, Finish, Save, Advance, Commit, Purge, Kill, Repartition, End, Fault}
use Rattle.apx_history.specs.Plan.{Plan}
use Rattle.apx_history.specs.State.{State, parts, slot, IsPart, is_left, open_window, running}
use Rattle.apx_history.specs.Enabled.{can, can_now, advance_to, least_rc}
use Rattle.apx_history.specs.Conditions.{Enabled}
use Rattle.apx_history.specs.Choices.{list_below, lists_below, list_slots, purge_to, starts, writes, finishes, saves, advances, commits, purges, lines_met, choices, IsListed, Among}
use Rattle.apx_history.specs.Kept.{IsPlan, Kept}
use Rattle.apx_history.specs.Laws.{ChoicesAreExact, AlwaysGoesOn}
use Rattle.apx_history.proofs.Tests.{both, at_or_below}
use Rattle.apx_history.proofs.Conditions.{all_true, can_by, due_at}
use Rattle.apx_history.proofs.Lines.{flag_there}
use Rattle.apx_history.proofs.Legal.{can_facts}
use Rattle.apx_history.proofs.Progress.{goes_on}

module _ {X : Type 0} where
  among_left : (x : X) (xs ys : List X) → Among x xs → Among x (xs ++ ys)
  among_left x [] ys h = absurd h
  among_left x (y ∷ xs) ys (inl h) = inl h
  among_left x (y ∷ xs) ys (inr h) = inr (among_left x xs ys h)

  among_right : (x : X) (xs ys : List X) → Among x ys → Among x (xs ++ ys)
  among_right x [] ys h = h
  among_right x (y ∷ xs) ys h = inr (among_right x xs ys h)

  among_either : (x : X) (xs ys : List X) → Among x (xs ++ ys) → Among x xs ⊎ Among x ys
  among_either x [] ys h = inr h
  among_either x (y ∷ xs) ys (inl h) = inl (inl h)
  among_either x (y ∷ xs) ys (inr h) = elim (among_either x xs ys h) [ inl g ↦ inl (inr g) | inr g ↦ inr g ]

  among_filter : (p : X → Bool) (x : X) (xs : List X) → Among x xs → p x ≡ true → Among x (filter p xs)
  among_filter p x [] h t = h
  among_filter p x (y ∷ xs) h t = by (p y) refl h (λ g. among_filter p x xs g t)
    where
      by : (b : Bool) → b ≡ p y → (y ≡ x) ⊎ Among x xs → (Among x xs → Among x (filter p xs)) → Among x (cond b (y ∷ filter p xs) (filter p xs))
      by true e (inl h) r = inl h
      by true e (inr h) r = inr (r h)
      by false e (inl h) r = absurd (let f : false ≡ true = e ∙ ap p h ∙ t in cc)
      by false e (inr h) r = r h

  filter_among : (p : X → Bool) (x : X) (xs : List X) → Among x (filter p xs) → Among x xs × (p x ≡ true)
  filter_among p x [] h = absurd h
  filter_among p x (y ∷ xs) h = by (p y) refl h (filter_among p x xs)
    where
      by : (b : Bool) → b ≡ p y → Among x (cond b (y ∷ filter p xs) (filter p xs)) → (Among x (filter p xs) → Among x xs × (p x ≡ true)) → ((y ≡ x) ⊎ Among x xs) × (p x ≡ true)
      by true e (inl h) r = (inl h, sym (ap p h) ∙ sym e)
      by true e (inr h) r = let g = r h in (inr g.0, g.1)
      by false e h r = let g = r h in (inr g.0, g.1)

  among_below : (n k : ℕ) (f : ℕ → X) → k < n → Among (f k) (list_below n f)
  unfolding list_below
  among_below zero k f h = absurd (omega arith)
  among_below (suc n) k f h = elim (at_or_below k n h) [
    | inl s ↦ among_left (f k) (list_below n f) (f n ∷ []) (among_below n k f s)
    | inr e ↦ among_right (f k) (list_below n f) (f n ∷ []) (inl (ap f (sym e)))
  ]

  below_among : (P : X → Type 0) (n : ℕ) (f : ℕ → X) → ((k : ℕ) → k < n → P (f k)) → (x : X) → Among x (list_below n f) → P x
  unfolding list_below
  below_among P zero f h x r = absurd r
  below_among P (suc n) f h x r = elim (among_either x (list_below n f) (f n ∷ []) r) [
    | inl g ↦ below_among P n f (λ k s. h k (omega arith)) x g
    | inr g ↦ elim g [ inl e ↦ subst P e (h n (omega arith)) | inr e ↦ absurd e ]
  ]

  among_lists : (n k : ℕ) (f : ℕ → List X) (x : X) → k < n → Among x (f k) → Among x (lists_below n f)
  unfolding lists_below
  among_lists zero k f x h r = absurd (omega arith)
  among_lists (suc n) k f x h r = elim (at_or_below k n h) [
    | inl s ↦ among_left x (lists_below n f) (f n) (among_lists n k f x s r)
    | inr e ↦ among_right x (lists_below n f) (f n) (subst (λ (j : ℕ). Among x (f j)) e r)
  ]

  lists_among : (P : X → Type 0) (n : ℕ) (f : ℕ → List X) → ((k : ℕ) → k < n → (x : X) → Among x (f k) → P x) → (x : X) → Among x (lists_below n f) → P x
  unfolding lists_below
  lists_among P zero f h x r = absurd r
  lists_among P (suc n) f h x r = elim (among_either x (lists_below n f) (f n) r) [
    | inl g ↦ lists_among P n f (λ k s. h k (omega arith)) x g
    | inr g ↦ h n (omega arith) x g
  ]

  among_slots : (m : State) (f : ℕ → ℕ → X) (o i : ℕ) → IsPart m o i → Among (f o i) (list_slots m f)
  among_slots m f o i r = among_lists (length m.ops) o (λ o. list_below (parts m o) (f o)) (f o i) r.0 (among_below (parts m o) i (f o) r.1)

  slots_among : (P : X → Type 0) (m : State) (f : ℕ → ℕ → X) → ((o i : ℕ) → P (f o i)) → (x : X) → Among x (list_slots m f) → P x
  slots_among P m f h = lists_among P (length m.ops) (λ o. list_below (parts m o) (f o)) (λ o r. below_among P (parts m o) (f o) (λ i s. h o i))

  pub some_among : (x : X) (xs : List X) → Among x xs → 0 < length xs
  some_among x [] h = absurd h
  some_among x (y ∷ xs) h = omega arith

module _ (plan : Plan) (m : State) where
  Listed : Event → Type 0
  Listed e = IsListed plan m e

  -- the rows of the choices, one behind the other
  abbrev rows : List Event → List Event
  rows es = filter (can plan m) es

  in_row : (e : Event) (es : List Event) → can plan m e ≡ true → Among e es → Among e (filter (can plan m) es)
  in_row e es t h = among_filter (can plan m) e es h t

  -- which row has an event
  Row : Event → Type 0
  Row (Start o i w) = Among (Start o i w) (starts m)
  Row (Write w) = Among (Write w) (writes m)
  Row (Finish o i w) = Among (Finish o i w) (finishes m)
  Row (Save o i w) = Among (Save o i w) (saves m)
  Row (Advance o i w) = Among (Advance o i w) (advances plan m)
  Row (Commit w) = Among (Commit w) (commits plan m)
  Row (Purge o i w) = Among (Purge o i w) (purges plan m)
  Row (Kill l) = Among (Kill l) (lines_met m Kill)
  Row (Repartition l) = Among (Repartition l) (lines_met m Repartition)
  Row End = Unit {0}
  Row (Fault s) = ⊥

  row_of : (e : Event) → Enabled plan m e → IsListed plan m e → Row e
  unfolding Row
  row_of (Start o i w) h l = subst (λ (k : ℕ). Among (Start o i k) (starts m)) (sym h.next) (among_slots m (λ o i. Start o i ((slot m o i).at + 1)) o i h.part)
  row_of (Write w) h l = inl (ap Write (sym h.next))
  row_of (Finish o i w) h l =
      subst (λ (k : ℕ). Among (Finish o i k) (finishes m)) (ap (λ (x : Option ℕ). unwrap_or x 0) h.opened) (among_slots m (λ o i. Finish o i (unwrap_or (open_window (slot m o i).opened) 0)) o i h.part)
  row_of (Save o i w) h l = subst (λ (k : ℕ). Among (Save o i k) (saves m)) (sym h.now) (among_slots m (λ o i. Save o i (slot m o i).at) o i h.part)
  row_of (Advance o i w) h l = subst (λ (k : ℕ). Among (Advance o i k) (advances plan m)) (sym h.to) (among_slots m (λ o i. Advance o i (advance_to plan m o i)) o i h.part)
  row_of (Commit w) h l = inl (ap Commit (sym h.to))
  row_of (Purge o i w) h l = subst (λ (k : ℕ). Among (Purge o i k) (purges plan m)) (sym l) (among_slots m (λ o i. Purge o i (purge_to plan m o i)) o i h.part)
  row_of (Kill k) h l = among_below (length m.left) k Kill (flag_there m.left k (due_at plan m k h.due).left)
  row_of (Repartition k) h l = among_below (length m.left) k Repartition (flag_there m.left k h.left)
  row_of End h l = tt
  row_of (Fault s) h l = l

  abbrev to1 : List Event
  to1 = rows (starts m)

  abbrev to2 : List Event
  to2 = to1 ++ rows (writes m)

  abbrev to3 : List Event
  to3 = to2 ++ rows (finishes m)

  abbrev to4 : List Event
  to4 = to3 ++ rows (saves m)

  abbrev to5 : List Event
  to5 = to4 ++ rows (advances plan m)

  abbrev to6 : List Event
  to6 = to5 ++ rows (commits plan m)

  abbrev to7 : List Event
  to7 = to6 ++ rows (purges plan m)

  abbrev to8 : List Event
  to8 = to7 ++ rows (lines_met m Kill)

  abbrev to9 : List Event
  to9 = to8 ++ rows (lines_met m Repartition)

  from9 : (e : Event) → Among e to9 → Among e (choices plan m)
  unfolding choices
  from9 e h = among_left e to9 (rows (End ∷ [])) h

  from8 : (e : Event) → Among e to8 → Among e (choices plan m)
  from8 e h = from9 e (among_left e to8 (rows (lines_met m Repartition)) h)

  from7 : (e : Event) → Among e to7 → Among e (choices plan m)
  from7 e h = from8 e (among_left e to7 (rows (lines_met m Kill)) h)

  from6 : (e : Event) → Among e to6 → Among e (choices plan m)
  from6 e h = from7 e (among_left e to6 (rows (purges plan m)) h)

  from5 : (e : Event) → Among e to5 → Among e (choices plan m)
  from5 e h = from6 e (among_left e to5 (rows (commits plan m)) h)

  from4 : (e : Event) → Among e to4 → Among e (choices plan m)
  from4 e h = from5 e (among_left e to4 (rows (advances plan m)) h)

  from3 : (e : Event) → Among e to3 → Among e (choices plan m)
  from3 e h = from4 e (among_left e to3 (rows (saves m)) h)

  from2 : (e : Event) → Among e to2 → Among e (choices plan m)
  from2 e h = from3 e (among_left e to2 (rows (finishes m)) h)

  from1 : (e : Event) → Among e to1 → Among e (choices plan m)
  from1 e h = from2 e (among_left e to1 (rows (writes m)) h)

  among_choices : (e : Event) → Row e → can plan m e ≡ true → Among e (choices plan m)
  unfolding choices Row
  among_choices (Start o i w) r t = from1 (Start o i w) (in_row (Start o i w) (starts m) t r)
  among_choices (Write w) r t = from2 (Write w) (among_right (Write w) to1 (rows (writes m)) (in_row (Write w) (writes m) t r))
  among_choices (Finish o i w) r t = from3 (Finish o i w) (among_right (Finish o i w) to2 (rows (finishes m)) (in_row (Finish o i w) (finishes m) t r))
  among_choices (Save o i w) r t = from4 (Save o i w) (among_right (Save o i w) to3 (rows (saves m)) (in_row (Save o i w) (saves m) t r))
  among_choices (Advance o i w) r t = from5 (Advance o i w) (among_right (Advance o i w) to4 (rows (advances plan m)) (in_row (Advance o i w) (advances plan m) t r))
  among_choices (Commit w) r t = from6 (Commit w) (among_right (Commit w) to5 (rows (commits plan m)) (in_row (Commit w) (commits plan m) t r))
  among_choices (Purge o i w) r t = from7 (Purge o i w) (among_right (Purge o i w) to6 (rows (purges plan m)) (in_row (Purge o i w) (purges plan m) t r))
  among_choices (Kill l) r t = from8 (Kill l) (among_right (Kill l) to7 (rows (lines_met m Kill)) (in_row (Kill l) (lines_met m Kill) t r))
  among_choices (Repartition l) r t = from9 (Repartition l) (among_right (Repartition l) to8 (rows (lines_met m Repartition)) (in_row (Repartition l) (lines_met m Repartition) t r))
  among_choices End r t = among_right End to9 (rows (End ∷ [])) (in_row End (End ∷ []) t (inl refl))
  among_choices (Fault s) r t = absurd r

  pub listed : (e : Event) → can plan m e ≡ true → IsListed plan m e → Among e (choices plan m)
  listed e t l = among_choices e (row_of e (can_facts plan m e t) l) t

  abbrev Chosen : Event → Type 0
  Chosen e = (can plan m e ≡ true) × IsListed plan m e

  of_row : (e : Event) (es : List Event) → ((x : Event) → Among x es → IsListed plan m x) → Among e (filter (can plan m) es) → (can plan m e ≡ true) × IsListed plan m e
  of_row e es h r = let g = filter_among (can plan m) e es r in (g.1, h e g.0)

  one_listed : (e x : Event) → IsListed plan m e → Among x (e ∷ []) → IsListed plan m x
  one_listed e x l (inl h) = subst (IsListed plan m) h l
  one_listed e x l (inr h) = absurd h

  either_way : (e : Event) (xs ys : List Event) → (Among e xs → (can plan m e ≡ true) × IsListed plan m e) → (Among e ys → (can plan m e ≡ true) × IsListed plan m e) → Among e (xs ++ ys) → (can plan m e ≡ true) × IsListed plan m e
  either_way e xs ys f g h = elim (among_either e xs ys h) [ inl r ↦ f r | inr r ↦ g r ]

  pub chosen : (e : Event) → Among e (choices plan m) → (can plan m e ≡ true) × IsListed plan m e
  unfolding choices
  chosen e =
      either_way e to9 (rows (End ∷ [])) (either_way e to8 (rows (lines_met m Repartition)) (either_way e to7 (rows (lines_met m Kill)) (either_way e to6 (rows (purges plan m))
      (either_way e to5 (rows (commits plan m)) (either_way e to4 (rows (advances plan m)) (either_way e to3 (rows (saves m)) (either_way e to2 (rows (finishes m))
      (either_way e to1 (rows (writes m))
      (of_row e (starts m) (slots_among (IsListed plan m) m (λ o i. Start o i ((slot m o i).at + 1)) (λ o i. tt)))
      (of_row e (writes m) (λ x. one_listed (Write (m.stored + 1)) x tt)))
      (of_row e (finishes m) (slots_among (IsListed plan m) m (λ o i. Finish o i (unwrap_or (open_window (slot m o i).opened) 0)) (λ o i. tt))))
      (of_row e (saves m) (slots_among (IsListed plan m) m (λ o i. Save o i (slot m o i).at) (λ o i. tt))))
      (of_row e (advances plan m) (slots_among (IsListed plan m) m (λ o i. Advance o i (advance_to plan m o i)) (λ o i. tt))))
      (of_row e (commits plan m) (λ x. one_listed (Commit (least_rc plan m)) x tt)))
      (of_row e (purges plan m) (slots_among (IsListed plan m) m (λ o i. Purge o i (purge_to plan m o i)) (λ o i. refl))))
      (of_row e (lines_met m Kill) (below_among (IsListed plan m) (length m.left) Kill (λ l r. tt))))
      (of_row e (lines_met m Repartition) (below_among (IsListed plan m) (length m.left) Repartition (λ l r. tt))))
      (of_row e (End ∷ []) (λ x. one_listed End x tt))

pub choices-exact : ChoicesAreExact
choices-exact plan m e = (chosen plan m e, listed plan m e)

pub always-goes-on : AlwaysGoesOn
always-goes-on plan m is kept runs =
    let g = goes_on plan is m kept in
    some_among g.0 (choices plan m) (listed plan m g.0 (all_true runs (can_by plan m g.0 g.1)) g.2)
