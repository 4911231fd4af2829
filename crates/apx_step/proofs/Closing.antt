-- What a walk makes of a window is what the definition of a step says.
use Rattle.std.proofs.Common.{◌≡◌, ℕ, ℤ, zero, suc, Bool, true, false, cond, List, [], ◌∷◌, ◌++◌, map, refl, sym, ap, subst, ◌∙◌, arith, pos, unwrap_or, ◌⊎◌, inl, inr, Option, Some, None}
use Rattle.std.specs.Ordering.{is_eq}
use Rattle.std.specs.Option.{is_some}
use Rattle.std.specs.List.{flat_map}
use Rattle.std.specs.List.Sorted.{IsStrictlySortedBy}
use Rattle.std.specs.Map.{keys_of}
use Rattle.apx_order.specs.Sorted.{times, each_once}
use Rattle.apx_order.proofs.Sorting.{times-append}
use Rattle.apx_order.proofs.Once.{each_once-times, each_once-strict, each_once-quiet}
use Rattle.apx_tuple.specs.declared.kind.Kind.{Kind}
use Rattle.apx_tuple.specs.declared.kind.Kind.TheVariants.{Tumble, Top}
use Rattle.apx_tuple.specs.declared.tuple.Tuple.{Tuple}
use Rattle.apx_tuple.specs.Size.{size_by, IsLarge}
use Rattle.apx_tuple.specs.State.{Pair, pair_key, value_at}
use Rattle.apx_tuple.specs.Tuple.{key_order, tuple_key, bag_of}
use Rattle.apx_tuple.proofs.Orders.{key_order-exact}
use Rattle.apx_tuple.proofs.Sizes.{size_by-bag_of}
use Rattle.apx_rules.specs.Rule.{Outcome, rule, tuples_of}
use Rattle.apx_rules.specs.Step.{step, keyed_step, step_keys, entries_at, values_of}
use Rattle.apx_rules.proofs.Pairs.{same_key, value_at-with_entry, value_at-elsewhere, value_at-among, value_at-none, entries_at-ascends, same-pairs}
use Rattle.apx_step.specs.Walk.{keys_came, put, put_all, walked, emitted_of, open_rule, open_outcome, keeps, start_of, closes, pair_tuple}
use Rattle.apx_step.proofs.Groups.{keys, values_of-none}
use Rattle.apx_step.proofs.Laws.{rule-open, rule-kept, rule-quiet, rule-blind, rule-empty, rule-stays}
use Rattle.apx_step.proofs.Walks.{put-other, put-ascends}

abbrev number : Bool → ℕ
number b = cond b 1 0

-- ---- look-ups after a walk

-- no entry is lost
abbrev Stays : (List ℕ → Option ℤ) → List Pair → Type 0
Stays entry pairs = (k : List ℕ) → entry k ≡ None → value_at pairs k ≡ None

put-here : (entry : Option ℤ) (key : List ℕ) (pairs : List Pair) → (entry ≡ None → value_at pairs key ≡ None) → (q : List ℕ) → is_eq (key_order q key) ≡ true → value_at (put entry key pairs) q ≡ entry
put-here None key pairs s q h = ap (value_at pairs) (same_key q key h) ∙ s refl
put-here (Some v) key pairs s q h = value_at-with_entry pairs key v q ∙ ap (λ b. cond b (Some v) (value_at pairs q)) h

put_all-value : (entry : List ℕ → Option ℤ) (ks : List (List ℕ)) (pairs : List Pair) → Stays entry pairs → (q : List ℕ) → (times key_order q ks ≡ 0 → value_at pairs q ≡ entry q) → value_at (put_all entry ks pairs) q ≡ entry q
unfolding times
put_all-value entry [] pairs s q h = h refl
put_all-value entry (k ∷ ks) pairs s q h = put_all-value entry ks (put (entry k) k pairs) (λ j e. stays j e (is_eq (key_order j k)) refl) q (λ n. found n (is_eq (key_order q k)) refl)
  where
    stays : (j : List ℕ) → entry j ≡ None → (b : Bool) → is_eq (key_order j k) ≡ b → value_at (put (entry k) k pairs) j ≡ None
    stays j e true t = put-here (entry k) k pairs (s k) j t ∙ ap entry (sym (same_key j k t)) ∙ e
    stays j e false t = put-other (entry k) k j pairs t ∙ s j e

    found : times key_order q ks ≡ 0 → (b : Bool) → is_eq (key_order q k) ≡ b → value_at (put (entry k) k pairs) q ≡ entry q
    found n true t = put-here (entry k) k pairs (s k) q t ∙ ap entry (sym (same_key q k t))
    found n false t = put-other (entry k) k q pairs t ∙ h (omega (arith, n, ap number t))

put_all-ascends : (entry : List ℕ → Option ℤ) (ks : List (List ℕ)) (pairs : List Pair) → IsStrictlySortedBy key_order (keys_of pairs) → IsStrictlySortedBy key_order (keys_of (put_all entry ks pairs))
put_all-ascends entry [] pairs a = a
put_all-ascends entry (k ∷ ks) pairs a = put_all-ascends entry ks (put (entry k) k pairs) (put-ascends (entry k) k pairs a)

-- what is put for the keys that came makes the pairs of all keys
put_all-entries : (entry : List ℕ → Option ℤ) (pairs : List Pair) (ks : List (List ℕ)) → IsStrictlySortedBy key_order (keys_of pairs) → Stays entry pairs → ((q : List ℕ) → times key_order q ks ≡ 0 → value_at pairs q ≡ entry q) →
    put_all entry (each_once key_order ks) pairs ≡ entries_at entry (each_once key_order (keys_of pairs ++ ks))
put_all-entries entry pairs ks a s quiet =
    same-pairs (put_all entry (each_once key_order ks) pairs) (entries_at entry (each_once key_order (keys_of pairs ++ ks))) (put_all-ascends entry (each_once key_order ks) pairs a) (entries_at-ascends entry (each_once key_order (keys_of pairs ++ ks)) (each_once-strict key_order-exact (keys_of pairs ++ ks)))
    (λ q. put_all-value entry (each_once key_order ks) pairs s q (λ n. quiet q (omega (arith, n, each_once-times key_order-exact q ks))) ∙ sym (by q (times key_order q (keys_of pairs ++ ks)) refl))
  where
    by : (q : List ℕ) (n : ℕ) → times key_order q (keys_of pairs ++ ks) ≡ n → value_at (entries_at entry (each_once key_order (keys_of pairs ++ ks))) q ≡ entry q
    by q zero e =
        let here : times key_order q (keys_of pairs) ≡ 0 = omega (arith, e, times-append key_order q (keys_of pairs) ks) in
        let came : times key_order q ks ≡ 0 = omega (arith, e, times-append key_order q (keys_of pairs) ks) in
        value_at-elsewhere entry (each_once key_order (keys_of pairs ++ ks)) q (omega (arith, e, each_once-times key_order-exact q (keys_of pairs ++ ks))) ∙ sym (value_at-none pairs q here) ∙ quiet q came
    by q (suc n) e = value_at-among entry (each_once key_order (keys_of pairs ++ ks)) q (omega (arith, e, each_once-times key_order-exact q (keys_of pairs ++ ks)))

pub entries_at-none : (entry : List ℕ → Option ℤ) (ks : List (List ℕ)) → ((k : List ℕ) → entry k ≡ None) → entries_at entry ks ≡ []
unfolding entries_at
entries_at-none entry [] h = refl
entries_at-none entry (k ∷ ks) h = rw (h k) (entries_at-none entry ks h)

-- ---- a key that didn't come

module _ (kind : Kind) (start : List Pair) (left right : List Tuple) (q : List ℕ) (none : times key_order q (keys left ++ keys right) ≡ 0) where
  outcome-none : open_outcome kind start left right q ≡ open_rule kind q (value_at start q) [] []
  outcome-none =
      let l : times key_order q (keys left) ≡ 0 = omega (arith, none, times-append key_order q (keys left) (keys right)) in
      let r : times key_order q (keys right) ≡ 0 = omega (arith, none, times-append key_order q (keys left) (keys right)) in
      λ i. open_rule kind q (value_at start q) (values_of-none q left l i) (values_of-none q right r i)

  entry-none : keeps kind ≡ true → (open_outcome kind start left right q).entry ≡ value_at start q
  entry-none h = ap (λ (o : Outcome). o.entry) (outcome-none ∙ rule-kept kind q (value_at start q) h)

  emitted-none : (open_outcome kind start left right q).emitted ≡ []
  emitted-none = ap (λ (o : Outcome). o.emitted) outcome-none ∙ by (keeps kind) refl
    where
      by : (b : Bool) → keeps kind ≡ b → (open_rule kind q (value_at start q) [] []).emitted ≡ []
      by true h = ap (λ (o : Outcome). o.emitted) (rule-kept kind q (value_at start q) h)
      by false h = ap (λ (o : Outcome). o.emitted) (rule-quiet kind q (value_at start q) h)

-- ---- a whole walk

-- with a kind that keeps entries
pub walked-kept : (kind : Kind) (state : List Pair) (left right : List Tuple) → IsStrictlySortedBy key_order (keys_of state) → keeps kind ≡ true →
    walked kind state left right ≡ entries_at (λ key. (open_outcome kind state left right key).entry) (step_keys state left right)
unfolding walked
walked-kept kind state left right a h =
    put_all-entries (λ key. (open_outcome kind state left right key).entry) state (keys left ++ keys right) a
    (λ k e. rule-stays kind k (value_at state k) (values_of k left) (values_of k right) h e) (λ q n. sym (entry-none kind state left right q n h))

-- with a kind that keeps nothing
pub walked-empty : (kind : Kind) (left right : List Tuple) → keeps kind ≡ false → walked kind [] left right ≡ []
unfolding walked
walked-empty kind left right h = by (keys_came left right)
  where
    by : (ks : List (List ℕ)) → put_all (λ key. (open_outcome kind [] left right key).entry) ks [] ≡ []
    by [] = refl
    by (k ∷ ks) = ap (λ e. put_all (λ key. (open_outcome kind [] left right key).entry) ks (put e k [])) (rule-empty kind k None (values_of k left) (values_of k right) h) ∙ by ks

-- what is emitted is the same for all keys
emitted_of-all : (kind : Kind) (state : List Pair) (left right : List Tuple) → emitted_of kind state left right ≡ flat_map (λ key. (open_outcome kind state left right key).emitted) (step_keys state left right)
unfolding emitted_of
emitted_of-all kind state left right =
    sym (each_once-quiet key_order-exact (λ key. (open_outcome kind state left right key).emitted) (keys_of state ++ (keys left ++ keys right)) (keys left ++ keys right)
    (λ q. omega (arith, times-append key_order q (keys_of state) (keys left ++ keys right))) (λ q n. emitted-none kind state left right q n))

emitted_of-start : (kind : Kind) (state : List Pair) (left right : List Tuple) → emitted_of kind (start_of kind state) left right ≡ emitted_of kind state left right
unfolding emitted_of
emitted_of-start kind state left right = by (keeps kind) refl
  where
    by : (b : Bool) → keeps kind ≡ b → flat_map (λ key. (open_outcome kind (cond b state []) left right key).emitted) (keys_came left right) ≡ flat_map (λ key. (open_outcome kind state left right key).emitted) (keys_came left right)
    by true h = refl
    by false h = λ i. flat_map (λ key. (rule-blind kind key (value_at state key) (values_of key left) (values_of key right) h i).emitted) (keys_came left right)

-- ---- at a window that ends no sum

pub closing-state : (kind : Kind) (window : ℕ) (state : List Pair) (left right : List Tuple) → IsStrictlySortedBy key_order (keys_of state) → closes kind window ≡ false →
    walked kind (start_of kind state) left right ≡ (keyed_step kind window state left right).state
closing-state kind window state left right a open_window = by (keeps kind) refl
  where
    by : (b : Bool) → keeps kind ≡ b → walked kind (cond b state []) left right ≡ (keyed_step kind window state left right).state
    by true h =
        walked-kept kind state left right a h
        ∙ (λ i. entries_at (λ key. (rule-open kind window key (value_at state key) (values_of key left) (values_of key right) open_window i).entry) (step_keys state left right))
    by false h =
        walked-empty kind left right h
        ∙ sym ((λ i. entries_at (λ key. (sym (rule-open kind window key (value_at state key) (values_of key left) (values_of key right) open_window) i).entry) (step_keys state left right))
        ∙ entries_at-none (λ key. (open_outcome kind state left right key).entry) (step_keys state left right) (λ k. rule-empty kind k (value_at state k) (values_of k left) (values_of k right) h))

pub closing-rows : (kind : Kind) (window : ℕ) (state : List Pair) (left right : List Tuple) → closes kind window ≡ false →
    bag_of (emitted_of kind (start_of kind state) left right) ≡ (keyed_step kind window state left right).rows
closing-rows kind window state left right open_window =
    ap bag_of (emitted_of-start kind state left right ∙ emitted_of-all kind state left right
    ∙ (λ i. flat_map (λ key. (rule-open kind window key (value_at state key) (values_of key left) (values_of key right) open_window i).emitted) (step_keys state left right)))

-- ---- at a window that ends the sums

entries_at-emitted : (entry : List ℕ → Option ℤ) (ks : List (List ℕ)) → map pair_tuple (entries_at entry ks) ≡ flat_map (λ key. tuples_of key (cond (is_some (entry key)) (unwrap_or (entry key) (pos 0) ∷ []) [])) ks
unfolding entries_at
entries_at-emitted entry [] = refl
entries_at-emitted entry (k ∷ ks) = by (entry k) refl (entries_at-emitted entry ks)
  where
    by : (o : Option ℤ) → entry k ≡ o → map pair_tuple (entries_at entry ks) ≡ flat_map (λ key. tuples_of key (cond (is_some (entry key)) (unwrap_or (entry key) (pos 0) ∷ []) [])) ks →
        map pair_tuple (entries_at entry (k ∷ ks)) ≡ flat_map (λ key. tuples_of key (cond (is_some (entry key)) (unwrap_or (entry key) (pos 0) ∷ []) [])) (k ∷ ks)
    by None e rest = rw e rest
    by (Some v) e rest = rw e (ap (λ l. record { key = k; value = v } ∷ l) rest)

-- everything that is kept is emitted, and nothing is kept
pub closing-end : (kind : Kind) (window : ℕ) (state : List Pair) (left right : List Tuple) → IsStrictlySortedBy key_order (keys_of state) → closes kind window ≡ true →
    (bag_of (map pair_tuple (walked kind (start_of kind state) left right)) ≡ (keyed_step kind window state left right).rows) × ((keyed_step kind window state left right).state ≡ [])
unfolding open_rule rule
closing-end (Tumble every) window state left right a h =
    (ap bag_of (ap (map pair_tuple) (walked-kept (Tumble every) state left right a refl) ∙ entries_at-emitted (λ key. (open_outcome (Tumble every) state left right key).entry) (step_keys state left right)) ∙ rw h refl, rw h (entries_at-none (λ key. None) (step_keys state left right) (λ k. refl)))
closing-end kind window state left right a h = cc

-- ---- sizes

pub pair_tuple-size : (pairs : List Pair) → size_by tuple_key (map pair_tuple pairs) ≡ size_by pair_key pairs
pair_tuple-size [] = refl
pair_tuple-size (p ∷ pairs) = omega (arith, pair_tuple-size pairs)

pub start-ascends : (kind : Kind) (state : List Pair) → IsStrictlySortedBy key_order (keys_of state) → IsStrictlySortedBy key_order (keys_of (start_of kind state))
unfolding IsStrictlySortedBy
start-ascends kind state a = by (keeps kind)
  where
    by : (b : Bool) → IsStrictlySortedBy key_order (keys_of (cond b state []))
    by true = a
    by false = tt

-- every kind but `top` steps key by key
pub step-keyed : (kind : Kind) (window : ℕ) (state : List Pair) (left right : List Tuple) → ((k : ℕ) → kind ≡ Top k → ⊥) → step kind window state left right ≡ keyed_step kind window state left right
unfolding step
step-keyed (Top k) window state left right n = absurd (n k refl)
step-keyed kind window state left right n = refl

-- ---- the step as the code goes

module _ (kind : Kind) (window : ℕ) (state start kept : List Pair) (left right emitted : List Tuple) (ascends : IsStrictlySortedBy key_order (keys_of state)) (begins : start ≡ start_of kind state) where
  whole : walked kind start left right ≡ walked kind (start_of kind state) left right
  whole = ap (λ s. walked kind s left right) begins

  pub open-ok : (rows : List Tuple) → closes kind window ≡ false → kept ≡ walked kind start left right → emitted ≡ emitted_of kind start left right → rows ≡ bag_of emitted →
      (kept ≡ (keyed_step kind window state left right).state) × (rows ≡ (keyed_step kind window state left right).rows)
  open-ok rows h k t r = (k ∙ whole ∙ closing-state kind window state left right ascends h, r ∙ ap bag_of (t ∙ ap (λ s. emitted_of kind s left right) begins) ∙ closing-rows kind window state left right h)

  pub open-large : closes kind window ≡ false → emitted ≡ emitted_of kind start left right → IsLarge tuple_key (bag_of emitted) → IsLarge tuple_key (keyed_step kind window state left right).rows
  open-large h t large = subst (IsLarge tuple_key) (ap bag_of (t ∙ ap (λ s. emitted_of kind s left right) begins) ∙ closing-rows kind window state left right h) large

  end-rows : closes kind window ≡ true → kept ≡ walked kind start left right → emitted ≡ map pair_tuple kept → bag_of emitted ≡ (keyed_step kind window state left right).rows
  end-rows h k t = ap bag_of (t ∙ ap (map pair_tuple) (k ∙ whole)) ∙ (closing-end kind window state left right ascends h).0

  pub end-ok : (new : List Pair) (rows : List Tuple) → closes kind window ≡ true → kept ≡ walked kind start left right → emitted ≡ map pair_tuple kept → new ≡ [] → rows ≡ bag_of emitted →
      (new ≡ (keyed_step kind window state left right).state) × (rows ≡ (keyed_step kind window state left right).rows)
  end-ok new rows h k t n r = (n ∙ sym (closing-end kind window state left right ascends h).1, r ∙ end-rows h k t)

  pub end-large : closes kind window ≡ true → kept ≡ walked kind start left right → emitted ≡ map pair_tuple kept → IsLarge tuple_key (bag_of emitted) → IsLarge tuple_key (keyed_step kind window state left right).rows
  end-large h k t large = subst (IsLarge tuple_key) (end-rows h k t) large

-- where what is kept is too large, the new state is, or the rows that it is emitted by are
pub walk-large : (kind : Kind) (window : ℕ) (state start : List Pair) (left right : List Tuple) → IsStrictlySortedBy key_order (keys_of state) → start ≡ start_of kind state → IsLarge pair_key (walked kind start left right) →
    IsLarge pair_key (keyed_step kind window state left right).state ⊎ IsLarge tuple_key (keyed_step kind window state left right).rows
walk-large kind window state start left right a begins large = by (closes kind window) refl
  where
    by : (b : Bool) → closes kind window ≡ b → IsLarge pair_key (keyed_step kind window state left right).state ⊎ IsLarge tuple_key (keyed_step kind window state left right).rows
    by false h = inl (subst (IsLarge pair_key) (ap (λ s. walked kind s left right) begins ∙ closing-state kind window state left right a h) large)
    by true h = inr (subst (IsLarge tuple_key) (closing-end kind window state left right a h).0
        (omega (arith, size_by-bag_of (map pair_tuple (walked kind (start_of kind state) left right)), pair_tuple-size (walked kind (start_of kind state) left right), ap (λ s. size_by pair_key (walked kind s left right)) begins, large)))
