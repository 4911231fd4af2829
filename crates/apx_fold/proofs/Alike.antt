-- Two steps are one where they make the same of each key.
use Rattle.std.proofs.Common.{◌≡◌, ℕ, ℤ, ◌≤◌, ◌%◌, ◌==◌, Bool, true, false, cond, List, [], ◌++◌, map, min, zero, suc, Option, None, refl, sym, ap, ◌∙◌, arith}
use Rattle.std.specs.List.{flat_map}
use Rattle.std.specs.Map.{keys_of}
use Rattle.apx_order.specs.Sorted.{times, each_once}
use Rattle.apx_order.proofs.Sorting.{times-append}
use Rattle.apx_order.proofs.Once.{each_once-times, each_once-strict, each_once-quiet}
use Rattle.apx_tuple.specs.declared.kind.Kind.{Kind}
use Rattle.apx_tuple.specs.declared.kind.Kind.TheVariants.{Keep, Scale, Words, Prefix, Count, Sum, Peak, First, Tumble, Match, Enrich, Top}
use Rattle.apx_tuple.specs.declared.tuple.Tuple.{Tuple}
use Rattle.apx_tuple.specs.State.{Pair, value_at}
use Rattle.apx_tuple.specs.Tuple.{key_order, tuple_key, bag_of}
use Rattle.apx_tuple.proofs.Orders.{key_order-exact}
use Rattle.apx_rules.specs.Rule.{Outcome, rule, tuples_of}
use Rattle.apx_rules.specs.Step.{keyed_step, step_keys, entries_at, outcome_at}
use Rattle.apx_rules.proofs.Pairs.{value_at-elsewhere, value_at-among, value_at-none, entries_at-ascends, same-pairs}
use Rattle.apx_step.proofs.Groups.{values_of-none}

abbrev nothing : Outcome
nothing = record { entry = None; emitted = [] }

-- of a key without an entry that doesn't come nothing is made
rule-nothing : (kind : Kind) (window : ℕ) (q : List ℕ) → rule kind window q None [] [] ≡ nothing
unfolding rule
rule-nothing (Keep min max) window q = refl
rule-nothing (Scale factor) window q = refl
rule-nothing Words window q = refl
rule-nothing (Prefix len) window q = refl
rule-nothing Count window q = refl
rule-nothing Sum window q = refl
rule-nothing Peak window q = refl
rule-nothing First window q = refl
rule-nothing (Tumble every) window q = by (window % every == 0)
  where
    by : (b : Bool) → cond b (record { entry = None; emitted = tuples_of q [] }) nothing ≡ nothing
    by true = refl
    by false = refl
rule-nothing Match window q = refl
rule-nothing Enrich window q = refl
rule-nothing (Top k) window q = refl

-- all keys of a state and of two bags
abbrev keys : List Pair → List Tuple → List Tuple → List (List ℕ)
keys state left right = keys_of state ++ (map tuple_key left ++ map tuple_key right)

module _ (kind : Kind) (window : ℕ) (state : List Pair) (left right : List Tuple) where
  abbrev entry : List ℕ → Option ℤ
  entry q = (outcome_at kind window state left right q).entry

  abbrev emitted : List ℕ → List Tuple
  emitted q = (outcome_at kind window state left right q).emitted

  outcome-nothing : (q : List ℕ) → times key_order q (keys state left right) ≡ 0 → outcome_at kind window state left right q ≡ nothing
  outcome-nothing q none =
      let sum = times-append key_order q (keys_of state) (map tuple_key left ++ map tuple_key right) in
      let sums = times-append key_order q (map tuple_key left) (map tuple_key right) in
      let s : times key_order q (keys_of state) ≡ 0 = omega (arith, none, sum) in
      let l : times key_order q (map tuple_key left) ≡ 0 = omega (arith, none, sum, sums) in
      let r : times key_order q (map tuple_key right) ≡ 0 = omega (arith, none, sum, sums) in
      (λ i. rule kind window q (value_at-none state q s i) (values_of-none q left l i) (values_of-none q right r i)) ∙ rule-nothing kind window q

  -- what is kept for each key
  value-kept : (q : List ℕ) → value_at (entries_at entry (step_keys state left right)) q ≡ entry q
  value-kept q = by (times key_order q (keys state left right)) refl (each_once-times key_order-exact q (keys state left right))
    where
      by : (n : ℕ) → times key_order q (keys state left right) ≡ n → times key_order q (step_keys state left right) ≡ min 1 (times key_order q (keys state left right)) →
          value_at (entries_at entry (step_keys state left right)) q ≡ entry q
      by zero none once = value_at-elsewhere entry (step_keys state left right) q (omega (arith, none, once)) ∙ sym (ap (λ (o : Outcome). o.entry) (outcome-nothing q none))
      by (suc n) some once = value_at-among entry (step_keys state left right) q (omega (arith, some, once))

  -- other keys may be walked over too
  more-keys : (ks : List (List ℕ)) → ((q : List ℕ) → times key_order q (keys state left right) ≤ times key_order q ks) →
      flat_map emitted (each_once key_order ks) ≡ flat_map emitted (step_keys state left right)
  more-keys ks more =
      each_once-quiet key_order-exact emitted ks (keys state left right) more (λ q none. ap (λ (o : Outcome). o.emitted) (outcome-nothing q none))

module _ (kind other : Kind) (window : ℕ) (state : List Pair) (left right lefts rights : List Tuple)
    (same : (q : List ℕ) → outcome_at kind window state left right q ≡ outcome_at other window state lefts rights q) where
  state-same : entries_at (entry kind window state left right) (step_keys state left right) ≡ entries_at (entry other window state lefts rights) (step_keys state lefts rights)
  state-same =
      same-pairs (entries_at (entry kind window state left right) (step_keys state left right)) (entries_at (entry other window state lefts rights) (step_keys state lefts rights))
      (entries_at-ascends (entry kind window state left right) (step_keys state left right) (each_once-strict key_order-exact (keys state left right)))
      (entries_at-ascends (entry other window state lefts rights) (step_keys state lefts rights) (each_once-strict key_order-exact (keys state lefts rights)))
      (λ q. value-kept kind window state left right q ∙ ap (λ (o : Outcome). o.entry) (same q) ∙ sym (value-kept other window state lefts rights q))

  abbrev all : List (List ℕ)
  all = keys state left right ++ keys state lefts rights

  rows-same : flat_map (emitted kind window state left right) (step_keys state left right) ≡ flat_map (emitted other window state lefts rights) (step_keys state lefts rights)
  rows-same =
      sym (more-keys kind window state left right all (λ q. omega (arith, times-append key_order q (keys state left right) (keys state lefts rights))))
      ∙ (λ i. flat_map (λ q. (same q i).emitted) (each_once key_order all))
      ∙ more-keys other window state lefts rights all (λ q. omega (arith, times-append key_order q (keys state left right) (keys state lefts rights)))

  pub steps-alike : keyed_step kind window state left right ≡ keyed_step other window state lefts rights
  steps-alike = λ i. record { state = state-same i; rows = bag_of (rows-same i) }
