-- What each kind makes of keys with K has keys with K.
use Rattle.std.proofs.Common.{◌≡◌, ℕ, ℤ, pos, ◌%◌, ◌==◌, Bool, true, false, cond, List, [], ◌∷◌, ◌++◌, map, take, Option, Some, None, refl}
use Rattle.std.specs.Prelude.{int_le, is_some, unwrap_or, ◌&&◌}
use Rattle.std.specs.Int.{int_wrapping_mul, w64}
use Rattle.std.specs.List.{AllByRecursion, filter}
use Rattle.std.specs.Map.{keys_of}
use Rattle.apx_rules.specs.Rule.{Outcome, rule, tuples_of, came, total, greatest, running, words_of, with_entry_added}
use Rattle.apx_rules.specs.Step.{Stepped, step, step_keys, entries_at, outcome_at, rank_order, keyed_step}
use Rattle.apx_tuple.specs.declared.kind.Kind.{Kind}
use Rattle.apx_tuple.specs.declared.kind.Kind.TheVariants.{Keep, Scale, Words, Prefix, Count, Sum, Peak, First, Tumble, Match, Enrich, Top}
use Rattle.apx_tuple.specs.declared.tuple.Tuple.{Tuple}
use Rattle.apx_tuple.specs.State.{Pair}
use Rattle.apx_tuple.specs.Tuple.{key_order, tuple_key, tuple_order}
use Rattle.apx_keys.specs.Keys.{HaveKeys, IsKept}
use Rattle.apx_keys.proofs.Members.{each-append, each-take, each-chosen, each-sorted, each-once, each-map, each-made, each-flat, each-flat-made}

-- what a key's entry is with the values, and what is told of it
abbrev added : Option ℤ → List ℤ → Option ℤ
added old lefts = cond (came lefts) (Some (total (unwrap_or old (pos 0)) lefts)) old

abbrev told : Option ℤ → List ℤ
told sum = cond (is_some sum) (unwrap_or sum (pos 0) ∷ []) []

module _ (K : List ℕ → Type 0) (kept : IsKept K) where
  of-key : (key : List ℕ) → K key → (values : List ℤ) → HaveKeys K (tuples_of key values)
  of-key key h values = each-made (λ t. K t.key) (λ value. record { key = key; value = value }) (λ value. h) values

  runs : (key : List ℕ) → K key → (old : Option ℤ) (b : Bool) (value : ℤ) → HaveKeys K (running key old b value).emitted
  runs key h old true value = (h, tt)
  runs key h old false value = tt

  chosen-one : (key : List ℕ) → K key → (b : Bool) (value : ℤ) → HaveKeys K (cond b (record { key = key; value = value } ∷ []) [])
  chosen-one key h true value = (h, tt)
  chosen-one key h false value = tt

  chosen-none : (key : List ℕ) → K key → (b : Bool) (value : ℤ) → HaveKeys K (cond b [] (record { key = key; value = value } ∷ []))
  chosen-none key h true value = tt
  chosen-none key h false value = (h, tt)

  pub rule-keys : (kind : Kind) (window : ℕ) (key : List ℕ) → K key → (old : Option ℤ) (lefts rights : List ℤ) → HaveKeys K (rule kind window key old lefts rights).emitted
  unfolding rule
  rule-keys (Keep min max) window key h old lefts rights = of-key key h (filter (λ value. int_le min value && int_le value max) lefts)
  rule-keys (Scale factor) window key h old lefts rights = of-key key h (map (λ value. int_wrapping_mul w64 value factor) lefts)
  rule-keys Words window key h old lefts rights =
      each-flat-made (λ t. K t.key) (λ value. map (λ word. record { key = word; value = value }) (words_of key))
      (λ value. each-map K (λ t. K t.key) (λ word. record { key = word; value = value }) (λ word w. w) (words_of key) (kept.words key h)) lefts
  rule-keys (Prefix len) window key h old lefts rights = of-key (take len key) (kept.first len key h) lefts
  rule-keys Count window key h old lefts rights = runs key h old (came lefts) _
  rule-keys Sum window key h old lefts rights = runs key h old (came lefts) _
  rule-keys Peak window key h old [] rights = tt
  rule-keys Peak window key h old (value ∷ values) rights = chosen-one key h _ _
  rule-keys First window key h old [] rights = tt
  rule-keys First window key h old (value ∷ values) rights = chosen-none key h _ _
  rule-keys (Tumble every) window key h old lefts rights = by (window % every == 0)
    where
      by : (b : Bool) → HaveKeys K (cond {A = Outcome} b (record { entry = None; emitted = tuples_of key (told (added old lefts)) }) (record { entry = added old lefts; emitted = [] })).emitted
      by true = of-key key h (told (added old lefts))
      by false = tt
  rule-keys Match window key h old lefts rights = each-chosen (λ t. K t.key) (came rights) (tuples_of key lefts) [] (of-key key h lefts) tt
  rule-keys Enrich window key h old lefts rights = of-key key h (with_entry_added (cond (came rights) (greatest None rights) old) lefts)
  rule-keys (Top k) window key h old lefts rights = tt

  entries-keys : (entry : List ℕ → Option ℤ) (keys : List (List ℕ)) → AllByRecursion K keys → AllByRecursion K (keys_of (entries_at entry keys))
  unfolding entries_at
  entries-keys entry [] a = tt
  entries-keys entry (k ∷ keys) a = by (entry k) refl (entries-keys entry keys a.1)
    where
      by : (o : Option ℤ) → entry k ≡ o → AllByRecursion K (keys_of (entries_at entry keys)) → AllByRecursion K (keys_of (entries_at entry (k ∷ keys)))
      by None e rest = rw e rest
      by (Some v) e rest = rw e (a.0, rest)

  keys-known : (state : List Pair) (left right : List Tuple) → AllByRecursion K (keys_of state) → HaveKeys K left → HaveKeys K right → AllByRecursion K (step_keys state left right)
  keys-known state left right s l r =
      each-once K key_order (keys_of state ++ (map tuple_key left ++ map tuple_key right))
      (each-append K (keys_of state) (map tuple_key left ++ map tuple_key right) s
      (each-append K (map tuple_key left) (map tuple_key right)
      (each-map (λ t. K t.key) K tuple_key (λ t h. h) left l) (each-map (λ t. K t.key) K tuple_key (λ t h. h) right r)))

  -- a step's state and rows
  abbrev pub StepHas : Stepped → Type 0
  StepHas stepped = AllByRecursion K (keys_of stepped.state) × HaveKeys K stepped.rows

  keyed : (kind : Kind) (window : ℕ) (state : List Pair) (left right : List Tuple) → AllByRecursion K (keys_of state) → HaveKeys K left → HaveKeys K right → StepHas (keyed_step kind window state left right)
  keyed kind window state left right s l r =
      let known = keys-known state left right s l r in (
        entries-keys (λ key. (outcome_at kind window state left right key).entry) (step_keys state left right) known,
        each-sorted (λ t. K t.key) tuple_order _
            (each-flat K (λ t. K t.key) (λ key. (outcome_at kind window state left right key).emitted) (λ key h. rule-keys kind window key h _ _ _) (step_keys state left right) known),
      )

  pub step-has : (kind : Kind) (window : ℕ) (state : List Pair) (left right : List Tuple) → AllByRecursion K (keys_of state) → HaveKeys K left → HaveKeys K right → StepHas (step kind window state left right)
  unfolding step
  step-has (Top k) window state left right s l r = (tt, each-sorted (λ t. K t.key) tuple_order _ (each-take (λ t. K t.key) k _ (each-sorted (λ t. K t.key) rank_order left l)))
  step-has (Keep min max) window state left right s l r = keyed (Keep min max) window state left right s l r
  step-has (Scale factor) window state left right s l r = keyed (Scale factor) window state left right s l r
  step-has Words window state left right s l r = keyed Words window state left right s l r
  step-has (Prefix len) window state left right s l r = keyed (Prefix len) window state left right s l r
  step-has Count window state left right s l r = keyed Count window state left right s l r
  step-has Sum window state left right s l r = keyed Sum window state left right s l r
  step-has Peak window state left right s l r = keyed Peak window state left right s l r
  step-has First window state left right s l r = keyed First window state left right s l r
  step-has (Tumble every) window state left right s l r = keyed (Tumble every) window state left right s l r
  step-has Match window state left right s l r = keyed Match window state left right s l r
  step-has Enrich window state left right s l r = keyed Enrich window state left right s l r
