-- A walk over the keys that came, key by key.
use Rattle.std.proofs.Common.{◌≡◌, ℕ, ℤ, ◌+◌, ◌≤◌, ◌<◌, Bool, true, false, cond, List, [], ◌∷◌, ◌++◌, length, refl, sym, ap, subst, ◌∙◌, arith, append-nil, append_assoc, int_eq, Option, Some, None}
use Rattle.std.specs.declared.cmp.Ordering.{Ordering}
use Rattle.std.specs.declared.cmp.Ordering.TheVariants.{Less, Equal, Greater}
use Rattle.std.specs.Ordering.{is_eq, int_cmp}
use Rattle.std.specs.Option.{option_eq}
use Rattle.std.specs.List.{flat_map}
use Rattle.std.specs.List.Sorted.{IsStrictlySortedBy}
use Rattle.std.specs.Map.{keys_of}
use Rattle.std.proofs.lemmas.Cmp.{int_ranked}
use Rattle.apx_order.specs.Sorted.{times, each_once, IsAscending}
use Rattle.apx_order.proofs.Sorting.{times-append}
use Rattle.apx_tuple.specs.declared.kind.Kind.{Kind}
use Rattle.apx_tuple.specs.declared.tuple.Tuple.{Tuple}
use Rattle.apx_tuple.specs.Size.{size_by, IsLarge}
use Rattle.apx_tuple.specs.State.{Pair, pair_key, value_at}
use Rattle.apx_tuple.specs.Tuple.{key_order}
use Rattle.apx_tuple.proofs.Sizes.{size_by-with_entry-le}
use Rattle.apx_rules.specs.Rule.{Outcome}
use Rattle.apx_rules.specs.Step.{values_of}
use Rattle.apx_rules.proofs.Pairs.{same_key, value_at-with_entry, with_entry-ascends, with_entry-same}
use Rattle.apx_step.specs.Walk.{values, keys_came, first_key, group_of, past_group, put, put_all, walked, emitted_of, open_outcome, open_rule}
use Rattle.apx_step.proofs.Groups.{keys, past-times, past-values, past-ascends, past-none, group-values, IsFirst, first_key-first, keys_came-first}

-- ---- entries put one after the other

pub put-other : (entry : Option ℤ) (key q : List ℕ) (pairs : List Pair) → is_eq (key_order q key) ≡ false → value_at (put entry key pairs) q ≡ value_at pairs q
put-other None key q pairs n = refl
put-other (Some v) key q pairs n = value_at-with_entry pairs key v q ∙ ap (λ b. cond b (Some v) (value_at pairs q)) n

pub put-ascends : (entry : Option ℤ) (key : List ℕ) (pairs : List Pair) → IsStrictlySortedBy key_order (keys_of pairs) → IsStrictlySortedBy key_order (keys_of (put entry key pairs))
put-ascends None key pairs a = a
put-ascends (Some v) key pairs a = with_entry-ascends pairs key v a

-- entries that are equal by `==` are one
pub same-entry : (a b : Option ℤ) → option_eq int_eq a b ≡ true → a ≡ b
same-entry None None h = refl
same-entry None (Some y) h = cc
same-entry (Some x) None h = cc
same-entry (Some x) (Some y) h = ap Some (key x y h)
  where
    tied : (r : Ordering) → is_eq r ≡ true → r ≡ Equal
    tied Less e = cc
    tied Equal e = refl
    tied Greater e = cc

    key : (x y : ℤ) → int_eq x y ≡ true → x ≡ y
    key x y e = int_ranked x y Equal (sym (tied (int_cmp x y) e))

-- an entry that is kept already
pub put-same : (old entry : Option ℤ) (key : List ℕ) (pairs : List Pair) → IsStrictlySortedBy key_order (keys_of pairs) → old ≡ value_at pairs key → entry ≡ old → pairs ≡ put entry key pairs
put-same old None key pairs a o e = refl
put-same old (Some v) key pairs a o e = sym (with_entry-same pairs key v a (sym o ∙ sym e))

put-grows : (entry : Option ℤ) (key : List ℕ) (pairs : List Pair) → IsStrictlySortedBy key_order (keys_of pairs) → size_by pair_key pairs ≤ size_by pair_key (put entry key pairs)
put-grows None key pairs a = omega arith
put-grows (Some v) key pairs a = (size_by-with_entry-le pairs key v a).0

-- what is put never makes the pairs smaller
put_all-grows : (entry : List ℕ → Option ℤ) (ks : List (List ℕ)) (pairs : List Pair) → IsStrictlySortedBy key_order (keys_of pairs) → size_by pair_key pairs ≤ size_by pair_key (put_all entry ks pairs)
put_all-grows entry [] pairs a = omega arith
put_all-grows entry (k ∷ ks) pairs a = omega (arith, put-grows (entry k) k pairs a, put_all-grows entry ks (put (entry k) k pairs) (put-ascends (entry k) k pairs a))

-- ---- where a walk stands

abbrev entry_of : Kind → List Pair → List Tuple → List Tuple → List ℕ → Option ℤ
entry_of kind start left right key = (open_outcome kind start left right key).entry

abbrev rows_of : Kind → List Pair → List Tuple → List Tuple → List ℕ → List Tuple
rows_of kind start left right key = (open_outcome kind start left right key).emitted

-- a key that is left has what it had at the start
pub record IsFresh (start : List Pair) (left right : List Tuple) (pairs : List Pair) (lefts rights : List Tuple) (q : List ℕ) : Type 0 where
  pub kept : value_at pairs q ≡ value_at start q
  pub lefts_same : values_of q lefts ≡ values_of q left
  pub rights_same : values_of q rights ≡ values_of q right

-- the walk on `left` and `right` has `lefts` and `rights` left
pub record IsWalking (kind : Kind) (start : List Pair) (left right : List Tuple) (pairs : List Pair) (emitted lefts rights : List Tuple) : Type 0 where
  pub left_ascends : IsAscending key_order (keys lefts)
  pub right_ascends : IsAscending key_order (keys rights)
  pub pairs_ascend : IsStrictlySortedBy key_order (keys_of pairs)
  pub fresh : (q : List ℕ) → 0 < times key_order q (keys lefts ++ keys rights) → IsFresh start left right pairs lefts rights q
  pub state : put_all (entry_of kind start left right) (keys_came lefts rights) pairs ≡ walked kind start left right
  pub rows : emitted ++ flat_map (rows_of kind start left right) (keys_came lefts rights) ≡ emitted_of kind start left right

pub walking-start : (kind : Kind) (start : List Pair) (left right : List Tuple) → IsStrictlySortedBy key_order (keys_of start) → IsAscending key_order (keys left) → IsAscending key_order (keys right) →
    IsWalking kind start left right start [] left right
unfolding walked emitted_of
walking-start kind start left right s a b = record {
  left_ascends = a;
  right_ascends = b;
  pairs_ascend = s;
  fresh = λ q h. record { kept = refl; lefts_same = refl; rights_same = refl };
  state = refl;
  rows = refl;
}

-- one key is taken
module _ (kind : Kind) (start : List Pair) (left right : List Tuple) (pairs : List Pair) (emitted lefts rights : List Tuple) (w : IsWalking kind start left right pairs emitted lefts rights) (key : List ℕ) (first : Some key ≡ first_key lefts rights) where
  least : IsFirst key lefts rights
  least = first_key-first key lefts rights w.left_ascends w.right_ascends first

  pub walking-fewer : length (past_group key lefts) + length (past_group key rights) < length lefts + length rights
  walking-fewer = least.fewer

  now : Outcome
  now = open_rule kind key (value_at pairs key) (values (group_of key lefts)) (values (group_of key rights))

  same-outcome : now ≡ open_outcome kind start left right key
  unfolding now
  same-outcome =
      let f = w.fresh key least.some in
      let l : values (group_of key lefts) ≡ values_of key left = sym (group-values key lefts least.left w.left_ascends) ∙ f.lefts_same in
      let r : values (group_of key rights) ≡ values_of key right = sym (group-values key rights least.right w.right_ascends) ∙ f.rights_same in
      λ i. open_rule kind key (f.kept i) (l i) (r i)

  first-came : keys_came lefts rights ≡ key ∷ keys_came (past_group key lefts) (past_group key rights)
  first-came = keys_came-first key lefts rights w.left_ascends w.right_ascends least

  state-next : put_all (entry_of kind start left right) (keys_came (past_group key lefts) (past_group key rights)) (put (now.entry) key pairs) ≡ walked kind start left right
  state-next =
      ap (λ (o : Outcome). put_all (entry_of kind start left right) (keys_came (past_group key lefts) (past_group key rights)) (put o.entry key pairs)) same-outcome
      ∙ ap (λ ks. put_all (entry_of kind start left right) ks pairs) (sym first-came) ∙ w.state

  rows-next : (emitted ++ now.emitted) ++ flat_map (rows_of kind start left right) (keys_came (past_group key lefts) (past_group key rights)) ≡ emitted_of kind start left right
  rows-next =
      ap (λ (o : Outcome). (emitted ++ o.emitted) ++ flat_map (rows_of kind start left right) (keys_came (past_group key lefts) (past_group key rights))) same-outcome
      ∙ append_assoc emitted (rows_of kind start left right key) (flat_map (rows_of kind start left right) (keys_came (past_group key lefts) (past_group key rights)))
      ∙ ap (λ ks. emitted ++ flat_map (rows_of kind start left right) ks) (sym first-came) ∙ w.rows

  fresh-next : (entry : Option ℤ) (q : List ℕ) → 0 < times key_order q (keys (past_group key lefts) ++ keys (past_group key rights)) → IsFresh start left right (put entry key pairs) (past_group key lefts) (past_group key rights) q
  fresh-next entry q h = by (is_eq (key_order q key)) refl
    where
      by : (b : Bool) → is_eq (key_order q key) ≡ b → IsFresh start left right (put entry key pairs) (past_group key lefts) (past_group key rights) q
      by true e =
          let l : times key_order q (keys (past_group key lefts)) ≡ times key_order key (keys (past_group key lefts)) = ap (λ k. times key_order k (keys (past_group key lefts))) (same_key q key e) in
          let r : times key_order q (keys (past_group key rights)) ≡ times key_order key (keys (past_group key rights)) = ap (λ k. times key_order k (keys (past_group key rights))) (same_key q key e) in
          absurd (omega (arith, times-append key_order q (keys (past_group key lefts)) (keys (past_group key rights)), l, r, past-none key lefts least.left w.left_ascends, past-none key rights least.right w.right_ascends))
      by false e =
          let some : 0 < times key_order q (keys lefts ++ keys rights) = omega (arith, times-append key_order q (keys (past_group key lefts)) (keys (past_group key rights)), times-append key_order q (keys lefts) (keys rights), past-times q key lefts e, past-times q key rights e) in
          let f = w.fresh q some in
          record {
            kept = put-other entry key q pairs e ∙ f.kept;
            lefts_same = past-values q key lefts e ∙ f.lefts_same;
            rights_same = past-values q key rights e ∙ f.rights_same;
          }

  pub walking-next : (entry : Option ℤ) (pairs' : List Pair) (emitted' ls rs lefts' rights' : List Tuple) (old : Option ℤ) →
      ls ≡ group_of key lefts → rs ≡ group_of key rights → lefts' ≡ past_group key lefts → rights' ≡ past_group key rights → old ≡ value_at pairs key →
      entry ≡ (open_rule kind key old (values ls) (values rs)).entry → emitted' ≡ emitted ++ (open_rule kind key old (values ls) (values rs)).emitted → pairs' ≡ put entry key pairs →
      IsWalking kind start left right pairs' emitted' lefts' rights'
  unfolding now
  walking-next entry pairs' emitted' ls rs lefts' rights' old gl gr pl pr o e t p =
      let is : open_rule kind key old (values ls) (values rs) ≡ now = λ i. open_rule kind key (o i) (values (gl i)) (values (gr i)) in
      let entry_is : entry ≡ now.entry = e ∙ ap (λ (x : Outcome). x.entry) is in
      let emitted_is : emitted' ≡ emitted ++ now.emitted = t ∙ ap (λ (x : Outcome). emitted ++ x.emitted) is in
      let pairs_is : pairs' ≡ put now.entry key pairs = p ∙ ap (λ x. put x key pairs) entry_is in
      let next : IsWalking kind start left right (put now.entry key pairs) (emitted ++ now.emitted) (past_group key lefts) (past_group key rights) = record {
        left_ascends = past-ascends key lefts w.left_ascends;
        right_ascends = past-ascends key rights w.right_ascends;
        pairs_ascend = put-ascends now.entry key pairs w.pairs_ascend;
        fresh = fresh-next now.entry;
        state = state-next;
        rows = rows-next;
      } in
      subst (λ (x : List Pair × List Tuple × List Tuple × List Tuple). IsWalking kind start left right x.0 x.1 x.2 x.3) (λ i. (sym pairs_is i, sym emitted_is i, sym pl i, sym pr i)) next

  -- where the entry makes the pairs too large, they are too large at the end
  pub walking-large : (entry old : Option ℤ) (ls rs : List Tuple) → ls ≡ group_of key lefts → rs ≡ group_of key rights → old ≡ value_at pairs key →
      entry ≡ (open_rule kind key old (values ls) (values rs)).entry → IsLarge pair_key (put entry key pairs) → IsLarge pair_key (walked kind start left right)
  unfolding now
  walking-large entry old ls rs gl gr o e large =
      let is : open_rule kind key old (values ls) (values rs) ≡ now = λ i. open_rule kind key (o i) (values (gl i)) (values (gr i)) in
      let entry_is : entry ≡ now.entry = e ∙ ap (λ (x : Outcome). x.entry) is in
      let here : IsLarge pair_key (put now.entry key pairs) = subst (λ x. IsLarge pair_key (put x key pairs)) entry_is large in
      let grown = put_all-grows (entry_of kind start left right) (keys_came (past_group key lefts) (past_group key rights)) (put now.entry key pairs) (put-ascends now.entry key pairs w.pairs_ascend) in
      subst (IsLarge pair_key) state-next (omega (arith, here, grown))

-- nothing is left
pub walking-end : (kind : Kind) (start : List Pair) (left right : List Tuple) (pairs : List Pair) (emitted lefts rights : List Tuple) → IsWalking kind start left right pairs emitted lefts rights → None ≡ first_key lefts rights →
    (pairs ≡ walked kind start left right) × (emitted ≡ emitted_of kind start left right)
unfolding each_once
walking-end kind start left right pairs emitted [] [] w e = (w.state, sym (append-nil emitted) ∙ w.rows)
walking-end kind start left right pairs emitted (l ∷ lefts) [] w e = cc
walking-end kind start left right pairs emitted [] (r ∷ rights) w e = cc
walking-end kind start left right pairs emitted (l ∷ lefts) (r ∷ rights) w e = cc
