-- The tuples of the least key, and those after them.
use Rattle.std.proofs.Common.{◌≡◌, ℕ, ◌+◌, ◌≤◌, ◌<◌, Bool, true, false, cond, List, [], ◌∷◌, ◌++◌, length, map, refl, sym, ap, subst, ◌∙◌, arith, Some}
use Rattle.std.specs.declared.cmp.Ordering.{Ordering}
use Rattle.std.specs.declared.cmp.Ordering.TheVariants.{Less, Equal, Greater}
use Rattle.std.specs.Ordering.{is_gt, is_eq}
use Rattle.std.specs.Cmp.{tied_itself}
use Rattle.std.specs.List.{filter}
use Rattle.apx_order.specs.Sorted.{times, IsFloor, IsAscending}
use Rattle.apx_order.proofs.Sorting.{times-less, floor-down, turned, times-append}
use Rattle.apx_order.proofs.Once.{each_once-first}
use Rattle.apx_tuple.specs.declared.tuple.Tuple.{Tuple}
use Rattle.apx_tuple.specs.Tuple.{key_order, tuple_key, tuple_order}
use Rattle.apx_tuple.proofs.Orders.{key_order-exact}
use Rattle.apx_rules.specs.Step.{values_of}
use Rattle.apx_rules.proofs.Pairs.{same_key}
use Rattle.apx_step.specs.Walk.{values, keys_came, first_key, group_of, past_group}

-- the keys of some tuples
abbrev pub keys : List Tuple → List (List ℕ)
keys ts = map tuple_key ts

abbrev number : Bool → ℕ
number b = cond b 1 0

-- the keys of ascending tuples ascend
key-floor : (t : Tuple) (ts : List Tuple) → IsFloor tuple_order t ts → IsFloor key_order t.key (keys ts)
key-floor t [] f = tt
key-floor t (u ∷ ts) f = (by (key_order t.key u.key) refl f.0, key-floor t ts f.1)
  where
    by : (r : Ordering) → key_order t.key u.key ≡ r → is_gt (tuple_order t u) ≡ false → is_gt r ≡ false
    by Less e h = refl
    by Equal e h = refl
    by Greater e h = rw e at h

pub keys-ascend : (ts : List Tuple) → IsAscending tuple_order ts → IsAscending key_order (keys ts)
keys-ascend [] a = tt
keys-ascend (t ∷ ts) a = (key-floor t ts a.0, keys-ascend ts a.1)

-- ---- what is left of another key when a group is taken off

pub past-times : (q key : List ℕ) (ts : List Tuple) → is_eq (key_order q key) ≡ false → times key_order q (keys (past_group key ts)) ≡ times key_order q (keys ts)
unfolding times
past-times q key [] n = refl
past-times q key (t ∷ ts) n = by (is_eq (key_order key t.key)) refl (past-times q key ts n)
  where
    by : (b : Bool) → is_eq (key_order key t.key) ≡ b → times key_order q (keys (past_group key ts)) ≡ times key_order q (keys ts) →
        times key_order q (keys (cond b (past_group key ts) (t ∷ ts))) ≡ cond (is_eq (key_order q t.key)) 1 0 + times key_order q (keys ts)
    by true h rest = let other : number (is_eq (key_order q t.key)) ≡ 0 = ap number (ap (λ k. is_eq (key_order q k)) (sym (same_key key t.key h)) ∙ n) in omega (arith, other, rest)
    by false h rest = refl

pub past-values : (q key : List ℕ) (ts : List Tuple) → is_eq (key_order q key) ≡ false → values_of q (past_group key ts) ≡ values_of q ts
past-values q key [] n = refl
past-values q key (t ∷ ts) n = by (is_eq (key_order key t.key)) refl (past-values q key ts n)
  where
    by : (b : Bool) → is_eq (key_order key t.key) ≡ b → values_of q (past_group key ts) ≡ values_of q ts → values_of q (cond b (past_group key ts) (t ∷ ts)) ≡ values_of q (t ∷ ts)
    by true h rest = rest ∙ ap (λ b. values (cond b (t ∷ filter (λ u. is_eq (key_order q u.key)) ts) (filter (λ u. is_eq (key_order q u.key)) ts))) (sym (ap (λ k. is_eq (key_order q k)) (sym (same_key key t.key h)) ∙ n))
    by false h rest = refl

pub past-ascends : (key : List ℕ) (ts : List Tuple) → IsAscending key_order (keys ts) → IsAscending key_order (keys (past_group key ts))
past-ascends key [] a = tt
past-ascends key (t ∷ ts) a = by (is_eq (key_order key t.key)) (past-ascends key ts a.1)
  where
    by : (b : Bool) → IsAscending key_order (keys (past_group key ts)) → IsAscending key_order (keys (cond b (past_group key ts) (t ∷ ts)))
    by true rest = rest
    by false rest = a

pub past-short : (key : List ℕ) (ts : List Tuple) → length (past_group key ts) ≤ length ts
past-short key [] = omega arith
past-short key (t ∷ ts) = by (is_eq (key_order key t.key)) (past-short key ts)
  where
    by : (b : Bool) → length (past_group key ts) ≤ length ts → length (cond b (past_group key ts) (t ∷ ts)) ≤ length (t ∷ ts)
    by true rest = omega arith
    by false rest = omega arith

-- ---- what is left where the key is the least

less : (r : Ordering) → is_gt r ≡ false → is_eq r ≡ false → r ≡ Less
less Less g n = refl
less Equal g n = cc
less Greater g n = cc

pub past-floor : (key : List ℕ) (ts : List Tuple) → IsFloor key_order key (keys ts) → IsFloor key_order key (keys (past_group key ts))
past-floor key [] f = tt
past-floor key (t ∷ ts) f = by (is_eq (key_order key t.key)) (past-floor key ts f.1)
  where
    by : (b : Bool) → IsFloor key_order key (keys (past_group key ts)) → IsFloor key_order key (keys (cond b (past_group key ts) (t ∷ ts)))
    by true rest = rest
    by false rest = f

pub past-none : (key : List ℕ) (ts : List Tuple) → IsFloor key_order key (keys ts) → IsAscending key_order (keys ts) → times key_order key (keys (past_group key ts)) ≡ 0
past-none key [] f a = let none : times key_order key [] ≡ 0 = unfold times in refl in none
past-none key (t ∷ ts) f a = by (is_eq (key_order key t.key)) refl (past-none key ts f.1 a.1)
  where
    by : (b : Bool) → is_eq (key_order key t.key) ≡ b → times key_order key (keys (past_group key ts)) ≡ 0 → times key_order key (keys (cond b (past_group key ts) (t ∷ ts))) ≡ 0
    by true h rest = rest
    by false h rest = times-less key_order-exact key t.key (keys ts) (less (key_order key t.key) f.0 h) a.0

-- a key that didn't come has no values
pub values_of-none : (q : List ℕ) (ts : List Tuple) → times key_order q (keys ts) ≡ 0 → values_of q ts ≡ []
unfolding times
values_of-none q [] n = refl
values_of-none q (t ∷ ts) n = by (is_eq (key_order q t.key)) refl (values_of-none q ts (omega arith))
  where
    by : (b : Bool) → is_eq (key_order q t.key) ≡ b → values_of q ts ≡ [] → values (cond b (t ∷ filter (λ u. is_eq (key_order q u.key)) ts) (filter (λ u. is_eq (key_order q u.key)) ts)) ≡ []
    by true h rest = absurd (omega (arith, ap number h))
    by false h rest = rest

-- the group has all of the key's values
pub group-values : (key : List ℕ) (ts : List Tuple) → IsFloor key_order key (keys ts) → IsAscending key_order (keys ts) → values_of key ts ≡ values (group_of key ts)
group-values key [] f a = refl
group-values key (t ∷ ts) f a = by (is_eq (key_order key t.key)) refl (group-values key ts f.1 a.1)
  where
    by : (b : Bool) → is_eq (key_order key t.key) ≡ b → values_of key ts ≡ values (group_of key ts) →
        values (cond b (t ∷ filter (λ u. is_eq (key_order key u.key)) ts) (filter (λ u. is_eq (key_order key u.key)) ts)) ≡ values (cond b (t ∷ group_of key ts) [])
    by true h rest = ap (λ l. t.value ∷ l) rest
    by false h rest = ap (λ b. values (cond b (t ∷ filter (λ u. is_eq (key_order key u.key)) ts) (filter (λ u. is_eq (key_order key u.key)) ts))) (sym h)
        ∙ values_of-none key (t ∷ ts) (times-less key_order-exact key t.key (keys ts) (less (key_order key t.key) f.0 h) a.0)

-- ---- the least key that is left

pub record IsFirst (key : List ℕ) (lefts rights : List Tuple) : Type 0 where
  pub left : IsFloor key_order key (keys lefts)
  pub right : IsFloor key_order key (keys rights)
  pub some : 0 < times key_order key (keys lefts ++ keys rights)
  pub fewer : length (past_group key lefts) + length (past_group key rights) < length lefts + length rights

itself : (k : List ℕ) → is_gt (key_order k k) ≡ false
itself k = ap is_gt (tied_itself key_order-exact.total k)

times-itself : (k : List ℕ) (ks : List (List ℕ)) → 0 < times key_order k (k ∷ ks)
unfolding times
times-itself k ks = omega (arith, ap (λ r. number (is_eq r)) (tied_itself key_order-exact.total k))

past-fewer : (t : Tuple) (ts : List Tuple) → length (past_group t.key (t ∷ ts)) < length (t ∷ ts)
past-fewer t ts = let e = ap (λ r. length (cond (is_eq r) (past_group t.key ts) (t ∷ ts))) (tied_itself key_order-exact.total t.key) in omega (arith, e, past-short t.key ts)

pub first_key-first : (key : List ℕ) (lefts rights : List Tuple) → IsAscending key_order (keys lefts) → IsAscending key_order (keys rights) → Some key ≡ first_key lefts rights → IsFirst key lefts rights
first_key-first key [] [] a b e = cc
first_key-first key (l ∷ lefts) [] a b e =
    let same : l.key ≡ key = cc in
    subst (λ k. IsFirst k (l ∷ lefts) []) same
    (record { left = (itself l.key, a.0); right = tt; some = times-itself l.key (keys lefts ++ []); fewer = omega (arith, past-fewer l lefts) })
first_key-first key [] (r ∷ rights) a b e =
    let same : r.key ≡ key = cc in
    subst (λ k. IsFirst k [] (r ∷ rights)) same (record { left = tt; right = (itself r.key, b.0); some = times-itself r.key (keys rights); fewer = omega (arith, past-fewer r rights) })
first_key-first key (l ∷ lefts) (r ∷ rights) a b e = by (is_gt (key_order l.key r.key)) refl e
  where
    by : (g : Bool) → is_gt (key_order l.key r.key) ≡ g → Some key ≡ Some (cond g r.key l.key) → IsFirst key (l ∷ lefts) (r ∷ rights)
    by true h e =
        let same : r.key ≡ key = cc in
        let below : is_gt (key_order r.key l.key) ≡ false = turned key_order-exact l.key r.key h in
        subst (λ k. IsFirst k (l ∷ lefts) (r ∷ rights)) same (record {
          left = (below, floor-down key_order-exact r.key l.key (keys lefts) below a.0);
          right = (itself r.key, b.0);
          some = omega (arith, times-append key_order r.key (keys (l ∷ lefts)) (keys (r ∷ rights)), times-itself r.key (keys rights));
          fewer = omega (arith, past-fewer r rights, past-short r.key (l ∷ lefts));
        })
    by false h e =
        let same : l.key ≡ key = cc in
        subst (λ k. IsFirst k (l ∷ lefts) (r ∷ rights)) same (record {
          left = (itself l.key, a.0);
          right = (h, floor-down key_order-exact l.key r.key (keys rights) h b.0);
          some = times-itself l.key (keys lefts ++ keys (r ∷ rights));
          fewer = omega (arith, past-fewer l lefts, past-short l.key (r ∷ rights));
        })

-- it is the first of the keys that came, and what is left came after it
pub keys_came-first : (key : List ℕ) (lefts rights : List Tuple) → IsAscending key_order (keys lefts) → IsAscending key_order (keys rights) → IsFirst key lefts rights →
    keys_came lefts rights ≡ key ∷ keys_came (past_group key lefts) (past_group key rights)
keys_came-first key lefts rights a b f =
    each_once-first key_order-exact key (keys lefts ++ keys rights) (keys (past_group key lefts) ++ keys (past_group key rights))
    (floor-append key (keys (past_group key lefts)) (keys (past_group key rights)) (past-floor key lefts f.left) (past-floor key rights f.right))
    (omega (arith, times-append key_order key (keys (past_group key lefts)) (keys (past_group key rights)), past-none key lefts f.left a, past-none key rights f.right b))
    (λ q. by q (is_eq (key_order q key)) refl) f.some
  where
    floor-append : (k : List ℕ) (xs ys : List (List ℕ)) → IsFloor key_order k xs → IsFloor key_order k ys → IsFloor key_order k (xs ++ ys)
    floor-append k [] ys p q = q
    floor-append k (x ∷ xs) ys p q = (p.0, floor-append k xs ys p.1 q)

    by : (q : List ℕ) (e : Bool) → is_eq (key_order q key) ≡ e → times key_order q (keys lefts ++ keys rights) ≡ cond e (times key_order q (keys lefts ++ keys rights)) (times key_order q (keys (past_group key lefts) ++ keys (past_group key rights)))
    by q true h = refl
    by q false h =
        omega (arith, times-append key_order q (keys lefts) (keys rights), times-append key_order q (keys (past_group key lefts)) (keys (past_group key rights)), past-times q key lefts h, past-times q key rights h)
