-- What is made of a front of a list, with one member more.
use Rattle.std.proofs.Common.{◌≡◌, ℕ, ℤ, ◌+◌, ◌<◌, Bool, true, false, cond, List, [], ◌∷◌, ◌++◌, take, length, get_or, refl, sym, ap, ◌∙◌, Option, Some, unwrap_or}
use Rattle.std.specs.Int.{int_max}
use Rattle.std.specs.List.{filter, flat_map}
use Rattle.std.proofs.lemmas.List.{take_more, map-append, flat_map_more}
use Rattle.apx_tuple.specs.declared.tuple.Tuple.{Tuple}
use Rattle.apx_rules.specs.Rule.{greatest, tuples_of}
use Rattle.apx_step.specs.Walk.{values}

-- the values of a front with one tuple more
pub values-more : (ts : List Tuple) (i : ℕ) (t : Tuple) → i < length ts → t ≡ get_or ts i t → values (take (i + 1) ts) ≡ values (take i ts) ++ t.value ∷ []
values-more ts i t h e = ap values (take_more ts i t h ∙ ap (λ u. take i ts ++ u ∷ []) (sym e)) ∙ map-append (λ u. u.value) (take i ts) (t ∷ [])

greatest-append : (old : Option ℤ) (xs : List ℤ) (x : ℤ) → greatest old (xs ++ x ∷ []) ≡ Some (int_max (unwrap_or (greatest old xs) x) x)
greatest-append old [] x = refl
greatest-append old (y ∷ ys) x = greatest-append (Some (int_max (unwrap_or old y) y)) ys x

pub greatest-more : (old : Option ℤ) (ts : List Tuple) (i : ℕ) (t : Tuple) → i < length ts → t ≡ get_or ts i t →
    greatest old (values (take (i + 1) ts)) ≡ Some (int_max (unwrap_or (greatest old (values (take i ts))) t.value) t.value)
greatest-more old ts i t h e = ap (greatest old) (values-more ts i t h e) ∙ greatest-append old (values (take i ts)) t.value

filter-append : (p : ℤ → Bool) (xs : List ℤ) (x : ℤ) → filter p (xs ++ x ∷ []) ≡ filter p xs ++ cond (p x) (x ∷ []) []
filter-append p [] x = refl
filter-append p (y ∷ ys) x = by (p y) (filter-append p ys x)
  where
    by : (b : Bool) → filter p (ys ++ x ∷ []) ≡ filter p ys ++ cond (p x) (x ∷ []) [] →
        cond b (y ∷ filter p (ys ++ x ∷ [])) (filter p (ys ++ x ∷ [])) ≡ cond b (y ∷ filter p ys) (filter p ys) ++ cond (p x) (x ∷ []) []
    by true rest = ap (λ l. y ∷ l) rest
    by false rest = rest

-- the tuples of the values that pass a test, of a front with one tuple more
pub passed-more : (p : ℤ → Bool) (key : List ℕ) (ts : List Tuple) (i : ℕ) (t : Tuple) (b : Bool) → i < length ts → t ≡ get_or ts i t → p t.value ≡ b →
    tuples_of key (filter p (values (take (i + 1) ts))) ≡ tuples_of key (filter p (values (take i ts))) ++ cond b (record { key = key; value = t.value } ∷ []) []
passed-more p key ts i t b h e pass = ap (λ l. tuples_of key (filter p l)) (values-more ts i t h e) ∙ ap (tuples_of key) (filter-append p (values (take i ts)) t.value) ∙ by b pass
  where
    by : (b : Bool) → p t.value ≡ b → tuples_of key (filter p (values (take i ts)) ++ cond (p t.value) (t.value ∷ []) [])
        ≡ tuples_of key (filter p (values (take i ts))) ++ cond b (record { key = key; value = t.value } ∷ []) []
    by true q = ap (λ c. tuples_of key (filter p (values (take i ts)) ++ cond c (t.value ∷ []) [])) q ∙ map-append (λ value. record { key = key; value = value }) (filter p (values (take i ts))) (t.value ∷ [])
    by false q = ap (λ c. tuples_of key (filter p (values (take i ts)) ++ cond c (t.value ∷ []) [])) q ∙ map-append (λ value. record { key = key; value = value }) (filter p (values (take i ts))) []

-- what is made of each value, of a front with one tuple more
pub made-more : (make : ℤ → List Tuple) (first before now : List Tuple) (ts : List Tuple) (i : ℕ) (t : Tuple) → i < length ts → t ≡ get_or ts i t →
    before ≡ first ++ flat_map make (values (take i ts)) → now ≡ before ++ make t.value → now ≡ first ++ flat_map make (values (take (i + 1) ts))
made-more make first before now ts i t h e was is =
    is ∙ ap (λ l. l ++ make t.value) was ∙ flat_map_more make first (values (take i ts)) t.value ∙ ap (λ l. first ++ flat_map make l) (sym (values-more ts i t h e))
