-- Lists: places, each member, and beginnings.
use Rattle.std.proofs.Common.{◌≡◌, ℕ, zero, suc, ◌<◌, ◌≤◌, ◌≢◌, ◌⊎◌, Bool, true, false, cond, List, [], ◌∷◌, ◌++◌, map, length, set, get_or, replicate, sym, refl, ap, ◌∙◌, subst, inl, inr, ⊎_elim, append_assoc, append-nil, arith, length-append, nat_lt, ltb-true}
use mathlib.Core.Option.{some, some-injective, some-ne-none}
use mathlib.Core.Logic.{dite}
use native.Mathlib.Decide.{ℕ_discrete}
use lib.ListN.{get_elem?}
use Rattle.atomic_table.proofs.Lists.{at_set, set_here, set_else}
use Rattle.apx_lock.specs.Logs.{Every, StartsWith, longer}

module _ {A : Type 0} where
  pub Every-weaker : (P Q : A → Type 0) → ((x : A) → P x → Q x) → (xs : List A) → Every P xs → Every Q xs
  Every-weaker P Q f [] h = tt
  Every-weaker P Q f (x ∷ xs) h = (f x h.0, Every-weaker P Q f xs h.1)

  pub Every-append : (P : A → Type 0) (xs ys : List A) → Every P xs → Every P ys → Every P (xs ++ ys)
  Every-append P [] ys h k = k
  Every-append P (x ∷ xs) ys h k = (h.0, Every-append P xs ys h.1 k)

  pub Every-front : (P : A → Type 0) (xs ys : List A) → Every P (xs ++ ys) → Every P xs
  Every-front P [] ys h = tt
  Every-front P (x ∷ xs) ys h = (h.0, Every-front P xs ys h.1)

  pub starts_itself : (xs : List A) → StartsWith xs xs
  starts_itself xs = ([], sym (append-nil xs))

  pub starts_longer : (list front more : List A) → StartsWith list front → StartsWith (list ++ more) front
  starts_longer list front more h = (h.0 ++ more, ap (λ l. l ++ more) h.1 ∙ append_assoc front h.0 more)

  starts_length : (list front : List A) → StartsWith list front → length front ≤ length list
  starts_length list front h = omega (arith, ap (λ (l : List A). length l) h.1, length-append front h.0)

  -- of two beginnings the longer one is a beginning
  pub starts_longest : (list xs ys : List A) → StartsWith list xs → StartsWith list ys → StartsWith list (longer xs ys)
  starts_longest list xs ys h k = pick (nat_lt (length xs) (length ys))
    where
      pick : (b : Bool) → StartsWith list (cond b ys xs)
      pick true = k
      pick false = h

  -- nothing that begins the list is longer than it
  pub longest_whole : (list ys : List A) → StartsWith list ys → longer list ys ≡ list
  longest_whole list ys k = let l = starts_length list ys k in pick (nat_lt (length list) (length ys)) refl
    where
      pick : (b : Bool) → nat_lt (length list) (length ys) ≡ b → cond b ys list ≡ list
      pick true e = absurd (omega (arith, starts_length list ys k, ltb-true (length list) (length ys) e))
      pick false e = refl

  pub longest_starts : (xs ys : List A) → StartsWith (longer xs ys) xs ⊎ (longer xs ys ≡ ys)
  longest_starts xs ys = pick (nat_lt (length xs) (length ys))
    where
      pick : (b : Bool) → StartsWith (cond b ys xs) xs ⊎ (cond b ys xs ≡ ys)
      pick true = inr refl
      pick false = inl (starts_itself xs)

  pub at_inside : (l : List A) (i : ℕ) (a : A) → get_elem? l i ≡ some a → i < length l
  at_inside [] i a e = absurd (some-ne-none a (sym e))
  at_inside (x ∷ xs) zero a e = omega arith
  at_inside (x ∷ xs) (suc i) a e = let h = at_inside xs i a e in omega arith

  pub at_some : (l : List A) (i : ℕ) → i < length l → (a : A) × (get_elem? l i ≡ some a)
  at_some [] i h = absurd (omega arith)
  at_some (x ∷ xs) zero h = (x, refl)
  at_some (x ∷ xs) (suc i) h = at_some xs i (omega arith)

  pub at_same : (l : List A) (i : ℕ) (a b : A) → get_elem? l i ≡ some a → get_elem? l i ≡ some b → a ≡ b
  at_same l i a b p q = some-injective a b (sym p ∙ q)

  pub at_end : (l : List A) (a b : A) (j : ℕ) → get_elem? (l ++ a ∷ []) j ≡ some b → ((j < length l) × (get_elem? l j ≡ some b)) ⊎ ((j ≡ length l) × (a ≡ b))
  at_end [] a b zero e = inr (refl, some-injective a b e)
  at_end [] a b (suc j) e = absurd (some-ne-none b (sym e))
  at_end (x ∷ xs) a b zero e = inl (omega arith, e)
  at_end (x ∷ xs) a b (suc j) e = ⊎_elim (λ (t : (j < length xs) × (get_elem? xs j ≡ some b)). let h = t.0 in inl (omega arith, t.1)) (λ (t : (j ≡ length xs) × (a ≡ b)). inr (ap suc t.0, t.1)) (at_end xs a b j e)

  pub at_map_inv : {B : Type 0} (f : B → A) (l : List B) (i : ℕ) (a : A) → get_elem? (map f l) i ≡ some a → (b : B) × (get_elem? l i ≡ some b) × (f b ≡ a)
  at_map_inv f [] i a e = absurd (some-ne-none a (sym e))
  at_map_inv f (x ∷ xs) zero a e = (x, refl, some-injective (f x) a e)
  at_map_inv f (x ∷ xs) (suc i) a e = at_map_inv f xs i a e

  -- what holds at each place goes on to hold, where one place is changed
  pub set_each : (vs : List A) (id : ℕ) (w : A) (P Q : ℕ → A → Type 0) → ((k : ℕ) (v : A) → get_elem? vs k ≡ some v → P k v) → Q id w → ((k : ℕ) (v : A) → k ≢ id → P k v → Q k v)
      → (k : ℕ) (v : A) → get_elem? (set vs id w) k ≡ some v → Q k v
  set_each vs id w P Q old here others k v e = ⊎_elim (λ (t : (k ≡ id) × (w ≡ v)). subst (λ (x : ℕ × A). Q x.0 x.1) (λ i. (sym t.0 i, t.1 i)) here)
      (λ (t : (k ≢ id) × (get_elem? vs k ≡ some v)). others k v t.0 (old k v t.1)) (at_set vs id k w v e)

  -- what holds at some place goes on to hold there
  pub set_there : (vs : List A) (id k : ℕ) (v w : A) (P Q : A → Type 0) → get_elem? vs id ≡ some v → (P v → Q w) → ((u : A) → P u → Q u) → (u : A) × (get_elem? vs k ≡ some u) × P u
      → (u : A) × (get_elem? (set vs id w) k ≡ some u) × Q u
  set_there vs id k v w P Q at here others h = dite (ℕ_discrete k id)
      (λ (e : k ≡ id). let same : h.0 ≡ v = at_same vs id h.0 v (subst (λ (i : ℕ). get_elem? vs i ≡ some h.0) e h.1) at in
      (w, subst (λ (i : ℕ). get_elem? (set vs id w) i ≡ some w) (sym e) (set_here vs id w (at_inside vs id v at)), here (subst P same h.2)))
      (λ (ne : k ≢ id). (h.0, set_else vs id k w ne ∙ h.1, others h.0 h.2))

  pub at_default : (l : List A) (i : ℕ) (a d : A) → get_elem? l i ≡ some a → get_or l i d ≡ a
  at_default [] i a d e = absurd (some-ne-none a (sym e))
  at_default (x ∷ xs) zero a d e = some-injective x a e
  at_default (x ∷ xs) (suc i) a d e = at_default xs i a d e

  pub at_replicate : (n : ℕ) (x : A) (i : ℕ) (a : A) → get_elem? (replicate n x) i ≡ some a → x ≡ a
  at_replicate zero x i a e = absurd (some-ne-none a (sym e))
  at_replicate (suc n) x zero a e = some-injective x a e
  at_replicate (suc n) x (suc i) a e = at_replicate n x i a e
