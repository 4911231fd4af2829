-- The entries of a number, in a log that is one entry longer.
use Rattle.std.proofs.Common.{◌≡◌, ℕ, ◌≢◌, ◌⊎◌, ◌==◌, Bool, cond, List, [], ◌∷◌, ◌++◌, sym, refl, ap, ◌∙◌, inl, inr, append-nil, eq-eqb, ne_eqb, ⊎_elim}
use Rattle.std.proofs.lemmas.List.Elements.{filter-append}
use Rattle.apx_lock.specs.declared.view.Part.{Part}
use Rattle.apx_lock.specs.Logs.{Every, entries_of}
use Rattle.apx_lock.specs.declared.view.View.{View}
use Rattle.apx_lock.specs.Views.{IsPart, HasNumber, after_join}

module _ {E : Type 0} (seat : E → ℕ) where
  pub one_own : (number : ℕ) (log : List E) (e : E) → seat e ≡ number → entries_of seat number (log ++ e ∷ []) ≡ entries_of seat number log ++ e ∷ []
  one_own number log e own = filter-append (λ x. seat x == number) log (e ∷ []) ∙ ap (λ (b : Bool). entries_of seat number log ++ cond b (e ∷ []) []) (eq-eqb (seat e) number own)

  pub one_other : (number : ℕ) (log : List E) (e : E) → seat e ≢ number → entries_of seat number (log ++ e ∷ []) ≡ entries_of seat number log
  one_other number log e other = filter-append (λ x. seat x == number) log (e ∷ []) ∙ (ap (λ (b : Bool). entries_of seat number log ++ cond b (e ∷ []) []) (ne_eqb (seat e) number other) ∙ append-nil (entries_of seat number log))

  -- what is kept of other seats stays so
  pub parts_other : (log : List E) (e : E) (ps : List (Part E)) → ((n : ℕ) → IsPart n ps → seat e ≢ n) → Every (λ (p : Part E). p.entries ≡ entries_of seat p.number log) ps
      → Every (λ (p : Part E). p.entries ≡ entries_of seat p.number (log ++ e ∷ [])) ps
  parts_other log e [] other h = tt
  parts_other log e (p ∷ ps) other h = (h.0 ∙ sym (one_other p.number log e (other p.number (inl refl))), parts_other log e ps (λ n i. other n (inr i)) h.1)

  -- a number that is above that of each entry has none
  pub none_of : (number : ℕ) (log : List E) → Every (λ (e : E). seat e ≢ number) log → entries_of seat number log ≡ []
  none_of number [] h = refl
  none_of number (e ∷ log) h = ap (λ (b : Bool). cond b (e ∷ entries_of seat number log) (entries_of seat number log)) (ne_eqb (seat e) number h.0) ∙ none_of number log h.1

module _ {E : Type 0} where
  -- a number among joined parts is of the first or of the second
  pub part_of_append : (n : ℕ) (ps qs : List (Part E)) → IsPart n (ps ++ qs) → IsPart n ps ⊎ IsPart n qs
  part_of_append n [] qs h = inr h
  part_of_append n (p ∷ ps) qs (inl e) = inl (inl e)
  part_of_append n (p ∷ ps) qs (inr h) = elim (part_of_append n ps qs h) [ inl a ↦ inl (inr a) | inr b ↦ inr b ]

  pub part_left : (n : ℕ) (ps qs : List (Part E)) → IsPart n ps → IsPart n (ps ++ qs)
  part_left n [] qs h = absurd h
  part_left n (p ∷ ps) qs (inl e) = inl e
  part_left n (p ∷ ps) qs (inr h) = inr (part_left n ps qs h)

  pub part_right : (n : ℕ) (ps qs : List (Part E)) → IsPart n qs → IsPart n (ps ++ qs)
  part_right n [] qs h = h
  part_right n (p ∷ ps) qs h = inr (part_right n ps qs h)

-- a joined seat has each number that either seat had
pub has_either : {N E : Type 0} (v other : View N E) (n : ℕ) → HasNumber v n ⊎ HasNumber other n → HasNumber (after_join v other) n
has_either v other n = ⊎_elim
    (⊎_elim (λ (e : v.number ≡ n). inl e) (λ (p : IsPart n v.kept). inr (part_left n v.kept (record { number = other.number; entries = other.mine } ∷ other.kept) p)))
    (⊎_elim (λ (e : other.number ≡ n). inr (part_right n v.kept (record { number = other.number; entries = other.mine } ∷ other.kept) (inl e)))
    (λ (p : IsPart n other.kept). inr (part_right n v.kept (record { number = other.number; entries = other.mine } ∷ other.kept) (inr p))))
