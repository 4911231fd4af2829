-- Entries are upgraded one by one, in the order of their ids.
use Rattle.std.proofs.Common.{◌≡◌, ◌⊎◌, inl, inr, ℕ, ◌+◌, ◌<◌, Bool, true, false, cond, is_some, Ok, arith, List, [], ◌∷◌, ◌++◌, length, map, take, drop, get_or, Option, Some, None, unwrap_or, refl, sym, ap, ◌∙◌, subst, append_assoc}
use Rattle.std.specs.declared.cmp.Ordering.{Ordering}
use Rattle.std.specs.declared.cmp.Ordering.TheVariants.{Less, Equal, Greater}
use Rattle.std.specs.Ordering.{is_eq, match_ordering, ordering_reverse}
use Rattle.std.specs.List.{AllByRecursion}
use Rattle.std.specs.List.Sorted.{IsStrictlySortedBy}
use Rattle.std.specs.Map.{keys_of}
use Rattle.std.proofs.lemmas.Cmp.{tied_itself}
use Rattle.std.proofs.lemmas.List.{get_or_default, take_more, drop_more, take_all, drop_all, append-nil, take-append-drop, map-append, get_or-map}
use Rattle.std.proofs.lemmas.List.Sums.{count_by_more_yes, count_by_more_no}
use Rattle.apx_cause.specs.Steps.{Steps}
use Rattle.apx_cause.proofs.Going.{go_on}
use Rattle.apx_device.specs.declared.vault.SaveId.{SaveId}
use Rattle.apx_device.specs.Vault.{Entry, save_order, entry_at, bytes_at, with_entry, IsInOrder}
use Rattle.apx_device.proofs.Lookups.{save_order-exact}
use Rattle.apx_vaultlog.specs.Changes.{vault_of}
use Rattle.apx_vaultlog.specs.Upgrading.{upgraded, upgraded_entry, upgraded_up_to, with_found, with_upgraded, in_spelling_1, SpellsPartUpgraded}

-- the ids of entries are below one
abbrev AreBelow : List Entry → SaveId → Type 0
AreBelow [] id = Unit {0}
AreBelow (e ∷ entries) id = (save_order e.0 id ≡ Less) × AreBelow entries id

same : (id : SaveId) → save_order id id ≡ Equal
same id = tied_itself save_order-exact.total id

above : (id other : SaveId) → save_order other id ≡ Less → save_order id other ≡ Greater
above id other less = save_order-exact.total.antisymm id other ∙ ap ordering_reverse less

-- what is found between the entries below it and others
found_between : (front rest : List Entry) (e : Entry) → AreBelow front e.0 → entry_at (front ++ e ∷ rest) e.0 ≡ Some e.1
found_between [] rest e below = ap (λ (r : Ordering). cond (is_eq r) (Some e.1) (entry_at rest e.0)) (same e.0)
found_between (f ∷ front) rest e below =
    ap (λ (r : Ordering). cond (is_eq r) (Some f.1) (entry_at (front ++ e ∷ rest) e.0)) (above e.0 f.0 below.0)
    ∙ found_between front rest e below.1

-- it is changed at its place
put_between : (front rest : List Entry) (e : Entry) (bytes : List ℕ) → AreBelow front e.0
    → with_entry (front ++ e ∷ rest) e.0 bytes ≡ front ++ (e.0, bytes) ∷ rest
put_between [] rest e bytes below =
    ap (λ (r : Ordering). match_ordering r ((e.0, bytes) ∷ e ∷ rest) ((e.0, bytes) ∷ rest) (e ∷ with_entry rest e.0 bytes)) (same e.0)
put_between (f ∷ front) rest e bytes below =
    let all = front ++ e ∷ rest in
    ap (λ (r : Ordering). match_ordering r ((e.0, bytes) ∷ f ∷ all) ((f.0, bytes) ∷ all) (f ∷ with_entry all e.0 bytes)) (above e.0 f.0 below.0)
    ∙ ap (λ (es : List Entry). f ∷ es) (put_between front rest e bytes below.1)

upgraded_between : (front rest : List Entry) (e : Entry) → AreBelow front e.0
    → with_upgraded (front ++ e ∷ rest) e.0 ≡ front ++ upgraded_entry e ∷ rest
upgraded_between front rest e below =
    ap (λ (o : Option (List ℕ)). with_found (upgraded (unwrap_or o [])) (front ++ e ∷ rest) e.0) (found_between front rest e below)
    ∙ by (upgraded e.1)
  where
    by : (o : Option (List ℕ)) → with_found o (front ++ e ∷ rest) e.0 ≡ front ++ (e.0, unwrap_or o e.1) ∷ rest
    by None = refl
    by (Some bytes) = put_between front rest e bytes below

-- the entries before one of entries in order are below it
all_between : (P : SaveId → Type 0) (front rest : List Entry) (e : Entry) → AllByRecursion P (keys_of (front ++ e ∷ rest)) → P e.0
all_between P [] rest e all = all.0
all_between P (f ∷ front) rest e all = all_between P front rest e all.1

below_between : (front rest : List Entry) (e : Entry) → IsInOrder (front ++ e ∷ rest) → AreBelow front e.0
unfolding IsStrictlySortedBy
below_between [] rest e ordered = tt
below_between (f ∷ front) rest e ordered = (all_between (λ k. save_order f.0 k ≡ Less) front rest e ordered.0, below_between front rest e ordered.1)

below_upgraded : (front : List Entry) (id : SaveId) → AreBelow front id → AreBelow (map upgraded_entry front) id
below_upgraded [] id below = tt
below_upgraded (f ∷ front) id below = (below.0, below_upgraded front id below.1)

module _ (old : List Entry) (i : ℕ) (id : SaveId) (within : i < length old) (at : id ≡ get_or (keys_of old) i id) (ordered : IsInOrder old) where
  abbrev entry : Entry
  entry = get_or old i (id, [])

  its_id : id ≡ entry.0
  its_id = at ∙ get_or-map (λ (e : Entry). e.0) old i (id, []) id within

  parted : take i old ++ entry ∷ drop (i + 1) old ≡ old
  parted = ap (λ (es : List Entry). take i old ++ es) (sym (drop_more old i (id, []) within)) ∙ take-append-drop i old

  below : AreBelow (map upgraded_entry (take i old)) entry.0
  below = below_upgraded (take i old) entry.0 (below_between (take i old) (drop (i + 1) old) entry (subst IsInOrder (sym parted) ordered))

  so_far : upgraded_up_to i old ≡ map upgraded_entry (take i old) ++ entry ∷ drop (i + 1) old
  so_far = ap (λ (es : List Entry). map upgraded_entry (take i old) ++ es) (drop_more old i (id, []) within)

  -- what is found under the next id is as it was
  pub next_bytes : bytes_at (upgraded_up_to i old) id ≡ (get_or old i (id, [])).1
  next_bytes =
      (λ j. bytes_at (so_far j) (its_id j))
      ∙ ap (λ (o : Option (List ℕ)). unwrap_or o []) (found_between (map upgraded_entry (take i old)) (drop (i + 1) old) entry below)

  -- one entry more is upgraded
  pub next_upgraded : with_upgraded (upgraded_up_to i old) id ≡ upgraded_up_to (i + 1) old
  next_upgraded =
      (λ j. with_upgraded (so_far j) (its_id j))
      ∙ upgraded_between (map upgraded_entry (take i old)) (drop (i + 1) old) entry below
      ∙ sym (append_assoc (map upgraded_entry (take i old)) (upgraded_entry entry ∷ []) (drop (i + 1) old))
      ∙ sym (ap (λ (es : List Entry). es ++ drop (i + 1) old)
      (ap (map upgraded_entry) (take_more old i (id, []) within) ∙ map-append upgraded_entry (take i old) (entry ∷ [])))

-- one step of an upgrade
pub held_next : (old now next : List Entry) (i : ℕ) (id : SaveId) → i < length old → id ≡ get_or (keys_of old) i id → IsInOrder old
    → now ≡ upgraded_up_to i old → next ≡ with_upgraded now id → next ≡ upgraded_up_to (i + 1) old
held_next old now next i id within at ordered held is =
    is ∙ ap (λ (es : List Entry). with_upgraded es id) held ∙ next_upgraded old i id within at ordered

-- and how many are upgraded then
pub count_next : (old now : List Entry) (i : ℕ) (id : SaveId) (count : ℕ) (done : Bool) → i < length old → id ≡ get_or (keys_of old) i id
    → IsInOrder old → now ≡ upgraded_up_to i old → count ≡ in_spelling_1 (take i old) → done ≡ is_some (upgraded (bytes_at now id))
    → count + cond done 1 0 ≡ in_spelling_1 (take (i + 1) old)
count_next old now i id count done within at ordered held counted is = by done found
  where
    test : Entry → Bool
    test e = is_some (upgraded e.1)

    found : test (get_or old i (id, [])) ≡ done
    found =
        sym (is ∙ ap (λ (es : List Entry). is_some (upgraded (bytes_at es id))) held
        ∙ ap (λ (bytes : List ℕ). is_some (upgraded bytes)) (next_bytes old i id within at ordered))

    by : (b : Bool) → test (get_or old i (id, [])) ≡ b → count + cond b 1 0 ≡ in_spelling_1 (take (i + 1) old)
    by true passes = ap (λ (n : ℕ). n + 1) counted ∙ sym (count_by_more_yes test old i (id, []) within passes)
    by false fails =
        let same : count + 0 ≡ count = omega arith in
        same ∙ counted ∙ sym (count_by_more_no test old i (id, []) within fails)

-- what a crash leaves within a step
pub crash_next : {earlier mid now : ℕ} {before between after : ℕ → List ℕ → Type 0} (entries held next : List Entry) (i : ℕ)
    → held ≡ upgraded_up_to i entries → next ≡ upgraded_up_to (i + 1) entries → Steps earlier mid before between (SpellsPartUpgraded entries)
    → Steps mid now between after (λ image. (vault_of image ≡ Ok held) ⊎ (vault_of image ≡ Ok next))
    → Steps earlier now before after (SpellsPartUpgraded entries)
crash_next entries held next i held_is next_is first second =
    go_on (λ image one. elim one [ inl is ↦ (i, is ∙ ap Ok held_is) | inr is ↦ (i + 1, is ∙ ap Ok next_is) ]) first second

-- all entries are upgraded
pub all_upgraded : (old : List Entry) (i : ℕ) → length old ≡ i → upgraded_up_to i old ≡ map upgraded_entry old
all_upgraded old i all =
    (λ j. map upgraded_entry (take_all i old (omega (arith, all)) j) ++ drop_all i old (omega (arith, all)) j) ∙ append-nil (map upgraded_entry old)

-- as many ids as entries
keys_length : (entries : List Entry) → length (keys_of entries) ≡ length entries
keys_length [] = refl
keys_length (e ∷ entries) = let same = keys_length entries in omega (arith, same)

module _ (old now : List Entry) (ids : List SaveId) (i : ℕ) (d : SaveId) (within : i < length ids) (are : ids ≡ keys_of old) (ordered : IsInOrder old)
    (held : now ≡ upgraded_up_to i old) where
  abbrev pub id_at : SaveId
  id_at = get_or ids i d

  there : i < length old
  there = let same : length ids ≡ length old = ap (λ (xs : List SaveId). length xs) are ∙ keys_length old in omega (arith, within, same)

  is_id : id_at ≡ get_or (keys_of old) i id_at
  is_id = get_or_default ids i d id_at within ∙ ap (λ (xs : List SaveId). get_or xs i id_at) are

  -- the step under the id at this place
  pub held_at : (next : List Entry) → next ≡ with_upgraded now id_at → next ≡ upgraded_up_to (i + 1) old
  held_at next is = held_next old now next i id_at there is_id ordered held is

  -- and what was counted
  pub count_at : (count : ℕ) (done : Bool) → count ≡ in_spelling_1 (take i old) → done ≡ is_some (upgraded (bytes_at now id_at))
      → count + cond done 1 0 ≡ in_spelling_1 (take (i + 1) old)
  count_at count done counted is = count_next old now i id_at count done there is_id ordered held counted is

  -- and what a crash leaves
  pub crash_at : {earlier mid later : ℕ} {before between after : ℕ → List ℕ → Type 0} → Steps earlier mid before between (SpellsPartUpgraded old)
      → Steps mid later between after (λ image. (vault_of image ≡ Ok now) ⊎ (vault_of image ≡ Ok (with_upgraded now id_at)))
      → Steps earlier later before after (SpellsPartUpgraded old)
  crash_at first second = crash_next old now (with_upgraded now id_at) i held (held_at (with_upgraded now id_at) refl) first second
