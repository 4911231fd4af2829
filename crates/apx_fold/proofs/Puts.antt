-- Numbers that are put into a state, key by key.
use Rattle.std.proofs.Common.{◌≡◌, ℕ, ℤ, Bool, true, false, cond, not, List, [], ◌∷◌, ◌++◌, map, Option, Some, None, is_some, pos, refl, sym, ap, subst, ◌∙◌}
use Rattle.std.specs.declared.cmp.Ordering.{Ordering}
use Rattle.std.specs.declared.cmp.Ordering.TheVariants.{Less, Equal}
use Rattle.std.specs.Cmp.{tied_itself}
use Rattle.std.specs.Ordering.{is_eq}
use Rattle.std.specs.List.{AllByRecursion}
use Rattle.std.specs.List.Sorted.{IsStrictlySortedBy}
use Rattle.std.specs.Map.{keys_of}
use Rattle.apx_tuple.specs.declared.kind.Kind.{Kind}
use Rattle.apx_tuple.specs.declared.kind.Kind.TheVariants.{Keep, Scale, Words, Prefix, Count, Sum, Peak, First, Tumble, Match, Enrich, Top}
use Rattle.apx_tuple.specs.declared.tuple.Tuple.{Tuple}
use Rattle.apx_tuple.specs.Size.{IsLarge}
use Rattle.apx_tuple.specs.State.{Pair, pair_key, value_at, with_entry}
use Rattle.apx_tuple.specs.Tuple.{key_order, bag_of}
use Rattle.apx_tuple.proofs.Orders.{key_order-exact}
use Rattle.apx_rules.specs.Parts.{cut_bag}
use Rattle.apx_rules.specs.Rule.{Outcome, rule}
use Rattle.apx_rules.specs.Step.{Stepped, keyed_step}
use Rattle.apx_step.specs.Walk.{closes, emitted_of, first_key, group_of, keeps, open_rule, pair_tuple, past_group, start_of, walked}
use Rattle.apx_step.proofs.Closing.{step-keyed, open-ok, end-ok, walk-large}
use Rattle.apx_step.proofs.Groups.{keys-ascend}
use Rattle.apx_step.proofs.Walks.{IsWalking, walking-start, walking-next, walking-large, walking-end}
use Rattle.apx_fold.specs.Digests.{digests, kind_of_digests, AreDigests}
use Rattle.apx_fold.specs.Folding.{Partition, stepped, IsTooLarge}
use Rattle.apx_fold.specs.Putting.{entry_after, is_told, told_value, told_of_number}
use Rattle.apx_fold.proofs.Digesting.{tuples-ascend, digest-step, not-top, sums-digest}
use Rattle.apx_fold.proofs.Ends.{step-too-large}

abbrev told_once : List ℕ → ℤ → List Tuple
told_once key number = record { key = key; value = number } ∷ []

first-told : (key : List ℕ) (before : Option ℤ) (number : ℤ) → cond (is_some before) [] (told_once key number) ≡ cond (not (is_some before)) (told_once key number) []
first-told key None number = refl
first-told key (Some kept) number = refl

-- what is made of the number is what the kind makes of it as a value
pub number-rule : (kind : Kind) → digests kind ≡ true → (key : List ℕ) (before : Option ℤ) (number : ℤ) →
    open_rule (kind_of_digests kind) key before (number ∷ []) [] ≡ record { entry = Some (entry_after kind before number); emitted = told_of_number kind key before number }
unfolding open_rule kind_of_digests entry_after is_told told_value rule
number-rule (Keep min max) d key before number = cc
number-rule (Scale factor) d key before number = cc
number-rule Words d key before number = cc
number-rule (Prefix len) d key before number = cc
number-rule Count d key before number = refl
number-rule Sum d key before number = refl
number-rule Peak d key before number = refl
number-rule First d key before number = λ i. record { entry = Some (pos 1); emitted = first-told key before number i }
number-rule (Tumble every) d key before number = refl
number-rule Match d key before number = cc
number-rule Enrich d key before number = cc
number-rule (Top k) d key before number = cc

-- ---- keys that ascend, each once

module _ (key : List ℕ) where
  none-left : (ps : List Pair) → AllByRecursion (λ q. key_order key q ≡ Less) (keys_of ps) → (group_of key (map pair_tuple ps) ≡ []) × (past_group key (map pair_tuple ps) ≡ map pair_tuple ps)
  none-left [] above = (refl, refl)
  none-left (p ∷ ps) above = (
    ap (λ (r : Ordering). cond (is_eq r) (pair_tuple p ∷ group_of key (map pair_tuple ps)) []) above.0,
    ap (λ (r : Ordering). cond (is_eq r) (past_group key (map pair_tuple ps)) (pair_tuple p ∷ map pair_tuple ps)) above.0,
  )

  itself : key_order key key ≡ Equal
  itself = tied_itself key_order-exact.total key

module _ (p : Pair) (ps : List Pair) (above : AllByRecursion (λ q. key_order p.0 q ≡ Less) (keys_of ps)) where
  one-group : pair_tuple p ∷ [] ≡ group_of p.0 (map pair_tuple (p ∷ ps))
  one-group =
      sym (ap (λ (r : Ordering). cond (is_eq r) (pair_tuple p ∷ group_of p.0 (map pair_tuple ps)) []) (itself p.0)
      ∙ ap (λ (ts : List Tuple). pair_tuple p ∷ ts) (none-left p.0 ps above).0)

  past-one : map pair_tuple ps ≡ past_group p.0 (map pair_tuple (p ∷ ps))
  past-one =
      sym (ap (λ (r : Ordering). cond (is_eq r) (past_group p.0 (map pair_tuple ps)) (pair_tuple p ∷ map pair_tuple ps)) (itself p.0)
      ∙ (none-left p.0 ps above).1)

-- ---- where the loop stands

-- some pairs are left of the numbers
pub record IsPutting (kind : Kind) (start numbers kept : List Pair) (rows : List Tuple) (left : List Pair) : Type 0 where
  pub walking : IsWalking (kind_of_digests kind) start (map pair_tuple numbers) [] kept rows (map pair_tuple left) []
  pub strict : IsStrictlySortedBy key_order (keys_of left)

pub putting-start : (kind : Kind) (start numbers kept : List Pair) (rows : List Tuple) (left : List Pair) → IsStrictlySortedBy key_order (keys_of numbers) → IsStrictlySortedBy key_order (keys_of start) →
    kept ≡ start → rows ≡ [] → left ≡ numbers → IsPutting kind start numbers kept rows left
putting-start kind start numbers kept rows left once ascends k r l =
    let begins : IsPutting kind start numbers start [] numbers = record {
      walking = walking-start (kind_of_digests kind) start (map pair_tuple numbers) [] ascends (keys-ascend (map pair_tuple numbers) (tuples-ascend numbers once)) tt;
      strict = once;
    } in
    subst (λ (x : List Pair × List Tuple × List Pair). IsPutting kind start numbers x.0 x.1 x.2) (λ i. (sym k i, sym r i, sym l i)) begins

module _ (kind : Kind) (digesting : digests kind ≡ true) (start numbers kept : List Pair) (rows : List Tuple) where
  abbrev old : Pair → Option ℤ
  old p = value_at kept p.0

  entry-is : (p : Pair) → Some (entry_after kind (old p) p.1) ≡ (open_rule (kind_of_digests kind) p.0 (old p) (p.1 ∷ []) []).entry
  entry-is p = sym (ap (λ (o : Outcome). o.entry) (number-rule kind digesting p.0 (old p) p.1))

  next : (p : Pair) (rest kept' : List Pair) (rows' : List Tuple) → IsPutting kind start numbers kept rows (p ∷ rest) →
      kept' ≡ with_entry kept p.0 (entry_after kind (old p) p.1) → rows' ≡ rows ++ told_of_number kind p.0 (old p) p.1 → IsPutting kind start numbers kept' rows' rest
  unfolding IsStrictlySortedBy
  next p rest kept' rows' w k r = record {
    walking = walking-next (kind_of_digests kind) start (map pair_tuple numbers) [] kept rows (map pair_tuple (p ∷ rest)) [] w.walking p.0 refl
        (Some (entry_after kind (old p) p.1)) kept' rows' (pair_tuple p ∷ []) [] (map pair_tuple rest) [] (old p)
        (one-group p rest w.strict.0) refl (past-one p rest w.strict.0) refl refl (entry-is p)
        (r ∙ ap (λ (o : Outcome). rows ++ o.emitted) (sym (number-rule kind digesting p.0 (old p) p.1))) k;
    strict = w.strict.1;
  }

  -- one number more
  pub putting-next : (p : Pair) (left rest kept' : List Pair) (rows' : List Tuple) → left ≡ p ∷ rest → IsPutting kind start numbers kept rows left →
      kept' ≡ with_entry kept p.0 (entry_after kind (old p) p.1) → rows' ≡ rows ++ told_of_number kind p.0 (old p) p.1 → IsPutting kind start numbers kept' rows' rest
  putting-next p left rest kept' rows' is w = next p rest kept' rows' (subst (IsPutting kind start numbers kept rows) is w)

  large : (p : Pair) (rest : List Pair) → IsPutting kind start numbers kept rows (p ∷ rest) → IsLarge pair_key (with_entry kept p.0 (entry_after kind (old p) p.1)) →
      IsLarge pair_key (walked (kind_of_digests kind) start (map pair_tuple numbers) [])
  unfolding IsStrictlySortedBy
  large p rest w =
      walking-large (kind_of_digests kind) start (map pair_tuple numbers) [] kept rows (map pair_tuple (p ∷ rest)) [] w.walking p.0 refl
      (Some (entry_after kind (old p) p.1)) (old p) (pair_tuple p ∷ []) [] (one-group p rest w.strict.0) refl refl (entry-is p)

  -- an entry for which there is no room
  pub putting-large : (p : Pair) (left rest : List Pair) → left ≡ p ∷ rest → IsPutting kind start numbers kept rows left → ((value : ℤ) → IsLarge pair_key (with_entry kept p.0 value)) →
      IsLarge pair_key (walked (kind_of_digests kind) start (map pair_tuple numbers) [])
  putting-large p left rest is w all = large p rest (subst (IsPutting kind start numbers kept rows) is w) (all (entry_after kind (old p) p.1))

  -- none is left
  pub putting-end : (left : List Pair) → left ≡ [] → IsPutting kind start numbers kept rows left →
      (kept ≡ walked (kind_of_digests kind) start (map pair_tuple numbers) []) × (rows ≡ emitted_of (kind_of_digests kind) start (map pair_tuple numbers) [])
  putting-end left none w =
      walking-end (kind_of_digests kind) start (map pair_tuple numbers) [] kept rows (map pair_tuple left) [] w.walking
      (ap (λ (ps : List Pair). first_key (map pair_tuple ps) []) (sym none))

-- the windows at which all is told
pub closes-alike : (kind : Kind) (window : ℕ) → closes (kind_of_digests kind) window ≡ closes kind window
unfolding kind_of_digests
closes-alike (Keep min max) window = refl
closes-alike (Scale factor) window = refl
closes-alike Words window = refl
closes-alike (Prefix len) window = refl
closes-alike Count window = refl
closes-alike Sum window = refl
closes-alike Peak window = refl
closes-alike First window = refl
closes-alike (Tumble every) window = refl
closes-alike Match window = refl
closes-alike Enrich window = refl
closes-alike (Top k) window = refl

-- ---- what a fold gives at the end

keeps-digests : (kind : Kind) → digests kind ≡ true → keeps (kind_of_digests kind) ≡ true
unfolding kind_of_digests
keeps-digests (Keep min max) d = cc
keeps-digests (Scale factor) d = cc
keeps-digests Words d = cc
keeps-digests (Prefix len) d = cc
keeps-digests Count d = refl
keeps-digests Sum d = refl
keeps-digests Peak d = refl
keeps-digests First d = refl
keeps-digests (Tumble every) d = refl
keeps-digests Match d = cc
keeps-digests Enrich d = cc
keeps-digests (Top k) d = cc

module _ (kind : Kind) (digesting : digests kind ≡ true) where
  module _ (n i window : ℕ) (state numbers : List Pair) (lefts rights : List Tuple) (ascends : IsStrictlySortedBy key_order (keys_of state)) (are : AreDigests kind numbers (cut_bag n i lefts)) where
    abbrev part : Partition
    part = record { kind = kind; n = n; i = i }

    begins : state ≡ start_of (kind_of_digests kind) state
    begins = sym (ap (λ (b : Bool). cond b state []) (keeps-digests kind digesting))

    same : keyed_step (kind_of_digests kind) window state (map pair_tuple numbers) [] ≡ stepped part window state lefts rights
    same =
        sym (step-keyed (kind_of_digests kind) window state (map pair_tuple numbers) [] (not-top (kind_of_digests kind) (sums-digest kind digesting)))
        ∙ digest-step kind digesting n i window state numbers lefts rights are

    abbrev after : List Pair
    after = walked (kind_of_digests kind) state (map pair_tuple numbers) []

    -- at a window that ends no sum
    pub putting-open : (kept : List Pair) (rows : List Tuple) → closes kind window ≡ false → kept ≡ after → rows ≡ emitted_of (kind_of_digests kind) state (map pair_tuple numbers) [] →
        (kept ≡ (stepped part window state lefts rights).state) × (bag_of rows ≡ (stepped part window state lefts rights).rows)
    putting-open kept rows open_window k r =
        let p = open-ok (kind_of_digests kind) window state state kept (map pair_tuple numbers) [] rows ascends begins (bag_of rows) (closes-alike kind window ∙ open_window) k r refl in
        (p.0 ∙ ap (λ (s : Stepped). s.state) same, p.1 ∙ ap (λ (s : Stepped). s.rows) same)

    -- at one that ends the sums
    pub putting-closed : (kept new : List Pair) (rows : List Tuple) → closes kind window ≡ true → kept ≡ after → rows ≡ map pair_tuple kept → new ≡ [] →
        (new ≡ (stepped part window state lefts rights).state) × (bag_of rows ≡ (stepped part window state lefts rights).rows)
    putting-closed kept new rows closed k r none =
        let p = end-ok (kind_of_digests kind) window state state kept (map pair_tuple numbers) [] rows ascends begins new (bag_of rows) (closes-alike kind window ∙ closed) k r none refl in
        (p.0 ∙ ap (λ (s : Stepped). s.state) same, p.1 ∙ ap (λ (s : Stepped). s.rows) same)

    -- what is kept then is too large
    pub putting-too-large : IsLarge pair_key after → IsTooLarge (stepped part window state lefts rights) lefts rights
    putting-too-large large =
        step-too-large (keyed_step (kind_of_digests kind) window state (map pair_tuple numbers) []) (stepped part window state lefts rights) lefts rights same
        (walk-large (kind_of_digests kind) window state state (map pair_tuple numbers) [] ascends begins large)
