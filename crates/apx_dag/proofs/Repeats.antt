-- Looking for the first name that stands earlier, as a loop does.
use Rattle.std.proofs.Common.{◌≡◌, ℕ, ◌+◌, ◌≤◌, ◌<◌, Bool, true, false, not, cond, ◌||◌, List, [], ◌∷◌, ◌++◌, length, get_or, drop, map, Option, Some, None, refl, sym, ap, ◌∙◌}
use Rattle.std.specs.List.{list_any}
use Rattle.std.specs.Str.{bytes_eq}
use Rattle.std.specs.Global.{Vec}
use Rattle.std.proofs.lemmas.List.{drop_all}
use Rattle.std.proofs.Math.Seq.{drop-cons}
use Rattle.std.proofs.Math.Numerals.{add-one}
use Rattle.apx_dag.specs.Names.{named_again}

abbrev pub texts : List (Vec ℕ) → List (List ℕ)
texts keys = map (λ key. key.items) keys

pub any_text : (name : List ℕ) (keys : List (Vec ℕ)) → list_any (λ key. bytes_eq name key.items) keys ≡ list_any (bytes_eq name) (texts keys)
any_text name [] = refl
any_text name (key ∷ keys) = ap (λ b. bytes_eq name key.items || b) (any_text name keys)

pub texts-push : (keys : List (Vec ℕ)) (key : Vec ℕ) → texts (keys ++ key ∷ []) ≡ texts keys ++ key.items ∷ []
texts-push [] key = refl
texts-push (k ∷ keys) key = ap (λ ts. k.items ∷ ts) (texts-push keys key)

pub step : {X : Type 0} (named : X → List ℕ) (seen : List (List ℕ)) (items : List X) (i : ℕ) (item : X) → i < length items → item ≡ get_or items i item
    → named_again named seen (drop i items) ≡ cond (list_any (bytes_eq (named item)) seen) (Some (named item)) (named_again named (seen ++ named item ∷ []) (drop (i + 1) items))
step named seen items i item lt is =
    let first : drop i items ≡ item ∷ drop (i + 1) items = rw (add-one, is) (drop-cons items i item lt) in
    rw first refl

pub ended : {X : Type 0} (named : X → List ℕ) (seen : List (List ℕ)) (items : List X) (i : ℕ) → length items ≤ i → named_again named seen (drop i items) ≡ None
ended named seen items i le = let none : drop i items ≡ [] = drop_all i items le in rw none refl

pub was_there : (r b : Bool) → r ≡ not b → r ≡ false → b ≡ true
was_there r true e f = refl
was_there r false e f = absurd cc

pub was_new : (r b : Bool) → r ≡ not b → r ≡ true → b ≡ false
was_new r true e f = absurd cc
was_new r false e f = refl

module _ {X : Type 0} (named : X → List ℕ) (keys : List (Vec ℕ)) (items : List X) (i : ℕ) (item : X) (key : Vec ℕ) (total : Option (List ℕ)) (lt : i < length items) (is : item ≡ get_or items i item) (text : key.items ≡ named item) (so_far : named_again named (texts keys) (drop i items) ≡ total) where
  test_is : (b : Bool) → list_any (λ k. bytes_eq key.items k.items) keys ≡ b → list_any (bytes_eq (named item)) (texts keys) ≡ b
  test_is b e = sym (any_text (named item) keys) ∙ ap (λ (n : List ℕ). list_any (λ k. bytes_eq n k.items) keys) (sym text) ∙ e

  pub found : list_any (λ k. bytes_eq key.items k.items) keys ≡ true → Some (named item) ≡ total
  found e =
      let one : named_again named (texts keys) (drop i items) ≡ Some (named item) = step named (texts keys) items i item lt is ∙ rw (test_is true e) refl in
      sym one ∙ so_far

  pub goes_on : (new : List (Vec ℕ)) → list_any (λ k. bytes_eq key.items k.items) keys ≡ false → new ≡ keys ++ key ∷ [] → named_again named (texts new) (drop (i + 1) items) ≡ total
  goes_on new e pushed =
      let one : named_again named (texts keys) (drop i items) ≡ named_again named (texts keys ++ named item ∷ []) (drop (i + 1) items) = step named (texts keys) items i item lt is ∙ rw (test_is false e) refl in
      let two : texts new ≡ texts keys ++ named item ∷ [] = rw pushed (texts-push keys key ∙ ap (λ (n : List ℕ). texts keys ++ n ∷ []) text) in
      rw two (sym one ∙ so_far)
