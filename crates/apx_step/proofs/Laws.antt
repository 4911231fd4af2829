-- What the rules have in common: a key that doesn't come keeps its entry and emits nothing.
use Rattle.std.proofs.Common.{◌≡◌, ℕ, ℤ, true, false, List, [], ◌∷◌, refl, sym, Option, Some, None, arith}
use Rattle.std.proofs.lemmas.Bool.Decides.{nat_tests}
use Rattle.std.specs.Int.{int_max}
use Rattle.apx_tuple.specs.declared.kind.Kind.{Kind}
use Rattle.apx_tuple.specs.declared.kind.Kind.TheVariants.{Keep, Scale, Words, Prefix, Count, Sum, Peak, First, Tumble, Match, Enrich, Top}
use Rattle.apx_rules.specs.Rule.{rule, greatest, came}
use Rattle.apx_step.specs.Walk.{open_rule, keeps, closes}

-- at a window that ends no sum
pub rule-open : (kind : Kind) (window : ℕ) (key : List ℕ) (old : Option ℤ) (lefts rights : List ℤ) → closes kind window ≡ false → open_rule kind key old lefts rights ≡ rule kind window key old lefts rights
unfolding open_rule rule
rule-open (Keep min max) window key old lefts rights h = refl
rule-open (Scale factor) window key old lefts rights h = refl
rule-open Words window key old lefts rights h = refl
rule-open (Prefix len) window key old lefts rights h = refl
rule-open Count window key old lefts rights h = refl
rule-open Sum window key old lefts rights h = refl
rule-open Peak window key old lefts rights h = refl
rule-open First window key old lefts rights h = refl
rule-open (Tumble every) window key old lefts rights h = rw h refl
rule-open Match window key old lefts rights h = refl
rule-open Enrich window key old lefts rights h = refl
rule-open (Top k) window key old lefts rights h = refl

-- a key that didn't come, of a kind that keeps entries
pub rule-kept : (kind : Kind) (key : List ℕ) (old : Option ℤ) → keeps kind ≡ true → open_rule kind key old [] [] ≡ record { entry = old; emitted = [] }
unfolding open_rule rule
rule-kept (Keep min max) key old h = cc
rule-kept (Scale factor) key old h = cc
rule-kept Words key old h = cc
rule-kept (Prefix len) key old h = cc
rule-kept Count key old h = refl
rule-kept Sum key old h = refl
rule-kept Peak key old h = refl
rule-kept First key old h = refl
rule-kept (Tumble every) key old h = refl
rule-kept Match key old h = cc
rule-kept Enrich key None h = refl
rule-kept Enrich key (Some v) h = refl
rule-kept (Top k) key old h = cc

-- a key that didn't come, of a kind that keeps nothing
pub rule-quiet : (kind : Kind) (key : List ℕ) (old : Option ℤ) → keeps kind ≡ false → open_rule kind key old [] [] ≡ record { entry = None; emitted = [] }
unfolding open_rule rule
rule-quiet (Keep min max) key old h = refl
rule-quiet (Scale factor) key old h = refl
rule-quiet Words key old h = refl
rule-quiet (Prefix len) key old h = refl
rule-quiet Count key old h = cc
rule-quiet Sum key old h = cc
rule-quiet Peak key old h = cc
rule-quiet First key old h = cc
rule-quiet (Tumble every) key old h = cc
rule-quiet Match key old h = refl
rule-quiet Enrich key old h = cc
rule-quiet (Top k) key old h = refl

-- such a kind doesn't look at an entry, and makes none
pub rule-blind : (kind : Kind) (key : List ℕ) (old : Option ℤ) (lefts rights : List ℤ) → keeps kind ≡ false → open_rule kind key None lefts rights ≡ open_rule kind key old lefts rights
unfolding open_rule rule
rule-blind (Keep min max) key old lefts rights h = refl
rule-blind (Scale factor) key old lefts rights h = refl
rule-blind Words key old lefts rights h = refl
rule-blind (Prefix len) key old lefts rights h = refl
rule-blind Count key old lefts rights h = cc
rule-blind Sum key old lefts rights h = cc
rule-blind Peak key old lefts rights h = cc
rule-blind First key old lefts rights h = cc
rule-blind (Tumble every) key old lefts rights h = cc
rule-blind Match key old lefts rights h = refl
rule-blind Enrich key old lefts rights h = cc
rule-blind (Top k) key old lefts rights h = refl

pub rule-empty : (kind : Kind) (key : List ℕ) (old : Option ℤ) (lefts rights : List ℤ) → keeps kind ≡ false → (open_rule kind key old lefts rights).entry ≡ None
unfolding open_rule rule
rule-empty (Keep min max) key old lefts rights h = refl
rule-empty (Scale factor) key old lefts rights h = refl
rule-empty Words key old lefts rights h = refl
rule-empty (Prefix len) key old lefts rights h = refl
rule-empty Count key old lefts rights h = cc
rule-empty Sum key old lefts rights h = cc
rule-empty Peak key old lefts rights h = cc
rule-empty First key old lefts rights h = cc
rule-empty (Tumble every) key old lefts rights h = cc
rule-empty Match key old lefts rights h = refl
rule-empty Enrich key old lefts rights h = cc
rule-empty (Top k) key old lefts rights h = refl

greatest-some : (v : ℤ) (vs : List ℤ) → greatest (Some v) vs ≡ None → None ≡ Some v
greatest-some v [] e = sym e
greatest-some v (w ∷ vs) e = let no : None ≡ Some (int_max v w) = greatest-some (int_max v w) vs e in cc

came-some : (v : ℤ) (vs : List ℤ) → came (v ∷ vs) ≡ true
came-some v vs = grind (arith, nat_tests)

-- an entry isn't lost
pub rule-stays : (kind : Kind) (key : List ℕ) (old : Option ℤ) (lefts rights : List ℤ) → keeps kind ≡ true → (open_rule kind key old lefts rights).entry ≡ None → old ≡ None
unfolding open_rule rule
rule-stays (Keep min max) key old lefts rights h e = cc
rule-stays (Scale factor) key old lefts rights h e = cc
rule-stays Words key old lefts rights h e = cc
rule-stays (Prefix len) key old lefts rights h e = cc
rule-stays Count key old [] rights h e = e
rule-stays Count key old (v ∷ vs) rights h e = let no = rw (came-some v vs) at e in cc
rule-stays Sum key old [] rights h e = e
rule-stays Sum key old (v ∷ vs) rights h e = let no = rw (came-some v vs) at e in cc
rule-stays Peak key old [] rights h e = e
rule-stays Peak key old (v ∷ vs) rights h e = cc
rule-stays First key old [] rights h e = e
rule-stays First key old (v ∷ vs) rights h e = cc
rule-stays (Tumble every) key old [] rights h e = e
rule-stays (Tumble every) key old (v ∷ vs) rights h e = let no = rw (came-some v vs) at e in cc
rule-stays Match key old lefts rights h e = cc
rule-stays Enrich key old lefts [] h e = e
rule-stays Enrich key old lefts (v ∷ vs) h e = let some = rw (came-some v vs) at e in let no : None ≡ Some (int_max v v) = greatest-some (int_max v v) vs some in cc
rule-stays (Top k) key old lefts rights h e = cc
