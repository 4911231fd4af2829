-- Words that are no pair.
use Rattle.std.proofs.Common.{◌≡◌, ℕ, ◌<◌, ◌==◌, Bool, List, [], ◌∷◌, length, None, refl, arith}
use Rattle.apx_cmd.specs.declared.option.Number.{Number}
use Rattle.apx_cmd.specs.Options.{given, are_options}

-- where nothing is given
pub given_short : (option : List ℕ) (words : List (List ℕ)) → length words < 2 → None ≡ given option words
unfolding given
given_short option [] h = refl
given_short option (word ∷ []) h = refl
given_short option (word ∷ next ∷ words) h = absurd (omega arith)

-- no words are options, and one word isn't
pub options_short : (script : Bool) (numbers : List Number) (words : List (List ℕ)) → length words < 2 → (length words == 0) ≡ are_options script numbers words
unfolding are_options
options_short script numbers [] h = refl
options_short script numbers (word ∷ []) h = refl
options_short script numbers (word ∷ next ∷ words) h = absurd (omega arith)
