-- The tuples of the first lines of a text, taken line after line.
use Rattle.std.proofs.Common.{◌≡◌, ℕ, ◌+◌, ◌-◌, ◌<◌, ◌≤◌, List, [], ◌∷◌, ◌++◌, length, take, filter_map, Option, Some, None, sym, ap, ◌∙◌, arith, suc}
use Rattle.std.proofs.lemmas.List.{append-nil, append_assoc, take_all}
use Rattle.std.specs.List.{cons_option}
use Rattle.std.specs.Option.{option_to_list}
use Rattle.apx_tuple.specs.declared.kind.InputKind.{InputKind}
use Rattle.apx_tuple.specs.declared.tuple.Tuple.{Tuple}
use Rattle.apx_pass.specs.Pairs.{tuple_of}

-- what a line's tuple, where it has one, makes of the tuples before
pub with_tuple : (kind : InputKind) (tuples new : List Tuple) (line : List ℕ) (tuple : Tuple) (found : Option Tuple) → new ≡ tuples ++ tuple ∷ [] → found ≡ Some tuple → found ≡ tuple_of kind line → new ≡ tuples ++ option_to_list (tuple_of kind line)
with_tuple kind tuples new line tuple found is some same = rw (sym same ∙ some) is

pub without_tuple : (kind : InputKind) (tuples : List Tuple) (line : List ℕ) (found : Option Tuple) → found ≡ None → found ≡ tuple_of kind line → tuples ≡ tuples ++ option_to_list (tuple_of kind line)
without_tuple kind tuples line found none same = rw (sym same ∙ none) (sym (append-nil tuples))

module _ (kind : InputKind) (whole : List Tuple) where
  -- one line more, and its tuple where it has one
  pub one_taken : (tuples : List Tuple) (rest behind : List (List ℕ)) (line : List ℕ) (count done : ℕ) → rest ≡ line ∷ behind → done < count →
      tuples ++ filter_map (tuple_of kind) (take (count - done) rest) ≡ whole → (tuples ++ option_to_list (tuple_of kind line)) ++ filter_map (tuple_of kind) (take (count - (done + 1)) behind) ≡ whole
  one_taken tuples rest behind line count done is lt e = by (tuple_of kind line) first
    where
      left : count - done ≡ suc (count - (done + 1))
      left = omega arith

      first : tuples ++ cons_option (tuple_of kind line) (filter_map (tuple_of kind) (take (count - (done + 1)) behind)) ≡ whole
      first = rw (is, left) at e

      by : (o : Option Tuple) → tuples ++ cons_option o (filter_map (tuple_of kind) (take (count - (done + 1)) behind)) ≡ whole →
          (tuples ++ option_to_list o) ++ filter_map (tuple_of kind) (take (count - (done + 1)) behind) ≡ whole
      by None h = rw (append-nil tuples) h
      by (Some tuple) h = rw (append_assoc tuples (tuple ∷ [])) h

  -- the same, of the tuples and the lines that stand there then
  pub one_taken_then : (new tuples : List Tuple) (left behind : List (List ℕ)) (line : List ℕ) (n : ℕ) → new ≡ tuples ++ option_to_list (tuple_of kind line) → left ≡ behind →
      (tuples ++ option_to_list (tuple_of kind line)) ++ filter_map (tuple_of kind) (take n behind) ≡ whole → new ++ filter_map (tuple_of kind) (take n left) ≡ whole
  one_taken_then new tuples left behind line n is same e = rw (is, same) e

  -- no line is left
  pub none_left_to_take : (tuples : List Tuple) (rest : List (List ℕ)) (n : ℕ) → rest ≡ [] → tuples ++ filter_map (tuple_of kind) (take n rest) ≡ whole → tuples ≡ whole
  none_left_to_take tuples rest n is e =
      let none : take n rest ≡ [] = take_all n rest (omega (arith, ap length is)) ∙ is in
      sym (append-nil tuples) ∙ (rw none at e)

  -- enough lines are taken
  pub enough_taken : (tuples : List Tuple) (rest : List (List ℕ)) (count done : ℕ) → count ≤ done → tuples ++ filter_map (tuple_of kind) (take (count - done) rest) ≡ whole → tuples ≡ whole
  enough_taken tuples rest count done le e =
      let none : count - done ≡ 0 = omega arith in
      sym (append-nil tuples) ∙ (rw none at e)
