-- Which keys the tuples of a run have: those of its inputs, their words, and their first bytes.
--     HaveKeys K tuples    each of the tuples has a key with K
--     IsKept K             what is made of a key with K has K
--     KeysStay             where all inputs give tuples with such keys, so do all operators
use Rattle.std.specs.Prelude.{ℕ, ◌≤◌, List, length, take}
use Rattle.std.specs.List.{AllByRecursion}
use Rattle.apx_pass.specs.Pass.{Dataflow, input_at, rows_of_input, rows_at}
use Rattle.apx_rules.specs.Rule.{words_of}
use Rattle.apx_tuple.specs.declared.tuple.Tuple.{Tuple}

-- each of the tuples has a key with K
abbrev pub HaveKeys : (List ℕ → Type 0) → List Tuple → Type 0
HaveKeys K tuples = AllByRecursion (λ t. K t.key) tuples

-- what the kinds make of a key with K has K again
pub record IsKept (K : List ℕ → Type 0) : Type 0 where
  -- its first bytes
  pub first : (len : ℕ) (key : List ℕ) → K key → K (take len key)
  -- each of its words
  pub words : (key : List ℕ) → K key → AllByRecursion K (words_of key)

-- the inputs of the dataflow give tuples with such keys
abbrev pub InputsHave : (List ℕ → Type 0) → Dataflow → Type 0
InputsHave K flow = (o w : ℕ) → HaveKeys K (rows_of_input (input_at flow o) w)

-- Where all inputs do, so do all operators.
abbrev pub KeysStay : Type 1
KeysStay = (K : List ℕ → Type 0) → IsKept K → (flow : Dataflow) → InputsHave K flow → (w o : ℕ) → HaveKeys K (rows_at flow w o)

-- a key is one that a spelling has room for
abbrev pub IsShort : List ℕ → Type 0
IsShort key = length key ≤ 1024
