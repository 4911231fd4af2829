-- What the inputs of the operators before one say of all.
use Rattle.std.proofs.Common.{◌≡◌, ℕ, zero, suc, ◌+◌, ◌<◌, inl, inr, Bool, false, List, [], ◌∷◌, ◌++◌, length, Option, Some, None, filter_map, take, get_or, add-one, arith, ap, sym, ◌∙◌, refl, subst, ◌≤◌, is_some, append-nil, length-append}
use Rattle.std.specs.Prelude.{⊤}
use Rattle.apx_device.specs.Folder.{Answer}
use Rattle.apx_pass.specs.Graph as graph
use Rattle.apx_pass.specs.Graph.{Role, Node, node_at, is_input}
use Rattle.apx_pass.specs.Pass.{inputs_before}
use Rattle.apx_pass.proofs.Inputs.{inputs_before-input, inputs_before-other}
use Rattle.apx_pass.specs.Groups.{Input}
use Rattle.apx_load.specs.declared.refusal.Refusal.{Refusal}
use Rattle.apx_load.specs.Hearing.{HasHeard}
use Rattle.apx_cause.specs.Cause.{Rose}
use Rattle.apx_load.specs.declared.stop.Stop.{Stop}
use Rattle.apx_load.specs.Stops.{IsCaused, reading_causes}
use Rattle.apx_load.proofs.Heard.{heard_then}
use Rattle.apx_load.proofs.Readings.{by-first, by-second, of-inputs, of-input, of-input-refusal}
use Rattle.apx_load.proofs.Stopping.{read_later}
use Rattle.apx_load.specs.Refusals.{Reading, by_answers, IsInputOf, IsInputRefusal, AreRead, AreInputs, IsInputsRefusal}

-- ---- one operator further

-- the operator at a number, whatever stands past the last one
AreRead-next_or : (reading : Reading) (nodes : List Node) (i : ℕ) (d : Node) (inputs : List (Option Input)) (input : Option Input) → i < length nodes → AreRead reading (take i nodes) inputs → IsInputOf reading (get_or nodes i d).role input → AreRead reading (take (suc i) nodes) (inputs ++ input ∷ [])
AreRead-next_or reading [] i d inputs input within are is = absurd (omega arith)
AreRead-next_or reading (node ∷ nodes) zero d [] input within are is = (is, tt)
AreRead-next_or reading (node ∷ nodes) zero d (first ∷ inputs) input within are is = absurd are
AreRead-next_or reading (node ∷ nodes) (suc i) d [] input within are is = absurd are
AreRead-next_or reading (node ∷ nodes) (suc i) d (first ∷ inputs) input within are is = (are.0, AreRead-next_or reading nodes i d inputs input (omega arith) are.1 is)

-- what there is of one place more
abbrev pub there_of : Option Input → List Input
there_of None = []
there_of (Some input) = input ∷ []

there_next : (each : List (Option Input)) (input : Option Input) → filter_map (λ i. i) each ++ there_of input ≡ filter_map (λ i. i) (each ++ input ∷ [])
there_next [] None = refl
there_next [] (Some input) = refl
there_next (None ∷ each) input = there_next each input
there_next (Some first ∷ each) input = ap (λ (xs : List Input). first ∷ xs) (there_next each input)

pub AreInputs-next : (reading : Reading) (nodes : List Node) (i : ℕ) (inputs : List Input) (input : Option Input) → i < length nodes → AreInputs reading (take i nodes) inputs → IsInputOf reading (node_at nodes i).role input → AreInputs reading (take (i + 1) nodes) (inputs ++ there_of input)
AreInputs-next reading nodes i inputs input within are is = record {
  each = are.each ++ input ∷ [];
  read = rw add-one (AreRead-next_or reading nodes i _ are.each input within are.read is);
  are = ap (λ (xs : List Input). xs ++ there_of input) are.are ∙ there_next are.each input;
}

refused_at_or : (reading : Reading) (nodes : List Node) (i : ℕ) (d : Node) (inputs : List (Option Input)) (refusal : Refusal) → i < length nodes → AreRead reading (take i nodes) inputs → IsInputRefusal reading (get_or nodes i d).role refusal → IsInputsRefusal reading nodes refusal
refused_at_or reading [] i d inputs refusal within are is = absurd (omega arith)
refused_at_or reading (node ∷ nodes) zero d inputs refusal within are is = inl is
refused_at_or reading (node ∷ nodes) (suc i) d [] refusal within are is = absurd are
refused_at_or reading (node ∷ nodes) (suc i) d (first ∷ inputs) refusal within are is = inr ((first, are.0), refused_at_or reading nodes i d inputs refusal (omega arith) are.1 is)

pub refused_at : (reading : Reading) (nodes : List Node) (i : ℕ) (inputs : List Input) (refusal : Refusal) → i < length nodes → AreInputs reading (take i nodes) inputs → IsInputRefusal reading (node_at nodes i).role refusal → IsInputsRefusal reading nodes refusal
refused_at reading nodes i inputs refusal within are is = refused_at_or reading nodes i _ are.each refusal within are.read is

pub there_count : (nodes : List Node) (i : ℕ) (node : Node) (inputs : List Input) (input : Option Input) → i < length nodes → node ≡ node_at nodes i → is_some input ≡ is_input node.role → length inputs ≡ inputs_before nodes i → length (inputs ++ there_of input) ≡ inputs_before nodes (i + 1)
there_count nodes i node inputs None within here is count = ap length (append-nil inputs) ∙ count ∙ sym (inputs_before-other nodes i within (ap (λ (n : Node). is_input n.role) (sym here) ∙ sym is))
there_count nodes i node inputs (Some input) within here is count =
    let next = inputs_before-input nodes i within (ap (λ (n : Node). is_input n.role) (sym here) ∙ sym is) in
    omega (arith, length-append inputs (input ∷ []), next, count)

-- ---- what is read of the operators before one, and of that one

-- nothing is read of none
pub no_inputs : (reading : Reading) (inputs : List Input) → inputs ≡ [] → AreInputs reading [] inputs
no_inputs reading inputs none = record { each = []; read = tt; are = none }

module _ (tells : Bool) (told then : List ℕ → Option (List ℕ)) (old mid new : List Answer → Type 0) (nodes : List Node) (node : Node) (i : ℕ) (inputs : List Input) where
  -- one operator more, and what there is of its input
  pub next_input : (input : Option Input) (items : List Input) → items ≡ inputs ++ there_of input → then ≡ told → i < length nodes → node ≡ node_at nodes i → HasHeard tells told old mid (λ answers. AreInputs (by_answers answers) (take i nodes) inputs) → HasHeard tells then mid new (λ answers. IsInputOf (by_answers answers) node.role input) → HasHeard tells told old new (λ answers. AreInputs (by_answers answers) (take (i + 1) nodes) items)
  next_input input items is same within here so_far one_more =
      heard_then tells told then old mid new _ _ (λ answers. AreInputs (by_answers answers) (take (i + 1) nodes) items) same
      (λ first second are one. rw is (AreInputs-next (by_answers (first ++ second)) nodes i inputs input within
      (of-inputs (by_answers first) (by_answers (first ++ second)) (by-first first second) (take i nodes) inputs are)
      (subst (λ (n : Node). IsInputOf (by_answers (first ++ second)) n.role input) here (of-input (by_answers second) (by_answers (first ++ second)) (by-second first second) node.role input one))))
      so_far one_more

  -- a stop at one input is a stop of all
  pub stops_at_input : (before between now : ℕ) (stop : Stop) → then ≡ told → before ≤ between → i < length nodes → node ≡ node_at nodes i → HasHeard tells told old mid (λ answers. AreInputs (by_answers answers) (take i nodes) inputs) → HasHeard tells then mid new (λ answers. IsCaused (reading_causes (IsInputRefusal (by_answers answers) node.role) answers (Rose between now)) stop) → HasHeard tells told old new (λ answers. IsCaused (reading_causes (IsInputsRefusal (by_answers answers) nodes) answers (Rose before now)) stop)
  stops_at_input before between now stop same later within here so_far is =
      heard_then tells told then old mid new _ _ (λ answers. IsCaused (reading_causes (IsInputsRefusal (by_answers answers) nodes) answers (Rose before now)) stop) same
      (λ first second are one. read_later (IsInputRefusal (by_answers second) node.role) (IsInputsRefusal (by_answers (first ++ second)) nodes) first second before between now stop later
      (λ refusal refused. refused_at (by_answers (first ++ second)) nodes i inputs refusal within
      (of-inputs (by_answers first) (by_answers (first ++ second)) (by-first first second) (take i nodes) inputs are)
      (subst (λ (n : Node). IsInputRefusal (by_answers (first ++ second)) n.role refusal) here (of-input-refusal (by_answers second) (by_answers (first ++ second)) (by-second first second) node.role refusal refused)))
      one)
      so_far is

  -- memory ran out behind one input
  pub short_of_memory : (P Q : List Answer → Type 0) → then ≡ told → ((answers : List Answer) → Q answers) → HasHeard tells told old mid P → HasHeard tells then mid new (λ answers. ⊤) → HasHeard tells told old new Q
  short_of_memory P Q same all so_far is = heard_then tells told then old mid new P (λ answers. ⊤) Q same (λ first second are one. all (first ++ second)) so_far is

-- what isn't an input reads nothing
pub no_input : (reading : Reading) (role : Role) → false ≡ is_input role → IsInputOf reading role None
no_input reading (graph.Input kind file per_window) is = absurd cc
no_input reading (graph.Inner kind) is = refl
no_input reading graph.Sink is = refl
