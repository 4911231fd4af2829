-- Pieces and their numbers, and how many pieces a window has.
use Rattle.std.proofs.Common.{◌≡◌, ℕ, ◌+◌, ◌*◌, ◌^◌, ◌<◌, ◌≤◌, List, [], ◌∷◌, ◌++◌, length, map, refl, sym, ap, ◌∙◌, arith, Bool, true, false, cond, eqb, leb, append_assoc, length-append, Result, Ok, Err}
use Rattle.std.specs.Prelude.{OnOk, IfOk}
use Rattle.std.proofs.lemmas.List.{map-append, append-nil, length-map}
use Rattle.apx_tuple.specs.declared.tuple.Tuple.{Tuple}
use Rattle.apx_tuple.specs.Size.{size_by}
use Rattle.apx_tuple.specs.Tuple.{IsBag, tuple_key}
use Rattle.apx_window.specs.Identifier.{identifier_of}
use Rattle.apx_wire.specs.declared.message.Message.{Message}
use Rattle.apx_wire.specs.declared.message.Message.TheVariants.{Payload, Begin, End}
use Rattle.apx_wire.specs.Spelling.{spelling}
use Rattle.apx_list.specs.declared.plan.CutPlan.{CutPlan}
use Rattle.apx_list.specs.declared.block.Block.{Block}
use Rattle.apx_list.specs.declared.cutting.Cutter.{Cutter}
use Rattle.apx_list.specs.Messages.{messages_of, opening, closing, reset, checkpoint, stop}
use Rattle.apx_list.specs.Cut.{pieces_from, pieces_of, numbered}
use Rattle.apx_list.specs.Cutter.{pieces_with, Adds}

-- one more piece has the next number
pub numbered-append : (window count index : ℕ) (pieces : List (List ℕ)) (piece : List ℕ) → numbered window count index (pieces ++ piece ∷ []) ≡ numbered window count index pieces ++ record { window = window; index = index + length pieces; last = eqb (index + length pieces + 1) count; bytes = piece } ∷ []
numbered-append window count index [] piece = let at : index + length {A = List ℕ} [] ≡ index = omega arith in rw at refl
numbered-append window count index (p ∷ pieces) piece =
    let at : (index + 1) + length pieces ≡ index + length (p ∷ pieces) = omega arith in
    rw (numbered-append window count (index + 1) pieces piece, at) refl

pub length-numbered : (window count index : ℕ) (pieces : List (List ℕ)) → length (numbered window count index pieces) ≡ length pieces
length-numbered window count index [] = refl
length-numbered window count index (p ∷ pieces) = rw (length-numbered window count (index + 1) pieces) refl

-- a block that is pushed is the next one of the pieces
pub numbered-push : {X : Type 0} (window count : ℕ) (bytes : X → List ℕ) (done : List X) (next : X) (blocks more : List Block) (index : ℕ) (last : Bool) (piece : List ℕ) → blocks ≡ numbered window count 0 (map bytes done) → index ≡ length blocks → last ≡ eqb (index + 1) count → piece ≡ bytes next → more ≡ blocks ++ record { window = window; index = index; last = last; bytes = piece } ∷ [] → more ≡ numbered window count 0 (map bytes (done ++ next ∷ []))
numbered-push window count bytes done next blocks more index last piece so_far at marked is pushed =
    let count_is : index ≡ 0 + length (map bytes done) = omega (arith, at, ap length so_far, length-numbered window count 0 (map bytes done)) in
    let all : map bytes (done ++ next ∷ []) ≡ map bytes done ++ bytes next ∷ [] = map-append bytes done (next ∷ []) in
    rw (all, numbered-append window count 0 (map bytes done) (bytes next), ← count_is, ← is, ← marked, ← so_far) pushed

-- each message begins one piece at most
pub length-pieces_from : (size : ℕ) (piece : List ℕ) (messages : List (List ℕ)) → length (pieces_from size piece messages) ≤ length messages + 1
length-pieces_from size piece [] = omega arith
length-pieces_from size piece (message ∷ messages) =
    elim (leb (length piece + length message) size) as (λ fits. length (cond fits (pieces_from size (piece ++ message) messages) (piece ∷ pieces_from size message messages)) ≤ length (message ∷ messages) + 1) [
      | true ↦ omega (arith, length-pieces_from size (piece ++ message) messages)
      | false ↦ omega (arith, length-pieces_from size message messages)
    ]

length_ten : (tuples : List Tuple) → 10 * length tuples ≤ size_by tuple_key tuples
length_ten [] = omega arith
length_ten (t ∷ tuples) = omega (arith, length_ten tuples)

one_at_most : {X : Type 0} (b : Bool) (x : X) → length (cond b (x ∷ []) []) ≤ 1
one_at_most true x = omega arith
one_at_most false x = omega arith

length-opening : (plan : CutPlan) (window : ℕ) → length (opening plan window) ≤ 2
length-opening plan window =
    let one : length (reset plan window) ≤ 1 = one_at_most _ _ in
    omega (arith, one, length-append (reset plan window) (Begin (identifier_of plan.base window) ∷ []))

length-closing : (plan : CutPlan) (window : ℕ) → length (closing plan window) ≤ 3
length-closing plan window =
    let one : length (checkpoint plan window) ≤ 1 = one_at_most _ _ in
    let other : length (stop plan window) ≤ 1 = one_at_most _ _ in
    omega (arith, one, other, length-append (End (identifier_of plan.base window) ∷ checkpoint plan window) (stop plan window))

-- a bag that isn't large has fewer than 2 ^ 32 pieces
pub pieces_of-fits : (plan : CutPlan) (window : ℕ) (tuples : List Tuple) → IsBag tuples → length (pieces_of plan window tuples) < 2 ^ 32
pieces_of-fits plan window tuples bag =
    let few = length-pieces_from plan.size [] (map spelling (messages_of plan window tuples)) in
    let all : length (map spelling (messages_of plan window tuples)) ≡ length (messages_of plan window tuples) = length-map (messages_of plan window tuples) spelling in
    let parts : length (messages_of plan window tuples) ≡ length (opening plan window) + length tuples + length (closing plan window) = simp (length-append, length-map) in
    let opens : length (opening plan window) ≤ 2 = length-opening plan window in
    let closes : length (closing plan window) ≤ 3 = length-closing plan window in
    let ten = length_ten tuples in
    omega (arith, few, all, parts, opens, closes, ten, bag.small)

-- messages added one after the other are added together
pub Adds_both : (a b c : Cutter) (first then : List Message) → Adds a b first → Adds b c then → Adds a c (first ++ then)
Adds_both a b c first then f g rest =
    let joined : map spelling (first ++ then) ++ rest ≡ map spelling first ++ (map spelling then ++ rest) = rw (map-append spelling first then, append_assoc (map spelling first) (map spelling then) rest) refl in
    g rest ∙ f (map spelling then ++ rest) ∙ ap (pieces_with a) (sym joined)

-- P makes Q, where there is a value
pub on_ok : {T E : Type 0} (r : Result T E) (P Q : Type 0) → (P → Q) → OnOk r P → OnOk r Q
on_ok (Ok x) P Q f p = f p
on_ok (Err e) P Q f p = tt

-- P of the value makes Q of it, where there is one
pub if_ok : {T E : Type 0} (r : Result T E) (P Q : T → Type 0) → ((x : T) → P x → Q x) → IfOk r P → IfOk r Q
if_ok (Ok x) P Q f p = f x p
if_ok (Err e) P Q f p = tt

-- the pieces of all parts of a window, which an empty cutter was given one after the other
pub whole_window : (plan : CutPlan) (window : ℕ) (tuples : List Tuple) (a b c d : Cutter) → a.done.items ≡ [] → a.current.items ≡ [] → a.size ≡ plan.size → Adds a b (opening plan window) → Adds b c (map Payload tuples) → Adds c d (closing plan window) → pieces_with d [] ≡ pieces_of plan window tuples
whole_window plan window tuples a b c d none empty size opens adds closes =
    let all = Adds_both a c d (opening plan window ++ map Payload tuples) (closing plan window) (Adds_both a b c (opening plan window) (map Payload tuples) opens adds) closes in
    let at_end : map spelling (messages_of plan window tuples) ++ [] ≡ map spelling (messages_of plan window tuples) = append-nil _ in
    all [] ∙ rw (none, empty, size, at_end) refl
