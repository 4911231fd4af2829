-- Messages that are read one after the other, and their tuples.
use Rattle.std.proofs.Common.{◌≡◌, ℕ, zero, suc, ◌<◌, ◌≢◌, List, Option, Some, None, eq-eqb, [], ◌∷◌, ◌++◌, length, map, refl, sym, ap, ◌∙◌, arith, Bool, true, false, cond, eqb, append_assoc, length-append, inl, inr}
use Rattle.std.specs.Prelude.{◌==◌}
use Rattle.std.proofs.lemmas.List.{append-nil}
use Rattle.apx_codec.specs.KeyNumber.{hash_of, number_owner, owner_of}
use Rattle.apx_wire.specs.Judging.{head_of}
use Rattle.std.proofs.lemmas.Bool.{eqb-true, ne_eqb}
use Rattle.std.proofs.lemmas.List.Elements.{filter-append}
use Rattle.apx_tuple.specs.declared.tuple.Tuple.{Tuple}
use Rattle.apx_window.specs.Identifier.{second_of}
use Rattle.apx_wire.specs.declared.message.Message.{Message}
use Rattle.apx_wire.specs.declared.message.Message.TheVariants.{Payload, Begin, End, Checkpoint, Reset, EndOfStream}
use Rattle.apx_wire.specs.Spelling.{IsMessage, spelling, spellings}
use Rattle.apx_wire.proofs.Streams.{length-spelling}
use Rattle.apx_list.specs.declared.plan.CutPlan.{CutPlan}
use Rattle.apx_list.specs.declared.block.Block.{Block}
use Rattle.apx_list.specs.Messages.{opening, closing, reset, checkpoint, stop, id_of}
use Rattle.apx_list.specs.Block.{AreMessages, AreSome, Spells, block_messages}
use Rattle.apx_list.specs.Tuples.{tuples_of, owned, owned_of, Begins, IsLeft}

-- bytes that are left begin with a message
pub begins : (rest : List ℕ) (left : List Message) → AreMessages left → rest ≡ spellings left → 0 < length rest → Begins rest
begins rest [] whole bytes some = absurd (omega (arith, ap length bytes))
begins rest (m ∷ left) whole bytes some = (m, spellings left, whole.0, bytes)

tuples_of-first : (m : Message) (left : List Message) → tuples_of (m ∷ []) ++ tuples_of left ≡ tuples_of (m ∷ left)
tuples_of-first (Payload t) left = refl
tuples_of-first (Begin id) left = refl
tuples_of-first (End id) left = refl
tuples_of-first (Checkpoint id) left = refl
tuples_of-first (Reset second) left = refl
tuples_of-first EndOfStream left = refl

-- the same of those that a part owns
owned_of-first : (n i : ℕ) (m : Message) (left : List Message) → owned_of n i (m ∷ []) ++ owned_of n i left ≡ owned_of n i (m ∷ left)
owned_of-first n i m left = sym (filter-append (λ (t : Tuple). owner_of n t.key == i) (tuples_of (m ∷ [])) (tuples_of left)) ∙ ap (owned n i) (tuples_of-first m left)

-- what taking the first message does to the bytes and the tuples
abbrev pub Takes : ℕ → ℕ → List ℕ → List ℕ → List Tuple → List Tuple → Type 0
Takes n i rest after old new = (m : Message) (tail : List ℕ) → IsMessage m → rest ≡ spelling m ++ tail → (after ≡ tail) × (new ≡ old ++ owned_of n i (m ∷ []))

-- one message less is left
pub one_less : (n i : ℕ) (old : List Tuple) (messages : List Message) (new more : List Tuple) (rest after : List ℕ) → 0 < length rest → Takes n i rest after new more → IsLeft n i old messages new rest → IsLeft n i old messages more after
one_less n i old messages new more rest after some takes is = go is.left is.whole is.bytes is.tuples
  where
    go : (left : List Message) → AreMessages left → rest ≡ spellings left → new ++ owned_of n i left ≡ old ++ owned_of n i messages → IsLeft n i old messages more after
    go [] whole bytes tuples = absurd (omega (arith, some, ap length bytes))
    go (m ∷ left) whole bytes tuples =
        let taken = takes m (spellings left) whole.0 bytes in
        record {
          left = left;
          whole = whole.1;
          bytes = taken.0;
          tuples = rw taken.1 (append_assoc new (owned_of n i (m ∷ [])) (owned_of n i left) ∙ ap (λ ts. new ++ ts) (owned_of-first n i m left) ∙ tuples);
        }

pub shorter : (n i : ℕ) (rest after : List ℕ) (old new : List Tuple) (left : List Message) → AreMessages left → rest ≡ spellings left → 0 < length rest → Takes n i rest after old new → length after < length rest
shorter n i rest after old new [] whole bytes some takes = absurd (omega (arith, some, ap length bytes))
shorter n i rest after old new (m ∷ left) whole bytes some takes =
    let taken = takes m (spellings left) whole.0 bytes in
    omega (arith, length-spelling m, ap length taken.0, ap length bytes, length-append (spelling m) (spellings left))

-- where no byte is left, no message is
pub all_taken : (n i : ℕ) (old : List Tuple) (messages : List Message) (new : List Tuple) (rest : List ℕ) → length rest ≡ 0 → IsLeft n i old messages new rest → new ≡ old ++ owned_of n i messages
all_taken n i old messages new rest none is = go is.left is.bytes is.tuples
  where
    go : (left : List Message) → rest ≡ spellings left → new ++ owned_of n i left ≡ old ++ owned_of n i messages → new ≡ old ++ owned_of n i messages
    go [] bytes tuples = sym (append-nil new) ∙ tuples
    go (m ∷ left) bytes tuples = absurd (omega (arith, none, length-spelling m, ap length bytes, length-append (spelling m) (spellings left)))

tuples_of-append : (xs ys : List Message) → tuples_of (xs ++ ys) ≡ tuples_of xs ++ tuples_of ys
tuples_of-append [] ys = refl
tuples_of-append (Payload t ∷ xs) ys = ap (λ ts. t ∷ ts) (tuples_of-append xs ys)
tuples_of-append (Begin id ∷ xs) ys = tuples_of-append xs ys
tuples_of-append (End id ∷ xs) ys = tuples_of-append xs ys
tuples_of-append (Checkpoint id ∷ xs) ys = tuples_of-append xs ys
tuples_of-append (Reset second ∷ xs) ys = tuples_of-append xs ys
tuples_of-append (EndOfStream ∷ xs) ys = tuples_of-append xs ys

tuples_of-map : (tuples : List Tuple) → tuples_of (map Payload tuples) ≡ tuples
tuples_of-map [] = refl
tuples_of-map (t ∷ tuples) = ap (λ ts. t ∷ ts) (tuples_of-map tuples)

-- the first is no tuple, and there is none behind it
no_tuple : (m : Message) (messages : List Message) → tuples_of (m ∷ messages) ≡ [] → (tuples_of (m ∷ []) ≡ []) × (tuples_of messages ≡ [])
no_tuple (Payload t) messages none = absurd cc
no_tuple (Begin id) messages none = (refl, none)
no_tuple (End id) messages none = (refl, none)
no_tuple (Checkpoint id) messages none = (refl, none)
no_tuple (Reset second) messages none = (refl, none)
no_tuple EndOfStream messages none = (refl, none)

-- some of messages without tuples have none
none_of_some : (some all : List Message) → AreSome some all → tuples_of all ≡ [] → tuples_of some ≡ []
none_of_some [] all h none = refl
none_of_some (m ∷ some) [] h none = absurd h
none_of_some (m ∷ some) (first ∷ all) (inl (same, h)) none =
    let parts = no_tuple first all none in
    sym (tuples_of-first m some) ∙ rw (same, parts.0) (none_of_some some all h parts.1)
none_of_some (m ∷ some) (first ∷ all) (inr h) none = none_of_some (m ∷ some) all h (no_tuple first all none).1

if_any : (b : Bool) (m : Message) → tuples_of (m ∷ []) ≡ [] → tuples_of (cond b (m ∷ []) []) ≡ []
if_any true m none = none
if_any false m none = refl

no_tuples-closing : (plan : CutPlan) (window : ℕ) → tuples_of (closing plan window) ≡ []
no_tuples-closing plan window =
    let marked : tuples_of (checkpoint plan window) ≡ [] = if_any _ (Checkpoint (id_of plan window)) refl in
    let ended : tuples_of (stop plan window) ≡ [] = if_any _ EndOfStream refl in
    tuples_of-append (End (id_of plan window) ∷ checkpoint plan window) (stop plan window) ∙ rw (marked, ended) refl

no_tuples-opening : (plan : CutPlan) (window : ℕ) → tuples_of (opening plan window) ≡ []
no_tuples-opening plan window =
    let begun : tuples_of (reset plan window) ≡ [] = if_any _ (Reset (second_of plan.base window)) refl in
    tuples_of-append (reset plan window) (Begin (id_of plan window) ∷ []) ∙ rw begun refl

no_tuples-either : (b : Bool) (messages : List Message) → tuples_of messages ≡ [] → tuples_of (cond b messages []) ≡ []
no_tuples-either true messages none = none
no_tuples-either false messages none = refl

-- the tuples of a block
pub tuples_of-block : (plan : CutPlan) (block : Block) (spells : Spells plan block) → tuples_of (block_messages plan block spells.tuples spells.ends) ≡ spells.tuples
tuples_of-block plan block spells =
    let opens : tuples_of (cond (eqb block.index 0) (opening plan block.window) []) ≡ [] = no_tuples-either _ (opening plan block.window) (no_tuples-opening plan block.window) in
    let ends : tuples_of spells.ends ≡ [] = none_of_some spells.ends (closing plan block.window) spells.closes (no_tuples-closing plan block.window) in
    let front : tuples_of (cond (eqb block.index 0) (opening plan block.window) [] ++ map Payload spells.tuples) ≡ spells.tuples = tuples_of-append (cond (eqb block.index 0) (opening plan block.window) []) (map Payload spells.tuples) ∙ rw (opens, tuples_of-map spells.tuples) refl in
    tuples_of-append (cond (eqb block.index 0) (opening plan block.window) [] ++ map Payload spells.tuples) spells.ends ∙ rw (front, ends) (append-nil spells.tuples)

-- ---- who owns a message's tuple

-- where there is one part, it owns all
one_part : (number : ℕ) → number_owner 1 number ≡ 0
one_part number = omega arith

pub owned_all : (tuples : List Tuple) → owned 1 0 tuples ≡ tuples
owned_all [] = refl
owned_all (t ∷ tuples) = rw (one_part (hash_of t.key)) (ap (λ ts. t ∷ ts) (owned_all tuples))

-- a message that is no payload has no tuple
pub no_payload : (n i : ℕ) (m : Message) → head_of m ≡ None → owned_of n i (m ∷ []) ≡ tuples_of (m ∷ [])
no_payload n i (Payload t) none = absurd cc
no_payload n i (Begin id) none = refl
no_payload n i (End id) none = refl
no_payload n i (Checkpoint id) none = refl
no_payload n i (Reset second) none = refl
no_payload n i EndOfStream none = refl

head_is : (number len hash size : ℕ) → Path (Option (ℕ × ℕ)) (Some (hash, size)) (Some (number, len)) → (hash ≡ number) × (size ≡ len)
head_is number len hash size e =
    let p : Path (ℕ × ℕ) (hash, size) (number, len) = cc in
    (ap (λ (x : ℕ × ℕ). x.0) p, ap (λ (x : ℕ × ℕ). x.1) p)

-- a payload that the part owns, and one of another part
pub own_payload : (n i number len : ℕ) (m : Message) → head_of m ≡ Some (number, len) → number_owner n number ≡ i → owned_of n i (m ∷ []) ≡ tuples_of (m ∷ [])
own_payload n i number len (Payload t) head mine =
    let is = head_is number len (hash_of t.key) _ head in
    let owns : eqb (owner_of n t.key) i ≡ true = eq-eqb _ _ (ap (number_owner n) is.0 ∙ mine) in
    rw owns refl
own_payload n i number len (Begin id) head mine = refl
own_payload n i number len (End id) head mine = refl
own_payload n i number len (Checkpoint id) head mine = refl
own_payload n i number len (Reset second) head mine = refl
own_payload n i number len EndOfStream head mine = refl

pub other_payload : (n i number len : ℕ) (m : Message) → head_of m ≡ Some (number, len) → number_owner n number ≢ i → (owned_of n i (m ∷ []) ≡ []) × (len ≡ length (spelling m))
other_payload n i number len (Payload t) head other =
    let is = head_is number len (hash_of t.key) (length (spelling (Payload t))) head in
    let owns : eqb (owner_of n t.key) i ≡ false = ne_eqb _ _ (λ e. other (sym (ap (number_owner n) is.0) ∙ e)) in
    (rw owns refl, sym is.1)
other_payload n i number len (Begin id) head other = absurd cc
other_payload n i number len (End id) head other = absurd cc
other_payload n i number len (Checkpoint id) head other = absurd cc
other_payload n i number len (Reset second) head other = absurd cc
other_payload n i number len EndOfStream head other = absurd cc

-- what a test of emptiness says
pub is_some : (n : ℕ) → false ≡ eqb n 0 → 0 < n
is_some zero e = absurd cc
is_some (suc n) e = omega arith

pub is_none : (n : ℕ) → true ≡ eqb n 0 → n ≡ 0
is_none n e = eqb-true n 0 (sym e)

-- tuples that are added to what was added
pub added_more : (old mid new : List Tuple) → (more : List Tuple) × (mid ≡ old ++ more) → (more : List Tuple) × (new ≡ mid ++ more) → (more : List Tuple) × (new ≡ old ++ more)
added_more old mid new (a, first) (b, then) = (a ++ b, then ∙ ap (λ ts. ts ++ b) first ∙ append_assoc old a b)
