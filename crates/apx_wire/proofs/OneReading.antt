-- A stream has one reading: one list of messages and one rest, or one thing that is wrong.
use Rattle.std.proofs.Common.{◌≡◌, ℕ, ◌+◌, List, [], ◌∷◌, ◌++◌, length, None, Result, Ok, Err, true, false, refl, sym, ap, subst, ◌∙◌, append_assoc, inl, inr, ◌⊎◌}
use Rattle.std.specs.Prelude.{IfErr, OnOk}
use Rattle.std.proofs.lemmas.List.Concat.{flat_map-cons}
use Rattle.apx_wire.specs.declared.message.Message.{Message}
use Rattle.apx_wire.specs.declared.fault.WireFault.{WireFault}
use Rattle.apx_wire.specs.declared.fault.WireFault.TheVariants.{BadType, BadKey, BadNumber, BadOrder, Memory}
use Rattle.apx_wire.specs.Spelling.{IsMessage, spelling, spellings}
use Rattle.apx_wire.specs.Judging.{judged, UnlessMemory}
use Rattle.apx_wire.specs.Order.{Before, beginning, with_message, with_messages, may_follow, AreInOrder}
use Rattle.apx_wire.specs.Stream.{Decoding, Decodes, Rejects, Settles, IsUnfinished, IsWrong, RejectsRest}
use Rattle.apx_wire.proofs.Messages.{Judgement, read, read_is, judged_again, spelled_once}
use Rattle.std.proofs.lemmas.Result.{on_ok_weaker, MatchResult-weaker}
use Rattle.apx_wire.proofs.Streams.{Gets, UnlessMemory-map, feed_refused, feed_taken}

none_or_fault : (fault : WireFault) → Path Judgement (Ok None) (Err fault) → ⊥
none_or_fault fault e = cc

none_or_read : (m : Message) (n : ℕ) → Path Judgement (Ok None) (read m n) → ⊥
none_or_read m n e = cc

fault_or_read : (fault : WireFault) (m : Message) (n : ℕ) → Path Judgement (Err fault) (read m n) → ⊥
fault_or_read fault m n e = cc

one_fault : (f g : WireFault) → Path Judgement (Err f) (Err g) → f ≡ g
one_fault f g e = cc

one_answer : true ≡ false → ⊥
one_answer e = cc

-- where the messages of a stream end
abbrev Ends : Before → List ℕ → Type 0
Ends before tail = IsUnfinished tail ⊎ ((place : ℕ) × (fault : WireFault) × IsWrong before place tail fault)

-- no message that may come stands there
no_message : (before : Before) (tail : List ℕ) (m : Message) (rest : List ℕ) → tail ≡ spelling m ++ rest → IsMessage m → may_follow before m ≡ true → Ends before tail → ⊥
no_message before tail m rest e fits may (inl unfinished) =
    none_or_read m (length (spelling m)) (sym (unfinished 0) ∙ ap (judged 0) e ∙ judged_again 0 m rest fits)
no_message before tail m rest e fits may (inr (place, fault, inl wrong)) =
    fault_or_read fault m (length (spelling m)) (sym wrong ∙ ap (judged place) e ∙ judged_again place m rest fits)
no_message before tail m rest e fits may (inr (place, fault, inr (k, n, reads, late, is))) =
    let same = read_is k m n (length (spelling m)) (sym reads ∙ ap (judged place) e ∙ judged_again place m rest fits) in
    one_answer (sym may ∙ ap (may_follow before) (sym same.0) ∙ late)

next_is : (m : Message) (ms : List Message) (tail : List ℕ) → spellings (m ∷ ms) ++ tail ≡ spelling m ++ (spellings ms ++ tail)
next_is m ms tail = ap (λ (x : List ℕ). x ++ tail) (flat_map-cons spelling m ms) ∙ append_assoc (spelling m) (spellings ms) tail

pub one_reading : (before : Before) (ms ns : List Message) (t u : List ℕ) → spellings ms ++ t ≡ spellings ns ++ u → AreInOrder before ms → AreInOrder before ns → Ends (with_messages before ms) t → Ends (with_messages before ns) u → (ms ≡ ns) × (t ≡ u)
one_reading before [] [] t u e first second ends-t ends-u = (refl, e)
one_reading before [] (n ∷ ns) t u e first second ends-t ends-u =
    absurd (no_message before t n (spellings ns ++ u) (e ∙ next_is n ns u) second.0 second.1 ends-t)
one_reading before (m ∷ ms) [] t u e first second ends-t ends-u =
    absurd (no_message before u m (spellings ms ++ t) (sym e ∙ next_is m ms t) first.0 first.1 ends-u)
one_reading before (m ∷ ms) (n ∷ ns) t u e first second ends-t ends-u =
    let same = spelled_once m n (spellings ms ++ t) (spellings ns ++ u) first.0 second.0 (sym (next_is m ms t) ∙ e ∙ next_is n ns u) in
    let second' : AreInOrder (with_message before m) ns = subst (λ (k : Message). AreInOrder (with_message before k) ns) (sym same.0) second.2 in
    let ends-u' : Ends (with_messages (with_message before m) ns) u = subst (λ (k : Message). Ends (with_messages (with_message before k) ns) u) (sym same.0) ends-u in
    let others = one_reading (with_message before m) ms ns t u same.1 first.2 second' ends-t ends-u' in
    ((λ i. same.0 i ∷ others.0 i), others.1)

-- two decoders that have taken one stream have read the same
pub Decodes-once : (stream : List ℕ) (handed others : List Message) (d e : Decoding) → Decodes stream handed d → Decodes stream others e → (handed ++ d.held ≡ others ++ e.held) × (d.rest ≡ e.rest)
Decodes-once stream handed others d e first second =
    one_reading beginning (handed ++ d.held) (others ++ e.held) d.rest e.rest (sym first.bytes ∙ second.bytes) first.in_order second.in_order (inl first.unfinished) (inl second.unfinished)

-- where a decoder has taken a stream nothing is wrong with it
pub Decodes-not_wrong : (stream : List ℕ) (handed : List Message) (d : Decoding) (fault : WireFault) → Decodes stream handed d → Rejects stream fault → ⊥
Decodes-not_wrong stream handed d fault taken wrong =
    let same = one_reading beginning (handed ++ d.held) wrong.messages d.rest wrong.tail (sym taken.bytes ∙ wrong.whole) taken.in_order wrong.in_order (inl taken.unfinished) (inr (0 + length (spellings wrong.messages), fault, wrong.wrong)) in
    not_both (with_messages beginning wrong.messages) (0 + length (spellings wrong.messages)) wrong.tail fault (subst IsUnfinished same.1 taken.unfinished) wrong.wrong
  where
    not_both : (before : Before) (place : ℕ) (tail : List ℕ) (fault : WireFault) → IsUnfinished tail → IsWrong before place tail fault → ⊥
    not_both before place tail fault unfinished (inl wrong) = none_or_fault fault (sym (unfinished place) ∙ wrong)
    not_both before place tail fault unfinished (inr (m, n, reads, late, is)) = none_or_read m n (sym (unfinished place) ∙ reads)

-- one thing is the first that is wrong
pub Rejects-once : (stream : List ℕ) (f g : WireFault) → Rejects stream f → Rejects stream g → f ≡ g
Rejects-once stream f g first second =
    let place = 0 + length (spellings first.messages) in
    let same = one_reading beginning first.messages second.messages first.tail second.tail (sym first.whole ∙ second.whole) first.in_order second.in_order (inr (place, f, first.wrong)) (inr (0 + length (spellings second.messages), g, second.wrong)) in
    let second' : IsWrong (with_messages beginning first.messages) place first.tail g = subst (λ (tail : List ℕ). IsWrong (with_messages beginning first.messages) place tail g) (sym same.1) (subst (λ (ms : List Message). IsWrong (with_messages beginning ms) (0 + length (spellings ms)) second.tail g) (sym same.0) second.wrong) in
    one_wrong (with_messages beginning first.messages) place first.tail f g first.wrong second'
  where
    one_wrong : (before : Before) (place : ℕ) (tail : List ℕ) (f g : WireFault) → IsWrong before place tail f → IsWrong before place tail g → f ≡ g
    one_wrong before place tail f g (inl a) (inl b) = one_fault f g (sym a ∙ b)
    one_wrong before place tail f g (inl a) (inr (m, n, reads, late, is)) = absurd (fault_or_read f m n (sym a ∙ reads))
    one_wrong before place tail f g (inr (m, n, reads, late, is)) (inl b) = absurd (fault_or_read g m n (sym b ∙ reads))
    one_wrong before place tail f g (inr (m, n, reads, late, is)) (inr (m', n', reads', late', is')) = is ∙ sym is'

-- what a call returned is decided by the stream, unless memory ran out
decided : (r : Result (Unit {0}) WireFault) (stream : List ℕ) (handed : List Message) (d : Decoding) (fault : WireFault) → OnOk r (Decodes stream handed d) → IfErr r (λ f. UnlessMemory f (Rejects stream f)) → Rejects stream fault → (r ≡ Err fault) ⊎ (r ≡ Err Memory)
decided (Ok tt) stream handed d fault taken refused wrong = absurd (Decodes-not_wrong stream handed d fault taken wrong)
decided (Err (BadType at)) stream handed d fault taken refused wrong = inl (ap Err (Rejects-once stream (BadType at) fault refused wrong))
decided (Err (BadKey at)) stream handed d fault taken refused wrong = inl (ap Err (Rejects-once stream (BadKey at) fault refused wrong))
decided (Err (BadNumber at)) stream handed d fault taken refused wrong = inl (ap Err (Rejects-once stream (BadNumber at) fault refused wrong))
decided (Err (BadOrder at)) stream handed d fault taken refused wrong = inl (ap Err (Rejects-once stream (BadOrder at) fault refused wrong))
decided (Err Memory) stream handed d fault taken refused wrong = inr refl

pub feed_only : (r : Result (Unit {0}) WireFault) (old mid new : Decoding) (piece : List ℕ) → Gets old mid piece → OnOk r (Settles mid new) → IfErr r (λ fault. UnlessMemory fault (RejectsRest mid fault)) → (stream : List ℕ) (handed : List Message) (fault : WireFault) → Decodes stream handed old → Rejects (stream ++ piece) fault → (r ≡ Err fault) ⊎ (r ≡ Err Memory)
feed_only r old mid new piece gets settles refused stream handed fault d wrong =
    let taken : OnOk r (Decodes (stream ++ piece) handed new) = on_ok_weaker r (λ t. t stream handed d) (feed_taken r old mid new piece gets settles) in
    let explained : IfErr r (λ f. UnlessMemory f (Rejects (stream ++ piece) f)) = MatchResult-weaker r (feed_refused r old mid piece gets refused) (λ x t. t) (λ f u. UnlessMemory-map f ((s : List ℕ) (h : List Message) → Decodes s h old → Rejects (s ++ piece) f) (Rejects (stream ++ piece) f) (λ t. t stream handed d) u) in
    decided r (stream ++ piece) handed new fault taken explained wrong
