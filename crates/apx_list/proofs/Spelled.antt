-- The blocks of a cut spell what they say.
use Rattle.std.proofs.Common.{◌≡◌, ℕ, ◌+◌, ◌-◌, ◌^◌, ◌<◌, ◌≤◌, List, [], ◌∷◌, ◌++◌, length, map, refl, sym, ap, subst, ◌∙◌, arith, Bool, true, false, cond, eqb, leb, eq-eqb, Option, Some, slice_get, append_assoc, length-append, inl, inr}
use Rattle.std.proofs.lemmas.List.{map-append, append-nil}
use Rattle.std.proofs.lemmas.Bool.{le-leb, ne_eqb}
use Rattle.std.proofs.Math.Seq.{get_or-append_seam}
use Rattle.apx_order.specs.Sorted.{IsAscending, IsFloor}
use Rattle.apx_tuple.specs.declared.tuple.Tuple.{Tuple}
use Rattle.apx_tuple.specs.Tuple.{tuple_order}
use Rattle.apx_window.specs.Identifier.{second_of, counter_of, identifier_of}
use Rattle.apx_wire.specs.declared.message.Message.{Message}
use Rattle.apx_wire.specs.declared.message.Message.TheVariants.{Payload, Begin, End, Checkpoint, Reset, EndOfStream}
use Rattle.apx_wire.specs.Spelling.{IsMessage, spelling, spellings}
use Rattle.apx_wire.proofs.Streams.{spellings-append}
use Rattle.apx_list.specs.declared.plan.CutPlan.{CutPlan}
use Rattle.apx_list.specs.declared.block.Block.{Block}
use Rattle.apx_list.specs.Plan.{IsPlan, IsWindow}
use Rattle.apx_list.specs.Messages.{opening, closing, reset, checkpoint, stop, id_of, messages_of}
use Rattle.apx_list.specs.Block.{AreMessages, AreSome, Spells, AllSpell}
use Rattle.apx_list.specs.Window.{IsAt, SpellRest, SpellWindow}
use Rattle.apx_list.specs.Cut.{pieces_from, pieces_of, numbered, blocks_of}
use Rattle.apx_list.proofs.Numbers.{slice_get-is}

-- ---- rows of messages

pub AreMessages-append : (xs ys : List Message) → AreMessages xs → AreMessages ys → AreMessages (xs ++ ys)
AreMessages-append [] ys h k = k
AreMessages-append (m ∷ xs) ys h k = (h.0, AreMessages-append xs ys h.1 k)

-- one message more
spellings-more : (bytes : List ℕ) (ms : List Message) (m : Message) → bytes ≡ spellings ms → bytes ++ spelling m ≡ spellings (ms ++ m ∷ [])
spellings-more bytes ms m is = rw is (ap (λ (x : List ℕ). spellings ms ++ x) (sym (append-nil (spelling m))) ∙ sym (spellings-append ms (m ∷ [])))

AreSome-more : (some all more : List Message) → AreSome some all → AreSome some (all ++ more)
AreSome-more [] all more h = tt
AreSome-more (m ∷ some) [] more h = absurd h
AreSome-more (m ∷ some) (first ∷ all) more (inl (same, h)) = inl (same, AreSome-more some all more h)
AreSome-more (m ∷ some) (first ∷ all) more (inr h) = inr (AreSome-more (m ∷ some) all more h)

AreSome-one : (all : List Message) (m : Message) → AreSome (m ∷ []) (all ++ m ∷ [])
AreSome-one [] m = inl (refl, tt)
AreSome-one (first ∷ all) m = inr (AreSome-one all m)

AreSome-same : (some all : List Message) (m : Message) → AreSome some all → AreSome (some ++ m ∷ []) (all ++ m ∷ [])
AreSome-same [] all m h = AreSome-one all m
AreSome-same (x ∷ some) [] m h = absurd h
AreSome-same (x ∷ some) (first ∷ all) m (inl (same, h)) = inl (same, AreSome-same some all m h)
AreSome-same (x ∷ some) (first ∷ all) m (inr h) = inr (AreSome-same (x ∷ some) all m h)

abbrev last_of : List Message → Option Message
last_of ms = slice_get ms (length ms - 1)

last_of-append : (ms : List Message) (m : Message) → last_of (ms ++ m ∷ []) ≡ Some m
last_of-append ms m =
    let at : length (ms ++ m ∷ []) - 1 ≡ length ms = omega (arith, length-append ms (m ∷ [])) in
    rw at (slice_get-is (ms ++ m ∷ []) (length ms) m (omega (arith, length-append ms (m ∷ []))) (sym (get_or-append_seam ms m [] m)))

-- ---- ascending tuples

IsFloor-front : (x : Tuple) (xs ys : List Tuple) → IsFloor tuple_order x (xs ++ ys) → IsFloor tuple_order x xs
IsFloor-front x [] ys h = tt
IsFloor-front x (y ∷ xs) ys h = (h.0, IsFloor-front x xs ys h.1)

IsAscending-front : (xs ys : List Tuple) → IsAscending tuple_order (xs ++ ys) → IsAscending tuple_order xs
IsAscending-front [] ys h = tt
IsAscending-front (x ∷ xs) ys h = (IsFloor-front x xs ys h.0, IsAscending-front xs ys h.1)

IsAscending-back : (xs ys : List Tuple) → IsAscending tuple_order (xs ++ ys) → IsAscending tuple_order ys
IsAscending-back [] ys h = h
IsAscending-back (x ∷ xs) ys h = IsAscending-back xs ys h.1

-- ---- the blocks behind the current piece

-- what a block's messages are in front of those that close the window
abbrev front_of : CutPlan → ℕ → ℕ → List Tuple → List Message
front_of plan window index tuples = cond (eqb index 0) (opening plan window) [] ++ map Payload tuples

abbrev block_at : ℕ → ℕ → ℕ → List ℕ → Block
block_at window count index piece = record { window = window; index = index; last = eqb (index + 1) count; bytes = piece }

-- what the blocks of some pieces do, with these tuples
abbrev NumberedSpell : CutPlan → ℕ → ℕ → ℕ → List Tuple → List (List ℕ) → Type 0
NumberedSpell plan window count index tuples pieces = count ≡ index + length pieces → SpellRest plan window index (numbered window count index pieces) tuples

-- a block in front of others of its window
rest_more : (plan : CutPlan) (window index : ℕ) (block : Block) (blocks : List Block) (tuples rest : List Tuple) (spells : Spells plan block) → tuples ≡ spells.tuples ++ rest → IsAt window index false block → SpellRest plan window (index + 1) blocks rest → SpellRest plan window index (block ∷ blocks) tuples
rest_more plan window index block [] tuples rest spells is at h = absurd h
rest_more plan window index block (next ∷ blocks) tuples rest spells is at h = (at, spells, rest, is, h)

-- each of them spells what it says
rest_spells : (plan : CutPlan) (window index : ℕ) (blocks : List Block) (tuples : List Tuple) → SpellRest plan window index blocks tuples → AllSpell plan blocks
rest_spells plan window index [] tuples h = absurd h
rest_spells plan window index (block ∷ []) tuples h = (h.1, tt)
rest_spells plan window index (block ∷ next ∷ blocks) tuples h = (h.1, rest_spells plan window (index + 1) (next ∷ blocks) h.2 h.4)

choose : (fits : Bool) (P : List (List ℕ) → Type 0) (joined begun : List (List ℕ)) → P joined → P begun → P (cond fits joined begun)
choose true P joined begun p q = p
choose false P joined begun p q = q

first_isnt : (index : ℕ) → eqb (index + 1) 0 ≡ false
first_isnt index = ne_eqb (index + 1) 0 (λ e. omega (arith, e))

-- a current piece whose messages go up to a part of those that close the window
record IsPiece (plan : CutPlan) (window index : ℕ) (piece : List ℕ) (tuples : List Tuple) (ends done : List Message) : Type 0 where
  pub closes : AreSome ends done
  pub last : last_of ends ≡ last_of done
  pub ascends : IsAscending tuple_order tuples
  pub whole : AreMessages (front_of plan window index tuples ++ ends)
  pub some : 0 < length (front_of plan window index tuples ++ ends)
  pub bytes : piece ≡ spellings (front_of plan window index tuples ++ ends)

abbrev spells : (plan : CutPlan) (window count index : ℕ) (piece : List ℕ) (tuples : List Tuple) (ends done rest : List Message) → closing plan window ≡ done ++ rest → (eqb (index + 1) count ≡ true → rest ≡ []) → IsPiece plan window index piece tuples ends done → Spells plan (block_at window count index piece)
spells plan window count index piece tuples ends done rest split marked is = record {
  tuples = tuples;
  ends = ends;
  ascends = is.ascends;
  closes = rw split (AreSome-more ends done rest is.closes);
  last = λ at_end.
      let all : closing plan window ≡ done = split ∙ rw (marked at_end) (append-nil done) in
      is.last ∙ ap last_of (sym all);
  some = is.some;
  whole = is.whole;
  bytes = is.bytes;
}

-- there is a piece
pieces_some : (size : ℕ) (piece : List ℕ) (messages : List (List ℕ)) → 0 < length (pieces_from size piece messages)
pieces_some size piece [] = omega arith
pieces_some size piece (m ∷ messages) =
    choose (leb (length piece + length m) size) (λ ps. 0 < length ps) (pieces_from size (piece ++ m) messages) (piece ∷ pieces_from size m messages) (pieces_some size (piece ++ m) messages) (omega arith)

-- a piece with another one behind it isn't the last
not_last : (count index : ℕ) (behind : List (List ℕ)) → 0 < length behind → count ≡ index + (length behind + 1) → eqb (index + 1) count ≡ false
not_last count index behind some counted = ne_eqb (index + 1) count (λ e. omega (arith, some, counted, e))

-- a closing message that goes into the piece
joins : (plan : CutPlan) (window index : ℕ) (piece : List ℕ) (tuples : List Tuple) (ends done : List Message) (m : Message) → IsMessage m → IsPiece plan window index piece tuples ends done → IsPiece plan window index (piece ++ spelling m) tuples (ends ++ m ∷ []) (done ++ m ∷ [])
joins plan window index piece tuples ends done m fits is =
    let grouped : (front_of plan window index tuples ++ ends) ++ m ∷ [] ≡ front_of plan window index tuples ++ (ends ++ m ∷ []) = append_assoc (front_of plan window index tuples) ends (m ∷ []) in
    record {
      closes = AreSome-same ends done m is.closes;
      last = last_of-append ends m ∙ sym (last_of-append done m);
      ascends = is.ascends;
      whole = subst AreMessages grouped (AreMessages-append (front_of plan window index tuples ++ ends) (m ∷ []) is.whole (fits, tt));
      some = subst (λ ms. 0 < length ms) grouped (omega (arith, length-append (front_of plan window index tuples ++ ends) (m ∷ [])));
      bytes = spellings-more piece (front_of plan window index tuples ++ ends) m is.bytes ∙ ap spellings grouped;
    }

-- one that begins a piece
opens : (plan : CutPlan) (window index : ℕ) (done : List Message) (m : Message) → IsMessage m → IsPiece plan window (index + 1) (spelling m) [] (m ∷ []) (done ++ m ∷ [])
opens plan window index done m fits = record {
  closes = AreSome-one done m;
  last = sym (last_of-append done m);
  ascends = tt;
  whole = rw (first_isnt index) (fits, tt);
  some = rw (first_isnt index) (omega arith);
  bytes = rw (first_isnt index) (sym (append-nil (spelling m)));
}

in_closing : (plan : CutPlan) (window size count : ℕ) (rest : List Message) (index : ℕ) (piece : List ℕ) (tuples : List Tuple) (ends done : List Message) → closing plan window ≡ done ++ rest → AreMessages rest → IsPiece plan window index piece tuples ends done → NumberedSpell plan window count index tuples (pieces_from size piece (map spelling rest))
in_closing plan window size count [] index piece tuples ends done split whole is =
    λ counted.
    let marked : eqb (index + 1) count ≡ true = eq-eqb (index + 1) count (sym counted) in
    ((refl, refl, marked), spells plan window count index piece tuples ends done [] split (λ _. refl) is, refl)
in_closing plan window size count (m ∷ rest) index piece tuples ends done split whole is =
    let next : closing plan window ≡ (done ++ m ∷ []) ++ rest = split ∙ sym (append_assoc done (m ∷ []) rest) in
    let behind = pieces_from size (spelling m) (map spelling rest) in
    choose (leb (length piece + length (spelling m)) size) (NumberedSpell plan window count index tuples) (pieces_from size (piece ++ spelling m) (map spelling rest)) (piece ∷ behind)
    (in_closing plan window size count rest index (piece ++ spelling m) tuples (ends ++ m ∷ []) (done ++ m ∷ []) next whole.1 (joins plan window index piece tuples ends done m whole.0 is))
    (λ counted.
    let unmarked = not_last count index behind (pieces_some size (spelling m) (map spelling rest)) (omega (arith, counted)) in
    rest_more plan window index (block_at window count index piece) (numbered window count (index + 1) behind) tuples []
    (spells plan window count index piece tuples ends done (m ∷ rest) split (λ marked. absurd (cc (marked, unmarked))) is)
    (sym (append-nil tuples))
    (refl, refl, unmarked)
    (in_closing plan window size count rest (index + 1) (spelling m) [] (m ∷ []) (done ++ m ∷ []) next whole.1 (opens plan window index done m whole.0) (omega (arith, counted))))

-- a current piece whose last message opens the window or is a tuple, with the tuples that come after it
record IsFront (plan : CutPlan) (window index : ℕ) (piece : List ℕ) (tuples left : List Tuple) : Type 0 where
  pub ascends : IsAscending tuple_order (tuples ++ left)
  pub whole : AreMessages (front_of plan window index tuples)
  pub some : 0 < length (front_of plan window index tuples)
  pub bytes : piece ≡ spellings (front_of plan window index tuples)

as_piece : (plan : CutPlan) (window index : ℕ) (piece : List ℕ) (tuples left : List Tuple) → IsFront plan window index piece tuples left → IsPiece plan window index piece tuples [] []
as_piece plan window index piece tuples left is =
    let alone : front_of plan window index tuples ++ [] ≡ front_of plan window index tuples = append-nil (front_of plan window index tuples) in
    record {
      closes = tt;
      last = refl;
      ascends = IsAscending-front tuples left is.ascends;
      whole = rw alone is.whole;
      some = rw alone is.some;
      bytes = rw alone is.bytes;
    }

-- a tuple that goes into the piece, and one that begins a piece
tuple_joins : (plan : CutPlan) (window index : ℕ) (piece : List ℕ) (tuples : List Tuple) (t : Tuple) (left : List Tuple) → IsMessage (Payload t) → IsFront plan window index piece tuples (t ∷ left) → IsFront plan window index (piece ++ spelling (Payload t)) (tuples ++ t ∷ []) left
tuple_joins plan window index piece tuples t left fits is =
    let begun = cond (eqb index 0) (opening plan window) [] in
    let grouped : front_of plan window index tuples ++ Payload t ∷ [] ≡ front_of plan window index (tuples ++ t ∷ []) = append_assoc begun (map Payload tuples) (Payload t ∷ []) ∙ ap (λ ms. begun ++ ms) (sym (map-append Payload tuples (t ∷ []))) in
    record {
      ascends = rw (append_assoc tuples (t ∷ []) left) is.ascends;
      whole = subst AreMessages grouped (AreMessages-append (front_of plan window index tuples) (Payload t ∷ []) is.whole (fits, tt));
      some = subst (λ ms. 0 < length ms) grouped (omega (arith, length-append (front_of plan window index tuples) (Payload t ∷ [])));
      bytes = spellings-more piece (front_of plan window index tuples) (Payload t) is.bytes ∙ ap spellings grouped;
    }

tuple_opens : (plan : CutPlan) (window index : ℕ) (piece : List ℕ) (tuples : List Tuple) (t : Tuple) (left : List Tuple) → IsMessage (Payload t) → IsFront plan window index piece tuples (t ∷ left) → IsFront plan window (index + 1) (spelling (Payload t)) (t ∷ []) left
tuple_opens plan window index piece tuples t left fits is = record {
  ascends = IsAscending-back tuples (t ∷ left) is.ascends;
  whole = rw (first_isnt index) (fits, tt);
  some = rw (first_isnt index) (omega arith);
  bytes = rw (first_isnt index) (sym (append-nil (spelling (Payload t))));
}

in_tuples : (plan : CutPlan) (window size count : ℕ) (left : List Tuple) (index : ℕ) (piece : List ℕ) (tuples : List Tuple) → AreMessages (map Payload left) → AreMessages (closing plan window) → IsFront plan window index piece tuples left → NumberedSpell plan window count index (tuples ++ left) (pieces_from size piece (map spelling (map Payload left ++ closing plan window)))
in_tuples plan window size count [] index piece tuples fit closes is =
    rw (append-nil tuples) (in_closing plan window size count (closing plan window) index piece tuples [] [] refl closes (as_piece plan window index piece tuples [] is))
in_tuples plan window size count (t ∷ left) index piece tuples fit closes is =
    let behind = pieces_from size (spelling (Payload t)) (map spelling (map Payload left ++ closing plan window)) in
    choose (leb (length piece + length (spelling (Payload t))) size) (NumberedSpell plan window count index (tuples ++ t ∷ left)) (pieces_from size (piece ++ spelling (Payload t)) (map spelling (map Payload left ++ closing plan window))) (piece ∷ behind)
    (subst (λ (ts : List Tuple). NumberedSpell plan window count index ts (pieces_from size (piece ++ spelling (Payload t)) (map spelling (map Payload left ++ closing plan window)))) (append_assoc tuples (t ∷ []) left) (in_tuples plan window size count left index (piece ++ spelling (Payload t)) (tuples ++ t ∷ []) fit.1 closes (tuple_joins plan window index piece tuples t left fit.0 is)))
    (λ counted.
    let unmarked = not_last count index behind (pieces_some size (spelling (Payload t)) (map spelling (map Payload left ++ closing plan window))) (omega (arith, counted)) in
    rest_more plan window index (block_at window count index piece) (numbered window count (index + 1) behind) (tuples ++ t ∷ left) (t ∷ left)
    (spells plan window count index piece tuples [] [] (closing plan window) refl (λ marked. absurd (cc (marked, unmarked))) (as_piece plan window index piece tuples (t ∷ left) is))
    refl
    (refl, refl, unmarked)
    (in_tuples plan window size count left (index + 1) (spelling (Payload t)) (t ∷ []) fit.1 closes (tuple_opens plan window index piece tuples t left fit.0 is) (omega (arith, counted))))

-- ---- the whole window

-- a message that goes into the current piece
goes_in : (size : ℕ) (piece m : List ℕ) (messages : List (List ℕ)) → length piece + length m ≤ size → pieces_from size piece (m ∷ messages) ≡ pieces_from size (piece ++ m) messages
goes_in size piece m messages fits = rw (le-leb (length piece + length m) size fits) refl

-- what opens a window is in its first piece
opened_with : (b : Bool) (size second id : ℕ) (messages : List Message) → 1040 ≤ size → pieces_from size [] (map spelling ((cond b (Reset second ∷ []) [] ++ Begin id ∷ []) ++ messages)) ≡ pieces_from size (spellings (cond b (Reset second ∷ []) [] ++ Begin id ∷ [])) (map spelling messages)
opened_with true size second id messages large =
    goes_in size [] (spelling (Reset second)) (map spelling (Begin id ∷ messages)) (omega (arith, large)) ∙ goes_in size (spelling (Reset second)) (spelling (Begin id)) (map spelling messages) (omega (arith, large))
opened_with false size second id messages large =
    goes_in size [] (spelling (Begin id)) (map spelling messages) (omega (arith, large))

id_fits : (plan : CutPlan) (window : ℕ) → IsPlan plan → IsWindow plan window → (id_of plan window < 2 ^ 64) × (second_of plan.base window < 2 ^ 32)
unfolding identifier_of
id_fits plan window is in_run =
    let second : second_of plan.base window < 2 ^ 32 = omega (arith, is.base, is.windows, in_run.there) in
    let counter : counter_of window < 16000 = omega arith in
    (omega (arith, second, counter), second)

if_message : (b : Bool) (m : Message) → IsMessage m → AreMessages (cond b (m ∷ []) [])
if_message true m fits = (fits, tt)
if_message false m fits = tt

pub AreMessages-opening : (plan : CutPlan) (window : ℕ) → IsPlan plan → IsWindow plan window → AreMessages (opening plan window)
AreMessages-opening plan window is in_run =
    let fits = id_fits plan window is in_run in
    AreMessages-append (reset plan window) (Begin (id_of plan window) ∷ []) (if_message _ (Reset (second_of plan.base window)) fits.1) (fits.0, tt)

pub AreMessages-closing : (plan : CutPlan) (window : ℕ) → IsPlan plan → IsWindow plan window → AreMessages (closing plan window)
AreMessages-closing plan window is in_run =
    let fits = id_fits plan window is in_run in
    AreMessages-append (End (id_of plan window) ∷ checkpoint plan window) (stop plan window) (fits.0, if_message _ (Checkpoint (id_of plan window)) fits.0) (if_message _ EndOfStream tt)

begun_some : (b : Bool) (second id : ℕ) → 0 < length (cond b (Reset second ∷ []) [] ++ Begin id ∷ [])
begun_some true second id = omega arith
begun_some false second id = omega arith

-- the blocks of a window's cut spell the window
pub window_spelled : (plan : CutPlan) (window : ℕ) (tuples : List Tuple) → IsPlan plan → IsWindow plan window → IsAscending tuple_order tuples → AreMessages (map Payload tuples) → SpellWindow plan window (blocks_of plan window tuples) tuples
unfolding blocks_of
window_spelled plan window tuples is in_run ascends fit =
    let pieces = pieces_from plan.size (spellings (opening plan window)) (map spelling (map Payload tuples ++ closing plan window)) in
    let grouped : messages_of plan window tuples ≡ opening plan window ++ (map Payload tuples ++ closing plan window) = append_assoc (opening plan window) (map Payload tuples) (closing plan window) in
    let first : pieces_of plan window tuples ≡ pieces = ap (λ ms. pieces_from plan.size [] (map spelling ms)) grouped ∙ opened_with (eqb (counter_of window) 0) plan.size (second_of plan.base window) (id_of plan window) (map Payload tuples ++ closing plan window) is.size_least in
    let alone : front_of plan window 0 [] ≡ opening plan window = append-nil (opening plan window) in
    let front : IsFront plan window 0 (spellings (opening plan window)) [] tuples = record {
      ascends = ascends;
      whole = rw alone (AreMessages-opening plan window is in_run);
      some = rw alone (begun_some (eqb (counter_of window) 0) (second_of plan.base window) (id_of plan window));
      bytes = rw alone refl;
    } in
    rw first (in_tuples plan window plan.size (length pieces) tuples 0 (spellings (opening plan window)) [] fit (AreMessages-closing plan window is in_run) front (omega arith))

-- each of them spells what it says
pub blocks_spell : (plan : CutPlan) (window : ℕ) (tuples : List Tuple) → IsPlan plan → IsWindow plan window → IsAscending tuple_order tuples → AreMessages (map Payload tuples) → AllSpell plan (blocks_of plan window tuples)
blocks_spell plan window tuples is in_run ascends fit = rest_spells plan window 0 (blocks_of plan window tuples) tuples (window_spelled plan window tuples is in_run ascends fit)
