-- Messages behind messages: the order, the bytes, and the message right before.
use Rattle.std.proofs.Common.{◌≡◌, ℕ, suc, ◌+◌, ◌-◌, ◌<◌, List, [], ◌∷◌, ◌++◌, length, get_or, drop, Option, Some, None, Result, Ok, Err, true, refl, sym, ap, subst, ◌∙◌, append_assoc, arith}
use Rattle.std.proofs.lemmas.List.{length-append, nil_from_length, append-nil}
use Rattle.std.specs.Option.{option_copied, option_or}
use Rattle.std.specs.Slice.{IsGetResult}
use Rattle.std.specs.Borrow.{Bor}
use Rattle.std.proofs.lemmas.List.Concat.{flat_map-cons}
use Rattle.std.proofs.lemmas.Grind.{flat_map-append}
use Rattle.apx_wire.specs.declared.message.Message.{Message}
use Rattle.std.specs.Prelude.{IsTrue, IfErr, OnOk}
use Rattle.apx_wire.specs.declared.message.Message.TheVariants.{Payload, Begin, End, Checkpoint, Reset, EndOfStream}
use Rattle.apx_wire.specs.declared.fault.WireFault.{WireFault}
use Rattle.apx_wire.specs.declared.fault.WireFault.TheVariants.{BadType, BadKey, BadNumber, BadOrder, Memory}
use Rattle.apx_wire.specs.Judging.{UnlessMemory}
use Rattle.apx_wire.specs.Spelling.{spelling, spellings, BeginsWith}
use Rattle.apx_wire.specs.Order.{Before, beginning, window_after, with_message, with_messages, may_follow, AreInOrder}
use Rattle.apx_wire.specs.Stream.{Decoding, Decodes, Rejects, Settles, IsWrong, RejectsFrom, RejectsRest, ReadsTo, latest_after}
use Rattle.apx_wire.proofs.Messages.{judged-nothing}

-- the last of some messages is the one right before
pub latest_after-last : (latest : Option Message) (ms : List Message) (d : Message) → 0 < length ms → latest_after latest ms ≡ Some (get_or ms (length ms - 1) d)
latest_after-last latest [] d some = absurd (omega arith)
latest_after-last latest (m ∷ []) d some = refl
latest_after-last latest (m ∷ k ∷ ms) d some =
    let index : length (m ∷ k ∷ ms) - 1 ≡ suc (length (k ∷ ms) - 1) = omega arith in
    rw index (latest_after-last (Some m) (k ∷ ms) d (omega arith))

pub latest_after-last_is : (latest : Option Message) (ms : List Message) (last : Message) (n : ℕ) → n ≡ length ms → 0 < length ms → last ≡ get_or ms (n - 1) last → latest_after latest ms ≡ Some last
latest_after-last_is latest ms last n n-is some is = latest_after-last latest ms last some ∙ ap Some (ap (λ (k : ℕ). get_or ms (k - 1) last) (sym n-is) ∙ sym is)

-- the message right before, as code finds it
pub latest_behind : (ms : List Message) (n : ℕ) → n ≡ length ms → (back latest chosen : Option (Bor Message)) → IsGetResult ms 0 (n - 1) back → chosen ≡ option_or back latest → option_copied chosen ≡ latest_after (option_copied latest) ms
latest_behind ms n n-is None latest chosen item is =
    let nothing : ms ≡ [] = nil_from_length ms (omega (arith, item.3)) in
    ap option_copied is ∙ ap (latest_after (option_copied latest)) (sym nothing)
latest_behind ms n n-is (Some back) latest chosen item is =
    ap option_copied is ∙ sym (latest_after-last_is (option_copied latest) ms back.now n n-is item.3.0 item.1)

-- the last of some messages, or else the one right before
latest_after-is_some : (m : Message) (ms : List Message) → (k : Message) × (latest_after (Some m) ms ≡ Some k)
latest_after-is_some m [] = (m, refl)
latest_after-is_some m (k ∷ ms) = latest_after-is_some k ms

pub latest_or : (latest : Option Message) (ms : List Message) → option_or (latest_after None ms) latest ≡ latest_after latest ms
latest_or latest [] = refl
latest_or latest (m ∷ ms) =
    let last = latest_after-is_some m ms in
    ap (λ (o : Option Message). option_or o latest) last.1 ∙ sym last.1

pub with_messages-latest : (before : Before) (ms : List Message) → (with_messages before ms).latest ≡ latest_after before.latest ms
with_messages-latest before [] = refl
with_messages-latest before (m ∷ ms) = with_messages-latest (with_message before m) ms

pub with_messages-append : (before : Before) (xs ys : List Message) → with_messages before (xs ++ ys) ≡ with_messages (with_messages before xs) ys
with_messages-append before [] ys = refl
with_messages-append before (x ∷ xs) ys = with_messages-append (with_message before x) xs ys

pub AreInOrder-append : (before : Before) (xs ys : List Message) → AreInOrder before xs → AreInOrder (with_messages before xs) ys → AreInOrder before (xs ++ ys)
AreInOrder-append before [] ys first second = second
AreInOrder-append before (x ∷ xs) ys first second = (first.0, first.1, AreInOrder-append (with_message before x) xs ys first.2 second)

pub spellings-append : (xs ys : List Message) → spellings (xs ++ ys) ≡ spellings xs ++ spellings ys
spellings-append xs ys = flat_map-append spelling xs ys

-- What a loop over whole messages keeps: the bytes are these messages, in order, and the rest.
pub record Reading (before : Before) (bytes : List ℕ) (messages : List Message) (window : Option ℕ) (rest : List ℕ) : Type 0 where
  pub whole : bytes ≡ spellings messages ++ rest
  pub in_order : AreInOrder before messages
  pub window_is : window ≡ (with_messages before messages).window

-- one more message
pub Reading-more : (before : Before) (bytes : List ℕ) (messages : List Message) (window : Option ℕ) (rest : List ℕ) (m : Message) (n : ℕ) → Reading before bytes messages window rest → BeginsWith rest m n → may_follow (with_messages before messages) m ≡ true → Reading before bytes (messages ++ m ∷ []) (window_after window m) (drop n rest)
Reading-more before bytes messages window rest m n reading begins may =
    let one : spellings (m ∷ []) ≡ spelling m = flat_map-cons spelling m [] ∙ append-nil (spelling m) in
    let more : spellings (messages ++ m ∷ []) ≡ spellings messages ++ spelling m = spellings-append messages (m ∷ []) ∙ ap (λ (x : List ℕ). spellings messages ++ x) one in
    let behind : with_messages before (messages ++ m ∷ []) ≡ with_message (with_messages before messages) m = with_messages-append before messages (m ∷ []) in
    record {
      whole = reading.whole ∙ ap (λ (x : List ℕ). spellings messages ++ x) begins.whole ∙ sym (append_assoc (spellings messages) (spelling m) (drop n rest)) ∙ ap (λ (x : List ℕ). x ++ drop n rest) (sym more);
      in_order = AreInOrder-append before messages (m ∷ []) reading.in_order (begins.message, may, tt);
      window_is = ap (λ (w : Option ℕ). window_after w m) reading.window_is ∙ ap (λ (b : Before). b.window) (sym behind);
    }

pub length-spelling : (m : Message) → 0 < length (spelling m)
length-spelling (Payload t) = omega arith
length-spelling (Begin id) = omega arith
length-spelling (End id) = omega arith
length-spelling (Checkpoint id) = omega arith
length-spelling (Reset second) = omega arith
length-spelling EndOfStream = omega arith

-- what the order looks at, as code keeps it
pub before_is : (before : Before) (ms : List Message) (latest : Option Message) (window : Option ℕ) → latest ≡ latest_after before.latest ms → window ≡ (with_messages before ms).window → with_messages before ms ≡ record { latest = latest; window = window }
before_is before ms latest window latest-is window-is =
    let first = with_messages-latest before ms ∙ sym latest-is in
    let second = sym window-is in
    λ i. record { latest = first i; window = second i }

-- one more message, as code keeps it
pub Reading-next : (before : Before) (bytes : List ℕ) (messages : List Message) (window : Option ℕ) (latest : Option Message) (rest : List ℕ) (m : Message) (n : ℕ) (messages' : List Message) (window' : Option ℕ) (rest' : List ℕ) → Reading before bytes messages window rest → latest ≡ latest_after before.latest messages → BeginsWith rest m n × IsTrue (may_follow (record { latest = latest; window = window }) m) → messages' ≡ messages ++ m ∷ [] → window' ≡ window_after window m → rest' ≡ drop n rest → Reading before bytes messages' window' rest'
Reading-next before bytes messages window latest rest m n messages' window' rest' reading latest-is follows messages-is window-is rest-is =
    let may : may_follow (with_messages before messages) m ≡ true = subst (λ (b : Before). may_follow b m ≡ true) (sym (before_is before messages latest window latest-is reading.window_is)) follows.1 in
    let more = Reading-more before bytes messages window rest m n reading follows.0 may in
    rw (messages-is, window-is, rest-is) more

-- how far one more message reaches
pub place-next : (start place : ℕ) (messages : List Message) (m : Message) (n : ℕ) (messages' : List Message) → place ≡ start + length (spellings messages) → n ≡ length (spelling m) → messages' ≡ messages ++ m ∷ [] → place + n ≡ start + length (spellings messages')
place-next start place messages m n messages' place-is n-is messages-is =
    let one : spellings (m ∷ []) ≡ spelling m = flat_map-cons spelling m [] ∙ append-nil (spelling m) in
    let more : length (spellings messages') ≡ length (spellings messages) + length (spelling m) = ap (λ (x : List Message). length (spellings x)) messages-is ∙ ap length (spellings-append messages (m ∷ []) ∙ ap (λ (x : List ℕ). spellings messages ++ x) one) ∙ length-append (spellings messages) (spelling m) in
    omega (arith, more, place-is, n-is)

pub UnlessMemory-map : (fault : WireFault) (P Q : Type 0) → (P → Q) → UnlessMemory fault P → UnlessMemory fault Q
UnlessMemory-map (BadType at) P Q f p = f p
UnlessMemory-map (BadKey at) P Q f p = f p
UnlessMemory-map (BadNumber at) P Q f p = f p
UnlessMemory-map (BadOrder at) P Q f p = f p
UnlessMemory-map Memory P Q f p = tt

-- something is wrong behind the messages that were read
pub Reading-wrong : (before : Before) (start : ℕ) (bytes : List ℕ) (messages : List Message) (window : Option ℕ) (latest : Option Message) (place : ℕ) (rest : List ℕ) (fault : WireFault) → Reading before bytes messages window rest → latest ≡ latest_after before.latest messages → place ≡ start + length (spellings messages) → UnlessMemory fault (IsWrong (record { latest = latest; window = window }) place rest fault) → UnlessMemory fault (RejectsFrom before start bytes fault)
Reading-wrong before start bytes messages window latest place rest fault reading latest-is place-is wrong =
    UnlessMemory-map fault (IsWrong (record { latest = latest; window = window }) place rest fault) (RejectsFrom before start bytes fault) (λ w. record {
      messages = messages;
      tail = rest;
      whole = reading.whole;
      in_order = reading.in_order;
      wrong = subst (λ (p : ℕ). IsWrong (with_messages before messages) p rest fault) place-is (subst (λ (b : Before). IsWrong b place rest fault) (sym (before_is before messages latest window latest-is reading.window_is)) w);
    }) wrong

-- ---- a decoder and the stream that it has taken

-- nothing was taken yet
pub Decodes-new : (d : Decoding) → d.held ≡ [] → d.rest ≡ [] → d.before ≡ beginning → d.fed ≡ 0 → Decodes [] [] d
Decodes-new d held rest before fed = record {
  bytes = rw (held, rest) refl;
  in_order = rw held tt;
  before = rw held before;
  unfinished = rw rest (λ place. judged-nothing place);
  fed = fed;
}

-- the whole messages at the front of the rest were read
pub Settles-made : (old new : Decoding) (messages : List Message) (len : ℕ) (before : Before) → before ≡ old.before → new.held ≡ old.held ++ messages → ReadsTo before old.rest messages (drop len old.rest) → new.rest ≡ drop len old.rest → new.before.latest ≡ option_or (latest_after None messages) old.before.latest → new.before.window ≡ (with_messages before messages).window → new.fed ≡ old.fed → Settles old new
Settles-made old new messages len before before-is held reads rest latest window fed =
    let reads' : ReadsTo old.before old.rest messages new.rest = rw rest (subst (λ (b : Before). ReadsTo b old.rest messages (drop len old.rest)) before-is reads) in
    let window' : new.before.window ≡ (with_messages old.before messages).window = window ∙ ap (λ (b : Before). (with_messages b messages).window) before-is in
    let after = before_is old.before messages new.before.latest new.before.window (latest ∙ latest_or old.before.latest messages) window' in
    record { messages = messages; held = held; reads = reads'; before = sym after; fed = fed }

-- a decoder that has got one more piece, and hasn't read it
pub record Gets (old mid : Decoding) (piece : List ℕ) : Type 0 where
  pub held : mid.held ≡ old.held
  pub rest : mid.rest ≡ old.rest ++ piece
  pub before : mid.before ≡ old.before
  pub fed : mid.fed ≡ old.fed + length piece

module _ (old mid : Decoding) (piece stream : List ℕ) (handed : List Message) (gets : Gets old mid piece) (d : Decodes stream handed old) where
  -- the stream with the piece, behind the messages so far
  longer : (messages : List Message) (tail : List ℕ) → mid.rest ≡ spellings messages ++ tail → stream ++ piece ≡ spellings ((handed ++ old.held) ++ messages) ++ tail
  longer messages tail whole =
      let s = spellings (handed ++ old.held) in
      ap (λ (x : List ℕ). x ++ piece) d.bytes ∙ append_assoc s old.rest piece ∙ ap (λ (x : List ℕ). s ++ x) (sym gets.rest ∙ whole) ∙ sym (append_assoc s (spellings messages) tail) ∙ ap (λ (x : List ℕ). x ++ tail) (sym (spellings-append (handed ++ old.held) messages))

  in_order_still : (messages : List Message) → AreInOrder mid.before messages → AreInOrder beginning ((handed ++ old.held) ++ messages)
  in_order_still messages order =
      AreInOrder-append beginning (handed ++ old.held) messages d.in_order (subst (λ (b : Before). AreInOrder b messages) (gets.before ∙ d.before) order)

  before_still : (messages : List Message) → with_messages mid.before messages ≡ with_messages beginning ((handed ++ old.held) ++ messages)
  before_still messages =
      ap (λ (b : Before). with_messages b messages) (gets.before ∙ d.before) ∙ sym (with_messages-append beginning (handed ++ old.held) messages)

  place_still : (messages : List Message) → mid.fed - length mid.rest + length (spellings messages) ≡ 0 + length (spellings ((handed ++ old.held) ++ messages))
  place_still messages =
      let long : length (spellings ((handed ++ old.held) ++ messages)) ≡ length (spellings (handed ++ old.held)) + length (spellings messages) = ap length (spellings-append (handed ++ old.held) messages) ∙ length-append (spellings (handed ++ old.held)) (spellings messages) in
      let whole : length stream ≡ length (spellings (handed ++ old.held)) + length old.rest = ap length d.bytes ∙ length-append (spellings (handed ++ old.held)) old.rest in
      let rest : length mid.rest ≡ length old.rest + length piece = ap length gets.rest ∙ length-append old.rest piece in
      omega (arith, long, whole, rest, gets.fed, d.fed)

  pub Rejects-more : (fault : WireFault) → RejectsRest mid fault → Rejects (stream ++ piece) fault
  Rejects-more fault r = record {
    messages = (handed ++ old.held) ++ r.messages;
    tail = r.tail;
    whole = longer r.messages r.tail r.whole;
    in_order = in_order_still r.messages r.in_order;
    wrong = subst (λ (p : ℕ). IsWrong (with_messages beginning ((handed ++ old.held) ++ r.messages)) p r.tail fault) (place_still r.messages) (subst (λ (b : Before). IsWrong b (mid.fed - length mid.rest + length (spellings r.messages)) r.tail fault) (before_still r.messages) r.wrong);
  }

  pub Decodes-more : (new : Decoding) → Settles mid new → Decodes (stream ++ piece) handed new
  Decodes-more new s =
      let all : (handed ++ old.held) ++ s.messages ≡ handed ++ new.held = append_assoc handed old.held s.messages ∙ ap (λ (x : List Message). handed ++ x) (ap (λ (x : List Message). x ++ s.messages) (sym gets.held) ∙ sym s.held) in
      record {
        bytes = longer s.messages new.rest s.reads.whole ∙ ap (λ (x : List Message). spellings x ++ new.rest) all;
        in_order = subst (AreInOrder beginning) all (in_order_still s.messages s.reads.in_order);
        before = s.before ∙ before_still s.messages ∙ ap (with_messages beginning) all;
        unfinished = s.reads.unfinished;
        fed = s.fed ∙ gets.fed ∙ ap (λ (n : ℕ). n + length piece) d.fed ∙ sym (length-append stream piece);
      }

-- the same of what a call returned
pub feed_refused : (r : Result (Unit {0}) WireFault) (old mid : Decoding) (piece : List ℕ) → Gets old mid piece → IfErr r (λ fault. UnlessMemory fault (RejectsRest mid fault)) → IfErr r (λ fault. UnlessMemory fault ((stream : List ℕ) (handed : List Message) → Decodes stream handed old → Rejects (stream ++ piece) fault))
feed_refused (Ok x) old mid piece gets refused = tt
feed_refused (Err fault) old mid piece gets refused =
    UnlessMemory-map fault (RejectsRest mid fault) ((stream : List ℕ) (handed : List Message) → Decodes stream handed old → Rejects (stream ++ piece) fault) (λ r stream handed d. Rejects-more old mid piece stream handed gets d fault r) refused

pub feed_taken : (r : Result (Unit {0}) WireFault) (old mid new : Decoding) (piece : List ℕ) → Gets old mid piece → OnOk r (Settles mid new) → OnOk r ((stream : List ℕ) (handed : List Message) → Decodes stream handed old → Decodes (stream ++ piece) handed new)
feed_taken (Ok x) old mid new piece gets settles = λ stream handed d. Decodes-more old mid piece stream handed gets d new settles
feed_taken (Err fault) old mid new piece gets settles = tt
