-- What is read as an entry is its text, and its text is read as that entry.
use Rattle.std.proofs.Common.{◌≡◌, ℕ, ◌^◌, ◌<◌, ◌≤◌, ◌&&◌, nat_lt, Bool, true, false, cond, List, [], ◌∷◌, ◌++◌, codes, decimal, Option, Some, None, refl, sym, ap, ap₂, subst, ◌∙◌, arith}
use Rattle.std.specs.Option.{option_map, option_and_then}
use Rattle.std.specs.Str.{bytes_eq}
use Rattle.std.proofs.lemmas.Bool.{and_parts, lt-ltb}
use Rattle.std.proofs.lemmas.Option.{option_and_then_some, cond_some}
use Rattle.std.proofs.lemmas.Slice.Eq.{bytes_eq-Decides}
use borrow.Author.Tests.{ltb-true}
use Rattle.apx_history.specs.declared.Entry.{Entry}
use Rattle.apx_history.specs.declared.Event.{Event}
use Rattle.apx_history.specs.declared.Event.TheVariants.{Start, Write, Finish, Save, Advance, Commit, Purge, Kill, Repartition, End, Fault}
use Rattle.apx_pass.specs.Script.{at_space, after_word}
use Rattle.apx_audit.specs.Text.{place_text, event_text, entry_text, IsPlace, IsEvent, IsEntry}
use Rattle.apx_audit.specs.Reading.{number_of, place_of, event_at, event_with, event_by, named_event, event_of, entry_of}
use Rattle.apx_audit.proofs.Words.{is_free, free-append, space_there, space_none, space_is}
use Rattle.apx_audit.proofs.Numbers.{free-decimal, number_is, number_again}

-- ---- words

-- a word and the rest of a text
word_there : {X Y : Type 0} (word_of : List ℕ → Option X) (rest_of : X → List ℕ → Option Y) (word rest : List ℕ) (x : X) →
    is_free 32 word ≡ true → word_of word ≡ Some x → after_word word_of rest_of (word ++ 32 ∷ rest) ≡ rest_of x rest
unfolding after_word
word_there word_of rest_of word rest x free is = rw (space_there word rest free, is) refl

word_none : {X Y : Type 0} (word_of : List ℕ → Option X) (rest_of : X → List ℕ → Option Y) (text : List ℕ) →
    is_free 32 text ≡ true → after_word word_of rest_of text ≡ None
unfolding after_word
word_none word_of rest_of text free = rw (space_none text free) refl

-- what a text whose first word was read consists of
record IsWord {X Y : Type 0} (word_of : List ℕ → Option X) (rest_of : X → List ℕ → Option Y) (text : List ℕ) (y : Y) : Type 0 where
  word : List ℕ
  rest : List ℕ
  x : X
  split : text ≡ word ++ 32 ∷ rest
  reads : word_of word ≡ Some x
  goes_on : rest_of x rest ≡ Some y

word_is : {X Y : Type 0} (word_of : List ℕ → Option X) (rest_of : X → List ℕ → Option Y) (text : List ℕ) (y : Y) →
    after_word word_of rest_of text ≡ Some y → IsWord word_of rest_of text y
unfolding after_word
word_is word_of rest_of text y e =
    option_and_then_some _ (at_space text) y e
    (λ p parts more. option_and_then_some _ (word_of p.0) y more
    (λ x first behind. record { word = p.0; rest = p.1; x = x; split = space_is text p parts; reads = first; goes_on = behind }))

-- ---- a partition and a window

place_again : (o i w : ℕ) → IsPlace o i w → place_of (place_text o i w) ≡ Some (o, i, w)
unfolding place_of place_text
place_again o i w is =
    let op = is.op in let part = is.part in let window = is.window in
    word_there _ _ (decimal o) (decimal i ++ 32 ∷ decimal w) o (free-decimal 32 o refl (omega arith)) (number_again 65535 o (omega arith) (omega arith))
    ∙ (word_there _ _ (decimal i) (decimal w) i (free-decimal 32 i refl (omega arith)) (number_again 255 i (omega arith) (omega arith))
    ∙ ap (option_map (λ (n : ℕ). (o, i, n))) (number_again 4294967295 w (omega arith) (omega arith)))

last_is : (o i : ℕ) (text : List ℕ) (p : ℕ × ℕ × ℕ) → option_map (λ (n : ℕ). (o, i, n)) (number_of 4294967295 text) ≡ Some p →
    (o ≡ p.0) × (i ≡ p.1) × (text ≡ decimal p.2) × (p.2 ≤ 4294967295)
last_is o i text p e = by (number_of 4294967295 text) refl e
  where
    by : (r : Option ℕ) → number_of 4294967295 text ≡ r → option_map (λ (n : ℕ). (o, i, n)) r ≡ Some p →
        (o ≡ p.0) × (i ≡ p.1) × (text ≡ decimal p.2) × (p.2 ≤ 4294967295)
    by None none same = cc
    by (Some n) some same =
        let read : ℕ × ℕ × ℕ = (o, i, n) in
        let parts : read ≡ p = cc in
        let is = number_is 4294967295 n text (omega arith) some in
        let window : n ≡ p.2 = ap (λ (q : ℕ × ℕ × ℕ). q.2) parts in
        (ap (λ (q : ℕ × ℕ × ℕ). q.0) parts, ap (λ (q : ℕ × ℕ × ℕ). q.1) parts, is.0 ∙ ap decimal window, omega (arith, is.1))

place_is : (text : List ℕ) (p : ℕ × ℕ × ℕ) → place_of text ≡ Some p → (text ≡ place_text p.0 p.1 p.2) × IsPlace p.0 p.1 p.2
unfolding place_of place_text
place_is text p e =
    let first = word_is _ _ text p e in
    let second = word_is _ _ first.rest p first.goes_on in
    let third = last_is first.x second.x second.rest p second.goes_on in
    let op = number_is 65535 first.x first.word (omega arith) first.reads in
    let part = number_is 255 second.x second.word (omega arith) second.reads in
    let joined : List ℕ → List ℕ → List ℕ = λ x y. x ++ 32 ∷ y in (
      first.split ∙ ap₂ joined (op.0 ∙ ap decimal third.0) (second.split ∙ ap₂ joined (part.0 ∙ ap decimal third.1) third.2),
      record { op = omega (arith, op.1, third.0); part = omega (arith, part.1, third.1); window = omega (arith, third.3) },
    )

-- one number has no space
number_alone : (n : ℕ) → n < 2 ^ 64 → place_of (decimal n) ≡ None
unfolding place_of
number_alone n small = word_none _ _ (decimal n) (free-decimal 32 n refl small)

-- ---- events

named : (name numbers : List ℕ) → is_free 32 name ≡ true → bytes_eq (name ++ 32 ∷ numbers) (codes "end") ≡ false →
    event_of (name ++ 32 ∷ numbers) ≡ event_by name (place_of numbers) (number_of 4294967295 numbers)
unfolding event_of
named name numbers free other =
    ap (λ (b : Bool). cond b (Some End) (option_and_then named_event (at_space (name ++ 32 ∷ numbers)))) other
    ∙ ap (option_and_then named_event) (space_there name numbers free)

ended : event_of (codes "end") ≡ Some End
unfolding event_of
ended = refl

of_place : (name : List ℕ) (o i w : ℕ) (e : Event) → is_free 32 name ≡ true → bytes_eq (name ++ 32 ∷ place_text o i w) (codes "end") ≡ false →
    IsPlace o i w → event_at name (o, i, w) ≡ Some e → event_of (name ++ 32 ∷ place_text o i w) ≡ Some e
of_place name o i w e free other is at =
    named name (place_text o i w) free other
    ∙ (ap (λ (p : Option (ℕ × ℕ × ℕ)). event_by name p (number_of 4294967295 (place_text o i w))) (place_again o i w is) ∙ at)

of_number : (name : List ℕ) (n : ℕ) (e : Event) → is_free 32 name ≡ true → bytes_eq (name ++ 32 ∷ decimal n) (codes "end") ≡ false →
    n < 2 ^ 32 → event_with name n ≡ Some e → event_of (name ++ 32 ∷ decimal n) ≡ Some e
of_number name n e free other small with =
    named name (decimal n) free other
    ∙ (ap (λ (p : Option (ℕ × ℕ × ℕ)). event_by name p (number_of 4294967295 (decimal n))) (number_alone n (omega arith))
    ∙ (ap (option_and_then (event_with name)) (number_again 4294967295 n (omega arith) (omega arith)) ∙ with))

event_again : (e : Event) → IsEvent e → event_of (event_text e) ≡ Some e
unfolding event_text
event_again (Start o i w) is = of_place (codes "start") o i w _ refl refl is refl
event_again (Write w) is = of_number (codes "write") w _ refl refl is refl
event_again (Finish o i w) is = of_place (codes "finish") o i w _ refl refl is refl
event_again (Save o i w) is = of_place (codes "save") o i w _ refl refl is refl
event_again (Advance o i w) is = of_place (codes "advance") o i w _ refl refl is refl
event_again (Commit w) is = of_number (codes "commit") w _ refl refl is refl
event_again (Purge o i w) is = of_place (codes "purge") o i w _ refl refl is refl
event_again (Kill l) is = of_number (codes "kill") l _ refl refl is refl
event_again (Repartition l) is = of_number (codes "repartition") l _ refl refl is refl
event_again End is = ended
event_again (Fault s) is =
    of_number (codes "fault") s (Fault s) refl refl (omega arith) (ap (λ (b : Bool). cond b (Some (Fault s)) None) (lt-ltb s 256 (omega arith)))

-- a name that is tried is that of the event, or another one is
tried : (C : Type 0) (name word : List ℕ) (event e : Event) (others : Option Event) →
    cond (bytes_eq name word) (Some event) others ≡ Some e → (name ≡ word → event ≡ e → C) → (others ≡ Some e → C) → C
tried C name word event e others is here elsewhere = by (bytes_eq name word) refl is
  where
    by : (b : Bool) → bytes_eq name word ≡ b → cond b (Some event) others ≡ Some e → C
    by true same found = here ((bytes_eq-Decides name word).0 same) cc
    by false other found = elsewhere found

-- the event behind a name and its numbers
abbrev IsNamed : List ℕ → List ℕ → Event → Type 0
IsNamed name numbers e = (name ++ 32 ∷ numbers ≡ event_text e) × IsEvent e

at_is : (name : List ℕ) (p : ℕ × ℕ × ℕ) (e : Event) → IsPlace p.0 p.1 p.2 → event_at name p ≡ Some e → IsNamed name (place_text p.0 p.1 p.2) e
unfolding event_text
at_is name p e is found =
    tried _ name (codes "start") _ e _ found (by (Start p.0 p.1 p.2) (codes "start") refl is) (λ found.
    tried _ name (codes "finish") _ e _ found (by (Finish p.0 p.1 p.2) (codes "finish") refl is) (λ found.
    tried _ name (codes "save") _ e _ found (by (Save p.0 p.1 p.2) (codes "save") refl is) (λ found.
    tried _ name (codes "advance") _ e _ found (by (Advance p.0 p.1 p.2) (codes "advance") refl is) (λ found.
    tried _ name (codes "purge") _ e _ found (by (Purge p.0 p.1 p.2) (codes "purge") refl is) (λ found. cc)))))
  where
    by : (event : Event) (word : List ℕ) → word ++ 32 ∷ place_text p.0 p.1 p.2 ≡ event_text event → IsEvent event → name ≡ word → event ≡ e → IsNamed name (place_text p.0 p.1 p.2) e
    by event word text is same there =
        subst (λ (x : Event). (name ++ 32 ∷ place_text p.0 p.1 p.2 ≡ event_text x) × IsEvent x) there (ap (λ (x : List ℕ). x ++ 32 ∷ place_text p.0 p.1 p.2) same ∙ text, is)

with_is : (name : List ℕ) (n : ℕ) (e : Event) → n ≤ 4294967295 → event_with name n ≡ Some e → IsNamed name (decimal n) e
unfolding event_text
with_is name n e small found =
    tried _ name (codes "write") _ e _ found (by (Write n) (codes "write") refl (omega arith)) (λ found.
    tried _ name (codes "commit") _ e _ found (by (Commit n) (codes "commit") refl (omega arith)) (λ found.
    tried _ name (codes "kill") _ e _ found (by (Kill n) (codes "kill") refl (omega arith)) (λ found.
    tried _ name (codes "repartition") _ e _ found (by (Repartition n) (codes "repartition") refl (omega arith)) (λ found.
    let fault = cond_some _ _ _ found in
    let tests = and_parts (bytes_eq name (codes "fault")) (nat_lt n 256) fault.0 in
    by (Fault n) (codes "fault") refl (omega (arith, ltb-true _ _ tests.1)) ((bytes_eq-Decides name (codes "fault")).0 tests.0) fault.1))))
  where
    by : (event : Event) (word : List ℕ) → word ++ 32 ∷ decimal n ≡ event_text event → IsEvent event → name ≡ word → event ≡ e → IsNamed name (decimal n) e
    by event word text is same there =
        subst (λ (x : Event). (name ++ 32 ∷ decimal n ≡ event_text x) × IsEvent x) there (ap (λ (x : List ℕ). x ++ 32 ∷ decimal n) same ∙ text, is)

by_is : (name numbers : List ℕ) (e : Event) → event_by name (place_of numbers) (number_of 4294967295 numbers) ≡ Some e → IsNamed name numbers e
by_is name numbers e found = by (place_of numbers) refl found
  where
    by : (p : Option (ℕ × ℕ × ℕ)) → place_of numbers ≡ p → event_by name p (number_of 4294967295 numbers) ≡ Some e → IsNamed name numbers e
    by (Some p) at found =
        let is = place_is numbers p at in
        subst (λ (x : List ℕ). IsNamed name x e) (sym is.0) (at_is name p e is.1 found)
    by None at found =
        option_and_then_some _ (number_of 4294967295 numbers) e found
        (λ n read with.
        let is = number_is 4294967295 n numbers (omega arith) read in
        subst (λ (x : List ℕ). IsNamed name x e) (sym is.0) (with_is name n e is.1 with))

event_is : (text : List ℕ) (e : Event) → event_of text ≡ Some e → (text ≡ event_text e) × IsEvent e
unfolding event_of event_text
event_is text e found = tried _ text (codes "end") End e _ found alone with_numbers
  where
    alone : text ≡ codes "end" → End ≡ e → (text ≡ event_text e) × IsEvent e
    alone same there = subst (λ (x : Event). (text ≡ event_text x) × IsEvent x) there (same, tt)

    with_numbers : option_and_then named_event (at_space text) ≡ Some e → (text ≡ event_text e) × IsEvent e
    with_numbers found =
        option_and_then_some _ (at_space text) e found
        (λ p split by. let is = by_is p.0 p.1 e by in (space_is text p split ∙ is.0, is.1))

-- ---- entries

-- the text of an entry is read as the entry
pub entry_again : (e : Entry) → IsEntry e → entry_of (entry_text e) ≡ Some e
unfolding entry_of entry_text
entry_again e is =
    let worker = is.worker in
    word_there _ _ (decimal e.worker) (event_text e.event) e.worker (free-decimal 32 e.worker refl (omega arith)) (number_again 255 e.worker (omega arith) (omega arith))
    ∙ ap (option_map (λ (event : Event). record { worker = e.worker; event = event })) (event_again e.event is.event)

-- and what is read as an entry is its text
pub entry_is : (text : List ℕ) (e : Entry) → entry_of text ≡ Some e → (text ≡ entry_text e) × IsEntry e
unfolding entry_of entry_text
entry_is text e found =
    let word = word_is _ _ text e found in
    let worker = number_is 255 word.x word.word (omega arith) word.reads in
    by word.word word.rest word.x word.split worker (event_of word.rest) refl word.goes_on
  where
    by : (word rest : List ℕ) (worker : ℕ) → text ≡ word ++ 32 ∷ rest → (word ≡ decimal worker) × (worker ≤ 255) →
        (o : Option Event) → event_of rest ≡ o → option_map (λ (event : Event). record { worker = worker; event = event }) o ≡ Some e →
        (text ≡ decimal e.worker ++ (codes " " ++ event_text e.event)) × IsEntry e
    by word rest worker split number None none same = cc
    by word rest worker split number (Some event) some same =
        let read : Entry = record { worker = worker; event = event } in
        let there : read ≡ e = cc in
        let is = event_is rest event some in
        let joined : List ℕ → List ℕ → List ℕ = λ x y. x ++ 32 ∷ y in
        subst (λ (x : Entry). (text ≡ decimal x.worker ++ (codes " " ++ event_text x.event)) × IsEntry x) there
        (split ∙ ap₂ joined number.0 is.0, record { worker = omega (arith, number.1); event = is.1 })

-- ---- lines

place_free : (o i w : ℕ) → IsPlace o i w → is_free 10 (place_text o i w) ≡ true
unfolding place_text
place_free o i w is =
    let op = is.op in let part = is.part in let window = is.window in
    free-append 10 (decimal o) _ (free-decimal 10 o refl (omega arith))
    (free-append 10 (decimal i) _ (free-decimal 10 i refl (omega arith)) (free-decimal 10 w refl (omega arith)))

event_free : (e : Event) → IsEvent e → is_free 10 (event_text e) ≡ true
unfolding event_text
event_free (Start o i w) is = place_free o i w is
event_free (Write w) is = free-decimal 10 w refl (omega arith)
event_free (Finish o i w) is = place_free o i w is
event_free (Save o i w) is = place_free o i w is
event_free (Advance o i w) is = place_free o i w is
event_free (Commit w) is = free-decimal 10 w refl (omega arith)
event_free (Purge o i w) is = place_free o i w is
event_free (Kill l) is = free-decimal 10 l refl (omega arith)
event_free (Repartition l) is = free-decimal 10 l refl (omega arith)
event_free End is = refl
event_free (Fault s) is = free-decimal 10 s refl (omega arith)

-- an entry has no LF
pub entry_free : (e : Entry) → IsEntry e → is_free 10 (entry_text e) ≡ true
unfolding entry_text
entry_free e is =
    let worker = is.worker in
    free-append 10 (decimal e.worker) _ (free-decimal 10 e.worker refl (omega arith)) (event_free e.event is.event)
