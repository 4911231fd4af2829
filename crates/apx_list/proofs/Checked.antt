-- Bytes that are judged to spell a block: each step takes just what stands there.
use Rattle.std.proofs.Common.{◌≡◌, ◌≢◌, ℕ, suc, ◌-◌, ◌<◌, ◌≤◌, List, [], ◌∷◌, ◌++◌, length, map, take, drop, refl, sym, ap, subst, ◌∙◌, arith, Bool, true, false, cond, eqb, eq-eqb, not, get_or, Result, Ok, Err, Option, Some, None, slice_get, append_assoc, length-append, inl, inr, ◌%◌, pos}
use Rattle.std.specs.Prelude.{IsTrue, IfOk, ◌↔◌}
use Rattle.std.proofs.lemmas.Bool.{eqb-true}
use Rattle.std.specs.Ordering.{is_gt}
use Rattle.std.proofs.lemmas.List.{append_cancel_left, append-nil, map-append, nil_from_length}
use Rattle.apx_order.specs.Sorted.{IsAscending, IsFloor}
use Rattle.apx_order.proofs.Sorting.{floor-down}
use Rattle.apx_tuple.specs.declared.tuple.Tuple.{Tuple}
use Rattle.apx_tuple.specs.Tuple.{tuple_order}
use Rattle.apx_tuple.proofs.Orders.{tuple_order-exact}
use Rattle.apx_wire.specs.declared.message.Message.{Message}
use Rattle.apx_wire.specs.declared.message.Message.TheVariants.{Payload, Begin, End, Checkpoint, Reset, EndOfStream}
use Rattle.apx_wire.specs.Spelling.{IsMessage, spelling, spellings, BeginsWith}
use Rattle.apx_wire.proofs.Streams.{spellings-append, length-spelling}
use Rattle.apx_wire.proofs.Messages.{spelled_once}
use Rattle.apx_list.specs.declared.plan.CutPlan.{CutPlan}
use Rattle.apx_list.specs.declared.block.Marks.{Marks}
use Rattle.apx_list.specs.Plan.{IsPlan, IsWindow}
use Rattle.apx_list.specs.Messages.{opening, closing, id_of}
use Rattle.apx_list.specs.Block.{AreMessages, AreSome, Spells}
use Rattle.apx_list.specs.Checking.{block_with, front_messages, Lacks, may_come, BeginsWithTuple, IsDivided, Ends, AreApart, AreOthers}
use Rattle.apx_list.proofs.Spelled.{AreMessages-append, AreMessages-opening, AreMessages-closing}

-- ---- tuples in ascending order, each behind the latest

abbrev Follow : Option Tuple → List Tuple → Type 0
Follow latest [] = Unit {0}
Follow latest (t ∷ ts) = (may_come latest t ≡ true) × Follow (Some t) ts

abbrev latest_of : Option Tuple → List Tuple → Option Tuple
latest_of latest [] = latest
latest_of latest (t ∷ ts) = latest_of (Some t) ts

not_true : (b : Bool) → not b ≡ true → b ≡ false
not_true true h = absurd cc
not_true false h = refl

ascends_behind : (t : Tuple) (ts : List Tuple) → Follow (Some t) ts → IsFloor tuple_order t ts × IsAscending tuple_order ts
ascends_behind t [] h = (tt, tt)
ascends_behind t (u ∷ ts) h =
    let step = not_true (is_gt (tuple_order t u)) h.0 in
    let rest = ascends_behind u ts h.1 in
    ((step, floor-down tuple_order-exact t u ts step rest.0), rest)

ascends : (ts : List Tuple) → Follow None ts → IsAscending tuple_order ts
ascends [] h = tt
ascends (t ∷ ts) h = ascends_behind t ts h.1

follow_behind : (t : Tuple) (ts : List Tuple) → IsFloor tuple_order t ts → IsAscending tuple_order ts → Follow (Some t) ts
follow_behind t [] floor asc = tt
follow_behind t (u ∷ ts) floor asc = (ap not floor.0, follow_behind u ts asc.0 asc.1)

follow : (ts : List Tuple) → IsAscending tuple_order ts → Follow None ts
follow [] asc = tt
follow (t ∷ ts) asc = (refl, follow_behind t ts asc.0 asc.1)

follow-append : (latest : Option Tuple) (ts : List Tuple) (t : Tuple) → Follow latest ts → may_come (latest_of latest ts) t ≡ true → Follow latest (ts ++ t ∷ [])
follow-append latest [] t h may = (may, tt)
follow-append latest (u ∷ ts) t h may = (h.0, follow-append (Some u) ts t h.1 may)

follow-at : (latest : Option Tuple) (ts : List Tuple) (t : Tuple) (more : List Tuple) → Follow latest (ts ++ t ∷ more) → may_come (latest_of latest ts) t ≡ true
follow-at latest [] t more h = h.0
follow-at latest (u ∷ ts) t more h = follow-at (Some u) ts t more h.1

latest_of-append : (latest : Option Tuple) (ts : List Tuple) (t : Tuple) → latest_of latest (ts ++ t ∷ []) ≡ Some t
latest_of-append latest [] t = refl
latest_of-append latest (u ∷ ts) t = latest_of-append (Some u) ts t

-- ---- bytes that begin with tuples

abbrev all_of : List Tuple → List Message
all_of ts = map Payload ts

-- the first byte of a message's bytes
first_byte : (m : Message) (rest : List ℕ) → slice_get (spelling m ++ rest) 0 ≡ slice_get (spelling m) 0
first_byte (Payload t) rest = refl
first_byte (Begin id) rest = refl
first_byte (End id) rest = refl
first_byte (Checkpoint id) rest = refl
first_byte (Reset second) rest = refl
first_byte EndOfStream rest = refl

-- the bytes of a message and of more of them
spellings-cons : (m : Message) (ms : List Message) (rest : List ℕ) → spellings (m ∷ ms) ++ rest ≡ spelling m ++ (spellings ms ++ rest)
spellings-cons m ms rest = append_assoc (spelling m) (spellings ms) rest

record IsMore (done ts : List Tuple) (rest r : List ℕ) : Type 0 where
  pub more : List Tuple
  pub tuples : ts ≡ done ++ more
  pub whole : AreMessages (all_of more)
  pub bytes : rest ≡ spellings (all_of more) ++ r

-- of two ways to divide bytes, one whose rest begins with no tuple has all tuples of the other
more_of : (done ts : List Tuple) (rest r : List ℕ) → AreMessages (all_of done) → AreMessages (all_of ts) → spellings (all_of done) ++ rest ≡ spellings (all_of ts) ++ r → slice_get r 0 ≢ Some 1 → IsMore done ts rest r
more_of [] ts rest r fit fits e behind = record { more = ts; tuples = refl; whole = fits; bytes = e }
more_of (d ∷ done) [] rest r fit fits e behind =
    let begins : r ≡ spelling (Payload d) ++ (spellings (all_of done) ++ rest) = sym e ∙ spellings-cons (Payload d) (all_of done) rest in
    absurd (behind (ap (λ (b : List ℕ). slice_get b 0) begins ∙ first_byte (Payload d) (spellings (all_of done) ++ rest)))
more_of (d ∷ done) (t ∷ ts) rest r fit fits e behind =
    let once = spelled_once (Payload d) (Payload t) (spellings (all_of done) ++ rest) (spellings (all_of ts) ++ r) fit.0 fits.0 (sym (spellings-cons (Payload d) (all_of done) rest) ∙ (e ∙ spellings-cons (Payload t) (all_of ts) r)) in
    let same : t ≡ d = (cc (once.0)) in
    let is = more_of done ts rest r fit.1 fits.1 once.1 behind in
    record { more = is.more; tuples = ap (λ (x : Tuple). x ∷ ts) same ∙ ap (λ (xs : List Tuple). d ∷ xs) is.tuples; whole = is.whole; bytes = is.bytes }

-- the bytes up to here are those of tuples
pub record Reads (bytes : List ℕ) (latest : Option Tuple) (rest : List ℕ) : Type 0 where
  pub done : List Tuple
  pub follows : Follow None done
  pub whole : AreMessages (all_of done)
  pub bytes_are : bytes ≡ spellings (all_of done) ++ rest
  pub latest_is : latest ≡ latest_of None done

pub reads_none : (bytes : List ℕ) → Reads bytes None bytes
reads_none bytes = record { done = []; follows = tt; whole = tt; bytes_are = refl; latest_is = refl }

pub reads_more : (bytes : List ℕ) (latest : Option Tuple) (rest : List ℕ) (t : Tuple) (after : List ℕ) → Reads bytes latest rest → BeginsWithTuple rest t after → may_come latest t ≡ true → Reads bytes (Some t) after
reads_more bytes latest rest t after reads begins may =
    let one : all_of (reads.done ++ t ∷ []) ≡ all_of reads.done ++ Payload t ∷ [] = map-append Payload reads.done (t ∷ []) in
    record {
      done = reads.done ++ t ∷ [];
      follows = follow-append None reads.done t reads.follows (ap (λ (o : Option Tuple). may_come o t) (sym reads.latest_is) ∙ may);
      whole = subst AreMessages (sym one) (AreMessages-append (all_of reads.done) (Payload t ∷ []) reads.whole (begins.fits, tt));
      bytes_are = reads.bytes_are ∙ (ap (λ (b : List ℕ). spellings (all_of reads.done) ++ b) begins.bytes_are ∙ (sym (append_assoc (spellings (all_of reads.done)) (spelling (Payload t)) after) ∙ ap (λ (b : List ℕ). b ++ after) (sym (ap spellings one ∙ (spellings-append (all_of reads.done) (Payload t ∷ []) ∙ ap (λ (b : List ℕ). spellings (all_of reads.done) ++ b) (append-nil (spelling (Payload t))))))));
      latest_is = sym (latest_of-append None reads.done t);
    }

pub divided : (bytes : List ℕ) (latest : Option Tuple) (rest : List ℕ) → Reads bytes latest rest → slice_get rest 0 ≢ Some 1 → IsDivided bytes rest
divided bytes latest rest reads behind = (reads.done, record { ascends = ascends reads.done reads.follows; whole = reads.whole; bytes_are = reads.bytes_are; behind = behind })

-- where no tuple comes next that may come, the bytes can't be divided
pub not_divided : (bytes : List ℕ) (latest : Option Tuple) (rest : List ℕ) → Reads bytes latest rest → slice_get rest 0 ≡ Some 1 → ((t : Tuple) (after : List ℕ) → BeginsWithTuple rest t after → may_come latest t ≡ true → ⊥) → (r : List ℕ) → IsDivided bytes r → ⊥
not_divided bytes latest rest reads begins none r (tuples, is) =
    let more = more_of reads.done tuples rest r reads.whole is.whole (sym reads.bytes_are ∙ is.bytes_are) is.behind in
    go more.more more.tuples more.whole more.bytes
  where
    go : (more : List Tuple) → tuples ≡ reads.done ++ more → AreMessages (all_of more) → rest ≡ spellings (all_of more) ++ r → ⊥
    go [] same whole bytes_are = is.behind (ap (λ (b : List ℕ). slice_get b 0) (sym bytes_are) ∙ begins)
    go (t ∷ ts) same whole bytes_are =
        none t (spellings (all_of ts) ++ r) (record { fits = whole.0; bytes_are = bytes_are ∙ spellings-cons (Payload t) (all_of ts) r })
        (ap (λ (o : Option Tuple). may_come o t) reads.latest_is ∙ follow-at None reads.done t ts (subst (Follow None) same (follow tuples is.ascends)))

-- a tuple that was read, and may not come
pub none_may : (latest : Option Tuple) (rest : List ℕ) (x : Tuple) (after : List ℕ) → BeginsWithTuple rest x after → may_come latest x ≡ false → (t : Tuple) (r : List ℕ) → BeginsWithTuple rest t r → may_come latest t ≡ true → ⊥
none_may latest rest x after begins refused t r other may =
    let once = spelled_once (Payload x) (Payload t) after r begins.fits other.fits (sym begins.bytes_are ∙ other.bytes_are) in
    let same : x ≡ t = (cc (once.0)) in
    let both : true ≡ false = sym may ∙ (ap (may_come latest) (sym same) ∙ refused) in
    absurd (cc both)

-- there is one way to divide bytes
pub divided_once : (bytes r s : List ℕ) → IsDivided bytes r → IsDivided bytes s → r ≡ s
divided_once bytes r s (ts, is) (us, has) =
    let more = more_of ts us r s is.whole has.whole (sym is.bytes_are ∙ has.bytes_are) has.behind in
    go more.more more.bytes
  where
    go : (more : List Tuple) → r ≡ spellings (all_of more) ++ s → r ≡ s
    go [] bytes_are = bytes_are
    go (t ∷ more) bytes_are = absurd (is.behind (ap (λ (b : List ℕ). slice_get b 0) bytes_are))

-- ---- the first message

pub begun_len : (bytes : List ℕ) (m : Message) (n : ℕ) → BeginsWith bytes m n → (0 < n) × (n ≤ length bytes)
begun_len bytes m n begins =
    (omega (arith, begins.len, length-spelling m), omega (arith, begins.len, ap length begins.whole, length-append (spelling m) (drop n bytes)))

-- ---- messages that close a window

abbrev last_of : List Message → Option Message
last_of ms = slice_get ms (length ms - 1)

last_of-cons : (m k : Message) (ms : List Message) → last_of (m ∷ k ∷ ms) ≡ last_of (k ∷ ms)
last_of-cons m k ms =
    let at : length (m ∷ k ∷ ms) - 1 ≡ suc (length (k ∷ ms) - 1) = omega arith in
    ap (slice_get (m ∷ k ∷ ms)) at

-- a last one is there, and is one of them
last_of-other : (m k : Message) (ms : List Message) → AreOthers m (k ∷ ms) → last_of (k ∷ ms) ≡ Some m → ⊥
last_of-other m k [] others is = let same : k ≡ m = cc in others.0 (ap (λ (x : Message). slice_get (spelling x) 0) (sym same))
last_of-other m k (l ∷ ms) others is = last_of-other m l ms others.1 (sym (last_of-cons k l ms) ∙ is)

last_of-none : (k : Message) (ms : List Message) → last_of (k ∷ ms) ≡ None → ⊥
last_of-none k [] is = absurd cc
last_of-none k (l ∷ ms) is = last_of-none l ms (sym (last_of-cons k l ms) ∙ is)

-- no message has no bytes
spelled_some : (m : Message) (rest : List ℕ) → [] ≡ spelling m ++ rest → ⊥
spelled_some m rest e = absurd (omega (arith, ap length e, length-append (spelling m) rest, length-spelling m))

-- some of the messages don't begin with the bytes of another one
begins_other : (m : Message) (ends ms : List Message) (rest : List ℕ) → AreOthers m ms → AreSome ends ms → spellings ends ≡ spelling m ++ rest → ⊥
begins_other m [] ms rest others some e = spelled_some m rest e
begins_other m (k ∷ ends) [] rest others some e = some
begins_other m (k ∷ ends) (f ∷ ms) rest others (inl (same, some)) e =
    others.0 (sym (first_byte m rest) ∙ (ap (λ (b : List ℕ). slice_get b 0) (sym e) ∙ (first_byte k (spellings ends) ∙ ap (λ (x : Message). slice_get (spelling x) 0) same)))
begins_other m (k ∷ ends) (f ∷ ms) rest others (inr some) e = begins_other m (k ∷ ends) ms rest others.1 some e

-- where there is none
pub ends_none : (last : Bool) (bytes : List ℕ) → (bytes ≡ []) ↔ Ends [] last bytes
ends_none last bytes = (
  λ empty. record { ends = []; closes = tt; last_is = λ _. refl; bytes_are = empty },
  λ is. go is.ends is.closes is.bytes_are,
)
  where
    go : (ends : List Message) → AreSome ends [] → bytes ≡ spellings ends → bytes ≡ []
    go [] some e = e
    go (m ∷ ends) some e = absurd some

-- the first of them is there
pub ends_first : (m : Message) (others : List Message) (last : Bool) (bytes rest : List ℕ) → AreApart (m ∷ others) → bytes ≡ spelling m ++ rest → Ends others last rest ↔ Ends (m ∷ others) last bytes
ends_first m others last bytes rest apart begins = (
  λ is. record { ends = m ∷ is.ends; closes = inl (refl, is.closes); last_is = λ marked. with_first is.ends others is.closes (is.last_is marked); bytes_are = begins ∙ ap (λ (b : List ℕ). spelling m ++ b) is.bytes_are },
  λ is. go is.ends is.closes is.last_is is.bytes_are,
)
  where
    with_first : (ends ms : List Message) → AreSome ends ms → last_of ends ≡ last_of ms → last_of (m ∷ ends) ≡ last_of (m ∷ ms)
    with_first [] [] some is = refl
    with_first [] (k ∷ ms) some is = absurd (last_of-none k ms (sym is))
    with_first (e ∷ ends) [] some is = absurd some
    with_first (e ∷ ends) (k ∷ ms) some is = last_of-cons m e ends ∙ (is ∙ sym (last_of-cons m k ms))

    without_first : (ends ms : List Message) → AreOthers m ms → AreSome ends ms → last_of (m ∷ ends) ≡ last_of (m ∷ ms) → last_of ends ≡ last_of ms
    without_first [] [] alone some is = refl
    without_first [] (k ∷ ms) alone some is = absurd (last_of-other m k ms alone (sym (last_of-cons m k ms) ∙ sym is))
    without_first (e ∷ ends) [] alone some is = absurd some
    without_first (e ∷ ends) (k ∷ ms) alone some is = sym (last_of-cons m e ends) ∙ (is ∙ last_of-cons m k ms)

    go : (ends : List Message) → AreSome ends (m ∷ others) → (last ≡ true → last_of ends ≡ last_of (m ∷ others)) → bytes ≡ spellings ends → Ends others last rest
    go [] some last_is e = absurd (spelled_some m rest (sym e ∙ begins))
    go (x ∷ ends) (inl (same, some)) last_is e =
        let first : spelling m ++ spellings ends ≡ spelling m ++ rest = ap (λ (k : Message). spelling k ++ spellings ends) (sym same) ∙ (sym e ∙ begins) in
        record {
          ends = ends;
          closes = some;
          last_is = λ marked. without_first ends others apart.0 some (ap (λ (k : Message). last_of (k ∷ ends)) (sym same) ∙ last_is marked);
          bytes_are = sym (append_cancel_left (spelling m) (spellings ends) rest first);
        }
    go (x ∷ ends) (inr some) last_is e = absurd (begins_other m (x ∷ ends) others rest apart.0 some (sym e ∙ begins))

-- the first of them isn't there
pub ends_others : (m : Message) (others : List Message) (last : Bool) (bytes : List ℕ) → Lacks (spelling m) bytes → (last ≡ true → others ≡ [] → ⊥) → Ends others last bytes ↔ Ends (m ∷ others) last bytes
ends_others m others last bytes lacks more = (
  λ is. record { ends = is.ends; closes = behind is.ends is.closes; last_is = λ marked. is.last_is marked ∙ same_last others (more marked); bytes_are = is.bytes_are },
  λ is. go is.ends is.closes is.last_is is.bytes_are,
)
  where
    behind : (ends : List Message) → AreSome ends others → AreSome ends (m ∷ others)
    behind [] some = tt
    behind (x ∷ ends) some = inr some

    same_last : (ms : List Message) → (ms ≡ [] → ⊥) → last_of ms ≡ last_of (m ∷ ms)
    same_last [] some = absurd (some refl)
    same_last (k ∷ ms) some = sym (last_of-cons m k ms)

    go : (ends : List Message) → AreSome ends (m ∷ others) → (last ≡ true → last_of ends ≡ last_of (m ∷ others)) → bytes ≡ spellings ends → Ends others last bytes
    go [] some last_is e = record { ends = []; closes = tt; last_is = λ marked. last_is marked ∙ sym (same_last others (more marked)); bytes_are = e }
    go (x ∷ ends) (inl (same, some)) last_is e = absurd (lacks (spellings ends) (e ∙ ap (λ (k : Message). spelling k ++ spellings ends) same))
    go (x ∷ ends) (inr some) last_is e = record { ends = x ∷ ends; closes = some; last_is = λ marked. last_is marked ∙ sym (same_last others (more marked)); bytes_are = e }

-- the last of them isn't there
pub ends_lacks : (m : Message) (bytes : List ℕ) → Lacks (spelling m) bytes → Ends (m ∷ []) true bytes → ⊥
ends_lacks m bytes lacks is = go is.ends is.closes (is.last_is refl) is.bytes_are
  where
    go : (ends : List Message) → AreSome ends (m ∷ []) → last_of ends ≡ last_of (m ∷ []) → bytes ≡ spellings ends → ⊥
    go [] some last_is e = absurd cc
    go (x ∷ ends) (inl (same, some)) last_is e = lacks (spellings ends) (e ∙ ap (λ (k : Message). spelling k ++ spellings ends) same)
    go (x ∷ ends) (inr some) last_is e = some

-- ---- a window's messages

kind_is : (a b : ℕ) → Path (Option ℕ) (Some a) (Some b) → a ≡ b
kind_is a b e = cc e

closing_others : (plan : CutPlan) (window : ℕ) (t : Tuple) → AreOthers (Payload t) (closing plan window)
closing_others plan window t = go (eqb (window % plan.every) 0) (eqb window plan.windows) (id_of plan window)
  where
    go : (b c : Bool) (id : ℕ) → AreOthers (Payload t) ((End id ∷ cond b (Checkpoint id ∷ []) []) ++ cond c (EndOfStream ∷ []) [])
    go true true id = ((λ e. absurd (omega (arith, kind_is 1 3 e))), ((λ e. absurd (omega (arith, kind_is 1 4 e))), ((λ e. absurd (omega (arith, kind_is 1 6 e))), tt)))
    go true false id = ((λ e. absurd (omega (arith, kind_is 1 3 e))), ((λ e. absurd (omega (arith, kind_is 1 4 e))), tt))
    go false true id = ((λ e. absurd (omega (arith, kind_is 1 3 e))), ((λ e. absurd (omega (arith, kind_is 1 6 e))), tt))
    go false false id = ((λ e. absurd (omega (arith, kind_is 1 3 e))), tt)

pub closing_apart : (plan : CutPlan) (window : ℕ) → AreApart (closing plan window)
closing_apart plan window = go (eqb (window % plan.every) 0) (eqb window plan.windows) (id_of plan window)
  where
    go : (b c : Bool) (id : ℕ) → AreApart ((End id ∷ cond b (Checkpoint id ∷ []) []) ++ cond c (EndOfStream ∷ []) [])
    go true true id = (((λ e. absurd (omega (arith, kind_is 3 4 e))), ((λ e. absurd (omega (arith, kind_is 3 6 e))), tt)), (((λ e. absurd (omega (arith, kind_is 4 6 e))), tt), (tt, tt)))
    go true false id = (((λ e. absurd (omega (arith, kind_is 3 4 e))), tt), (tt, tt))
    go false true id = (((λ e. absurd (omega (arith, kind_is 3 6 e))), tt), (tt, tt))
    go false false id = (tt, tt)

AreMessages-some : (ends ms : List Message) → AreSome ends ms → AreMessages ms → AreMessages ends
AreMessages-some [] ms some whole = tt
AreMessages-some (m ∷ ends) [] some whole = absurd some
AreMessages-some (m ∷ ends) (f ∷ ms) (inl (same, some)) whole = (subst IsMessage (sym same) whole.0, AreMessages-some ends ms some whole.1)
AreMessages-some (m ∷ ends) (f ∷ ms) (inr some) whole = AreMessages-some (m ∷ ends) ms some whole.1

AreMessages-back : (xs ys : List Message) → AreMessages (xs ++ ys) → AreMessages ys
AreMessages-back [] ys h = h
AreMessages-back (x ∷ xs) ys h = AreMessages-back xs ys h.1

AreMessages-front : (xs ys : List Message) → AreMessages (xs ++ ys) → AreMessages xs
AreMessages-front [] ys h = tt
AreMessages-front (x ∷ xs) ys h = (h.0, AreMessages-front xs ys h.1)

front_whole : (b : Bool) (plan : CutPlan) (window : ℕ) → IsPlan plan → IsWindow plan window → AreMessages (cond b (opening plan window) [])
front_whole true plan window is in_run = AreMessages-opening plan window is in_run
front_whole false plan window is in_run = tt

none_is : (a : ℕ) → Path (Option ℕ) None (Some a) → ⊥
none_is a e = absurd (cc e)

-- behind a window's tuples none begins
ends_behind : (plan : CutPlan) (window : ℕ) (ends : List Message) → AreSome ends (closing plan window) → slice_get (spellings ends) 0 ≢ Some 1
ends_behind plan window [] some = λ e. none_is 1 e
ends_behind plan window (m ∷ ends) some = λ e. not_payload m (closing plan window) ends (λ t. closing_others plan window t) some (sym (first_byte m (spellings ends)) ∙ e)
  where
    not_payload : (m : Message) (ms ends : List Message) → ((t : Tuple) → AreOthers (Payload t) ms) → AreSome (m ∷ ends) ms → slice_get (spelling m) 0 ≡ Some 1 → ⊥
    not_payload m [] ends others some e = some
    not_payload m (f ∷ ms) ends others (inl (same, some)) e = (others (record { key = []; value = pos 0 })).0 (sym e ∙ ap (λ (x : Message). slice_get (spelling x) 0) same)
    not_payload m (f ∷ ms) ends others (inr some) e = not_payload m ms ends (λ t. (others t).1) some e

-- ---- the whole block

-- the parts of a block's bytes
pub record Parts (plan : CutPlan) (marks : Marks) (bytes : List ℕ) : Type 0 where
  pub rest : List ℕ
  pub ends : List ℕ
  pub some : 0 < length bytes
  pub front : bytes ≡ spellings (front_messages plan marks) ++ rest
  pub divides : IsDivided rest ends
  pub closes : Ends (closing plan marks.window) marks.last ends

spellings_some : (ms : List Message) → 0 < length ms → 0 < length (spellings ms)
spellings_some [] some = absurd (omega (arith, some))
spellings_some (m ∷ ms) some = omega (arith, length-spelling m, length-append (spelling m) (spellings ms))

pub parts_of : (plan : CutPlan) (marks : Marks) (bytes : List ℕ) → Spells plan (block_with marks bytes) → Parts plan marks bytes
parts_of plan marks bytes spells =
    let front = front_messages plan marks in
    let tuples = all_of spells.tuples in
    let split : spellings ((front ++ tuples) ++ spells.ends) ≡ spellings front ++ (spellings tuples ++ spellings spells.ends) =
    ap spellings (append_assoc front tuples spells.ends) ∙ (spellings-append front (tuples ++ spells.ends) ∙ ap (λ (b : List ℕ). spellings front ++ b) (spellings-append tuples spells.ends)) in
    record {
      rest = spellings tuples ++ spellings spells.ends;
      ends = spellings spells.ends;
      some = subst (λ (b : List ℕ). 0 < length b) (sym spells.bytes) (spellings_some ((front ++ tuples) ++ spells.ends) spells.some);
      front = spells.bytes ∙ split;
      divides = (
        spells.tuples,
        record {
          ascends = spells.ascends;
          whole = AreMessages-back front tuples (AreMessages-front (front ++ tuples) spells.ends spells.whole);
          bytes_are = refl;
          behind = ends_behind plan marks.window spells.ends spells.closes;
        },
      );
      closes = record { ends = spells.ends; closes = spells.closes; last_is = spells.last; bytes_are = refl };
    }

pub spells_of : (plan : CutPlan) (marks : Marks) (bytes : List ℕ) → IsPlan plan → IsWindow plan marks.window → Parts plan marks bytes → Spells plan (block_with marks bytes)
spells_of plan marks bytes is in_run parts =
    let front = front_messages plan marks in
    let tuples = all_of parts.divides.0 in
    let ends = parts.closes.ends in
    let split : bytes ≡ spellings ((front ++ tuples) ++ ends) =
    parts.front ∙ (ap (λ (b : List ℕ). spellings front ++ b) (parts.divides.1.bytes_are ∙ ap (λ (b : List ℕ). spellings tuples ++ b) parts.closes.bytes_are) ∙ sym (ap spellings (append_assoc front tuples ends) ∙ (spellings-append front (tuples ++ ends) ∙ ap (λ (b : List ℕ). spellings front ++ b) (spellings-append tuples ends)))) in
    record {
      tuples = parts.divides.0;
      ends = ends;
      ascends = parts.divides.1.ascends;
      closes = parts.closes.closes;
      last = parts.closes.last_is;
      some = messages_some ((front ++ tuples) ++ ends) split;
      whole = AreMessages-append (front ++ tuples) ends (AreMessages-append front tuples (front_whole (eqb marks.index 0) plan marks.window is in_run) parts.divides.1.whole) (AreMessages-some ends (closing plan marks.window) parts.closes.closes (AreMessages-closing plan marks.window is in_run));
      bytes = split;
    }
  where
    messages_some : (ms : List Message) → bytes ≡ spellings ms → 0 < length ms
    messages_some [] e = absurd (omega (arith, parts.some, ap length e))
    messages_some (m ∷ ms) e = omega arith

-- ---- each way in which they are judged

pub spells_nothing : (plan : CutPlan) (marks : Marks) (bytes : List ℕ) → length bytes ≡ 0 → Spells plan (block_with marks bytes) → ⊥
spells_nothing plan marks bytes none spells = absurd (omega (arith, (parts_of plan marks bytes spells).some))

pub spells_no_front : (plan : CutPlan) (marks : Marks) (bytes : List ℕ) → Lacks (spellings (front_messages plan marks)) bytes → Spells plan (block_with marks bytes) → ⊥
spells_no_front plan marks bytes lacks spells = let parts = parts_of plan marks bytes spells in lacks parts.rest parts.front

pub spells_no_tuples : (plan : CutPlan) (marks : Marks) (bytes rest : List ℕ) → bytes ≡ spellings (front_messages plan marks) ++ rest → ((ends : List ℕ) → IsDivided rest ends → ⊥) → Spells plan (block_with marks bytes) → ⊥
spells_no_tuples plan marks bytes rest front none spells =
    let parts = parts_of plan marks bytes spells in
    let same : parts.rest ≡ rest = append_cancel_left (spellings (front_messages plan marks)) parts.rest rest (sym parts.front ∙ front) in
    none parts.ends (subst (λ (b : List ℕ). IsDivided b parts.ends) same parts.divides)

pub spells_if_ends : (plan : CutPlan) (marks : Marks) (bytes rest ends : List ℕ) (r : Bool) → IsPlan plan → IsWindow plan marks.window → 0 < length bytes → bytes ≡ spellings (front_messages plan marks) ++ rest → IsDivided rest ends → IsTrue r ↔ Ends (closing plan marks.window) marks.last ends → IsTrue r ↔ Spells plan (block_with marks bytes)
spells_if_ends plan marks bytes rest ends r is in_run some front divides judged = (
  λ yes. spells_of plan marks bytes is in_run (record { rest = rest; ends = ends; some = some; front = front; divides = divides; closes = judged.0 yes }),
  λ spells.
      let parts = parts_of plan marks bytes spells in
      let same : parts.rest ≡ rest = append_cancel_left (spellings (front_messages plan marks)) parts.rest rest (sym parts.front ∙ front) in
      let ends_same : parts.ends ≡ ends = divided_once rest parts.ends ends (subst (λ (b : List ℕ). IsDivided b parts.ends) same parts.divides) divides in
      judged.1 (subst (λ (b : List ℕ). Ends (closing plan marks.window) marks.last b) ends_same parts.closes),
)

pub spells_if : {E : Type 0} (r : Result Bool E) (plan : CutPlan) (marks : Marks) (bytes rest ends : List ℕ) → IsPlan plan → IsWindow plan marks.window → 0 < length bytes → bytes ≡ spellings (front_messages plan marks) ++ rest → IsDivided rest ends → IfOk r (λ are. IsTrue are ↔ Ends (closing plan marks.window) marks.last ends) → IfOk r (λ spells. IsTrue spells ↔ Spells plan (block_with marks bytes))
spells_if (Err e) plan marks bytes rest ends is in_run some front divides judged = tt
spells_if (Ok a) plan marks bytes rest ends is in_run some front divides judged = spells_if_ends plan marks bytes rest ends a is in_run some front divides judged

pub some_of : (bytes : List ℕ) → eqb (length bytes) 0 ≡ false → 0 < length bytes
some_of [] e = absurd (cc e)
some_of (b ∷ bytes) e = omega arith

-- what is judged false
pub never : {P : Type 0} → (P → ⊥) → IsTrue false ↔ P
never none = ((λ t. absurd (cc t)), (λ p. absurd (none p)))

-- ---- messages behind one another, as code goes through them

pub ends_empty : (messages : List Message) (last : Bool) (bytes : List ℕ) (r : Bool) → length messages < 1 → r ≡ eqb (length bytes) 0 → IsTrue r ↔ Ends messages last bytes
ends_empty [] last bytes r none is =
    let both = ends_none last bytes in
    ((λ t. both.0 (nil_from_length bytes (eqb-true (length bytes) 0 (sym is ∙ t)))), (λ e. is ∙ eq-eqb (length bytes) 0 (ap length (both.1 e))))
ends_empty (m ∷ ms) last bytes r none is = absurd (omega (arith, none))

-- the messages behind the first, as code takes them
abbrev pub others_of : List Message → List Message
others_of messages = take (length messages - 1) (drop 1 messages)

take_whole : (ms : List Message) → take (length ms) ms ≡ ms
take_whole [] = refl
take_whole (m ∷ ms) = ap (λ (rest : List Message). m ∷ rest) (take_whole ms)

others_are : (k : Message) (ms : List Message) → others_of (k ∷ ms) ≡ ms
others_are k ms =
    let count : length (k ∷ ms) - 1 ≡ length ms = omega arith in
    ap (λ (n : ℕ). take n ms) count ∙ take_whole ms

pub ends_with : {E : Type 0} (r : Result Bool E) (messages : List Message) (m : Message) (last : Bool) (bytes rest : List ℕ) → 1 ≤ length messages → m ≡ get_or messages 0 m → AreApart messages → bytes ≡ spelling m ++ rest → IfOk r (λ are. IsTrue are ↔ Ends (others_of messages) last rest) → IfOk r (λ are. IsTrue are ↔ Ends messages last bytes)
ends_with r [] m last bytes rest some is apart begins judged = absurd (omega (arith, some))
ends_with (Err e) (k ∷ ms) m last bytes rest some is apart begins judged = tt
ends_with (Ok a) (k ∷ ms) m last bytes rest some is apart begins judged =
    let both = ends_first k ms last bytes rest apart (begins ∙ ap (λ (x : Message). spelling x ++ rest) is) in
    let here : IsTrue a ↔ Ends ms last rest = subst (λ (l : List Message). IsTrue a ↔ Ends l last rest) (others_are k ms) judged in
    ((λ t. both.0 (here.0 t)), (λ e. here.1 (both.1 e)))

lacks_same : (m k : Message) (bytes : List ℕ) → m ≡ k → Lacks (spelling m) bytes → Lacks (spelling k) bytes
lacks_same m k bytes is lacks = λ rest e. lacks rest (e ∙ ap (λ (x : Message). spelling x ++ rest) (sym is))

pub ends_without : {E : Type 0} (r : Result Bool E) (messages : List Message) (m : Message) (last : Bool) (bytes : List ℕ) → 1 ≤ length messages → m ≡ get_or messages 0 m → Lacks (spelling m) bytes → (last ≡ true → others_of messages ≡ [] → ⊥) → IfOk r (λ are. IsTrue are ↔ Ends (others_of messages) last bytes) → IfOk r (λ are. IsTrue are ↔ Ends messages last bytes)
ends_without r [] m last bytes some is lacks more judged = absurd (omega (arith, some))
ends_without (Err e) (k ∷ ms) m last bytes some is lacks more judged = tt
ends_without (Ok a) (k ∷ ms) m last bytes some is lacks more judged =
    let both = ends_others k ms last bytes (lacks_same m k bytes is lacks) (λ t e. more t (others_are k ms ∙ e)) in
    let here : IsTrue a ↔ Ends ms last bytes = subst (λ (l : List Message). IsTrue a ↔ Ends l last bytes) (others_are k ms) judged in
    ((λ t. both.0 (here.0 t)), (λ e. here.1 (both.1 e)))

pub ends_missing : (messages : List Message) (m : Message) (last : Bool) (bytes : List ℕ) → 1 ≤ length messages → m ≡ get_or messages 0 m → last ≡ true → length (others_of messages) ≡ 0 → Lacks (spelling m) bytes → Ends messages last bytes → ⊥
ends_missing [] m last bytes some is marked alone lacks ends = absurd (omega (arith, some))
ends_missing (k ∷ []) m last bytes some is marked alone lacks ends = ends_lacks k bytes (lacks_same m k bytes is lacks) (subst (λ (b : Bool). Ends (k ∷ []) b bytes) marked ends)
ends_missing (k ∷ l ∷ ms) m last bytes some is marked alone lacks ends = absurd (omega (arith, alone, ap length (others_are k (l ∷ ms))))
