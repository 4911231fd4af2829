-- What the images of a file spell, by where they differ from it.
use Rattle.std.proofs.Common.{◌≡◌, inl, inr, ℕ, ◌+◌, ◌-◌, ◌^◌, ◌<◌, ◌≤◌, false, List, [], ◌∷◌, ◌++◌, length, take, drop, get_or, Some, Result, Ok, Err, refl, sym, ap, ◌∙◌, subst, append_assoc, arith, length-drop}
use Rattle.std.specs.Prelude.{IfOk}
use Rattle.std.specs.Int.{w32, to_be_bytes}
use Rattle.std.proofs.lemmas.Nat.{from_be_bytes-to_be_bytes_4}
use Rattle.std.proofs.lemmas.Bool.{cases_eq, ne_eqb}
use Rattle.std.proofs.lemmas.List.{take_at, drop_at, drop-drop, drop_more, length-take, take-append-drop, take-take, get_or-drop, get_or-take}
use Rattle.apx_disk.specs.Disk.{Holds, Torn, Only}
use Rattle.apx_disk.specs.Log.{Entry, Log, ended, joined, is_open, read_from, read_log, end_of, with_record, spelled_behind, Grows, IsReady}
use Rattle.apx_disk.proofs.Reading.{is_open-more, read_open, read_shut, onto, onto-ended, IsFront, front}

-- the records of a file whose closed gate stands at a place
pub record Spells (file : List ℕ) (gate : ℕ) : Type 0 where
  pub entries : List Entry
  pub is : read_log file ≡ Ok (record { entries = entries; end = gate })
  pub within : gate ≤ length file
  pub reads : (tail : List ℕ) → 0 < length tail → read_log (take gate file ++ tail) ≡ onto entries (read_from (length tail) gate tail)
  pub shut : is_open (drop gate file) ≡ false

ends : (r : Result Log ℕ) (gate : ℕ) → end_of r ≡ Some gate → (entries : List Entry) × (r ≡ Ok (record { entries = entries; end = gate }))
ends (Ok log) gate is = let e : log.end ≡ gate = cc in (log.entries, λ i. Ok (record { entries = log.entries; end = e i }))
ends (Err place) gate is = absurd (cc is)

pub spells : (file : List ℕ) (gate : ℕ) → end_of (read_log file) ≡ Some gate → Spells file gate
spells file gate is =
    let log = ends (read_log file) gate is in
    let f : IsFront 0 file (record { entries = log.0; end = gate }) = subst (λ r. IfOk r (IsFront 0 file)) log.1 (front (length file) 0 file (omega arith)) in
    let whole : gate - 0 ≡ gate = omega arith in
    record {
      entries = log.0;
      is = log.1;
      within = omega (arith, f.within);
      reads = λ tail some.
          ap (λ (n : ℕ). read_log (take n file ++ tail)) (sym whole)
          ∙ f.reads tail (length (take (gate - 0) file ++ tail)) some (omega arith);
      shut = ap (λ (n : ℕ). is_open (drop n file)) (sym whole) ∙ f.shut;
    }

-- a gate of 0 is closed, whatever stands behind it
zero_shut : (rest : List ℕ) → is_open (0 ∷ rest) ≡ false
zero_shut [] = refl
zero_shut (next ∷ rest) = refl

-- ---- images with the same bytes up to the gate

-- and a closed gate there
pub keeps_closed : (file image : List ℕ) (gate : ℕ) → Spells file gate → take gate image ≡ take gate file → is_open (drop gate image) ≡ false → gate < length image → read_log image ≡ read_log file
keeps_closed file image gate s same shut within =
    let tail = drop gate image in
    let some : 0 < length tail = omega (arith, length-drop gate image) in
    let whole : image ≡ take gate file ++ tail = sym (take-append-drop gate image) ∙ ap (λ (b : List ℕ). b ++ tail) same in
    ap read_log whole ∙ s.reads tail some ∙ ap (onto s.entries) (read_shut (length tail) gate tail shut) ∙ onto-ended s.entries gate ∙ sym s.is

-- the byte at a place and what follows it
pub behind : (bytes : List ℕ) (gate : ℕ) → gate < length bytes → drop gate bytes ≡ get_or bytes gate 0 ∷ drop (gate + 1) bytes
behind bytes gate within = drop_more bytes gate 0 within

-- ---- the same bytes up to and with a gate of 0

record SameFront (file image : List ℕ) (gate : ℕ) : Type 0 where
  before : take gate image ≡ take gate file
  gate_is : get_or image gate 0 ≡ get_or file gate 0
  long : gate < length image

same_front : (file image : List ℕ) (gate : ℕ) → gate < length file → take (gate + 1) image ≡ take (gate + 1) file → SameFront file image gate
same_front file image gate within same =
    let fewer : gate ≤ gate + 1 = omega arith in
    let lengths = ap length same in
    let long : gate < length image = omega (arith, lengths, length-take (gate + 1) image, length-take (gate + 1) file) in
    record {
      before = sym (take-take gate (gate + 1) image fewer) ∙ ap (take gate) same ∙ take-take gate (gate + 1) file fewer;
      gate_is = sym (get_or-take (gate + 1) image gate 0 (omega arith)) ∙ ap (λ (b : List ℕ). get_or b gate 0) same ∙ get_or-take (gate + 1) file gate 0 (omega arith);
      long = long;
    }

pub keeps_front : (file image : List ℕ) (gate : ℕ) → end_of (read_log file) ≡ Some gate → get_or file gate 0 ≡ 0 → gate < length file → take (gate + 1) image ≡ take (gate + 1) file → read_log image ≡ read_log file
keeps_front file image gate is zero_gate within same =
    let f = same_front file image gate within same in
    keeps_closed file image gate (spells file gate is) f.before
    (ap is_open (behind image gate f.long ∙ ap (λ (g : ℕ). g ∷ drop (gate + 1) image) (f.gate_is ∙ zero_gate)) ∙ zero_shut (drop (gate + 1) image))
    f.long

-- the file is ready once more
pub ready_front : (file image : List ℕ) (images after : List ℕ → Type 0) (gate : ℕ) → IsReady file images gate → take (gate + 1) image ≡ take (gate + 1) file → Only image after → IsReady image after gate
ready_front file image images after gate ready same only =
    let f = same_front file image gate ready.within same in
    record {
      end = ap end_of (keeps_front file image gate ready.end ready.shut ready.within same) ∙ ready.end;
      shut = f.gate_is ∙ ready.shut;
      within = f.long;
      only = only;
    }

-- ---- a whole record behind the gate, and any byte at it

-- the bytes behind the gate: a record, and a closed gate
pub record Staged (file : List ℕ) (gate : ℕ) (body : List ℕ) : Type 0 where
  pub more : List ℕ
  pub behind_is : drop (gate + 1) file ≡ to_be_bytes w32 (length body) ++ (body ++ (0 ∷ more))

pub staged : (old file : List ℕ) (gate : ℕ) (body : List ℕ) → gate < length old → Holds old (gate + 1) (spelled_behind body) file → Staged file gate body
staged old file gate body within holds =
    let piece = spelled_behind body in
    let rest = drop (gate + 1 + length piece) old in
    let size = to_be_bytes w32 (length body) in
    let long : length (take (gate + 1) old) ≡ gate + 1 = omega (arith, length-take (gate + 1) old) in
    record {
      more = rest;
      behind_is = ap (drop (gate + 1)) (holds ∙ append_assoc (take (gate + 1) old) piece rest)
          ∙ drop_at (take (gate + 1) old) (piece ++ rest) (gate + 1) long
          ∙ append_assoc (size ++ body) (0 ∷ []) rest
          ∙ append_assoc size body (0 ∷ rest);
    }

onto-joined : (entries : List Entry) (entry : Entry) (end : ℕ) → onto entries (joined entry (Ok (ended end))) ≡ Ok (record { entries = entries ++ entry ∷ []; end = end })
onto-joined [] entry end = refl
onto-joined (first ∷ entries) entry end = ap (joined first) (onto-joined entries entry end)

-- an open gate adds the record
adds_record : (file image : List ℕ) (gate : ℕ) (body more : List ℕ) → Spells file gate → length body < 2 ^ 32 → take gate image ≡ take gate file → drop gate image ≡ 1 ∷ (to_be_bytes w32 (length body) ++ (body ++ (0 ∷ more))) → read_log image ≡ with_record body (read_log file)
adds_record file image gate body more s fits same opened =
    let tail = 1 ∷ (to_be_bytes w32 (length body) ++ (body ++ (0 ∷ more))) in
    let whole : image ≡ take gate file ++ tail = sym (take-append-drop gate image) ∙ ap (λ (b : List ℕ). b ++ drop gate image) same ∙ ap (λ (b : List ℕ). take gate file ++ b) opened in
    ap read_log whole ∙ s.reads tail (omega arith)
    ∙ ap (onto s.entries) (read_open (to_be_bytes w32 (length body)) body (0 ∷ more) (length tail) gate refl (from_be_bytes-to_be_bytes_4 (length body) fits) (omega arith) (omega arith)
    ∙ ap (joined (record { gate = gate; body = body })) (read_shut (length (0 ∷ more)) (gate + (length body + 5)) (0 ∷ more) (zero_shut more)))
    ∙ onto-joined s.entries (record { gate = gate; body = body }) (gate + (length body + 5))
    ∙ ap (with_record body) (sym s.is)

-- any byte at the gate: the records, or these and one more
grows : (file image : List ℕ) (gate : ℕ) (body : List ℕ) → Spells file gate → Staged file gate body → length body < 2 ^ 32 → take gate image ≡ take gate file → drop (gate + 1) image ≡ drop (gate + 1) file → gate < length image → Grows file body image
grows file image gate body s st fits before after within =
    let g = get_or image gate 0 in
    let tail : drop gate image ≡ g ∷ (to_be_bytes w32 (length body) ++ (body ++ (0 ∷ st.more))) = behind image gate within ∙ ap (λ (b : List ℕ). g ∷ b) (after ∙ st.behind_is) in
    elim (cases_eq g 1) [
      | inl opened ↦ inr (adds_record file image gate body st.more s fits before (tail ∙ ap (λ (n : ℕ). n ∷ (to_be_bytes w32 (length body) ++ (body ++ (0 ∷ st.more)))) opened))
      | inr closed ↦ inl (keeps_closed file image gate s before (ap is_open tail ∙ is_open-more g (to_be_bytes w32 (length body) ++ (body ++ (0 ∷ st.more))) (omega arith) ∙ ne_eqb g 1 closed) within)
    ]

-- a torn write of the gate
pub torn_gate : (file image : List ℕ) (gate : ℕ) (body : List ℕ) → end_of (read_log file) ≡ Some gate → gate < length file → Staged file gate body → length body < 2 ^ 32 → Torn gate 1 file image → Grows file body image
torn_gate file image gate body is within st fits torn = grows file image gate body (spells file gate is) st fits torn.before torn.after (omega (arith, torn.no_shorter))

-- the gate was opened
pub opened_gate : (old file new : List ℕ) (after : List ℕ → Type 0) (gate : ℕ) (body : List ℕ) → end_of (read_log file) ≡ Some gate → gate < length file → Staged file gate body → length body < 2 ^ 32 → Holds file gate (1 ∷ []) new → Only new after
    → (read_log new ≡ with_record body (read_log file)) × IsReady new after (gate + (length body + 5))
opened_gate old file new after gate body is within st fits holds only =
    let s = spells file gate is in
    let size = to_be_bytes w32 (length body) in
    let long : length (take gate file) ≡ gate = omega (arith, length-take gate file) in
    let whole : new ≡ take gate file ++ (1 ∷ (size ++ (body ++ (0 ∷ st.more)))) = holds ∙ append_assoc (take gate file) (1 ∷ []) (drop (gate + 1) file) ∙ ap (λ (b : List ℕ). take gate file ++ (1 ∷ b)) st.behind_is in
    let before : take gate new ≡ take gate file = ap (take gate) whole ∙ take_at (take gate file) (1 ∷ (size ++ (body ++ (0 ∷ st.more)))) gate long in
    let tail : drop gate new ≡ 1 ∷ (size ++ (body ++ (0 ∷ st.more))) = ap (drop gate) whole ∙ drop_at (take gate file) (1 ∷ (size ++ (body ++ (0 ∷ st.more)))) gate long in
    let read = adds_record file new gate body st.more s fits before tail in
    let end = gate + (length body + 5) in
    let sum : gate + (5 + length body) ≡ end = omega arith in
    let at_end : drop end new ≡ 0 ∷ st.more =
    ap (λ (n : ℕ). drop n new) (sym sum) ∙ sym (drop-drop (5 + length body) gate new) ∙ ap (drop (5 + length body)) tail
    ∙ sym (drop-drop (length body) 5 (1 ∷ (size ++ (body ++ (0 ∷ st.more))))) ∙ ap (drop (length body)) (drop_at (1 ∷ size) (body ++ (0 ∷ st.more)) 5 refl) ∙ drop_at body (0 ∷ st.more) (length body) refl in (
      read,
      record {
        end = ap end_of (read ∙ ap (with_record body) s.is);
        shut = let z : end + 0 ≡ end = omega arith in ap (λ (n : ℕ). get_or new n 0) (sym z) ∙ sym (get_or-drop end new 0 0) ∙ ap (λ (b : List ℕ). get_or b 0 0) at_end;
        within = let lengths = ap length at_end in omega (arith, lengths, length-drop end new);
        only = only;
      },
    )
