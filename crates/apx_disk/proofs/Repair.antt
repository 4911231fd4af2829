-- What the images of a file spell while what follows its closed gate is cut off and the gate is written as 0.
use Rattle.std.proofs.Common.{◌≡◌, inl, inr, ℕ, ◌+◌, ◌<◌, ◌≤◌, false, List, [], ◌∷◌, length, take, drop, get_or, Some, refl, sym, ap, ◌∙◌, append_assoc, arith, length-drop}
use Rattle.std.proofs.lemmas.Bool.{cases_lt}
use Rattle.std.proofs.lemmas.List.{take_all, drop_at, drop_all, length-take, take-take, get_or-drop, get_or-take}
use Rattle.apx_disk.specs.Disk.{Holds, Torn, CutTo, Only}
use Rattle.apx_disk.specs.Log.{is_open, read_log, end_of, IsReady}
use Rattle.apx_disk.proofs.Images.{spells, behind, keeps_closed}

-- fewer bytes behind a gate that isn't open leave it not open
shut_less : (gate : ℕ) (file image : List ℕ) → length image ≤ length file → is_open (gate ∷ file) ≡ false → is_open (gate ∷ image) ≡ false
shut_less gate file [] less shut = refl
shut_less gate [] (byte ∷ image) less shut = absurd (omega arith)
shut_less gate (first ∷ file) (byte ∷ image) less shut = shut

-- the bytes behind the closed gate are cut off, or some of them, or hold anything
pub keeps_cut : (file image : List ℕ) (gate : ℕ) → end_of (read_log file) ≡ Some gate → gate + 1 ≤ length file → CutTo (gate + 1) file image → read_log image ≡ read_log file
keeps_cut file image gate is within cut =
    let s = spells file gate is in
    let fewer : gate ≤ gate + 1 = omega arith in
    let long : gate < length image = omega (arith, cut.no_shorter, within) in
    let before : take gate image ≡ take gate file = sym (take-take gate (gate + 1) image fewer) ∙ ap (take gate) cut.before ∙ take-take gate (gate + 1) file fewer in
    let same : get_or image gate 0 ≡ get_or file gate 0 = sym (get_or-take (gate + 1) image gate 0 (omega arith)) ∙ ap (λ (b : List ℕ). get_or b gate 0) cut.before ∙ get_or-take (gate + 1) file gate 0 (omega arith) in
    let was_shut : is_open (get_or file gate 0 ∷ drop (gate + 1) file) ≡ false = ap is_open (sym (behind file gate (omega (arith, within)))) ∙ s.shut in
    let less : length (drop (gate + 1) image) ≤ length (drop (gate + 1) file) = omega (arith, length-drop (gate + 1) image, length-drop (gate + 1) file, cut.no_longer) in
    let shut : is_open (drop gate image) ≡ false =
    ap is_open (behind image gate long ∙ ap (λ (g : ℕ). g ∷ drop (gate + 1) image) same) ∙ shut_less (get_or file gate 0) (drop (gate + 1) file) (drop (gate + 1) image) less was_shut in
    keeps_closed file image gate s before shut long

-- the gate is the last byte, or is missing, and any byte comes there
pub keeps_shut : (file image : List ℕ) (gate : ℕ) → end_of (read_log file) ≡ Some gate → length file ≤ gate + 1 → Torn gate 1 file image → read_log image ≡ read_log file
keeps_shut file image gate is short torn =
    let s = spells file gate is in
    elim (cases_lt gate (length image)) [
      | inl long ↦
          let none : drop (gate + 1) image ≡ [] = drop_all (gate + 1) image (omega (arith, torn.no_longer, short)) in
          keeps_closed file image gate s torn.before (ap is_open (behind image gate long ∙ ap (λ (b : List ℕ). get_or image gate 0 ∷ b) none)) long
      | inr le ↦
          let whole_image : take gate image ≡ image = take_all gate image le in
          let whole_file : take gate file ≡ file = take_all gate file (omega (arith, torn.no_shorter, le)) in
          ap read_log (sym whole_image ∙ torn.before ∙ whole_file)
    ]

-- the gate was written as 0
pub shut_ready : (file new : List ℕ) (after : List ℕ → Type 0) (gate : ℕ) → end_of (read_log file) ≡ Some gate → gate ≤ length file → read_log new ≡ read_log file → Holds file gate (0 ∷ []) new → Only new after → IsReady new after gate
shut_ready file new after gate is within same holds only =
    let long : length (take gate file) ≡ gate = omega (arith, length-take gate file) in
    let tail : drop gate new ≡ 0 ∷ drop (gate + 1) file = ap (drop gate) (holds ∙ append_assoc (take gate file) (0 ∷ []) (drop (gate + 1) file)) ∙ drop_at (take gate file) (0 ∷ drop (gate + 1) file) gate long in
    let here : gate + 0 ≡ gate = omega arith in
    record {
      end = ap end_of same ∙ is;
      shut = ap (λ (n : ℕ). get_or new n 0) (sym here) ∙ sym (get_or-drop gate new 0 0) ∙ ap (λ (b : List ℕ). get_or b 0 0) tail;
      within = let lengths = ap length tail in omega (arith, lengths, length-drop gate new);
      only = only;
    }
