-- Lines one after the other.
use Rattle.std.proofs.Common.{◌≡◌, ◌<◌, ◌≤◌, ◌-◌, ◌+◌, ℕ, zero, suc, List, [], ◌++◌, ap, sym, ◌∙◌, arith, append_assoc}
use Rattle.std.proofs.lemmas.List.{append-nil}
use Rattle.rand_pcg.specs.Lcg.{Lcg}
use Rattle.apx_gen.specs.Generated.{after_line, line_text, lines_text}

-- the next line, and then the others
lines-next : (size counter : ℕ) (generator : Lcg) → counter < size →
    lines_text (size - counter) generator ≡ line_text generator ++ lines_text (size - (counter + 1)) (after_line generator)
lines-next size counter generator below =
    let more : size - counter ≡ suc (size - (counter + 1)) = omega arith in
    ap (λ count. lines_text count generator) more

-- a line was appended
pub lines_appended : (size counter : ℕ) (generator later : Lcg) (lines longer all : List ℕ) → counter < size →
    longer ≡ lines ++ line_text generator → later ≡ after_line generator →
    lines ++ lines_text (size - counter) generator ≡ all →
    longer ++ lines_text (size - (counter + 1)) later ≡ all
lines_appended size counter generator later lines longer all below line drawn is =
    ap (λ l. l ++ lines_text (size - (counter + 1)) later) line
    ∙ ap (λ g. (lines ++ line_text generator) ++ lines_text (size - (counter + 1)) g) drawn
    ∙ append_assoc lines (line_text generator) (lines_text (size - (counter + 1)) (after_line generator))
    ∙ ap (λ rest. lines ++ rest) (sym (lines-next size counter generator below))
    ∙ is

-- no line is yet to come
pub lines_all : (size counter : ℕ) (generator : Lcg) (lines all : List ℕ) → counter ≤ size → size ≤ counter →
    lines ++ lines_text (size - counter) generator ≡ all → lines ≡ all
lines_all size counter generator lines all le ge is =
    let none : size - counter ≡ 0 = omega arith in
    sym (append-nil lines) ∙ ap (λ count. lines ++ lines_text count generator) (sym none) ∙ is
