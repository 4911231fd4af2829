-- Where a rest of a text begins.
use Rattle.std.proofs.Common.{◌≡◌, ℕ, ◌+◌, ◌-◌, List, length, drop, ap, ◌∙◌, arith}
use Rattle.std.proofs.lemmas.List.{drop-drop}
use Rattle.apx_lines.specs.Rest.{IsRest}

-- the end of an end is an end
pub end_of_end : (text rest behind : List ℕ) → IsRest text rest → IsRest rest behind → IsRest text behind
end_of_end text rest behind r b =
    let place : (length text - length rest) + (length rest - length behind) ≡ length text - length behind = omega (arith, r.shorter, b.shorter) in
    let inner : drop (length rest - length behind) rest ≡ drop (length rest - length behind) (drop (length text - length rest) text) = ap (drop (length rest - length behind)) r.same in
    record {
      shorter = omega (arith, r.shorter, b.shorter);
      same = b.same ∙ inner ∙ drop-drop (length rest - length behind) (length text - length rest) text ∙ ap (λ n. drop n text) place;
    }
