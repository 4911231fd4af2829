use Rattle.std.proofs.Common.{◌≡◌, [], length, true, false, sym, ap, ◌∙◌, eq-eqb, eqb}
use Rattle.std.proofs.lemmas.Bool.{eqb-true}
use Rattle.apx_list.proofs.Checked.{others_of, ends_empty, ends_with, ends_without, ends_missing, never}
use Rattle.apx_list.proofs.checking.+are_ends.Goals as goal
use Rattle.apx_list.proofs.checking.+are_ends.Goals.{else-last-via-then-last+else-is_empty, else-last-via-else-last}

pub returns-in_default : goal.returns-in_default
returns-in_default n c = ends_empty c.args.messages.now c.args.last c.args.bytes.now c.is_empty.result c.in_default.len_below c.is_empty.ensures

pub returns-in-Some : goal.returns-in-Some
returns-in-Some n c = ends_with c.are_ends.result c.args.messages.now c.message-item.result c.args.last c.args.bytes.now c.in-Some.rest.now c.in-len1-up.len_at_least c.message-item.is c.requires (rw c.in-Some.is at c.in_ok-rest.ensures) c.are_ends.ensures

pub returns-then-is_empty : goal.returns-then-is_empty
returns-then-is_empty n c =
    let alone : length (others_of c.args.messages.now) ≡ 0 = eqb-true _ 0 (sym c.is_empty-then-last.ensures ∙ c.if-is_empty.true) in
    never (ends_missing c.args.messages.now c.message-item.result c.args.last c.args.bytes.now c.in-len1-up.len_at_least c.message-item.is c.if-last.true alone (rw c.in_default-2.is at c.in_ok-rest.ensures))

pub returns : goal.returns
returns n c =
    let more : c.args.last ≡ true → others_of c.args.messages.now ≡ [] → ⊥ = elim c.else-last.branch [
      | else-last-via-then-last+else-is_empty w ↦ λ t e.
          let empty : eqb (length (others_of c.args.messages.now)) 0 ≡ true = eq-eqb _ 0 (ap length e) in
          let both : true ≡ false = sym empty ∙ (sym w.is_empty-then-last.ensures ∙ w.if-is_empty.false) in
          absurd (cc both)
      | else-last-via-else-last w ↦ λ t e.
          let both : true ≡ false = sym t ∙ w.if-last.false in
          absurd (cc both)
    ] in
    ends_without c.are_ends-2.result c.args.messages.now c.message-item.result c.args.last c.args.bytes.now c.in-len1-up.len_at_least c.message-item.is (rw c.in_default-2.is at c.in_ok-rest.ensures) more c.are_ends-2.ensures
