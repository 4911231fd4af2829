use Rattle.std.proofs.Common.{◌≡◌, ℕ, length, get_or, ap, ◌∙◌, List, arith}
use Rattle.std.proofs.lemmas.List.FromFn.{length-map-range_with_len}
use Rattle.apx_pass.specs.Pass.{at_start}
use Rattle.apx_rules.specs.Parts.{of_parts}
use Rattle.apx_shares.specs.Carried.{cut_progress}
use Rattle.apx_tuple.specs.declared.progress.Progress.{Progress}
use Rattle.apx_renew.proofs.Splitting.{parts_more, own_more, own_states}
use Rattle.apx_renew.proofs.splits.all_owned.Goals as goal

pub loop-part-preserved : goal.loop-part-preserved
loop-part-preserved c =
    let cut : ℕ → Progress = λ i. cut_progress (length c.args.parts.now) i (get_or c.args.parts.now i at_start) in
    let count : length c.loop-part.own.items ≡ c.loop-part.part = ap (λ (gs : List Progress). length gs) c.loop-part.invariant.cut ∙ length-map-range_with_len cut 0 c.loop-part.part in
    record {
      cut = c.in_ok-push.ensures.items ∙ parts_more cut c.loop-part.own.items c.loop-part.part c.in_ok-cut.cut c.loop-part.invariant.cut c.in_ok-cut.ensures.cut;
      own = own_more (length c.args.parts.now) c.loop-part.own.items c.loop-part.part c.in_ok-cut.cut count c.loop-part.invariant.own c.in_ok-cut.ensures.own c.push.new.self.items c.in_ok-push.ensures.items;
    }

pub returns-clause-cut : goal.returns-clause-cut
returns-clause-cut c =
    let cut : ℕ → Progress = λ i. cut_progress (length c.args.parts.now) i (get_or c.args.parts.now i at_start) in
    c.loop-part.invariant.cut ∙ ap (λ (k : ℕ). of_parts k cut) (omega arith)

pub returns-clause-own : goal.returns-clause-own
returns-clause-own c =
    let cut : ℕ → Progress = λ i. cut_progress (length c.args.parts.now) i (get_or c.args.parts.now i at_start) in
    let count : length c.loop-part.own.items ≡ length c.args.parts.now = omega (arith, ap (λ (gs : List Progress). length gs) c.loop-part.invariant.cut, length-map-range_with_len cut 0 c.loop-part.part) in
    own_states (length c.args.parts.now) c.loop-part.own.items count (λ i lt. c.loop-part.invariant.own i (omega (arith, lt)))
