use Rattle.std.proofs.Common.{◌≡◌, ◌++◌, ap, ◌∙◌, codes}
use Rattle.std.proofs.lemmas.Result.{on_ok_weaker}
use Rattle.apx_plan.specs.Plan.{numbered, spaced, head_text}
use Rattle.apx_plan.proofs.Growing.{extends_front, four_pieces, five_pieces}
use Rattle.apx_plan.proofs.plan.append_head.Goals as goal

pub returns-clause-ok : goal.returns-clause-ok
unfolding head_text
returns-clause-ok c =
    let old = c.args.into.now.items in
    let e1 : c.append_number.new.into.items ≡ old ++ numbered (codes "operator ") c.args.number = c.in_ok-append_number.ensures.ok ∙ ap (λ n. old ++ numbered (codes "operator ") n) c.from.ensures in
    let e2 : c.append_word.new.into.items ≡ c.append_number.new.into.items ++ spaced c.args.class.now = c.in_ok-append_word.ensures.ok in
    let e3 : c.append_number-2.new.into.items ≡ c.append_word.new.into.items ++ numbered (codes " ") c.args.partitions = c.in_ok-append_number-2.ensures.ok ∙ ap (λ n. c.append_word.new.into.items ++ numbered (codes " ") n) c.from-2.ensures in
    let e4 : c.append_word-2.new.into.items ≡ c.append_number-2.new.into.items ++ spaced c.args.name.now = c.in_ok-append_word-2.ensures.ok in
    on_ok_weaker c.append_text.result (λ e. five_pieces old (numbered (codes "operator ") c.args.number) (spaced c.args.class.now) (numbered (codes " ") c.args.partitions) (spaced c.args.name.now) (codes "\n") c.append_number.new.into.items c.append_word.new.into.items c.append_number-2.new.into.items c.append_word-2.new.into.items c.append_text.new.into.items e1 e2 e3 e4 e) c.append_text.ensures.ok

pub returns-clause-kept : goal.returns-clause-kept
returns-clause-kept c =
    let old = c.args.into.now.items in
    let e1 : c.append_number.new.into.items ≡ old ++ numbered (codes "operator ") c.args.number = c.in_ok-append_number.ensures.ok ∙ ap (λ n. old ++ numbered (codes "operator ") n) c.from.ensures in
    let e2 : c.append_word.new.into.items ≡ c.append_number.new.into.items ++ spaced c.args.class.now = c.in_ok-append_word.ensures.ok in
    let e3 : c.append_number-2.new.into.items ≡ c.append_word.new.into.items ++ numbered (codes " ") c.args.partitions = c.in_ok-append_number-2.ensures.ok ∙ ap (λ n. c.append_word.new.into.items ++ numbered (codes " ") n) c.from-2.ensures in
    let e4 : c.append_word-2.new.into.items ≡ c.append_number-2.new.into.items ++ spaced c.args.name.now = c.in_ok-append_word-2.ensures.ok in
    extends_front old (numbered (codes "operator ") c.args.number ++ (spaced c.args.class.now ++ (numbered (codes " ") c.args.partitions ++ spaced c.args.name.now))) c.append_word-2.new.into.items c.append_text.new.into.items
    (four_pieces old (numbered (codes "operator ") c.args.number) (spaced c.args.class.now) (numbered (codes " ") c.args.partitions) (spaced c.args.name.now) c.append_number.new.into.items c.append_word.new.into.items c.append_number-2.new.into.items c.append_word-2.new.into.items e1 e2 e3 e4) c.append_text.ensures.kept
