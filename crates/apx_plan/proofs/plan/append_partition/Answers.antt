use Rattle.std.proofs.Common.{◌≡◌, ◌++◌, ap, ◌∙◌, codes}
use Rattle.std.proofs.lemmas.Result.{on_ok_weaker}
use Rattle.apx_plan.specs.Plan.{numbered, mask_text, classes_text, partition_text}
use Rattle.apx_plan.proofs.Growing.{five_pieces}
use Rattle.apx_plan.proofs.plan.append_partition.Goals as goal

pub returns-clause-ok : goal.returns-clause-ok
unfolding partition_text
returns-clause-ok c =
    let old = c.args.into.now.items in
    let e1 : c.append_number.new.into.items ≡ old ++ numbered (codes "  partition ") c.args.partition = c.in_ok-append_number.ensures.ok ∙ ap (λ n. old ++ numbered (codes "  partition ") n) c.from.ensures in
    let e2 : c.append_mask.new.into.items ≡ c.append_number.new.into.items ++ mask_text c.args.n = c.in_ok-append_mask.ensures.ok in
    let e3 : c.append_text.new.into.items ≡ c.append_mask.new.into.items ++ codes " keys" = c.in_ok-append_text.ensures.ok in
    let e4 : c.append_keys.new.into.items ≡ c.append_text.new.into.items ++ classes_text c.args.n c.args.partition = c.in_ok-append_keys.ensures.ok in
    on_ok_weaker c.append_text-2.result (λ e. five_pieces old (numbered (codes "  partition ") c.args.partition) (mask_text c.args.n) (codes " keys") (classes_text c.args.n c.args.partition) (codes "\n") c.append_number.new.into.items c.append_mask.new.into.items c.append_text.new.into.items c.append_keys.new.into.items c.append_text-2.new.into.items e1 e2 e3 e4 e) c.append_text-2.ensures.ok
