use Rattle.std.proofs.Common.{ℕ, List, [], ◌∷◌, ◌++◌, ap, ◌∙◌, subst, rules}
use Rattle.apx_disk.specs.declared.memory_disk.Change.{Change}
use Rattle.apx_disk.specs.Disk.{Torn, CutTo}
use Rattle.apx_disk.specs.Histories.{here_now}
use Rattle.apx_disk.proofs.Pushing.{torn_now, cut_now, torn_cut}
use Rattle.apx_disk.proofs.memory_disk.image_of.Goals as goal

pub returns-in_ok-image-in-Some-Wrote : goal.returns-in_ok-image-in-Some-Wrote
returns-in_ok-image-in-Some-Wrote c =
    let step = c.in-Some-Wrote in
    torn_now c.pop.new.self.items c.args.changes.items step.was step.at step.count c.args.bytes.items c.in_ok-image-in-Some-Wrote.image.items
    (step.ensures.items ∙ ap (λ (x : Change). c.pop.new.self.items ++ x ∷ []) step.field-0-is)
    (subst (λ (b : List ℕ). Torn step.at step.count b c.in_ok-image-in-Some-Wrote.image.items) c.deref.ensures.value c.in_ok-image-in-Some-Wrote.ensures.torn)

pub returns-in_ok-image-in-Some-Cut : goal.returns-in_ok-image-in-Some-Cut
returns-in_ok-image-in-Some-Cut c =
    let step = c.in-Some-Cut in
    let image = c.in_ok-image-in-Some-Cut.image.items in
    let torn = torn_cut step.len c.saturating_sub-rest.result c.deref-in-Some-Cut.result.now image (search rules) c.in_ok-image-in-Some-Cut.ensures.torn c.in_ok-image-in-Some-Cut.ensures.past in
    cut_now c.pop.new.self.items c.args.changes.items step.was step.len c.args.bytes.items image
    (step.ensures.items ∙ ap (λ (x : Change). c.pop.new.self.items ++ x ∷ []) step.field-0-is)
    (subst (λ (b : List ℕ). CutTo step.len b image) c.deref-in-Some-Cut.ensures.value torn)

pub returns-in-Some-Synced : goal.returns-in-Some-Synced
returns-in-Some-Synced c = here_now c.args.changes.items c.args.bytes.items
