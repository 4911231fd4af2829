use Rattle.std.proofs.Common.{ℕ, ◌<◌, List, length, set, IsTrue, sym, ap, subst, ◌∙◌, arith}
use Rattle.apx_device.specs.declared.vault.SaveId.{SaveId}
use Rattle.apx_device.specs.Vault.{entry_at}
use Rattle.apx_history.specs.declared.Event.TheVariants.{Repartition}
use Rattle.apx_history.specs.Plan.{line, count_or}
use Rattle.apx_history.specs.State.{oper, parts}
use Rattle.apx_history.specs.Conditions.{CanRepartition}
use Rattle.apx_history.specs.Effects.{meet, split}
use Rattle.apx_history.proofs.Legal.{can_facts}
use Rattle.apx_held.specs.Fits.{Fits, IsSaved, save_id}
use Rattle.apx_held.specs.Holding.{Holding}
use Rattle.apx_renew.specs.Renewed.{KeepRenewed}
use Rattle.apx_renew.proofs.Group.{fits_renewed}
use Rattle.apx_stores.specs.Crashes.{EntriesFollow, NoPut}
use Rattle.apx_stores.proofs.Crashing.{entries_end, entries_go_on, entries_weaker}
use Rattle.apx_reset.specs.Put.{IsRenewal}
use Rattle.apx_reset.proofs.Planned.{windows_are, operators_are, number_is}
use Rattle.apx_reset.proofs.Splitting.{saved_rests, renewed_count, moved_carried, moved_large, kept_from, group_from}
use Rattle.apx_reset.proofs.splits.renew_operator.Goals as goal

pub all_restored-requires-clause-saved : goal.all_restored-requires-clause-saved
all_restored-requires-clause-saved g c = λ tells pos i lt.
    let run = g.J.Naming.run in
    let at = entry_at (g.V.Vault.held c.args.stores.now.vault) in
    let m = c.args.stores.now.course.machine in
    let is = c.split_of-split.ensures in
    let can : CanRepartition run.plan m c.args.line = can_facts run.plan m (Repartition c.args.line) c.requires.can in
    let there : i < parts m (line run.plan c.args.line).op = omega (arith, lt, is.from) in
    subst (λ (d : SaveId). IsSaved run.job run.told d.op d.boundary i d.window (at (save_id d.op d.boundary i d.window))) (sym is.last)
    (saved_rests run.job run.told at run.plan m c.args.line c.facts.ensures.kept can (c.requires.fits.vault tells) is.there i there (subst (λ (d : SaveId). 0 < d.window) is.last pos))

pub moved-requires-clause-large : goal.moved-requires-clause-large
moved-requires-clause-large g c = λ large told.
    let run = g.J.Naming.run in
    let m = c.args.stores.now.course.machine in
    let l = line run.plan c.args.line in
    let is = c.split_of-split.ensures in
    let op : l.op < length run.plan.operators = omega (arith, is.there, c.facts.ensures.kept.ops) in
    moved_large run.job l.op (oper m l.op).boundary l.window c.split_of-split.result.from c.split_of-split.result.last c.in_ok-parts.parts.items
    is.last (is.was ∙ number_is run.plan run.job c.requires.planned l.op (oper m l.op).boundary op) c.in_ok-parts.ensures.count is.some (c.in_ok-parts.ensures.carried told)
    (omega (arith, is.within, windows_are run.plan run.job c.requires.planned)) (omega (arith, op, operators_are run.plan run.job c.requires.planned)) large

pub renew_parts-requires-clause-few : goal.renew_parts-requires-clause-few
renew_parts-requires-clause-few g c =
    omega (arith, renewed_count c.in_ok-parts.parts.items c.in_ok-parts-2.parts.items c.split_of-split.result.to c.in_ok-parts-2.ensures.ok, c.split_of-split.ensures.high)

pub renew_parts-requires-clause-small : goal.renew_parts-requires-clause-small
renew_parts-requires-clause-small g c = λ i lt.
    c.in_ok-parts-2.ensures.small i (omega (arith, lt, renewed_count c.in_ok-parts.parts.items c.in_ok-parts-2.parts.items c.split_of-split.result.to c.in_ok-parts-2.ensures.ok))

pub renew_parts-requires-clause-carried : goal.renew_parts-requires-clause-carried
renew_parts-requires-clause-carried g c = λ told i lt.
    let run = g.J.Naming.run in
    let m = c.args.stores.now.course.machine in
    let l = line run.plan c.args.line in
    let is = c.split_of-split.ensures in
    let op : l.op < length run.plan.operators = omega (arith, is.there, c.facts.ensures.kept.ops) in
    moved_carried run.job l.op (oper m l.op).boundary l.window c.split_of-split.result.from c.split_of-split.result.to c.split_of-split.result.last c.split_of-split.result.first c.in_ok-parts.parts.items
    c.in_ok-parts-2.parts.items is.last is.first (is.was ∙ number_is run.plan run.job c.requires.planned l.op (oper m l.op).boundary op) (is.is ∙ number_is run.plan run.job c.requires.planned l.op l.window op)
    c.in_ok-parts.ensures.count (c.in_ok-parts.ensures.carried told) c.in_ok-parts-2.ensures.whole i
    (omega (arith, lt, renewed_count c.in_ok-parts.parts.items c.in_ok-parts-2.parts.items c.split_of-split.result.to c.in_ok-parts-2.ensures.ok))

pub returns-clause-kept : goal.returns-clause-kept
returns-clause-kept g c = λ tells.
    let run = g.J.Naming.run in
    let l = line run.plan c.args.line in
    let is = c.split_of-split.ensures in
    let count = renewed_count c.in_ok-parts.parts.items c.in_ok-parts-2.parts.items c.split_of-split.result.to c.in_ok-parts-2.ensures.ok ∙ is.to in
    kept_from run.job run.told c.split_of-split.result.first l.op l.window (length c.in_ok-parts-2.parts.items) (count_or 0 l.act) (g.V.Vault.held c.args.stores.now.vault) (g.V.Vault.held c.moved.new.stores.vault)
    (g.V.Vault.held c.renew_parts.new.stores.vault) is.first count (ap (λ s. g.V.Vault.held s.vault) c.in_ok-parts-2.ensures.same ∙ c.in_ok-parts.ensures.held tells) (c.in_ok-group.ensures.kept tells)

pub returns-clause-fits : goal.returns-clause-fits
returns-clause-fits g c =
    let run = g.J.Naming.run in
    let m = c.args.stores.now.course.machine in
    let l = line run.plan c.args.line in
    let is = c.split_of-split.ensures in
    let at' = entry_at (g.V.Vault.held c.renew_parts.new.stores.vault) in
    let count = renewed_count c.in_ok-parts.parts.items c.in_ok-parts-2.parts.items c.split_of-split.result.to c.in_ok-parts-2.ensures.ok ∙ is.to in
    let first = c.split_of-split.result.first in
    let group = c.in_ok-group.group.items in
    let kept : IsTrue g.V.Vault.tells → KeepRenewed run.job run.told l.op l.window (count_or 0 l.act) (entry_at (g.V.Vault.held c.args.stores.now.vault)) at' = λ t. kept_from run.job run.told first l.op l.window (length c.in_ok-parts-2.parts.items) (count_or 0 l.act) (g.V.Vault.held c.args.stores.now.vault) (g.V.Vault.held c.moved.new.stores.vault)
    (g.V.Vault.held c.renew_parts.new.stores.vault) is.first count (ap (λ s. g.V.Vault.held s.vault) c.in_ok-parts-2.ensures.same ∙ c.in_ok-parts.ensures.held t) (c.in_ok-group.ensures.kept t) in
    subst (λ (hs : List (List Holding)). Fits run.job (record { all = run.told; vault = g.V.Vault.tells }) at' (meet c.args.line (split l.op l.window (count_or 0 l.act) m)) hs)
    (sym (c.renew.ensures ∙ ap (λ (d : SaveId). set c.args.contents.now d.op group) is.first))
    (fits_renewed run.job (record { all = run.told; vault = g.V.Vault.tells }) (entry_at (g.V.Vault.held c.args.stores.now.vault)) at' m c.args.contents.now c.requires.fits c.args.line l.op l.window (count_or 0 l.act)
    is.there group (group_from run.job run.told first l.op l.window (length c.in_ok-parts-2.parts.items) (count_or 0 l.act) group is.first count c.in_ok-group.ensures.renewed) kept)

pub returns-in_err-parts-clause-crash : goal.returns-in_err-parts-clause-crash
returns-in_err-parts-clause-crash g c = λ t.
    let run = g.J.Naming.run in
    let l = line run.plan c.args.line in
    let good = IsRenewal run l.op l.window (count_or 0 l.act) in
    let old = c.args.stores.now.vault in
    let read = entries_weaker g.V.Vault.time g.V.Vault.left g.V.Vault.held good NoPut (λ id bytes none. absurd none) old c.all_restored.new.stores.vault (c.all_restored.ensures.crash t) in
    read

pub returns-in_err-parts-2-clause-crash : goal.returns-in_err-parts-2-clause-crash
returns-in_err-parts-2-clause-crash g c = λ t.
    let run = g.J.Naming.run in
    let l = line run.plan c.args.line in
    let good = IsRenewal run l.op l.window (count_or 0 l.act) in
    let old = c.args.stores.now.vault in
    let read = entries_weaker g.V.Vault.time g.V.Vault.left g.V.Vault.held good NoPut (λ id bytes none. absurd none) old c.all_restored.new.stores.vault (c.all_restored.ensures.crash t) in
    entries_end g.V.Vault.time g.V.Vault.left g.V.Vault.held good old c.all_restored.new.stores.vault c.moved.new.stores.vault c.moved.ensures.vault read

pub returns-in_err-group-clause-crash : goal.returns-in_err-group-clause-crash
returns-in_err-group-clause-crash g c = λ t.
    let run = g.J.Naming.run in
    let l = line run.plan c.args.line in
    let good = IsRenewal run l.op l.window (count_or 0 l.act) in
    let old = c.args.stores.now.vault in
    let read = entries_weaker g.V.Vault.time g.V.Vault.left g.V.Vault.held good NoPut (λ id bytes none. absurd none) old c.all_restored.new.stores.vault (c.all_restored.ensures.crash t) in
    let first = c.split_of-split.result.first in
    let count = renewed_count c.in_ok-parts.parts.items c.in_ok-parts-2.parts.items c.split_of-split.result.to c.in_ok-parts-2.ensures.ok ∙ c.split_of-split.ensures.to in
    let put : EntriesFollow good g.V.Vault.time g.V.Vault.left g.V.Vault.held c.moved.new.stores.vault c.renew_parts.new.stores.vault =
    subst (λ (d : SaveId). EntriesFollow (IsRenewal run d.op d.boundary (count_or 0 l.act)) g.V.Vault.time g.V.Vault.left g.V.Vault.held c.moved.new.stores.vault c.renew_parts.new.stores.vault) c.split_of-split.ensures.first
    (subst (λ (n : ℕ). EntriesFollow (IsRenewal run first.op first.boundary n) g.V.Vault.time g.V.Vault.left g.V.Vault.held c.moved.new.stores.vault c.renew_parts.new.stores.vault) count (c.renew_parts.ensures.crash t)) in
    entries_go_on g.V.Vault.time g.V.Vault.left g.V.Vault.held good old c.moved.new.stores.vault c.renew_parts.new.stores.vault
    (entries_end g.V.Vault.time g.V.Vault.left g.V.Vault.held good old c.all_restored.new.stores.vault c.moved.new.stores.vault c.moved.ensures.vault read) put

pub returns-clause-crash : goal.returns-clause-crash
returns-clause-crash g c = λ t.
    let run = g.J.Naming.run in
    let l = line run.plan c.args.line in
    let good = IsRenewal run l.op l.window (count_or 0 l.act) in
    let old = c.args.stores.now.vault in
    let read = entries_weaker g.V.Vault.time g.V.Vault.left g.V.Vault.held good NoPut (λ id bytes none. absurd none) old c.all_restored.new.stores.vault (c.all_restored.ensures.crash t) in
    let first = c.split_of-split.result.first in
    let count = renewed_count c.in_ok-parts.parts.items c.in_ok-parts-2.parts.items c.split_of-split.result.to c.in_ok-parts-2.ensures.ok ∙ c.split_of-split.ensures.to in
    let put : EntriesFollow good g.V.Vault.time g.V.Vault.left g.V.Vault.held c.moved.new.stores.vault c.renew_parts.new.stores.vault =
    subst (λ (d : SaveId). EntriesFollow (IsRenewal run d.op d.boundary (count_or 0 l.act)) g.V.Vault.time g.V.Vault.left g.V.Vault.held c.moved.new.stores.vault c.renew_parts.new.stores.vault) c.split_of-split.ensures.first
    (subst (λ (n : ℕ). EntriesFollow (IsRenewal run first.op first.boundary n) g.V.Vault.time g.V.Vault.left g.V.Vault.held c.moved.new.stores.vault c.renew_parts.new.stores.vault) count (c.renew_parts.ensures.crash t)) in
    entries_go_on g.V.Vault.time g.V.Vault.left g.V.Vault.held good old c.moved.new.stores.vault c.renew_parts.new.stores.vault
    (entries_end g.V.Vault.time g.V.Vault.left g.V.Vault.held good old c.all_restored.new.stores.vault c.moved.new.stores.vault c.moved.ensures.vault read) put
