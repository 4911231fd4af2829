use Rattle.std.proofs.Common.{◌≡◌, ℕ, ◌+◌, ◌<◌, List, [], ◌∷◌, ◌++◌, length, length-append, IsTrue, refl, sym, ap, subst, ◌∙◌, arith, rules}
use Rattle.std.proofs.lemmas.Iterator.Adapters.{YieldsList-from_vec}
use Rattle.std.proofs.lemmas.Iterator.Consumers.{YieldsList-turn, YieldsList-end}
use Rattle.apx_device.specs.declared.vault.SaveId.{SaveId}
use Rattle.apx_device.specs.Vault.{entry_at, with_entry}
use Rattle.apx_pass.specs.Pass.{at_start}
use Rattle.apx_statebytes.specs.Spelling.{second_spelling}
use Rattle.apx_tuple.specs.declared.progress.Progress.{Progress}
use Rattle.apx_tuple.specs.Progress.{progress_size}
use Rattle.apx_held.specs.Holding.{Holding}
use Rattle.apx_held.specs.Partition.{progress_at}
use Rattle.apx_renew.specs.Renewed.{AreRenewed, KeepRenewed}
use Rattle.apx_renew.proofs.Group.{renewed_none, kept_none}
use Rattle.apx_stores.proofs.Crashing.{entries_stay, entries_end}
use Rattle.apx_reset.specs.Put.{IsRenewal}
use Rattle.apx_reset.proofs.Saving.{saved_more, one_more, begun_here, any_default, renewal_put}
use Rattle.apx_reset.proofs.renewing.renew_parts.Goals as goal

pub loop-progress-init : goal.loop-progress-init
loop-progress-init g c =
    let run = g.J.Naming.run in
    let first = c.args.first in
    record {
      renewed = subst (λ (hs : List Holding). AreRenewed run.job run.told first.op first.boundary 0 hs) (sym c.new-group.ensures.items) (renewed_none run.job run.told first.op first.boundary);
      kept = λ t. kept_none run.job run.told first.op first.boundary _;
      course = refl;
      keeper = refl;
      crash = λ t. entries_stay g.V.Vault.time g.V.Vault.left g.V.Vault.held (IsRenewal run first.op first.boundary (length c.args.parts.items)) c.args.stores.now.vault c.args.stores.now.vault refl
          (c.facts.ensures.settled c.requires.runs t);
    }

pub overflow_cast-id : goal.overflow_cast-id
overflow_cast-id g c =
    let len : c.into_iter-progress-iterator.result.rest.len ≡ length c.args.parts.items = search rules in
    let road = YieldsList-from_vec c.args.parts.items (c.into_iter-progress-iterator.ensures.into_iter_gives.0) len in
    let t = YieldsList-turn road c.loop-progress.yielded _ c.loop-progress.yielded_by _ c.next.new.self c.in-Some.progress c.in-Some.is c.next.ensures.steps in
    omega (arith, t.0, c.requires.few, c.loop-progress.invariant.renewed.count, c.len.ensures, c.loop-progress.group.ok)

pub renew_part-requires-clause-small : goal.renew_part-requires-clause-small
renew_part-requires-clause-small g c =
    let len : c.into_iter-progress-iterator.result.rest.len ≡ length c.args.parts.items = search rules in
    let road = YieldsList-from_vec c.args.parts.items (c.into_iter-progress-iterator.ensures.into_iter_gives.0) len in
    let t = YieldsList-turn road c.loop-progress.yielded _ c.loop-progress.yielded_by _ c.next.new.self c.in-Some.progress c.in-Some.is c.next.ensures.steps in
    subst (λ (x : Progress). progress_size x < 4294967232) (sym (t.1 ∙ any_default c.args.parts.items (length c.loop-progress.yielded) _ at_start t.0)) (c.requires.small (length c.loop-progress.yielded) t.0)

pub loop-progress-preserved : goal.loop-progress-preserved
loop-progress-preserved g c =
    let run = g.J.Naming.run in
    let first = c.args.first in
    let n = length c.loop-progress.yielded in
    let progress = c.in-Some.progress in
    let len : c.into_iter-progress-iterator.result.rest.len ≡ length c.args.parts.items = search rules in
    let road = YieldsList-from_vec c.args.parts.items (c.into_iter-progress-iterator.ensures.into_iter_gives.0) len in
    let t = YieldsList-turn road c.loop-progress.yielded _ c.loop-progress.yielded_by _ c.next.new.self progress c.in-Some.is c.next.ensures.steps in
    let more : length (c.loop-progress.yielded ++ progress ∷ []) ≡ n + 1 = omega (arith, length-append c.loop-progress.yielded (progress ∷ [])) in
    let part : c.len.result ≡ n = omega (arith, c.loop-progress.invariant.renewed.count, c.len.ensures, c.loop-progress.group.ok) in
    let is : IsTrue run.told → progress ≡ progress_at run.job first.op first.boundary n first.boundary = λ told. (t.1 ∙ any_default c.args.parts.items n _ at_start t.0 ∙ (c.requires.carried told n t.0 ∙ ap (λ (w : ℕ). progress_at run.job first.op first.boundary n w) c.requires.window)) in
    record {
      renewed = subst (λ (k : ℕ). AreRenewed run.job run.told first.op first.boundary k c.add.new.members.items) (sym more)
          (one_more run.job run.told first.op first.boundary first.window n c.loop-progress.group.items c.add.new.members.items progress c.in_ok-held.held c.args.cuts c.loop-progress.invariant.renewed c.requires.cuts
          c.requires.window c.in_ok-held.ensures.kept c.in_ok-add.ensures.items is);
      kept = λ tells. subst (λ (k : ℕ). KeepRenewed run.job run.told first.op first.boundary k (entry_at (g.V.Vault.held c.args.stores.now.vault)) (entry_at (g.V.Vault.held c.add.new.stores.vault))) (sym more)
          (saved_more run.job run.told first.op first.boundary n (entry_at (g.V.Vault.held c.args.stores.now.vault)) (g.V.Vault.held c.loop-progress.stores.vault) (g.V.Vault.held c.add.new.stores.vault) progress
          (c.loop-progress.invariant.kept tells)
          (ap (λ v. g.V.Vault.held v) c.add.ensures.vault
          ∙ (c.in_ok-held.ensures.held tells ∙ ap (λ (d : SaveId). with_entry (g.V.Vault.held c.loop-progress.stores.vault) d (second_spelling progress)) (begun_here first n c.len.result c.requires.window part)))
          c.in_ok-held.ensures.progress is);
      course = ap (λ s. s.course) c.in_ok-add.ensures.same ∙ (c.in_ok-held.ensures.course ∙ c.loop-progress.invariant.course);
      keeper = c.add.ensures.keeper ∙ (c.renew_part.ensures.keeper ∙ c.loop-progress.invariant.keeper);
      crash = λ tells. entries_end g.V.Vault.time g.V.Vault.left g.V.Vault.held (IsRenewal run first.op first.boundary (length c.args.parts.items)) c.args.stores.now.vault c.renew_part.new.stores.vault c.add.new.stores.vault
          c.add.ensures.vault
          (renewal_put run g.V.Vault.time g.V.Vault.left g.V.Vault.held first n c.len.result (length c.args.parts.items) progress c.args.stores.now.vault c.loop-progress.stores.vault c.renew_part.new.stores.vault
          t.0 c.requires.window part is (c.loop-progress.invariant.crash tells) (c.renew_part.ensures.crash tells));
    }

pub returns-clause-renewed : goal.returns-clause-renewed
returns-clause-renewed g c =
    let run = g.J.Naming.run in
    let len : c.into_iter-progress-iterator.result.rest.len ≡ length c.args.parts.items = search rules in
    let road = YieldsList-from_vec c.args.parts.items (c.into_iter-progress-iterator.ensures.into_iter_gives.0) len in
    let end = YieldsList-end road c.loop-progress.yielded _ c.loop-progress.yielded_by _ c.next.new.self c.in-None.is c.next.ensures.steps in
    subst (λ (k : ℕ). AreRenewed run.job run.told c.args.first.op c.args.first.boundary k c.loop-progress.group.items) end.1 c.loop-progress.invariant.renewed

pub returns-clause-kept : goal.returns-clause-kept
returns-clause-kept g c = λ tells.
    let run = g.J.Naming.run in
    let len : c.into_iter-progress-iterator.result.rest.len ≡ length c.args.parts.items = search rules in
    let road = YieldsList-from_vec c.args.parts.items (c.into_iter-progress-iterator.ensures.into_iter_gives.0) len in
    let end = YieldsList-end road c.loop-progress.yielded _ c.loop-progress.yielded_by _ c.next.new.self c.in-None.is c.next.ensures.steps in
    subst (λ (k : ℕ). KeepRenewed run.job run.told c.args.first.op c.args.first.boundary k (entry_at (g.V.Vault.held c.args.stores.now.vault)) (entry_at (g.V.Vault.held c.loop-progress.stores.vault))) end.1
    (c.loop-progress.invariant.kept tells)

pub returns-in_err-held-clause-crash : goal.returns-in_err-held-clause-crash
returns-in_err-held-clause-crash g c = λ tells.
    let run = g.J.Naming.run in
    let first = c.args.first in
    let n = length c.loop-progress.yielded in
    let len : c.into_iter-progress-iterator.result.rest.len ≡ length c.args.parts.items = search rules in
    let road = YieldsList-from_vec c.args.parts.items (c.into_iter-progress-iterator.ensures.into_iter_gives.0) len in
    let t = YieldsList-turn road c.loop-progress.yielded _ c.loop-progress.yielded_by _ c.next.new.self c.in-Some.progress c.in-Some.is c.next.ensures.steps in
    let part : c.len.result ≡ n = omega (arith, c.loop-progress.invariant.renewed.count, c.len.ensures, c.loop-progress.group.ok) in
    let is : IsTrue run.told → c.in-Some.progress ≡ progress_at run.job first.op first.boundary n first.boundary = λ told. (t.1 ∙ any_default c.args.parts.items n _ at_start t.0 ∙ (c.requires.carried told n t.0 ∙ ap (λ (w : ℕ). progress_at run.job first.op first.boundary n w) c.requires.window)) in
    renewal_put run g.V.Vault.time g.V.Vault.left g.V.Vault.held first n c.len.result (length c.args.parts.items) c.in-Some.progress c.args.stores.now.vault c.loop-progress.stores.vault c.renew_part.new.stores.vault
    t.0 c.requires.window part is (c.loop-progress.invariant.crash tells) (c.renew_part.ensures.crash tells)

pub returns-in_err-add-clause-crash : goal.returns-in_err-add-clause-crash
returns-in_err-add-clause-crash g c = λ tells.
    let run = g.J.Naming.run in
    let first = c.args.first in
    let n = length c.loop-progress.yielded in
    let len : c.into_iter-progress-iterator.result.rest.len ≡ length c.args.parts.items = search rules in
    let road = YieldsList-from_vec c.args.parts.items (c.into_iter-progress-iterator.ensures.into_iter_gives.0) len in
    let t = YieldsList-turn road c.loop-progress.yielded _ c.loop-progress.yielded_by _ c.next.new.self c.in-Some.progress c.in-Some.is c.next.ensures.steps in
    let part : c.len.result ≡ n = omega (arith, c.loop-progress.invariant.renewed.count, c.len.ensures, c.loop-progress.group.ok) in
    let is : IsTrue run.told → c.in-Some.progress ≡ progress_at run.job first.op first.boundary n first.boundary = λ told. (t.1 ∙ any_default c.args.parts.items n _ at_start t.0 ∙ (c.requires.carried told n t.0 ∙ ap (λ (w : ℕ). progress_at run.job first.op first.boundary n w) c.requires.window)) in
    entries_end g.V.Vault.time g.V.Vault.left g.V.Vault.held (IsRenewal run first.op first.boundary (length c.args.parts.items)) c.args.stores.now.vault c.renew_part.new.stores.vault c.add.new.stores.vault
    c.add.ensures.vault
    (renewal_put run g.V.Vault.time g.V.Vault.left g.V.Vault.held first n c.len.result (length c.args.parts.items) c.in-Some.progress c.args.stores.now.vault c.loop-progress.stores.vault c.renew_part.new.stores.vault
    t.0 c.requires.window part is (c.loop-progress.invariant.crash tells) (c.renew_part.ensures.crash tells))
