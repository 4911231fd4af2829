use Rattle.std.proofs.Common.{◌≡◌, List, ℕ, rules, ◌∙◌, subst}
use Rattle.std.specs.Result.{IfOk}
use Rattle.apx_device.proofs.Saves.{bytes-found, bytes-absent}
use Rattle.apx_vaultlog.proofs.vault_log.VaultLogVault.get.Goals as goal

pub returns-in-Some-clause-bytes : goal.returns-in-Some-clause-bytes
returns-in-Some-clause-bytes g c =
    λ told.
    subst (λ (bs : List ℕ). IfOk c.map_err.result (λ b. b.items ≡ bs)) (bytes-found c.args.self.now.entries.entries c.args.id c.in-Some.bytes.now c.in-Some.ensures.value) (search rules)

pub returns-in-None-clause-bytes : goal.returns-in-None-clause-bytes
returns-in-None-clause-bytes g c = λ told. c.new.ensures.items ∙ bytes-absent c.args.self.now.entries.entries c.args.id c.in-None.ensures.value
