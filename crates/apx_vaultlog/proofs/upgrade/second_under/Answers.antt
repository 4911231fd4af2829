use Rattle.std.proofs.Common.{◌≡◌, List, ℕ, rules, subst}
use Rattle.std.specs.Option.{option_map}
use Rattle.std.specs.Result.{IfOk}
use Rattle.apx_device.proofs.Saves.{bytes-found, bytes-absent}
use Rattle.apx_vaultlog.specs.Upgrading.{upgraded}
use Rattle.apx_vaultlog.proofs.upgrade.second_under.Goals as goal

pub returns-in-Some-clause-found : goal.returns-in-Some-clause-found
returns-in-Some-clause-found c =
    subst (λ (bs : List ℕ). IfOk c.second_of_first.result (λ found. option_map (λ bytes. bytes.items) found ≡ upgraded bs))
    (bytes-found c.args.entries.now.entries c.args.id c.in-Some.bytes.now c.in-Some.ensures.value) (search rules)

pub returns-in-None-clause-found : goal.returns-in-None-clause-found
returns-in-None-clause-found c =
    subst (λ (bs : List ℕ). IfOk c.second_of_first-in-None.result (λ found. option_map (λ bytes. bytes.items) found ≡ upgraded bs))
    (bytes-absent c.args.entries.now.entries c.args.id c.in-None.ensures.value) c.second_of_first-in-None.ensures.found
