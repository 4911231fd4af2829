use Rattle.std.proofs.Common.{ℕ, List, ap, arith, length}
use Rattle.apx_vaultlog.proofs.Lengths.{second_length}
use Rattle.apx_vaultlog.proofs.upgrade.second_of_first.Goals as goal

pub returns-in_ok-second-in-Ok-clause-small : goal.returns-in_ok-second-in-Ok-clause-small
returns-in_ok-second-in-Ok-clause-small c =
    let small = c.in_ok-second-in-Ok.ensures.progress.small in
    let spelled = ap (λ (bytes : List ℕ). length bytes) c.in_ok-second-in-Ok.ensures.spelled in
    omega (arith, small, spelled, second_length c.in-Ok.progress)
