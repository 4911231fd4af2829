use Rattle.std.proofs.Common.{◌≡◌, map}
use Rattle.apx_vaultlog.proofs.upgrade.ids_of.Given as goal

abbrev pub invariant-loop-id : goal.invariant-loop-id
invariant-loop-id l = l.ids.items ≡ map (λ id. id.now) l.yielded
