use Rattle.std.proofs.Common.{◌≡◌, map}
use Rattle.apx_split.proofs.progress.taken_apart.Given as goal

abbrev pub invariant-loop-part : goal.invariant-loop-part
invariant-loop-part l = record {
  states : l.states.items ≡ map (λ part. part.state) l.yielded;
  lefts : l.lefts.items ≡ map (λ part. part.left) l.yielded;
  rights : l.rights.items ≡ map (λ part. part.right) l.yielded;
}
