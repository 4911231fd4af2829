use Rattle.std.proofs.Common.{◌≡◌, [], drop}
use Rattle.apx_dag.specs.Names.{named_again}
use Rattle.apx_dag.proofs.Repeats.{texts}
use Rattle.apx_dag.proofs.names.first_repeated.Given as goal

abbrev pub invariant-loop-item : goal.invariant-loop-item
invariant-loop-item g l = named_again g.T.Named.named (texts l.seen.keys) (drop l.item-index l.items) ≡ named_again g.T.Named.named [] l.items
