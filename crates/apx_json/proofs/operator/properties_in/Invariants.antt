use Rattle.std.proofs.Common.{◌≡◌, ◌++◌}
use Rattle.serde_json.specs.View.{members_view}
use Rattle.apx_json.specs.Shape.{properties_of}
use Rattle.apx_json.proofs.operator.properties_in.Given as goal

abbrev pub invariant-loop-name : goal.invariant-loop-name
invariant-loop-name l = l.properties.items ++ properties_of (members_view l.name-iterator) ≡ properties_of (members_view l.members.entries)
