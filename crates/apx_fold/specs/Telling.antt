-- Kinds that tell each tuple by itself.
use Rattle.std.specs.Prelude.{◌&&◌, Bool, true, false, List, [], ◌∷◌, map, take, int_le, if◌then◌else◌}
use Rattle.apx_tuple.specs.declared.kind.Kind.{Kind}
use Rattle.apx_tuple.specs.declared.kind.Kind.TheVariants.{Keep, Scale, Words, Prefix}
use Rattle.apx_tuple.specs.declared.tuple.Tuple.{Tuple}
use Rattle.apx_rules.specs.Rule.{words_of}
use Rattle.apx_step.specs.Singles.{scaled}

-- the kinds that tell each tuple by itself, and keep nothing
abbrev pub tells_each : Kind → Bool
tells_each (Keep min max) = true
tells_each (Scale factor) = true
tells_each Words = true
tells_each (Prefix len) = true
tells_each kind = false

-- the tuples that are told of one
unfoldable pub told_of : Kind → Tuple → List Tuple
told_of (Keep min max) t = if int_le min t.value && int_le t.value max then t ∷ [] else []
told_of (Scale factor) t = scaled factor t ∷ []
told_of Words t = map (λ word. record { key = word; value = t.value }) (words_of t.key)
told_of (Prefix len) t = record { key = take len t.key; value = t.value } ∷ []
told_of kind t = []
