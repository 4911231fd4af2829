-- The kinds of inner operators.
use Rattle.std.specs.Prelude.{Bool, true, false}
use Rattle.apx_tuple.specs.declared.kind.Kind.{Kind}
use Rattle.apx_tuple.specs.declared.kind.Kind.TheVariants.{Match, Enrich}

-- two kinds join a left and a right stream, and the others have one input port
abbrev pub has_right : Kind → Bool
has_right Match = true
has_right Enrich = true
has_right _ = false
