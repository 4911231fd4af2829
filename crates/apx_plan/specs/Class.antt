-- The names of the classes of operators.
use Rattle.std.specs.Prelude.{ℕ, List, codes}
use Rattle.apx_tuple.specs.declared.kind.InputKind.TheVariants.{Lines, Pairs}
use Rattle.apx_tuple.specs.declared.kind.Kind.{Kind}
use Rattle.apx_tuple.specs.declared.kind.Kind.TheVariants.{Keep, Scale, Words, Prefix, Count, Sum, Peak, First, Tumble, Match, Enrich, Top}
use Rattle.apx_pass.specs.Graph.{Role, Input, Inner, Sink}

-- the class of an inner operator
abbrev pub kind_name : Kind → List ℕ
kind_name (Keep min max) = codes "keep"
kind_name (Scale factor) = codes "scale"
kind_name Words = codes "words"
kind_name (Prefix len) = codes "prefix"
kind_name Count = codes "count"
kind_name Sum = codes "sum"
kind_name Peak = codes "peak"
kind_name First = codes "first"
kind_name (Tumble every) = codes "tumble"
kind_name Match = codes "match"
kind_name Enrich = codes "enrich"
kind_name (Top k) = codes "top"

-- the class of an operator
abbrev pub class_name : Role → List ℕ
class_name (Input Lines file per_window) = codes "lines"
class_name (Input Pairs file per_window) = codes "pairs"
class_name (Inner kind) = kind_name kind
class_name Sink = codes "store"
