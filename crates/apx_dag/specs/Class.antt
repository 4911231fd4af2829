-- The classes of operators, and their ports.
use Rattle.std.specs.Prelude.{ℕ, codes, Bool, true, false, List, Option, Some, None, if◌then◌else◌}
use Rattle.std.specs.Str.{bytes_eq}
use Rattle.apx_dag.specs.declared.class.Class.{Class}
use Rattle.apx_dag.specs.declared.class.Class.TheVariants.{Lines, Pairs, Keep, Scale, Words, Count, Sum, Peak, First, Prefix, Tumble, Top, Match, Enrich, Store}

-- the class with a name
abbrev pub class_of : List ℕ → Option Class
class_of name =
    if bytes_eq name (codes "lines") then Some Lines else
    if bytes_eq name (codes "pairs") then Some Pairs else
    if bytes_eq name (codes "keep") then Some Keep else
    if bytes_eq name (codes "scale") then Some Scale else
    if bytes_eq name (codes "words") then Some Words else
    if bytes_eq name (codes "count") then Some Count else
    if bytes_eq name (codes "sum") then Some Sum else
    if bytes_eq name (codes "peak") then Some Peak else
    if bytes_eq name (codes "first") then Some First else
    if bytes_eq name (codes "prefix") then Some Prefix else
    if bytes_eq name (codes "tumble") then Some Tumble else
    if bytes_eq name (codes "top") then Some Top else
    if bytes_eq name (codes "match") then Some Match else
    if bytes_eq name (codes "enrich") then Some Enrich else
    if bytes_eq name (codes "store") then Some Store else None

-- whether a class has an output port
abbrev pub has_output : Class → Bool
has_output Store = false
has_output _ = true

-- an input or the sink
abbrev pub is_end : Class → Bool
is_end Lines = true
is_end Pairs = true
is_end Store = true
is_end _ = false

-- the name of its first input port, if it has one
abbrev pub left_port : Class → Option (List ℕ)
left_port Lines = None
left_port Pairs = None
left_port Match = Some (codes "left")
left_port Enrich = Some (codes "left")
left_port _ = Some (codes "input")

-- the name of its second input port, if it has one
abbrev pub right_port : Class → Option (List ℕ)
right_port Match = Some (codes "right")
right_port Enrich = Some (codes "right")
right_port _ = None
