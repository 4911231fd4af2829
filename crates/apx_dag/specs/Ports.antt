-- The ports of operators, and the streams that join them.
use Rattle.std.specs.Prelude.{ℕ, ◌&&◌, ◌||◌, not, codes, Bool, true, false, List, [], ◌∷◌, ◌++◌, find, map, Option, Some, None, option_and_then, position, if◌then◌else◌}
use Rattle.std.specs.List.{list_any, list_all}
use Rattle.std.specs.Option.{option_map_or}
use Rattle.std.specs.Str.{bytes_eq}
use Rattle.apx_json.specs.declared.text.PortText.{PortText}
use Rattle.apx_json.specs.Texts.{Operator, Stream, Application}
use Rattle.apx_dag.specs.declared.link.Link.{Link}
use Rattle.apx_dag.specs.Class as classes
use Rattle.apx_dag.specs.Class.{class_of}

-- the same port of the same operator
abbrev pub is_port : List ℕ → List ℕ → PortText → Bool
is_port operator port p = bytes_eq p.operator operator && bytes_eq p.port port

-- two ends of streams are one port
abbrev pub same_port : PortText → PortText → Bool
same_port p q = is_port p.operator p.port q

-- the ports of an operator, by its class
abbrev pub has_output : Operator → Bool
has_output o = option_map_or classes.has_output (class_of o.class) false

-- an operator's first input port
abbrev pub left_port : Operator → Option (List ℕ)
left_port o = option_and_then classes.left_port (class_of o.class)

-- an operator's second input port
abbrev pub right_port : Operator → Option (List ℕ)
right_port o = option_and_then classes.right_port (class_of o.class)

-- an operator has a name
abbrev pub is_named : List ℕ → Operator → Bool
is_named name o = bytes_eq o.name name

-- the port is an output port of an operator that is there
abbrev pub is_source : List Operator → PortText → Bool
is_source operators p = option_map_or (λ o. has_output o && bytes_eq p.port (codes "output")) (find (is_named p.operator) operators) false

-- what was found is this text
abbrev pub is_text : List ℕ → Option (List ℕ) → Bool
is_text text found = option_map_or (bytes_eq text) found false

-- the port is an input port of an operator that is there
abbrev pub is_sink : List Operator → PortText → Bool
is_sink operators p =
    option_map_or (λ o. is_text p.port (left_port o) || is_text p.port (right_port o)) (find (is_named p.operator) operators) false

-- a stream's source is an output port and each sink an input port
abbrev pub joins_ports : List Operator → Stream → Bool
joins_ports operators s = is_source operators s.source && list_all (is_sink operators) s.sinks

-- ---- ports that are used twice

-- a port is a sink of a stream
abbrev pub is_fed_by : PortText → Stream → Bool
is_fed_by p s = list_any (same_port p) s.sinks

-- a sink stands in an earlier stream, or earlier among these, where those of `before` come first
abbrev pub sink_again : List Stream → List PortText → List PortText → Bool
sink_again earlier before [] = false
sink_again earlier before (p ∷ ps) =
    (list_any (is_fed_by p) earlier || list_any (same_port p) before) || sink_again earlier (before ++ p ∷ []) ps

-- a stream uses a port that an earlier stream, or an earlier sink of its own, has used
abbrev pub uses_again : List Stream → Stream → Bool
uses_again earlier s = list_any (λ e. same_port s.source e.source) earlier || sink_again earlier [] s.sinks

-- the first stream that uses a port again, where those of `earlier` come before
abbrev pub used_again : List Stream → List Stream → Option (List ℕ)
used_again earlier [] = None
used_again earlier (s ∷ ss) = if uses_again earlier s then Some s.name else used_again (earlier ++ s ∷ []) ss

-- ---- ports that are in no stream

-- a port is a sink of some stream, where there is such a port
abbrev pub is_fed : List Stream → List ℕ → Option (List ℕ) → Bool
is_fed streams name None = true
is_fed streams name (Some port) = list_any (λ s. list_any (is_port name port) s.sinks) streams

-- each of an operator's ports is in a stream
abbrev pub is_joined : List Stream → Operator → Bool
is_joined streams o =
    ((not (has_output o) || list_any (λ s. is_port o.name (codes "output") s.source) streams)
    && is_fed streams o.name (left_port o)) && is_fed streams o.name (right_port o)

-- ---- sources

-- the number of the operator that feeds a port
abbrev pub source_of : Application → List ℕ → List ℕ → Option ℕ
source_of app name port =
    option_and_then (λ s. position (is_named s.source.operator) app.operators)
    (find (λ s. list_any (is_port name port) s.sinks) app.streams)

-- the numbers of the operators that an operator reads
abbrev pub link_of : Application → Operator → Link
link_of app o = record {
  left = option_and_then (source_of app o.name) (left_port o);
  right = option_and_then (source_of app o.name) (right_port o);
}

-- the same of all operators
abbrev pub links_of : Application → List Link
links_of app = map (link_of app) app.operators
