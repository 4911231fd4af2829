-- The rules of applications. Each gives the place that breaks it first, if there is one: the name of the
-- first operator in the order of the file, and else of the first stream.
use Rattle.std.specs.Prelude.{ℕ, ◌&&◌, ◌||◌, ◌==◌, nat_lt, not, ℤ, pos, negsuc, Bool, true, false, List, [], length, filter, find, slice_get, Option, Some, None, is_none, option_map, if◌then◌else◌}
use Rattle.std.specs.List.{list_any}
use Rattle.std.specs.Option.{option_map_or, option_or}
use Rattle.apx_json.specs.Texts.{Operator, Stream, Application}
use Rattle.apx_dag.specs.declared.class.Class.{Class}
use Rattle.apx_dag.specs.declared.class.Class.TheVariants.{Store}
use Rattle.apx_json.specs.Checks.{◌>>=◌}
use Rattle.apx_dag.specs.Checks.{Checked, unless}
use Rattle.apx_dag.specs.Class as classes
use Rattle.apx_dag.specs.Class.{class_of}
use Rattle.apx_dag.specs.Names.{named_again, is_bad_name}
use Rattle.apx_dag.specs.Ports.{joins_ports, used_again, is_joined}
use Rattle.apx_dag.specs.Role.{within, role_in}

-- an operator's name
abbrev pub operator_name : Operator → List ℕ
operator_name o = o.name

-- a stream's name
abbrev pub stream_name : Stream → List ℕ
stream_name s = s.name

-- the whole application breaks the rule
abbrev pub whole : Bool → Option (List ℕ)
whole broken = if broken then Some [] else None

-- the first operator, or the first stream, that breaks the rule
abbrev pub operator_where : (Operator → Bool) → Application → Option (List ℕ)
operator_where breaks app = option_map operator_name (find breaks app.operators)

-- the first stream that breaks a rule
abbrev pub stream_where : (Stream → Bool) → Application → Option (List ℕ)
stream_where breaks app = option_map stream_name (find breaks app.streams)

-- ---- the rules before the one on cycles

-- more than 16 operators
abbrev pub too_many : Application → Option (List ℕ)
too_many app = whole (nat_lt 16 (length app.operators))

-- the first name that an earlier operator, or an earlier stream, has
abbrev pub name_again : Application → Option (List ℕ)
name_again app = option_or (named_again operator_name [] app.operators) (named_again stream_name [] app.streams)

-- an unknown class
abbrev pub unknown_class : Application → Option (List ℕ)
unknown_class = operator_where (λ o. is_none (class_of o.class))

-- properties that aren't those of the class
abbrev pub wrong_properties : Application → Option (List ℕ)
wrong_properties = operator_where (λ o. is_none (role_in o))

-- a stream with an end that is no port
abbrev pub no_port : Application → Option (List ℕ)
no_port app = stream_where (λ s. not (joins_ports app.operators s)) app

-- a port used twice
abbrev pub port_again : Application → Option (List ℕ)
port_again app = used_again [] app.streams

-- a port in no stream
abbrev pub unused_port : Application → Option (List ℕ)
unused_port app = operator_where (λ o. not (is_joined app.streams o)) app

-- the rules A1 to A7 in order
unfoldable pub before_cycles : Application → Checked
before_cycles app = do
  a1 ← unless 1 (too_many app)
  a2 ← unless 2 (name_again app)
  a3 ← unless 3 (unknown_class app)
  a4 ← unless 4 (wrong_properties app)
  a5 ← unless 5 (no_port app)
  a6 ← unless 6 (port_again app)
  unless 7 (unused_port app)

-- ---- the rules after it

-- a test of an operator's class
abbrev pub is_class : (Class → Bool) → Operator → Bool
is_class test o = option_map_or test (class_of o.class) false

-- the class `store`
abbrev pub is_store : Class → Bool
is_store Store = true
is_store _ = false

-- there is no store
abbrev pub no_store : Application → Option (List ℕ)
no_store app = whole (not (list_any (is_class is_store) app.operators))

-- a second store
abbrev pub second_store : Application → Option (List ℕ)
second_store app = option_map operator_name (slice_get (filter (is_class is_store) app.operators) 1)

-- a number is 1
abbrev pub is_one : ℤ → Bool
is_one (pos n) = n == 1
is_one (negsuc n) = false

-- a number is not from low to high
abbrev pub outside : ℕ → ℕ → ℤ → Bool
outside low high n = is_none (within low high n)

-- partitions that aren't 1 to 8
abbrev pub wrong_partitions : Application → Option (List ℕ)
wrong_partitions = operator_where (λ o. outside 1 8 o.partitions)

-- an input or the sink with several partitions
abbrev pub partitioned_end : Application → Option (List ℕ)
partitioned_end = operator_where (λ o. is_class classes.is_end o && not (is_one o.partitions))

-- a stream with no sink, or more than 8
abbrev pub wrong_sinks : Application → Option (List ℕ)
wrong_sinks = stream_where (λ s. length s.sinks == 0 || nat_lt 8 (length s.sinks))

-- some name is bad
abbrev pub has_bad_name : Application → Bool
has_bad_name app = list_any (λ o. is_bad_name (operator_name o)) app.operators || list_any (λ s. is_bad_name (stream_name s)) app.streams

-- a bad name
abbrev pub bad_name : Application → Option (List ℕ)
bad_name app = whole (has_bad_name app)

-- gathered windows that aren't 1 to 20,000
abbrev pub wrong_windows : Application → Option (List ℕ)
wrong_windows = operator_where (λ o. outside 1 20000 o.app_windows)

-- an input or the sink that gathers
abbrev pub gathering_end : Application → Option (List ℕ)
gathering_end = operator_where (λ o. is_class classes.is_end o && not (is_one o.app_windows))

-- the rules A9 to A16 in order
unfoldable pub after_cycles : Application → Checked
after_cycles app = do
  a9 ← unless 9 (no_store app)
  a10 ← unless 10 (second_store app)
  a11 ← unless 11 (wrong_partitions app)
  a12 ← unless 12 (partitioned_end app)
  a13 ← unless 13 (wrong_sinks app)
  a14 ← unless 14 (bad_name app)
  a15 ← unless 15 (wrong_windows app)
  unless 16 (gathering_end app)
