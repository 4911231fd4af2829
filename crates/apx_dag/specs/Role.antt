-- What an operator does, from its class and its properties.
use Rattle.std.specs.Prelude.{ℕ, ◌-◌, ◌^◌, ◌&&◌, ◌||◌, nat_le, ℤ, pos, negsuc, codes, Bool, false, List, find, Option, Some, None, is_some, option_and_then, option_map, unwrap_or, reverse, if◌then◌else◌}
use Rattle.std.specs.List.{list_all}
use Rattle.std.specs.Str.{bytes_eq}
use Rattle.apx_json.specs.declared.text.Property.{Property}
use Rattle.apx_json.specs.declared.text.PropertyValue.{PropertyValue}
use Rattle.apx_json.specs.declared.text.PropertyValue.TheVariants.{Number, Text, Other}
use Rattle.apx_json.specs.FileName.{is_file_name}
use Rattle.apx_json.specs.Integers.{integer_in}
use Rattle.apx_json.specs.Texts.{Operator}
use Rattle.apx_tuple.specs.declared.kind.InputKind.{InputKind}
use Rattle.apx_tuple.specs.declared.kind.InputKind.TheVariants as input_kinds
use Rattle.apx_tuple.specs.declared.kind.Kind.{Kind}
use Rattle.apx_tuple.specs.declared.kind.Kind.TheVariants as kinds
use Rattle.apx_pass.specs.Graph.{Role, Input, Inner, Sink}
use Rattle.apx_dag.specs.declared.role.Role as roles
use Rattle.apx_dag.specs.declared.role.Role.TheVariants as source
use Rattle.apx_dag.specs.Class.{class_of}
use Rattle.apx_dag.specs.declared.class.Class.{Class}
use Rattle.apx_dag.specs.declared.class.Class.TheVariants.{Lines, Pairs, Keep, Scale, Words, Count, Sum, Peak, First, Prefix, Tumble, Top, Match, Enrich, Store}

-- an integer as a whole number from low to high
abbrev pub within : ℕ → ℕ → ℤ → Option ℕ
within low high (pos n) = if nat_le low n && nat_le n high then Some n else None
within low high (negsuc n) = None

-- a property's value as a whole number from low to high
abbrev pub natural_in : ℕ → ℕ → PropertyValue → Option ℕ
natural_in low high value = option_and_then (within low high) (integer_in value)

-- whether a property gives the name of a file
abbrev pub is_file : PropertyValue → Bool
is_file (Number n) = false
is_file (Text name) = is_file_name name
is_file Other = false

-- the property is one of the class, and its value is in its range
abbrev pub takes_input : Property → Bool
takes_input p =
    bytes_eq p.name (codes "file") && is_file p.value || bytes_eq p.name (codes "perWindow") && is_some (natural_in 1 1000000 p.value)

-- the property is one of the class, and its value is in its range
abbrev pub takes : Class → Property → Bool
takes Lines p = takes_input p
takes Pairs p = takes_input p
takes Keep p = (bytes_eq p.name (codes "min") || bytes_eq p.name (codes "max")) && is_some (integer_in p.value)
takes Scale p = bytes_eq p.name (codes "factor") && is_some (integer_in p.value)
takes Prefix p = bytes_eq p.name (codes "len") && is_some (natural_in 0 1024 p.value)
takes Tumble p = bytes_eq p.name (codes "every") && is_some (natural_in 1 20000 p.value)
takes Top p = bytes_eq p.name (codes "k") && is_some (natural_in 1 1000 p.value)
takes _ p = false

-- what the last property with a name gives
abbrev pub value_named : List ℕ → List Property → Option PropertyValue
value_named name properties = option_map (λ p. p.value) (find (λ p. bytes_eq p.name name) (reverse properties))

-- the integer that the last property with a name gives
abbrev pub integer_named : List ℕ → List Property → Option ℤ
integer_named name properties = option_and_then integer_in (value_named name properties)

-- the same as a whole number from low to high
abbrev pub natural_named : ℕ → ℕ → List ℕ → List Property → Option ℕ
natural_named low high name properties = option_and_then (natural_in low high) (value_named name properties)

-- ---- roles

-- a role without where its file's name lies in memory
abbrev pub role_view : roles.Role → Role
role_view (source.Input kind file per_window) = Input kind file per_window
role_view (source.Inner kind) = Inner kind
role_view source.Sink = Sink

-- the text that a property gives, if it is one
abbrev pub text_of : PropertyValue → Option (List ℕ)
text_of (Number n) = None
text_of (Text text) = Some text
text_of Other = None

-- the role of an input, where its file and lines per window are there
abbrev pub input_of : InputKind → List Property → Option Role
input_of kind properties =
    option_and_then (λ file. option_map (λ per_window. Input kind file per_window) (natural_named 1 1000000 (codes "perWindow") properties))
    (option_and_then text_of (value_named (codes "file") properties))

-- the kind of an inner operator, where the properties that it needs are there
abbrev pub kind_of : Class → List Property → Option Kind
kind_of Keep properties =
    Some (kinds.Keep (unwrap_or (integer_named (codes "min") properties) (negsuc (2 ^ 63 - 1)))
    (unwrap_or (integer_named (codes "max") properties) (pos (2 ^ 63 - 1))))
kind_of Scale properties = option_map kinds.Scale (integer_named (codes "factor") properties)
kind_of Words properties = Some kinds.Words
kind_of Count properties = Some kinds.Count
kind_of Sum properties = Some kinds.Sum
kind_of Peak properties = Some kinds.Peak
kind_of First properties = Some kinds.First
kind_of Prefix properties = option_map kinds.Prefix (natural_named 0 1024 (codes "len") properties)
kind_of Tumble properties = option_map kinds.Tumble (natural_named 1 20000 (codes "every") properties)
kind_of Top properties = option_map kinds.Top (natural_named 1 1000 (codes "k") properties)
kind_of Match properties = Some kinds.Match
kind_of Enrich properties = Some kinds.Enrich
kind_of _ properties = None

-- the role of a class, where the properties that it needs are there
abbrev pub built : Class → List Property → Option Role
built Lines properties = input_of input_kinds.Lines properties
built Pairs properties = input_of input_kinds.Pairs properties
built Store properties = Some Sink
built class properties = option_map Inner (kind_of class properties)

-- The role of an operator, if each property is one of its class and in its range, and those that the
-- class needs are there. Where several properties have one name, each is judged, and the last one counts.
abbrev pub role_of : Class → List Property → Option Role
role_of class properties = if list_all (takes class) properties then built class properties else None

-- an operator's role, where its class is known
abbrev pub role_in : Operator → Option Role
role_in operator = option_and_then (λ class. role_of class operator.properties) (class_of operator.class)
