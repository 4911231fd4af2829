-- The shape of an application, and the first place that lacks it.
use Rattle.std.specs.Prelude.{◌≡◌, ℕ, ◌+◌, ◌++◌, codes, decimal, List, [], ◌∷◌, Bool, Option, Some, None, option_and_then, option_map, is_some, Result, Ok, Err, ℤ, pos, if◌then◌else◌}
use Rattle.std.specs.Option.{ok_or, option_map_or}
use Rattle.serde_json.specs.Data.{Data, null, boolean, number, string, array, object, Items, no_items, item, Members, no_members, member}
use Rattle.serde_json.specs.Find.{get, as_str, as_i64, as_array, as_object}
use Rattle.apx_json.specs.declared.text.PropertyValue.{PropertyValue}
use Rattle.apx_json.specs.declared.text.PropertyValue.TheVariants.{Number, Text, Other}
use Rattle.apx_json.specs.declared.text.Property.{Property}
use Rattle.apx_json.specs.declared.text.PortText.{PortText}
use Rattle.apx_json.specs.declared.refusal.JsonRefusal.{JsonRefusal}
use Rattle.apx_json.specs.declared.refusal.JsonRefusal.TheVariants.{Syntax, Shape, Memory}
use Rattle.apx_json.specs.declared.place.Place.{Place}
use Rattle.apx_json.specs.declared.place.Place.TheVariants.{Application, Operator, Attributes, Stream, Source, Sink}
use Rattle.apx_json.specs.Texts as texts
use Rattle.apx_decimal.specs.Decimal.{integer_of}
use Rattle.apx_json.specs.Checks as checks
use Rattle.apx_json.specs.Checks.{◌>>=◌}

-- what is there, or the place that lacks it
abbrev pub Shaped : Type 0 → Type 0
Shaped X = Result X (List ℕ)

-- an error says that its place lacks the shape; want of memory says nothing, and a text is read before
abbrev pub Fails : {Y : Type 0} → JsonRefusal → Shaped Y → Type 0
Fails Memory shaped = Unit {0}
Fails (Shape place) shaped = shaped ≡ Err place
Fails Syntax shaped = ⊥

-- what a function returned, seen by view, is what the shape gives, unless memory ran out
abbrev pub Gives : {X Y : Type 0} → (X → Y) → Result X JsonRefusal → Shaped Y → Type 0
Gives = checks.Gives Fails

-- ---- places

-- the path of a place, as `operators[2]`
abbrev pub path : Place → List ℕ
path Application = codes "application"
path (Operator i) = codes "operators[" ++ (decimal i ++ codes "]")
path (Attributes i) = codes "operators[" ++ (decimal i ++ codes "].attributes")
path (Stream i) = codes "streams[" ++ (decimal i ++ codes "]")
path (Source i) = codes "streams[" ++ (decimal i ++ codes "].source")
path (Sink i j) = codes "streams[" ++ (decimal i ++ (codes "].sinks[" ++ (decimal j ++ codes "]")))

-- a member of the application itself has its name alone
abbrev pub member_path : Place → List ℕ → List ℕ
member_path Application name = name
member_path (Operator i) name = path (Operator i) ++ (codes "." ++ name)
member_path (Attributes i) name = path (Attributes i) ++ (codes "." ++ name)
member_path (Stream i) name = path (Stream i) ++ (codes "." ++ name)
member_path (Source i) name = path (Source i) ++ (codes "." ++ name)
member_path (Sink i j) name = path (Sink i j) ++ (codes "." ++ name)

-- ---- members

-- whether a value is an object
abbrev pub is_object : Data → Bool
is_object d = is_some (as_object d)

-- what was found at a place, where it is an object
unfoldable pub object_at : Place → Option Data → Shaped Data
object_at place None = Err (path place)
object_at place (Some d) = if is_object d then Ok d else Err (path place)

-- the list under a name
unfoldable pub list_at : Place → List ℕ → Data → Shaped Items
list_at place name d = ok_or (option_and_then as_array (get name d)) (member_path place name)

-- the text under a name
unfoldable pub text_at : Place → List ℕ → Data → Shaped (List ℕ)
text_at place name d = ok_or (option_and_then as_str (get name d)) (member_path place name)

-- each item of a list, from number i on
unfoldable pub each_at : {X : Type 0} → (ℕ → Data → Shaped X) → ℕ → Items → Shaped (List X)
each_at item_at i no_items = Ok []
each_at item_at i (item d ds) = do
  first ← item_at i d
  others ← each_at item_at (i + 1) ds
  Ok (first ∷ others)

-- an integer, as a number or in digits
abbrev pub number_of : Data → Option ℤ
number_of null = None
number_of (boolean b) = None
number_of (number n) = as_i64 n
number_of (string s) = integer_of s
number_of (array ds) = None
number_of (object ms) = None

-- an attribute, 1 where it is absent
abbrev pub attribute_of : List ℕ → Option Data → Shaped ℤ
attribute_of place None = Ok (pos 1)
attribute_of place (Some d) = ok_or (number_of d) place

-- the attribute under a name, 1 where it is absent
unfoldable pub attribute_at : Place → List ℕ → Data → Shaped ℤ
attribute_at place name d = attribute_of (member_path place name) (get name d)

-- ---- operators

-- a property's value: an integer, a text, or other
abbrev pub property_value_of : Data → PropertyValue
property_value_of null = Other
property_value_of (boolean b) = Other
property_value_of (number n) = option_map_or Number (as_i64 n) Other
property_value_of (string s) = Text s
property_value_of (array ds) = Other
property_value_of (object ms) = Other

-- an object's members as properties
abbrev pub properties_of : Members → List Property
properties_of no_members = []
properties_of (member name d ms) = record { name = name; value = property_value_of d } ∷ properties_of ms

-- the properties, none where they are absent
unfoldable pub properties_at : ℕ → Option Data → Shaped (List Property)
properties_at i None = Ok []
properties_at i (Some d) = ok_or (option_map properties_of (as_object d)) (member_path (Operator i) (codes "properties"))

-- PARTITIONS and APPLICATION_WINDOW_COUNT
unfoldable pub attributes_at : ℕ → Option Data → Shaped (ℤ × ℤ)
attributes_at i None = Ok (pos 1, pos 1)
attributes_at i (Some d) = do
  attributes ← object_at (Attributes i) (Some d)
  partitions ← attribute_at (Attributes i) (codes "PARTITIONS") attributes
  app_windows ← attribute_at (Attributes i) (codes "APPLICATION_WINDOW_COUNT") attributes
  Ok (partitions, app_windows)

-- operator number i
unfoldable pub operator_at : ℕ → Data → Shaped texts.Operator
operator_at i d = do
  operator ← object_at (Operator i) (Some d)
  name ← text_at (Operator i) (codes "name") operator
  class ← text_at (Operator i) (codes "class") operator
  properties ← properties_at i (get (codes "properties") operator)
  attributes ← attributes_at i (get (codes "attributes") operator)
  Ok (record { name = name; class = class; properties = properties; partitions = attributes.0; app_windows = attributes.1 })

-- ---- streams

-- one end of a stream: operator name and port name
unfoldable pub port_at : Place → Option Data → Shaped PortText
port_at place found = do
  members ← object_at place found
  operator ← text_at place (codes "operatorName") members
  port ← text_at place (codes "portName") members
  Ok (record { operator = operator; port = port })

-- sink j of stream i
abbrev pub sink_at : ℕ → ℕ → Data → Shaped PortText
sink_at i j d = port_at (Sink i j) (Some d)

-- stream number i
unfoldable pub stream_at : ℕ → Data → Shaped texts.Stream
stream_at i d = do
  stream ← object_at (Stream i) (Some d)
  name ← text_at (Stream i) (codes "name") stream
  source ← port_at (Source i) (get (codes "source") stream)
  list ← list_at (Stream i) (codes "sinks") stream
  sinks ← each_at (sink_at i) 0 list
  Ok (record { name = name; source = source; sinks = sinks })

-- ---- the application

-- the application that a JSON value is, or the first place that lacks its shape
unfoldable pub application_of : Data → Shaped texts.Application
application_of d = do
  members ← object_at Application (Some d)
  list ← list_at Application (codes "operators") members
  operators ← each_at operator_at 0 list
  list ← list_at Application (codes "streams") members
  streams ← each_at stream_at 0 list
  Ok (record { operators = operators; streams = streams })
