-- The application of an example is read of its text.
use Rattle.std.proofs.Common.{◌≡◌, ℕ, List, Some, Ok, true, codes, refl}
use Rattle.std.specs.Float.Numeral.{scan_numeral}
use Rattle.std.specs.Str.{chars, is_utf8}
use Rattle.std.proofs.lemmas.Str.{IsUtf8-from_is_utf8}
use Rattle.json.specs.Json.{items, members, value}
use Rattle.json.specs.Lex.{lex, punctuate}
use Rattle.json.specs.Text.{content}
use Rattle.json.specs.Word.{word, after_number}
use Rattle.serde_json.specs.Data.{Data, Members, unsigned, number, string, array, object, no_items, item, no_members, member}
use Rattle.serde_json.specs.Read.{read, number_of}
use Rattle.apx_gen.specs.Generated.{application_text}
use Rattle.apx_json.specs.Reading.{Reads}
use Rattle.apx_json.specs.Shape.{application_of, object_at, list_at, text_at, each_at, attribute_at, properties_at, attributes_at, operator_at, port_at, stream_at}
use Rattle.apx_example.specs.Application.{application}

-- a text under a name, before other members
abbrev text : List ℕ → List ℕ → Members → Members
text name is rest = member name (string is) rest

-- an end of a stream
abbrev port : List ℕ → List ℕ → Data
port operator name = object (text (codes "operatorName") operator (text (codes "portName") name no_members))

-- a stream
abbrev stream : List ℕ → List ℕ → List ℕ → Data
stream name from to =
    object (text (codes "name") name (member (codes "sinks") (array (item (port to (codes "input")) no_items))
    (member (codes "source") (port from (codes "output")) no_members)))

-- what the text of the application is as JSON, its members in the order of their names
abbrev json : Data
json =
    object (member (codes "operators") (array
    (item (object (text (codes "class") (codes "lines") (text (codes "name") (codes "read") (member (codes "properties")
    (object (text (codes "file") (codes "gen.txt") (member (codes "perWindow") (number (unsigned 10)) no_members))) no_members))))
    (item (object (text (codes "class") (codes "words") (text (codes "name") (codes "split") no_members)))
    (item (object (member (codes "attributes") (object (member (codes "PARTITIONS") (number (unsigned 4)) no_members))
    (text (codes "class") (codes "count") (text (codes "name") (codes "tally") no_members))))
    (item (object (text (codes "class") (codes "store") (text (codes "name") (codes "out") no_members))) no_items)))))
    (member (codes "streams") (array
    (item (stream (codes "s1") (codes "read") (codes "split"))
    (item (stream (codes "s2") (codes "split") (codes "tally"))
    (item (stream (codes "s3") (codes "tally") (codes "out")) no_items)))) no_members))

is_json : read application_text ≡ Some json
unfolding lex punctuate content word after_number items members value scan_numeral number_of
is_json = refl

is_text : is_utf8 application_text ≡ true
unfolding is_utf8 chars lib.Utf8.encode
is_text = refl

is_application : application_of json ≡ Ok application
unfolding application_of object_at list_at text_at each_at attribute_at properties_at attributes_at operator_at port_at stream_at
is_application = refl

pub reads : Reads application_text (Ok application)
reads = (json, (IsUtf8-from_is_utf8 application_text is_text, is_json), is_application)
