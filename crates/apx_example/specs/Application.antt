-- The application of all generated examples: what its text spells, and its graph.
use Rattle.std.specs.Prelude.{ℕ, pos, List, [], ◌∷◌, codes}
use Rattle.apx_tuple.specs.declared.kind.Kind.TheVariants.{Words, Count}
use Rattle.apx_tuple.specs.declared.kind.InputKind.TheVariants.{Lines}
use Rattle.apx_json.specs.declared.text.PropertyValue.TheVariants.{Number, Text}
use Rattle.apx_json.specs.Texts.{Operator, Stream, Application}
use Rattle.apx_pass.specs.Graph.{Input, Inner, Sink, Node}

-- an operator without properties, in so many partitions
abbrev pub operator : List ℕ → List ℕ → ℕ → Operator
operator name class partitions =
    record { name = name; class = class; properties = []; partitions = pos partitions; app_windows = pos 1 }

-- the operator that reads `gen.txt`, ten lines to a window
abbrev pub reader : Operator
reader = record {
  name = codes "read";
  class = codes "lines";
  properties =
      record { name = codes "file"; value = Text (codes "gen.txt") } ∷ record { name = codes "perWindow"; value = Number (pos 10) } ∷ [];
  partitions = pos 1;
  app_windows = pos 1;
}

-- a stream from one operator to another
abbrev pub stream : List ℕ → List ℕ → List ℕ → Stream
stream name from to = record {
  name = name;
  source = record { operator = from; port = codes "output" };
  sinks = record { operator = to; port = codes "input" } ∷ [];
}

-- lines are split into words, which are counted in four partitions and stored
abbrev pub application : Application
application = record {
  operators =
      reader ∷ operator (codes "split") (codes "words") 1 ∷ operator (codes "tally") (codes "count") 4
      ∷ operator (codes "out") (codes "store") 1 ∷ [];
  streams =
      stream (codes "s1") (codes "read") (codes "split") ∷ stream (codes "s2") (codes "split") (codes "tally")
      ∷ stream (codes "s3") (codes "tally") (codes "out") ∷ [];
}

-- its graph
abbrev pub nodes : List Node
nodes =
    record { name = codes "read"; role = Input Lines (codes "gen.txt") 10; partitions = 1; left = 0; right = 0; app_windows = 1 }
    ∷ record { name = codes "split"; role = Inner Words; partitions = 1; left = 0; right = 1; app_windows = 1 }
    ∷ record { name = codes "tally"; role = Inner Count; partitions = 4; left = 1; right = 2; app_windows = 1 }
    ∷ record { name = codes "out"; role = Sink; partitions = 1; left = 2; right = 3; app_windows = 1 } ∷ []
