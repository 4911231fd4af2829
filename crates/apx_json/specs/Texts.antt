-- An application as its text has it: plain records, with lists in place of vectors.
use Rattle.std.specs.Prelude.{ℕ, ℤ, List}
use Rattle.apx_json.specs.declared.text.Property.{Property}
use Rattle.apx_json.specs.declared.text.PortText.{PortText}

-- an operator: name, class, properties, partitions, and how many windows it gathers
pub record Operator : Type 0 where
  -- its name
  pub name : List ℕ
  -- the class that it is of
  pub class : List ℕ
  -- each name once, in ascending order of their bytes
  pub properties : List Property
  -- the attribute `PARTITIONS`, 1 where it is absent
  pub partitions : ℤ
  -- the attribute `APPLICATION_WINDOW_COUNT`, 1 where it is absent
  pub app_windows : ℤ

-- a stream: name, source, sinks
pub record Stream : Type 0 where
  -- its name
  pub name : List ℕ
  -- the output port that it comes from
  pub source : PortText
  -- the input ports that it goes to
  pub sinks : List PortText

-- an application: its operators and streams
pub record Application : Type 0 where
  -- in the order of the file
  pub operators : List Operator
  -- in the order of the file
  pub streams : List Stream
