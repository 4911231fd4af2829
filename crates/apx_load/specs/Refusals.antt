-- What applications and inputs are accepted, and what is refused of the others.
--
-- A reading says what is read of a file: `reading name limit gave` is that a read of this name, of at most so many
-- bytes, gives this. There are two: by the files that a folder tells, and by the answers that a call has heard.
--     IsApplication reading name nodes       the file is an application, and its graph
--     AreInputs reading nodes inputs         the files of the inputs are there and accepted, and what they hold
--     IsRunRefusal reading name refusal      the first thing that is refused of both
use Rattle.std.specs.Prelude.{◌≡◌, ℕ, ◌≤◌, ◌⊎◌, List, [], ◌∷◌, length, filter_map, Option, Some, None, Result, Ok, Err, ⊤}
use Rattle.apx_device.specs.declared.folder.ReadRefusal.{ReadRefusal}
use Rattle.apx_device.specs.declared.folder.ReadRefusal.TheVariants as read
use Rattle.apx_device.specs.Folder.{Says, Answer, Gave}
use Rattle.apx_json.specs.Texts.{Application}
use Rattle.apx_json.specs.Reading.{Reads}
use Rattle.apx_json.specs.declared.refusal.JsonRefusal.TheVariants.{Syntax, Shape}
use Rattle.apx_dag.specs.declared.refusal.AppRefusal.TheVariants.{Refused as RefusedGraph}
use Rattle.apx_dag.specs.Graph.{Answers}
use Rattle.apx_pass.specs.Graph.{Role, Input, Inner, Sink, Node}
use Rattle.apx_pass.specs.Groups as groups
use Rattle.apx_pass.specs.Groups.{Cause, TooMany, TooLong, BadPair, input_of, first_refused}
use Rattle.apx_pass.specs.Pass.{Dataflow}
use Rattle.apx_load.specs.declared.refusal.LineCause.{LineCause}
use Rattle.apx_load.specs.declared.refusal.LineCause.TheVariants as cause
use Rattle.apx_load.specs.declared.refusal.Refusal.{Refusal}
use Rattle.apx_load.specs.declared.refusal.Refusal.TheVariants.{NoFile, FileTooLong, NoJson, WrongShape, BrokenRule, RefusedLine}

-- what a read of a name with a limit gives
abbrev pub Reading : Type 1
Reading = List ℕ → ℕ → Result (List ℕ) ReadRefusal → Type 0

-- the bytes that are given are no more than the limit
abbrev pub IsWithin : ℕ → Result (List ℕ) ReadRefusal → Type 0
IsWithin limit (Ok bytes) = length bytes ≤ limit
IsWithin limit (Err refusal) = ⊤

-- the reading by the files that a folder tells
abbrev pub by_files : (List ℕ → Option (List ℕ)) → Reading
by_files told name limit gave = Says (told name) limit gave × IsWithin limit gave

-- the reading by the answers that a call has heard
abbrev pub by_answers : List Answer → Reading
by_answers answers name limit gave = Gave answers name limit gave × IsWithin limit gave

-- ---- the application's file: at most 1 MiB, a JSON text of the right shape, and a graph that breaks no rule

-- the text is an application with this graph
pub record IsAppText (text : List ℕ) (nodes : List Node) : Type 0 where
  -- the application that the text spells
  pub app : Application
  -- it spells it
  pub read : Reads text (Ok app)
  -- its graph breaks no rule
  pub graph : Answers app (Ok nodes)

-- the text is refused: it is no JSON, it lacks its shape at a place, or its graph breaks a rule
abbrev pub IsTextRefusal : List ℕ → Refusal → Type 0
IsTextRefusal text NoJson = Reads text (Err Syntax)
IsTextRefusal text (WrongShape place) = Reads text (Err (Shape place))
IsTextRefusal text (BrokenRule code place) =
    (app : Application) × Reads text (Ok app) × Answers app (Err (RefusedGraph code place))
IsTextRefusal text _ = ⊥

-- there is no such file, or it is longer than the limit
abbrev pub IsFileRefusal : Reading → List ℕ → ℕ → Refusal → Type 0
IsFileRefusal reading name limit (NoFile file) = (file ≡ name) × reading name limit (Err read.Absent)
IsFileRefusal reading name limit (FileTooLong file) = (file ≡ name) × reading name limit (Err read.TooLong)
IsFileRefusal reading name limit _ = ⊥

-- the file under a name is an application of at most 1 MiB, with this graph
pub record IsApplication (reading : Reading) (name : List ℕ) (nodes : List Node) : Type 0 where
  -- the bytes of the file
  pub text : List ℕ
  -- they are read
  pub file : reading name 1048576 (Ok text)
  -- they are an application
  pub app : IsAppText text nodes

-- the first thing that is refused of it
abbrev pub IsApplicationRefusal : Reading → List ℕ → Refusal → Type 0
IsApplicationRefusal reading name refusal =
    IsFileRefusal reading name 1048576 refusal
    ⊎ ((text : List ℕ) × reading name 1048576 (Ok text) × IsTextRefusal text refusal)

-- ---- an input's file: at most 16 MiB, and no line that is refused

-- the cause of a refused line, as the definitions of inputs name it
abbrev pub cause_view : LineCause → Cause
cause_view cause.TooMany = TooMany
cause_view cause.TooLong = TooLong
cause_view cause.BadPair = BadPair

-- an input has its file, of at most 16 MiB, and no line of it is refused
pub record IsInputFile (reading : Reading) (input : groups.Input) (file : List ℕ) (text : List ℕ) : Type 0 where
  -- the bytes of the file are read
  pub is_file : reading file 16777216 (Ok text)
  -- no line is refused
  pub accepted : first_refused input ≡ None

-- what an operator reads: an input its file, and another nothing
abbrev pub IsInputOf : Reading → Role → Option groups.Input → Type 0
IsInputOf reading (Input kind file per_window) input =
    (text : List ℕ)
    × IsInputFile reading (input_of kind per_window text) file text
    × (input ≡ Some (input_of kind per_window text))
IsInputOf reading (Inner kind) input = input ≡ None
IsInputOf reading Sink input = input ≡ None

-- the first refused line of an input
abbrev pub IsLineRefusal : groups.Input → List ℕ → Refusal → Type 0
IsLineRefusal input name (RefusedLine file line cause) =
    (file ≡ name) × (first_refused input ≡ Some (record { line = line; cause = cause_view cause }))
IsLineRefusal input name _ = ⊥

-- the first thing that is refused of an input
abbrev pub IsInputRefusal : Reading → Role → Refusal → Type 0
IsInputRefusal reading (Input kind file per_window) refusal =
    IsFileRefusal reading file 16777216 refusal
    ⊎ ((text : List ℕ) × reading file 16777216 (Ok text) × IsLineRefusal (input_of kind per_window text) file refusal)
IsInputRefusal reading (Inner kind) refusal = ⊥
IsInputRefusal reading Sink refusal = ⊥

-- what each operator reads, in the order of the file
abbrev pub AreRead : Reading → List Node → List (Option groups.Input) → Type 0
AreRead reading [] [] = ⊤
AreRead reading [] (input ∷ inputs) = ⊥
AreRead reading (node ∷ nodes) [] = ⊥
AreRead reading (node ∷ nodes) (input ∷ inputs) = IsInputOf reading node.role input × AreRead reading nodes inputs

-- what the inputs read, in the order of the file, without a place for the other operators
pub record AreInputs (reading : Reading) (nodes : List Node) (inputs : List groups.Input) : Type 0 where
  -- what each operator reads
  pub each : List (Option groups.Input)
  -- it is read of its file
  pub read : AreRead reading nodes each
  -- those that read anything
  pub are : inputs ≡ filter_map (λ input. input) each

-- the first operator whose input is refused, those before it being accepted
abbrev pub IsInputsRefusal : Reading → List Node → Refusal → Type 0
IsInputsRefusal reading [] refusal = ⊥
IsInputsRefusal reading (node ∷ nodes) refusal =
    IsInputRefusal reading node.role refusal
    ⊎ (((input : Option groups.Input) × IsInputOf reading node.role input) × IsInputsRefusal reading nodes refusal)

-- ---- an application with its inputs

-- the application in a file and the files of its inputs are accepted, and this is their dataflow
pub record IsAcceptedRun (reading : Reading) (name : List ℕ) (flow : Dataflow) : Type 0 where
  -- the application is accepted
  pub application : IsApplication reading name flow.nodes
  -- its inputs are
  pub inputs : AreInputs reading flow.nodes flow.inputs

-- the application is refused, or else the first input that is
abbrev pub IsRunRefusal : Reading → List ℕ → Refusal → Type 0
IsRunRefusal reading name refusal =
    IsApplicationRefusal reading name refusal
    ⊎ ((nodes : List Node) × IsApplication reading name nodes × IsInputsRefusal reading nodes refusal)
