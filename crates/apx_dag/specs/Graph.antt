-- The graph of an application, and what `Dag::of` answers.
use Rattle.std.specs.Prelude.{◌≡◌, ℕ, ◌+◌, pos, List, [], ◌∷◌, map, Some, None, unwrap_or, Result, Ok, Err, slice_index_or, if◌then◌else◌}
use Rattle.apx_json.specs.Texts.{Operator, Application}
use Rattle.apx_tuple.specs.Kind.{has_right}
use Rattle.apx_pass.specs.Graph.{Role, Input, Inner, Sink, Node}
use Rattle.apx_dag.specs.declared.link.Link.{Link}
use Rattle.apx_dag.specs.declared.refusal.AppRefusal.{AppRefusal}
use Rattle.apx_dag.specs.declared.refusal.AppRefusal.TheVariants.{Refused, Memory}
use Rattle.apx_dag.specs.Order.{IsAcyclic}
use Rattle.apx_dag.specs.Marks.{IsFirstLoop}
use Rattle.apx_dag.specs.Ports.{link_of, links_of}
use Rattle.apx_dag.specs.Role.{within, role_in}
use Rattle.apx_dag.specs.Rules.{before_cycles, after_cycles}

-- ---- the graph of an application

-- operator number i; its role and its counts are there where the rules hold
abbrev pub node_by : ℕ → Operator → Link → Node
node_by i o link = record {
  name = o.name;
  role = unwrap_or (role_in o) Sink;
  partitions = unwrap_or (within 1 8 o.partitions) 1;
  left = unwrap_or link.left i;
  right = unwrap_or link.right i;
  app_windows = unwrap_or (within 1 20000 o.app_windows) 1;
}

-- operator number i of an application
abbrev pub node_of : Application → ℕ → Operator → Node
node_of app i o = node_by i o (link_of app o)

-- operators from number i on
abbrev pub nodes_from : Application → ℕ → List Operator → List Node
nodes_from app i [] = []
nodes_from app i (o ∷ os) = node_of app i o ∷ nodes_from app (i + 1) os

-- an application's graph
abbrev pub graph_of : Application → List Node
graph_of app = nodes_from app 0 app.operators

-- ---- the sources of its operators

-- the sources of an operator by its role
abbrev pub link_by : Role → ℕ → ℕ → Link
link_by (Input kind file per_window) left right = record { left = None; right = None }
link_by (Inner kind) left right = record { left = Some left; right = if has_right kind then Some right else None }
link_by Sink left right = record { left = Some left; right = None }

-- the sources of an operator
abbrev pub sources_of : Node → Link
sources_of node = link_by node.role node.left node.right

-- the sources of all operators
abbrev pub sources_in : List Node → List Link
sources_in nodes = map sources_of nodes

-- ---- what is accepted, and what is refused

-- no rule is broken
pub record IsAccepted (app : Application) : Type 0 where
  -- no rule before the one on cycles is broken
  pub before : before_cycles app ≡ Ok tt
  -- no operator is reached from itself
  pub acyclic : IsAcyclic (links_of app)
  -- no rule after it is broken
  pub after : after_cycles app ≡ Ok tt

-- stands where there is no operator
abbrev pub no_operator : Operator
no_operator = record { name = []; class = []; properties = []; partitions = pos 1; app_windows = pos 1 }

-- the name of an operator
abbrev pub name_at : List Operator → ℕ → List ℕ
name_at operators i = (slice_index_or operators i no_operator).name

-- a rule that is broken, before which no other is, and the place that breaks it first
pub data IsRefused (app : Application) (code : ℕ) (place : List ℕ) : Type 0 where
  before : before_cycles app ≡ Err (code, place) → IsRefused app code place
  cycle : {i : ℕ} → before_cycles app ≡ Ok tt → IsFirstLoop (links_of app) i →
      code ≡ 8 → place ≡ name_at app.operators i → IsRefused app code place
  after : before_cycles app ≡ Ok tt → IsAcyclic (links_of app) → after_cycles app ≡ Err (code, place) → IsRefused app code place

-- the graph of an accepted application, or the first broken rule; want of memory says nothing
abbrev pub Answers : Application → Result (List Node) AppRefusal → Type 0
Answers app (Ok graph) = IsAccepted app × (graph ≡ graph_of app)
Answers app (Err Memory) = Unit {0}
Answers app (Err (Refused code place)) = IsRefused app code place
