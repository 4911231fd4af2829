-- What each `Dag` keeps.
use Rattle.std.specs.Prelude.{◌≡◌, ℕ, ◌≤◌, List, length, map}
use Rattle.std.specs.Global.{Vec}
use Rattle.apx_pass.specs.Graph.{Node}
use Rattle.apx_dag.specs.Order.{IsLinkOrder}
use Rattle.apx_dag.specs.Graph.{sources_in}
use Rattle.apx_dag.specs.Valid.{IsGraph}

-- the operators
abbrev pub nodes_in : List (Vec ℕ × Node) → List Node
nodes_in entries = map (λ e. e.1) entries

-- the names under which they stand
abbrev pub key_texts : List (Vec ℕ × Node) → List (List ℕ)
key_texts entries = map (λ e. e.0.items) entries

-- their own names
abbrev pub node_names : List (Vec ℕ × Node) → List (List ℕ)
node_names entries = map (λ e. e.1.name) entries

-- the operators under their names, and their order
pub record IsDag (entries : List (Vec ℕ × Node)) (order : List ℕ) : Type 0 where
  -- there are at most 16 operators
  pub few : length entries ≤ 16
  -- each stands under its own name
  pub named : key_texts entries ≡ node_names entries
  -- the order is the earliest in which they can step
  pub ordered : IsLinkOrder (sources_in (nodes_in entries)) order
  -- the graph is valid
  pub valid : IsGraph (nodes_in entries)
