-- Who reads whom in a graph, and the orders in which its operators can be gone through.
--     reads nodes o s       operator o reads operator s
--     is_below nodes s o    operator o is downstream of operator s
--     order_of nodes        the operators in an order in which they can step
--     IsOrder nodes order   the order has every operator, each behind those that it reads
use Rattle.std.specs.Prelude.{◌≡◌, ℕ, zero, suc, ◌<◌, ◌==◌, ◌&&◌, ◌||◌, not, Bool, false, cond, List, [], ◌∷◌, ◌++◌, length, find, slice_index, ⊤}
use Rattle.std.specs.List.{list_any, list_all, range_with_len}
use Rattle.std.specs.Option.{option_map_or}
use Rattle.std.specs.Bool.{MatchBool}
use Rattle.apx_tuple.specs.Kind.{has_right}
use Rattle.apx_pass.specs.Graph.{Role, Input, Inner, Sink, Node, node_at}

-- the operators that ports read: an input has none, the sink one, and another as many as its kind has
unfoldable pub sources_of : Role → ℕ → ℕ → List ℕ
sources_of (Input kind file per_window) left right = []
sources_of (Inner kind) left right = left ∷ cond (has_right kind) (right ∷ []) []
sources_of Sink left right = left ∷ []

-- the operators that an operator reads
abbrev pub sources : List Node → ℕ → List ℕ
sources nodes o = sources_of (node_at nodes o).role (node_at nodes o).left (node_at nodes o).right

-- a number stands among some
abbrev pub stands_in : List ℕ → ℕ → Bool
stands_in numbers n = list_any (λ other. n == other) numbers

-- operator o reads operator s
abbrev pub reads : List Node → ℕ → ℕ → Bool
reads nodes o s = stands_in (sources nodes o) s

-- operator o is reached from operator s over one stream or more, and at most so many
unfoldable pub is_below_within : ℕ → List Node → ℕ → ℕ → Bool
is_below_within zero nodes s o = false
is_below_within (suc streams) nodes s o = list_any (λ source. s == source || is_below_within streams nodes s source) (sources nodes o)

-- operator o is downstream of operator s. No stream leads back, so that as many streams as there are operators reach all
abbrev pub is_below : List Node → ℕ → ℕ → Bool
is_below nodes = is_below_within (length nodes) nodes

-- operator o isn't placed, and each that it reads is
abbrev pub is_ready : List Node → List ℕ → ℕ → Bool
is_ready nodes placed o = not (stands_in placed o) && list_all (stands_in placed) (sources nodes o)

-- so many more places behind those that are filled: in each stands the earliest operator of the file that is ready
unfoldable pub order_behind : ℕ → List Node → List ℕ → List ℕ
order_behind zero nodes placed = []
order_behind (suc places) nodes placed =
    option_map_or (λ o. o ∷ order_behind places nodes (placed ++ o ∷ []))
    (find (is_ready nodes placed) (range_with_len 0 (length nodes))) []

-- all operators, each behind those that it reads: at each place the earliest of the file whose sources are placed
abbrev pub order_of : List Node → List ℕ
order_of nodes = order_behind (length nodes) nodes []

-- what holds of the ports that there are: an input has none, the sink one, and another as many as its kind has
unfoldable pub OfPorts : Role → Type 0 → Type 0 → Type 0
OfPorts (Input kind file per_window) left right = ⊤
OfPorts (Inner kind) left right = left × MatchBool (has_right kind) right ⊤
OfPorts Sink left right = left

-- each operator that the node reads meets P
abbrev pub EachSource : (ℕ → Type 0) → Node → Type 0
EachSource P node = OfPorts node.role (P node.left) (P node.right)

-- an operator stands in the order before place k
pub record IsBefore (order : List ℕ) (k : ℕ) (operator : ℕ) : Type 0 where
  -- where it stands
  pub place : ℕ
  -- that is before place k
  pub earlier : place < k
  -- the operator stands there
  pub is : slice_index order place ≡ operator

-- the order has every operator, each once, and each behind those that it reads
pub record IsOrder (nodes : List Node) (order : List ℕ) : Type 0 where
  -- there are as many places as operators
  pub long : length order ≡ length nodes
  -- at each place stands an operator
  pub known : (k : ℕ) → k < length order → slice_index order k < length nodes
  -- each operator stands at a place
  pub whole : (operator : ℕ) → operator < length nodes → IsBefore order (length order) operator
  -- those that it reads stand before it
  pub behind : (k : ℕ) → k < length order → EachSource (IsBefore order k) (node_at nodes (slice_index order k))
