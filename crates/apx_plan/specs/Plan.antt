-- The plan of an application, as it is printed.
use Rattle.std.specs.Prelude.{ℕ, zero, suc, ◌+◌, ◌%◌, ◌==◌, List, [], ◌++◌, codes, decimal, if◌then◌else◌}
use Rattle.std.specs.List.{flat_map}
use Rattle.apx_codec.specs.KeyNumber.{mask_of}
use Rattle.apx_pass.specs.Graph.{Node, node_at}
use Rattle.apx_pass.specs.Order.{order_of}
use Rattle.apx_plan.specs.Class.{class_name}

-- a label and a number
unfoldable pub numbered : List ℕ → ℕ → List ℕ
numbered label number = label ++ decimal number

-- a word behind a space
unfoldable pub spaced : List ℕ → List ℕ
spaced word = codes " " ++ word

-- a class of keys behind a space, where it belongs to a partition of n: class c belongs to partition c modulo n
abbrev pub key_text : ℕ → ℕ → ℕ → List ℕ
key_text n partition class = if class % n == partition then numbered (codes " ") class else []

-- the classes below a bound that belong to a partition of n
unfoldable pub keys_text : ℕ → ℕ → ℕ → List ℕ
keys_text n partition zero = []
keys_text n partition (suc class) = keys_text n partition class ++ key_text n partition class

-- the mask of n partitions
unfoldable pub mask_text : ℕ → List ℕ
mask_text n = numbered (codes " mask ") (mask_of n)

-- all classes that belong to a partition of n
unfoldable pub classes_text : ℕ → ℕ → List ℕ
classes_text n partition = keys_text n partition (mask_of n + 1)

-- the line of a partition: its number, the mask, and its classes
unfoldable pub partition_text : ℕ → ℕ → List ℕ
partition_text n partition =
    numbered (codes "  partition ") partition ++ (mask_text n ++ (codes " keys" ++ (classes_text n partition ++ codes "\n")))

-- the lines of the partitions below `bound`
unfoldable pub partitions_text : ℕ → ℕ → List ℕ
partitions_text n zero = []
partitions_text n (suc partition) = partitions_text n partition ++ partition_text n partition

-- the line of an operator: its number, its class, how many partitions it has, its name
unfoldable pub head_text : ℕ → List ℕ → ℕ → List ℕ → List ℕ
head_text number class partitions name =
    numbered (codes "operator ") number ++ (spaced class ++ (numbered (codes " ") partitions ++ (spaced name ++ codes "\n")))

-- an operator and its partitions
unfoldable pub operator_text : List Node → ℕ → List ℕ
operator_text nodes number =
    let node = node_at nodes number in
    head_text number (class_name node.role) node.partitions node.name ++ partitions_text node.partitions node.partitions

-- the operators of a graph in some order
abbrev pub operators_text : List Node → List ℕ → List ℕ
operators_text nodes order = flat_map (operator_text nodes) order

-- the plan of a graph: its operators in the order in which they step
unfoldable pub plan_text : List Node → List ℕ
plan_text nodes = operators_text nodes (order_of nodes)
