-- One class, one partition more.
use Rattle.std.proofs.Common.{◌≡◌, ℕ, ◌+◌, ◌<◌, ◌++◌, List, [], length, take, get_or, ◌∙◌, refl, sym, ap, append_assoc, add-one}
use Rattle.std.proofs.lemmas.List.{append-nil, flat_map_more, take_more}
use Rattle.apx_pass.specs.Graph.{Node, node_at}
use Rattle.apx_plan.specs.Class.{class_name}
use Rattle.apx_plan.specs.Plan.{key_text, keys_text, partition_text, partitions_text, head_text, operator_text, operators_text}
use Rattle.apx_report.specs.Extends.{Extends}

pub no_keys : (n partition : ℕ) (text : List ℕ) → text ≡ text ++ keys_text n partition 0
unfolding keys_text
no_keys n partition text = sym (append-nil text)

pub keys_more : (n partition class : ℕ) (old before now : List ℕ) → before ≡ old ++ keys_text n partition class → now ≡ before ++ key_text n partition class → now ≡ old ++ keys_text n partition (class + 1)
unfolding keys_text
keys_more n partition class old before now b e = e ∙ ap (λ text. text ++ key_text n partition class) b ∙ rw add-one (append_assoc old (keys_text n partition class) (key_text n partition class))

pub no_partitions : (n : ℕ) (text : List ℕ) → text ≡ text ++ partitions_text n 0
unfolding partitions_text
no_partitions n text = sym (append-nil text)

pub partitions_more : (n partition : ℕ) (old before now : List ℕ) → before ≡ old ++ partitions_text n partition → now ≡ before ++ partition_text n partition → now ≡ old ++ partitions_text n (partition + 1)
unfolding partitions_text
partitions_more n partition old before now b e = e ∙ ap (λ text. text ++ partition_text n partition) b ∙ rw add-one (append_assoc old (partitions_text n partition) (partition_text n partition))

-- what extends a longer text extends the shorter one
pub extends_front : (old more before now : List ℕ) → before ≡ old ++ more → Extends before now → Extends old now
extends_front old more before now b e = record { more = more ++ e.more; is = e.is ∙ ap (λ text. text ++ e.more) b ∙ append_assoc old more e.more }

-- one operator more
pub operators_more : (nodes : List Node) (order : List ℕ) (place : ℕ) (node : Node) (old before now : List ℕ) → place < length order → node ≡ node_at nodes (get_or order place 0) → before ≡ old ++ operators_text nodes (take place order) → now ≡ before ++ (head_text (get_or order place 0) (class_name node.role) node.partitions node.name ++ partitions_text node.partitions node.partitions) → now ≡ old ++ operators_text nodes (take (place + 1) order)
unfolding operator_text
operators_more nodes order place node old before now lt is b e =
    let number : ℕ = get_or order place 0 in
    let piece : head_text number (class_name node.role) node.partitions node.name ++ partitions_text node.partitions node.partitions ≡ operator_text nodes number = ap (λ (n : Node). head_text number (class_name n.role) n.partitions n.name ++ partitions_text n.partitions n.partitions) is in
    e ∙ ap (λ text. before ++ text) piece ∙ ap (λ text. text ++ operator_text nodes number) b ∙ flat_map_more (operator_text nodes) old (take place order) number ∙ ap (λ (xs : List ℕ). old ++ operators_text nodes xs) (sym (take_more order place 0 lt))

-- pieces that are appended one after the other
pub four_pieces : (old a b c d s1 s2 s3 s4 : List ℕ) → s1 ≡ old ++ a → s2 ≡ s1 ++ b → s3 ≡ s2 ++ c → s4 ≡ s3 ++ d → s4 ≡ old ++ (a ++ (b ++ (c ++ d)))
four_pieces old a b c d s1 s2 s3 s4 e1 e2 e3 e4 = e4 ∙ ap (λ t. t ++ d) (e3 ∙ ap (λ t. t ++ c) (e2 ∙ ap (λ t. t ++ b) e1)) ∙ simp append_assoc

pub five_pieces : (old a b c d e s1 s2 s3 s4 s5 : List ℕ) → s1 ≡ old ++ a → s2 ≡ s1 ++ b → s3 ≡ s2 ++ c → s4 ≡ s3 ++ d → s5 ≡ s4 ++ e → s5 ≡ old ++ (a ++ (b ++ (c ++ (d ++ e))))
five_pieces old a b c d e s1 s2 s3 s4 s5 e1 e2 e3 e4 e5 = e5 ∙ ap (λ t. t ++ e) (four_pieces old a b c d s1 s2 s3 s4 e1 e2 e3 e4) ∙ simp append_assoc
