-- Adding one operator after the other.
use Rattle.std.proofs.Common.{◌≡◌, ℕ, ◌+◌, ◌≤◌, ◌<◌, Bool, true, false, cond, ◌||◌, List, [], ◌∷◌, ◌++◌, length, get_or, drop, map, Option, Some, None, refl, sym, ap, ◌∙◌, append_assoc}
use Rattle.std.specs.Global.{Vec}
use Rattle.std.specs.List.{list_any, position}
use Rattle.std.specs.Str.{bytes_eq}
use Rattle.std.proofs.lemmas.List.{drop_all, map-append, append-nil}
use Rattle.std.proofs.Math.Seq.{drop-cons}
use Rattle.std.proofs.Math.Numerals.{add-one}
use Rattle.indexmap.specs.IndexMap.{insert_entry}
use Rattle.apx_json.specs.Texts.{Operator, Application}
use Rattle.apx_pass.specs.Graph.{Node}
use Rattle.apx_dag.specs.Dag.{nodes_in, key_texts, node_names}
use Rattle.apx_dag.specs.Graph.{graph_of, node_of, nodes_from}
use Rattle.apx_dag.specs.Names.{named_again}
use Rattle.apx_dag.specs.Rules.{operator_name}
use Rattle.apx_dag.proofs.Finding.{place_map}
use Rattle.apx_dag.proofs.Repeats.{step}

-- what the loop keeps
pub record Built (app : Application) (i : ℕ) (entries : List (Vec ℕ × Node)) : Type 0 where
  pub nodes : nodes_in entries ++ nodes_from app i (drop i app.operators) ≡ graph_of app
  pub named : key_texts entries ≡ node_names entries
  pub fresh : named_again operator_name (key_texts entries) (drop i app.operators) ≡ None

-- the place of a name among the keys is that among the operators
pub place_of : (name : List ℕ) (entries : List (Vec ℕ × Node)) → key_texts entries ≡ node_names entries → position (λ (key : Vec ℕ). bytes_eq name key.items) (map (λ e. e.0) entries) ≡ position (λ (node : Node). bytes_eq name node.name) (nodes_in entries)
place_of name entries named =
    place_map (λ (e : Vec ℕ × Node). e.0) (λ (key : Vec ℕ). bytes_eq name key.items) entries
    ∙ sym (place_map (λ (e : Vec ℕ × Node). e.0.items) (bytes_eq name) entries)
    ∙ ap (position (bytes_eq name)) named
    ∙ place_map (λ (e : Vec ℕ × Node). e.1.name) (bytes_eq name) entries
    ∙ sym (place_map (λ (e : Vec ℕ × Node). e.1) (λ (node : Node). bytes_eq name node.name) entries)

or_false : (a b : Bool) → (a || b) ≡ false → (a ≡ false) × (b ≡ false)
or_false true b e = absurd cc
or_false false b e = (refl, e)

abbrev same_key : Vec ℕ → Vec ℕ → Bool
same_key x y = bytes_eq x.items y.items

-- a new name goes last
put_last : (entries : List (Vec ℕ × Node)) (key : Vec ℕ) (node : Node) → list_any (bytes_eq key.items) (key_texts entries) ≡ false → insert_entry same_key entries key node ≡ entries ++ (key, node) ∷ []
put_last [] key node e = refl
put_last (x ∷ xs) key node e =
    let r = or_false (bytes_eq key.items x.0.items) (list_any (bytes_eq key.items) (key_texts xs)) e in
    rw (r.0) (ap (λ (es : List (Vec ℕ × Node)). x ∷ es) (put_last xs key node r.1))

chosen_none : (b : Bool) (name : List ℕ) (rest : Option (List ℕ)) → cond b (Some name) rest ≡ None → (b ≡ false) × (rest ≡ None)
chosen_none true name rest e = absurd cc
chosen_none false name rest e = (refl, e)

pub none_built : (app : Application) (entries : List (Vec ℕ × Node)) → entries ≡ [] → named_again operator_name [] app.operators ≡ None → Built app 0 entries
none_built app entries none apart = rw none (record { nodes = refl; named = refl; fresh = apart })

pub build : (app : Application) (i : ℕ) (entries new : List (Vec ℕ × Node)) (o : Operator) (key : Vec ℕ) (node : Node) → Built app i entries → i < length app.operators → o ≡ get_or app.operators i o → key.items ≡ o.name → node ≡ node_of app i o → new ≡ insert_entry same_key entries key node → Built app (i + 1) new
build app i entries new o key node so_far lt is text node_is put =
    let apart = chosen_none (list_any (bytes_eq o.name) (key_texts entries)) o.name (named_again operator_name (key_texts entries ++ o.name ∷ []) (drop (i + 1) app.operators)) (sym (step operator_name (key_texts entries) app.operators i o lt is) ∙ so_far.fresh) in
    let absent : list_any (bytes_eq key.items) (key_texts entries) ≡ false = rw text apart.0 in
    let last : new ≡ entries ++ (key, node) ∷ [] = put ∙ put_last entries key node absent in
    let keys : key_texts new ≡ key_texts entries ++ o.name ∷ [] = rw last (map-append (λ (e : Vec ℕ × Node). e.0.items) entries ((key, node) ∷ []) ∙ ap (λ (n : List ℕ). key_texts entries ++ n ∷ []) text) in
    let names : node_names new ≡ node_names entries ++ o.name ∷ [] = rw last (map-append (λ (e : Vec ℕ × Node). e.1.name) entries ((key, node) ∷ []) ∙ ap (λ (n : Node). node_names entries ++ n.name ∷ []) node_is) in
    let nodes : nodes_in new ≡ nodes_in entries ++ node_of app i o ∷ [] = rw last (map-append (λ (e : Vec ℕ × Node). e.1) entries ((key, node) ∷ []) ∙ ap (λ (n : Node). nodes_in entries ++ n ∷ []) node_is) in
    let rest : nodes_from app i (drop i app.operators) ≡ node_of app i o ∷ nodes_from app (i + 1) (drop (i + 1) app.operators) = (let first : drop i app.operators ≡ o ∷ drop (i + 1) app.operators = rw (add-one, is) (drop-cons app.operators i o lt) in rw first refl) in
    record {
      nodes = rw nodes (append_assoc (nodes_in entries) (node_of app i o ∷ []) (nodes_from app (i + 1) (drop (i + 1) app.operators)) ∙ ap (λ (ns : List Node). nodes_in entries ++ ns) (sym rest) ∙ so_far.nodes);
      named = keys ∙ ap (λ (ns : List (List ℕ)). ns ++ o.name ∷ []) so_far.named ∙ sym names;
      fresh = rw keys apart.1;
    }

pub built_all : (app : Application) (i : ℕ) (entries : List (Vec ℕ × Node)) → Built app i entries → length app.operators ≤ i → nodes_in entries ≡ graph_of app
built_all app i entries so_far le =
    let none : drop i app.operators ≡ [] = drop_all i app.operators le in
    sym (append-nil (nodes_in entries)) ∙ (rw none at so_far.nodes)
