-- What `Dag::of` answers.
use Rattle.std.proofs.Common.{◌≡◌, ℕ, ◌<◌, List, length, get_or, map, Ok, refl, sym, ap, ◌∙◌, arith}
use Rattle.std.specs.Global.{Vec}
use Rattle.std.proofs.lemmas.List.{length-map}
use Rattle.apx_json.specs.Texts.{Operator, Application}
use Rattle.apx_pass.specs.Graph.{Node}
use Rattle.apx_dag.specs.declared.link.Link.{Link}
use Rattle.apx_dag.specs.Dag.{IsDag, nodes_in, key_texts, node_names}
use Rattle.apx_dag.specs.Graph.{IsRefused, cycle, graph_of, sources_in, sources_of}
use Rattle.apx_dag.specs.Marks.{IsFirstLoop}
use Rattle.apx_dag.specs.Order.{IsLinkOrder}
use Rattle.apx_dag.specs.Ports.{link_of, links_of}
use Rattle.apx_dag.specs.Rules.{before_cycles, after_cycles}
use Rattle.apx_dag.proofs.Inversions.{holds_before, holds_after}
use Rattle.apx_dag.proofs.Sources.{few_operators, name_read, graph_sources}
use Rattle.apx_dag.proofs.Validity.{is_graph}

pub is_cycle : (app : Application) (links : List Link) (i : ℕ) (o : Operator) (place : List ℕ) → before_cycles app ≡ Ok tt → links ≡ links_of app → IsFirstLoop links i → o ≡ get_or app.operators i o → place ≡ o.name → IsRefused app 8 place
is_cycle app links i o place before same first is name =
    let loop : IsFirstLoop (links_of app) i = rw (← same) first in
    let here : i < length app.operators = omega (arith, loop.here, length-map app.operators (link_of app)) in
    cycle before loop refl (name ∙ name_read app.operators i o here is)

pub is_dag : (app : Application) (links : List Link) (entries : List (Vec ℕ × Node)) (order : List ℕ) → before_cycles app ≡ Ok tt → after_cycles app ≡ Ok tt → links ≡ links_of app → IsLinkOrder links order → nodes_in entries ≡ graph_of app → key_texts entries ≡ node_names entries → IsDag entries order
is_dag app links entries order before after same ordered nodes named =
    let holds = holds_before app before in
    let sources : sources_in (nodes_in entries) ≡ links = ap (map sources_of) nodes ∙ graph_sources app holds ∙ sym same in
    let count : length entries ≡ length app.operators = sym (length-map entries (λ (e : Vec ℕ × Node). e.1)) ∙ sym (length-map (nodes_in entries) sources_of) ∙ ap length sources ∙ ap length same ∙ length-map app.operators (link_of app) in
    record {
      few = omega (arith, count, few_operators app holds);
      named = named;
      ordered = rw sources ordered;
      valid = rw nodes (is_graph app order holds (holds_after app after) (rw (graph_sources app holds, ← same) ordered));
    }
