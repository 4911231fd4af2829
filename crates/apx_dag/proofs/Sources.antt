-- The sources of the operators of a graph are those that the streams give.
use Rattle.std.proofs.Common.{◌≡◌, ℕ, zero, suc, ◌+◌, ◌≤◌, ◌<◌, Bool, true, false, not, List, [], ◌∷◌, length, get_or, map, Option, Some, None, inl, inr, refl, sym, ap, subst, ◌∙◌, arith}
use Rattle.std.specs.Prelude.{unwrap_or}
use Rattle.std.specs.List.{find, position, list_any, list_all}
use Rattle.std.specs.Option.{option_and_then, is_none, IfSome}
use Rattle.std.proofs.lemmas.List.{get_or-map, length-map, get_or_past, get_or_read}
use Rattle.std.proofs.lemmas.Bool.{ltb-false}
use Rattle.apx_json.specs.Texts.{Operator, Stream, Application}
use Rattle.apx_pass.specs.Graph.{Role, Sink}
use Rattle.apx_dag.specs.declared.link.Link.{Link}
use Rattle.apx_dag.specs.declared.class.Class.{Class}
use Rattle.apx_dag.specs.Class.{class_of}
use Rattle.apx_dag.specs.Graph.{node_of, nodes_from, graph_of, sources_of, sources_in, link_by, name_at}
use Rattle.apx_dag.specs.Order.{IsSource, IsWithin}
use Rattle.apx_dag.specs.Ports.{is_port, is_named, left_port, right_port, is_source, joins_ports, is_sink, is_fed, is_joined, source_of, link_of, links_of}
use Rattle.apx_dag.specs.Role.{role_of, role_in}
use Rattle.apx_dag.specs.Rules.{operator_name, stream_name, whole}
use Rattle.apx_dag.specs.Names.{named_again}
use Rattle.apx_dag.proofs.Finding.{and_true, not_false, or_none, map_none, then_some, map_or_true, is_there, none_found, found_at, any_found, placed_at, place_within}
use Rattle.apx_dag.proofs.Inversions.{HoldsBefore}
use Rattle.apx_dag.proofs.Roles.{where_port, role_link}

-- ---- each source is there

abbrev pub no_link : Link
no_link = record { left = None; right = None }

source_within : (app : Application) (name : List ℕ) (port : Option (List ℕ)) (a : ℕ) (o : Operator) → option_and_then (source_of app name) port ≡ Some a → a < length app.operators
source_within app name port a o e =
    let p = then_some (source_of app name) port a e in
    let s = then_some (λ (s : Stream). position (is_named s.source.operator) app.operators) (find (λ s. list_any (is_port name p.0) s.sinks) app.streams) a p.2 in
    place_within (is_named s.0.source.operator) app.operators a o s.2

pub no_source : (a : ℕ) → IsSource no_link a → ⊥
no_source a (inl e) = cc
no_source a (inr e) = cc

pub source_there : (app : Application) (o : Operator) (a : ℕ) → IsSource (link_of app o) a → a < length app.operators
source_there app o a (inl e) = source_within app o.name (left_port o) a o e
source_there app o a (inr e) = source_within app o.name (right_port o) a o e

any_link : (app : Application) (os : List Operator) (b a : ℕ) → IsSource (get_or (map (link_of app) os) b no_link) a → a < length app.operators
any_link app [] b a h =
    let none : get_or (map (link_of app) []) b no_link ≡ no_link = get_or_past [] b no_link (omega arith) in
    absurd (no_source a (subst (λ (l : Link). IsSource l a) none h))
any_link app (o ∷ os) zero a h = source_there app o a h
any_link app (o ∷ os) (suc b) a h = any_link app os b a h

pub links_within : (app : Application) → IsWithin (links_of app)
links_within app a b h = rw (length-map app.operators (link_of app)) (any_link app app.operators b a h)

-- ---- a port that is joined has a source

module _ (app : Application) (holds : HoldsBefore app) where
  pub stream_joins : (s : Stream) (k : ℕ) → k < length app.streams → get_or app.streams k s ≡ s → joins_ports app.operators s ≡ true
  stream_joins s k lt at_k =
      let none : find (λ s. not (joins_ports app.operators s)) app.streams ≡ None = map_none stream_name _ holds.ports in
      let fails = none_found (λ s. not (joins_ports app.operators s)) app.streams none k s lt in
      not_false (joins_ports app.operators s) (rw at_k at fails)

  source_found : (name port : List ℕ) → is_fed app.streams name (Some port) ≡ true → (a : ℕ) × (source_of app name port ≡ Some a)
  source_found name port fed =
      let test : Stream → Bool = λ s. list_any (is_port name port) s.sinks in
      let s = any_found test app.streams fed in
      let at_k = found_at test app.streams s.0 s.1 in
      let joins = stream_joins s.0 at_k.0 at_k.1 at_k.2 in
      let source : is_source app.operators s.0.source ≡ true = (and_true (is_source app.operators s.0.source) (list_all (is_sink app.operators) s.0.sinks) joins).0 in
      let o = map_or_true _ (find (is_named s.0.source.operator) app.operators) source in
      let a = placed_at (is_named s.0.source.operator) app.operators o.0 o.1 in
      (a.0, rw s.1 a.1)

  -- a port's source, or the operator's own number
  joined_port : (name : List ℕ) (port : Option (List ℕ)) (own : ℕ) → is_fed app.streams name port ≡ true → where_port port (unwrap_or (option_and_then (source_of app name) port) own) ≡ option_and_then (source_of app name) port
  joined_port name None own fed = refl
  joined_port name (Some port) own fed = let a = source_found name port fed in rw a.1 refl

  module _ (o : Operator) (k : ℕ) (lt : k < length app.operators) (at_k : get_or app.operators k o ≡ o) where
    fed_ports : (is_fed app.streams o.name (left_port o) ≡ true) × (is_fed app.streams o.name (right_port o) ≡ true)
    fed_ports =
        let none : find (λ o. not (is_joined app.streams o)) app.operators ≡ None = map_none operator_name _ holds.used in
        let fails = none_found (λ o. not (is_joined app.streams o)) app.operators none k o lt in
        let joined = not_false (is_joined app.streams o) (rw at_k at fails) in
        let both = and_true _ (is_fed app.streams o.name (right_port o)) joined in
        ((and_true _ (is_fed app.streams o.name (left_port o)) both.0).1, both.1)

    pub has_role : (role : Role) × (role_in o ≡ Some role)
    has_role =
        let none : find (λ o. is_none (role_in o)) app.operators ≡ None = map_none operator_name _ holds.properties in
        let fails = none_found (λ o. is_none (role_in o)) app.operators none k o lt in
        is_there (role_in o) (rw at_k at fails)

    role_ports : (left right : ℕ) → link_by (unwrap_or (role_in o) Sink) left right ≡ record { left = where_port (left_port o) left; right = where_port (right_port o) right }
    role_ports left right =
        let r = has_role in
        let class = then_some (λ (class : Class). role_of class o.properties) (class_of o.class) r.0 r.1 in
        rw (r.1, class.1) (role_link class.0 o.properties r.0 left right class.2)

    pub node_link : (i : ℕ) → sources_of (node_of app i o) ≡ link_of app o
    node_link i =
        let l = link_of app o in
        role_ports (unwrap_or l.left i) (unwrap_or l.right i) ∙ rw (joined_port o.name (left_port o) i fed_ports.0, joined_port o.name (right_port o) i fed_ports.1) refl

  -- each operator of the list is one of the application
  sources_from : (os : List Operator) (i : ℕ) → ((j : ℕ) (o : Operator) → j < length os → get_or os j o ≡ o → (k : ℕ) × (k < length app.operators) × (get_or app.operators k o ≡ o)) → map sources_of (nodes_from app i os) ≡ map (link_of app) os
  sources_from [] i each = refl
  sources_from (o ∷ os) i each =
      let at_k = each 0 o (omega arith) refl in
      let first : sources_of (node_of app i o) ≡ link_of app o = node_link o at_k.0 at_k.1 at_k.2 i in
      let rest : map sources_of (nodes_from app (i + 1) os) ≡ map (link_of app) os = sources_from os (i + 1) (λ j x lt e. each (suc j) x (omega arith) e) in
      rw (first, rest) refl

  pub graph_sources : sources_in (graph_of app) ≡ links_of app
  graph_sources = sources_from app.operators 0 (λ j o lt e. (j, lt, e))

pub whole_none : (b : Bool) → whole b ≡ None → b ≡ false
whole_none true e = absurd cc
whole_none false e = refl

pub few_operators : (app : Application) → HoldsBefore app → length app.operators ≤ 16
few_operators app holds = ltb-false 16 (length app.operators) (whole_none _ holds.few)

pub names_apart : (app : Application) → HoldsBefore app → named_again operator_name [] app.operators ≡ None
names_apart app holds = or_none (named_again operator_name [] app.operators) (named_again stream_name [] app.streams) holds.names

-- ---- the links, as the code has them

pub if_some : (o : Option ℕ) (n : ℕ) → ((a : ℕ) → o ≡ Some a → a < n) → IfSome o (λ a. a < n)
if_some None n h = tt
if_some (Some a) n h = h a refl

pub link_read : (app : Application) (i : ℕ) (o : Operator) → i < length app.operators → o ≡ get_or app.operators i o → (d : Link) → get_or (links_of app) i d ≡ link_of app o
link_read app i o lt is d = get_or-map (link_of app) app.operators i o d lt ∙ ap (link_of app) (sym is)

pub name_read : (operators : List Operator) (i : ℕ) (o : Operator) → i < length operators → o ≡ get_or operators i o → o.name ≡ name_at operators i
name_read operators i o lt is = ap (λ (x : Operator). x.name) (get_or_read operators i o lt is _)
