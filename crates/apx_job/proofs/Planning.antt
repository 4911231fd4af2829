-- The plan of an accepted job is one that histories may have, and a small one.
use Rattle.std.proofs.Common.{◌≡◌, ℕ, zero, suc, ◌+◌, ◌<◌, ◌≤◌, ◌⊎◌, inl, inr, ◌%◌, ◌==◌, ◌&&◌, ◌||◌, not, nat_le, max, Bool, true, false, cond, List, [], ◌∷◌, ◌++◌, length, map, take, get_or, slice_index, Option, Some, None, refl, sym, ap, subst, ◌∙◌, arith, append-nil, append_assoc, length-take-le}
use Rattle.std.specs.Prelude.{nat_lt, position, unwrap_or, if◌then◌else◌}
use Rattle.std.specs.List.{list_any, range_with_len, filter}
use Rattle.std.specs.Option.{option_map, option_map_or, option_or}
use Rattle.std.specs.Str.{bytes_eq}
use Rattle.std.proofs.lemmas.Bool.{leb-true, leb-false, le-leb, ltb-true}
use Rattle.std.proofs.lemmas.List.{get_or-map, length-map, get_or-take, get_or_past}
use Rattle.std.proofs.lemmas.List.FromFn.{length-map-range_with_len, get_or-map-range_with_len}
use Rattle.std.proofs.lemmas.List.Folds.{list_any_at}
use Rattle.std.proofs.lemmas.List.Quantifiers.{position-Some}
use Rattle.std.proofs.lemmas.Slice.Eq.{bytes_eq-Decides}
use Rattle.apx_history.specs.Plan as history
use Rattle.apx_history.specs.Plan.{Plan, has, operator, no_operator, below, splits_op, count_or}
use Rattle.apx_history.specs.declared.Point.TheVariants as points
use Rattle.apx_history.specs.declared.Line as commands
use Rattle.apx_history.specs.Kept.{IsPlan, IsAct}
use Rattle.apx_history.proofs.Tests.{test, both, not_true, is_not, has-filter}
use Rattle.apx_history.proofs.Conditions.{equal_at, equal_by, all_true}
use Rattle.apx_pass.specs.Graph.{Role, Input, Inner, Sink, Node, node_at, is_input, is_sink}
use Rattle.apx_pass.specs.Order.{IsOrder, sources, stands_in, reads, is_below}
use Rattle.apx_pass.specs.Pass.{windows, sink_of}
use Rattle.apx_pass.specs.Script.{Point, Before, Staged, Written, Done, Act, Kill, Repartition, Line, RefusedLine}
use Rattle.apx_dag.specs.Valid.{IsNode, IsGraph, IsEndpoint}
use Rattle.apx_pass.specs.Job.{Job}
use Rattle.apx_job.specs.Job.{operator_of, window_of, number_of, command_in, point_in, act_in, operator_in, plan_of, boundary_of, in_force, splits_at, split_reason, is_written, act_reason, named_reason, reason, kills_nobody, late_reason, first_refused_behind, refused_line}
use Rattle.apx_job.proofs.Downstream as graphs

-- ---- tests

below_or : (a b : ℕ) → (a < b) ⊎ (b ≤ a)
below_or a b = elim (test (nat_le b a)) [ inl s ↦ inr (leb-true b a s) | inr s ↦ inl (let h = leb-false b a s in omega arith) ]

clash : {b : Bool} → b ≡ true → b ≡ false → ⊥
clash h k = let e : true ≡ false = sym h ∙ k in cc

-- a number that isn't among none
has_none : (x : ℕ) → has [] x ≡ true → ⊥
unfolding has
has_none x h = cc

or_left : (a b : Bool) → a ≡ true → (a || b) ≡ true
or_left true b h = refl
or_left false b h = cc

or_right : (a b : Bool) → b ≡ true → (a || b) ≡ true
or_right true b h = refl
or_right false b h = h

or_second : (a b : Bool) → a ≡ false → (a || b) ≡ true → b ≡ true
or_second true b f h = cc
or_second false b f h = h

-- two ways to say that a number is among some
has_by : (xs : List ℕ) (x : ℕ) → stands_in xs x ≡ true → has xs x ≡ true
unfolding has
has_by [] x s = absurd cc
has_by (y ∷ xs) x s = elim (test (x == y)) [
  | inl e ↦ or_left (y == x) (has xs x) (equal_by y x (sym (equal_at x y e)))
  | inr f ↦ or_right (y == x) (has xs x) (has_by xs x (or_second (x == y) (stands_in xs x) f s))
]

has_at : (xs : List ℕ) (x : ℕ) → has xs x ≡ true → stands_in xs x ≡ true
unfolding has
has_at [] x s = absurd cc
has_at (y ∷ xs) x s = elim (test (y == x)) [
  | inl e ↦ or_left (x == y) (stands_in xs x) (equal_by x y (sym (equal_at y x e)))
  | inr f ↦ or_right (x == y) (stands_in xs x) (has_at xs x (or_second (y == x) (has xs x) f s))
]

range_at : (a n x : ℕ) → has (range_with_len a n) x ≡ true → x < a + n
unfolding has
range_at a zero x h = absurd cc
range_at a (suc n) x h = elim (test (a == x)) [
  | inl e ↦ let same = equal_at a x e in omega arith
  | inr f ↦ let later = range_at (a + 1) n x (or_second (a == x) (has (range_with_len (a + 1) n) x) f h) in omega arith
]

range_by : (a n x : ℕ) → a ≤ x → x < a + n → has (range_with_len a n) x ≡ true
unfolding has
range_by a zero x l h = absurd (omega arith)
range_by a (suc n) x l h = elim (test (a == x)) [
  | inl e ↦ or_left (a == x) (has (range_with_len (a + 1) n) x) e
  | inr f ↦ or_right (a == x) (has (range_with_len (a + 1) n) x) (range_by (a + 1) n x (let apart : a ≡ x → ⊥ = λ e. clash (equal_by a x e) f in omega (arith, apart)) (omega arith))
]

-- ---- the sink

sink_found : (nodes : List Node) (k : ℕ) (d : Node) → k < length nodes → is_sink (get_or nodes k d).role ≡ true → (sink_of nodes < length nodes) × ((e : Node) → is_sink (get_or nodes (sink_of nodes) e).role ≡ true)
unfolding sink_of
sink_found [] k d h is = absurd (omega arith)
sink_found (node ∷ nodes) k d h is = by (λ j l t. sink_found nodes j d l t) (is_sink node.role) refl k h is
  where
    by : ((j : ℕ) → j < length nodes → is_sink (get_or nodes j d).role ≡ true → (sink_of nodes < length nodes) × ((e : Node) → is_sink (get_or nodes (sink_of nodes) e).role ≡ true)) →
        (b : Bool) → b ≡ is_sink node.role → (k : ℕ) → k < suc (length nodes) → is_sink (get_or (node ∷ nodes) k d).role ≡ true →
        (cond b 0 (1 + sink_of nodes) < suc (length nodes)) × ((e : Node) → is_sink (get_or (node ∷ nodes) (cond b 0 (1 + sink_of nodes)) e).role ≡ true)
    by more true e k h is = (omega arith, λ d2. sym e)
    by more false e zero h is = absurd (clash is (sym e))
    by more false e (suc k) h is =
        let later = more k (omega arith) is in
        let place : suc (sink_of nodes) ≡ 1 + sink_of nodes = omega arith in
        (let a = later.0 in omega arith, λ d2. subst (λ q. is_sink (get_or (node ∷ nodes) q d2).role ≡ true) place (later.1 d2))

sink_role : (role : Role) → is_sink role ≡ true → role ≡ Sink
sink_role (Input kind file per_window) h = cc
sink_role (Inner kind) h = cc
sink_role Sink h = refl

-- ---- reasons

neither : {X : Type 0} (a b : Option X) → option_or a b ≡ None → (a ≡ None) × (b ≡ None)
neither None b h = (refl, h)
neither (Some x) b h = cc

unmapped : {X Y : Type 0} (f : X → Y) (a : Option X) → option_map f a ≡ None → a ≡ None
unmapped f None h = refl
unmapped f (Some x) h = cc

-- there is a reason against none of the lines
unrefused : (why : List Line → Line → Option ℕ) (earlier lines : List Line) → first_refused_behind why earlier lines ≡ None → (l : ℕ) (d : Line) → l < length lines → why (earlier ++ take l lines) (get_or lines l d) ≡ None
unfolding first_refused_behind
unrefused why earlier [] none l d h = absurd (omega arith)
unrefused why earlier (line ∷ lines) none zero d h =
    let first = neither (option_map (λ reason. record { line = line.number; why = reason }) (why earlier line)) (first_refused_behind why (earlier ++ line ∷ []) lines) none in
    subst (λ (e : List Line). why e line ≡ None) (sym (append-nil earlier)) (unmapped (λ reason. record { line = line.number; why = reason }) (why earlier line) first.0)
unrefused why earlier (line ∷ lines) none (suc l) d h =
    let first = neither (option_map (λ reason. record { line = line.number; why = reason }) (why earlier line)) (first_refused_behind why (earlier ++ line ∷ []) lines) none in
    subst (λ (e : List Line). why e (get_or lines l d) ≡ None) (append_assoc earlier (line ∷ []) (take l lines)) (unrefused why (earlier ++ line ∷ []) lines first.1 l d (omega arith))

chosen : {X : Type 0} (b : Bool) (x : X) (rest : Option X) → cond b (Some x) rest ≡ None → (b ≡ false) × (rest ≡ None)
chosen true x rest h = cc
chosen false x rest h = (refl, h)

not_both : (a b : Bool) → not (a && b) ≡ false → (a ≡ true) × (b ≡ true)
not_both true true h = (refl, refl)
not_both true false h = cc
not_both false b h = cc

not_either : (a b : Bool) → (a || b) ≡ false → (a ≡ false) × (b ≡ false)
not_either true b h = cc
not_either false b h = (refl, h)

not_then : (a b : Bool) → (a && not b) ≡ false → a ≡ true → b ≡ true
not_then true true h t = refl
not_then true false h t = cc
not_then false b h t = cc

from_not : (b : Bool) → not b ≡ false → b ≡ true
from_not true h = refl
from_not false h = cc

-- a line that isn't there
abbrev nothing : Line
nothing = record { number = 0; act = Kill Before 0 0 [] }

written_at : (point : Point) → point_in point ≡ points.Written → is_written point ≡ true
written_at Before h = cc
written_at Staged h = cc
written_at Written h = refl
written_at Done h = cc

-- an act that repartitions
split_at : (act : Act) → history.splits (act_in act) ≡ true → (window count : ℕ) × (name : List ℕ) × (act ≡ Repartition window count name)
split_at (Kill point window part name) h = cc
split_at (Repartition window count name) h = (window, count, name, refl)

-- ---- an accepted job

module _ (job : Job) (order : List ℕ) (o : IsOrder job.flow.nodes order) (graph : IsGraph job.flow.nodes) (every : 0 < job.settings.every) (judged : refused_line job ≡ None) where
  abbrev nodes : List Node
  nodes = job.flow.nodes

  abbrev plan : Plan
  plan = plan_of job

  ops : length plan.operators ≡ length nodes
  ops = length-map-range_with_len (operator_in nodes) 0 (length nodes)

  op_there : (x : ℕ) → x < length nodes → operator plan x ≡ operator_in nodes x
  op_there x h = get_or-map-range_with_len (operator_in nodes) 0 (length nodes) x x no_operator h (omega arith)

  op_past : (x : ℕ) → length nodes ≤ x → operator plan x ≡ no_operator
  op_past x h = get_or_past plan.operators x no_operator (let e = ops in omega arith)

  reads_at : (x s : ℕ) → history.reads plan x s ≡ true → (x < length nodes) × (reads nodes x s ≡ true)
  reads_at x s h = elim (below_or x (length nodes)) [
    | inl l ↦ (l, has_at (sources nodes x) s (sym (ap (λ (q : history.Operator). has q.sources s) (op_there x l)) ∙ h))
    | inr p ↦ absurd (has_none s (sym (ap (λ (q : history.Operator). has q.sources s) (op_past x p)) ∙ h))
  ]

  reads_by : (x s : ℕ) → x < length nodes → reads nodes x s ≡ true → history.reads plan x s ≡ true
  reads_by x s l h = ap (λ (q : history.Operator). has q.sources s) (op_there x l) ∙ has_by (sources nodes x) s h

  under_is : (s x : ℕ) → s < length nodes → below plan s x ≡ (has (range_with_len 0 (length nodes)) x && is_below nodes s x)
  under_is s x l = ap (λ (q : history.Operator). has q.under x) (op_there s l) ∙ has-filter (λ other. is_below nodes s other) (range_with_len 0 (length nodes)) x

  below_at : (s x : ℕ) → below plan s x ≡ true → (s < length nodes) × (x < length nodes) × (is_below nodes s x ≡ true)
  below_at s x h = elim (below_or s (length nodes)) [
    | inl l ↦
        let p = both (has (range_with_len 0 (length nodes)) x) (is_below nodes s x) (sym (under_is s x l) ∙ h) in
        (l, (let r = range_at 0 (length nodes) x p.0 in omega arith), p.1)
    | inr p ↦ absurd (has_none x (sym (ap (λ (q : history.Operator). has q.under x) (op_past s p)) ∙ h))
  ]

  below_by : (s x : ℕ) → s < length nodes → x < length nodes → is_below nodes s x ≡ true → below plan s x ≡ true
  below_by s x l m h = under_is s x l ∙ all_true (range_by 0 (length nodes) x (omega arith) (omega arith)) h

  -- the sink
  found : (sink_of nodes < length nodes) × ((e : Node) → is_sink (get_or nodes (sink_of nodes) e).role ≡ true)
  found = let g = graph.sink in sink_found nodes g.0 _ g.1 (ap is_sink g.2)

  sink_is : (x : ℕ) → x < length nodes → is_sink (node_at nodes x).role ≡ true → x ≡ sink_of nodes
  sink_is x h is =
      let g = graph.sink in
      g.3 x h (sink_role (node_at nodes x).role is) ∙ sym (g.3 (sink_of nodes) found.0 (sink_role (node_at nodes (sink_of nodes)).role (found.1 _)))

  -- ---- the script

  first_and_last : (first_refused_behind (reason job) [] job.script ≡ None) × (first_refused_behind (λ earlier. late_reason job) [] job.script ≡ None)
  unfolding refused_line
  first_and_last = neither (first_refused_behind (reason job) [] job.script) (first_refused_behind (λ earlier. late_reason job) [] job.script) judged

  named_of : (earlier : List Line) (line : Line) → reason job earlier line ≡ None → (x : ℕ) × (number_of nodes (operator_of line.act) ≡ Some x) × (named_reason job earlier line.act x ≡ None)
  unfolding reason
  named_of earlier line h = by (number_of nodes (operator_of line.act)) refl h
    where
      by : (name : Option ℕ) → number_of nodes (operator_of line.act) ≡ name → option_map_or (named_reason job earlier line.act) name (Some 3) ≡ None → (x : ℕ) × (number_of nodes (operator_of line.act) ≡ Some x) × (named_reason job earlier line.act x ≡ None)
      by None e h = cc
      by (Some x) e h = (x, e, h)

  windowed : (earlier : List Line) (act : Act) (x : ℕ) → named_reason job earlier act x ≡ None → (0 < window_of act) × (window_of act ≤ windows job.flow) × (act_reason job earlier x act ≡ None)
  unfolding named_reason
  windowed earlier act x h =
      let p = chosen (not (nat_le 1 (window_of act) && nat_le (window_of act) (windows job.flow))) 4 (act_reason job earlier x act) h in
      let q = not_both (nat_le 1 (window_of act)) (nat_le (window_of act) (windows job.flow)) p.0 in
      let low = leb-true 1 (window_of act) q.0 in
      (omega (arith, low), leb-true (window_of act) (windows job.flow) q.1, p.1)

  parted : (line : Line) (x : ℕ) → number_of nodes (operator_of line.act) ≡ Some x → late_reason job line ≡ None → kills_nobody job x line.act ≡ false
  unfolding late_reason
  parted line x e h = by (number_of nodes (operator_of line.act)) e h
    where
      by : (name : Option ℕ) → name ≡ Some x → option_map_or {U = Option ℕ} (λ o. if kills_nobody job o line.act then Some 9 else None) name None ≡ None → kills_nobody job x line.act ≡ false
      by None e h = cc
      by (Some y) e h = let same : y ≡ x = cc in subst (λ q. kills_nobody job q line.act ≡ false) same (chosen (kills_nobody job y line.act) 9 None h).0

  split_of : (earlier : List Line) (x window count : ℕ) (name : List ℕ) → split_reason job earlier x window count name ≡ None →
      (window % job.settings.every == 0 ≡ true) × (0 < count) × (count ≤ 8) × (is_sink (node_at nodes x).role ≡ false) × (list_any (λ line. splits_at name window line.act) earlier ≡ false)
  unfolding split_reason
  split_of earlier x window count name h =
      let a = chosen (not (window % job.settings.every == 0)) 5 _ h in
      let b = chosen (not (nat_le 1 count && nat_le count 8)) 6 _ a.1 in
      let c = chosen (is_input (node_at nodes x).role || is_sink (node_at nodes x).role) 7 _ b.1 in
      let d = chosen (list_any (λ line. splits_at name window line.act) earlier) 8 None c.1 in
      let q = not_both (nat_le 1 count) (nat_le count 8) b.0 in
      let low = leb-true 1 count q.0 in
      (from_not (window % job.settings.every == 0) a.0, omega (arith, low), leb-true count 8 q.1, (not_either (is_input (node_at nodes x).role) (is_sink (node_at nodes x).role) c.0).1, d.0)

  act_of : (earlier : List Line) (act : Act) (x : ℕ) → x < length nodes → act_reason job earlier x act ≡ None → kills_nobody job x act ≡ false → IsAct plan x (window_of act) (act_in act)
  act_of earlier (Kill point window part name) x l h k = (
    subst (λ (q : history.Operator). part < history.number_in plan.lines x (history.boundary_at plan x window) q.first) (sym (op_there x l)) (ltb-true part (in_force job x window) (from_not (nat_lt part (in_force job x window)) k)),
    λ w. sink_is x l (not_then (is_written point) (is_sink (node_at nodes x).role) (chosen (is_written point && not (is_sink (node_at nodes x).role)) 10 None h).0 (written_at point w)),
  )
  act_of earlier (Repartition window count name) x l h k =
      let s = split_of earlier x window count name h in
      (s.0, λ e. clash (subst (λ q. is_sink (node_at nodes q).role ≡ true) (sym e) (found.1 _)) s.3, s.1)

  -- ---- a line of the script

  the : ℕ → Line
  the l = get_or job.script l nothing

  line_is : (l : ℕ) → l < length job.script → history.line plan l ≡ command_in nodes (get_or job.script l nothing)
  line_is l h = get_or-map (command_in nodes) job.script l nothing history.no_line h

  named_at : (l : ℕ) → l < length job.script → (x : ℕ) × (number_of nodes (operator_of (get_or job.script l nothing).act) ≡ Some x) × (named_reason job (take l job.script) (get_or job.script l nothing).act x ≡ None)
  named_at l h = named_of (take l job.script) (get_or job.script l nothing) (unrefused (reason job) [] job.script first_and_last.0 l nothing h)

  op_named : (l : ℕ) (h : l < length job.script) → (history.line plan l).op ≡ (named_at l h).0
  op_named l h = ap (λ (c : commands.Line). c.op) (line_is l h) ∙ ap (λ (x : Option ℕ). unwrap_or x (length nodes)) (named_at l h).1

  named_there : (name : List ℕ) (x : ℕ) → number_of nodes name ≡ Some x → (x < length nodes) × (name ≡ (node_at nodes x).name)
  named_there name x e =
      let p = position-Some (λ (node : Node). bytes_eq name node.name) nodes x _ e in
      (p.0, (bytes_eq-Decides name (node_at nodes x).name).0 p.1)

  there : (l : ℕ) (h : l < length job.script) → (named_at l h).0 < length nodes
  there l h = (named_there (operator_of (get_or job.script l nothing).act) (named_at l h).0 (named_at l h).1).0

  long : length plan.lines ≡ length job.script
  long = length-map job.script (command_in nodes)

  act_at : (l : ℕ) → l < length job.script → IsAct plan (history.line plan l).op (history.line plan l).window (history.line plan l).act
  act_at l h =
      let line = get_or job.script l nothing in
      let named = named_at l h in
      let w = windowed (take l job.script) line.act named.0 named.2 in
      let late = parted line named.0 named.1 (unrefused (λ earlier. late_reason job) [] job.script first_and_last.1 l nothing h) in
      let is = act_of (take l job.script) line.act named.0 (there l h) w.2 late in
      rw (op_named l h, ap (λ (c : commands.Line). c.window) (line_is l h), ap (λ (c : commands.Line). c.act) (line_is l h)) is

  window_at : (l : ℕ) → l < length job.script → (0 < (history.line plan l).window) × ((history.line plan l).window ≤ windows job.flow)
  window_at l h =
      let named = named_at l h in
      let w = windowed (take l job.script) (get_or job.script l nothing).act named.0 named.2 in
      let e = ap (λ (c : commands.Line). c.window) (line_is l h) in
      (let a = w.0 in omega (arith, e), let b = w.1 in omega (arith, e))

  -- a line that repartitions an operator, with its name
  splitting : (x l : ℕ) (h : l < length job.script) → splits_op x (history.line plan l) ≡ true →
      (window count : ℕ) × (name : List ℕ) × ((get_or job.script l nothing).act ≡ Repartition window count name) × (window ≡ (history.line plan l).window) × (name ≡ (node_at nodes x).name)
  splitting x l h s =
      let line = get_or job.script l nothing in
      let named = named_at l h in
      let p = both (history.splits (act_in line.act)) ((command_in nodes line).op == x) (sym (ap (splits_op x) (line_is l h)) ∙ s) in
      let act = split_at line.act p.0 in
      let same : named.0 ≡ x = sym (ap (λ (q : Option ℕ). unwrap_or q (length nodes)) named.1) ∙ equal_at (command_in nodes line).op x p.1 in (
        act.0,
        act.1,
        act.2,
        act.3,
        sym (ap (λ (a : Act). window_of a) act.3) ∙ sym (ap (λ (c : commands.Line). c.window) (line_is l h)),
        sym (ap (λ (a : Act). operator_of a) act.3) ∙ (named_there (operator_of line.act) named.0 named.1).1 ∙ ap (λ q. (node_at nodes q).name) same,
      )

  -- no line repartitions an operator at a window at which an earlier one does
  once_before : (x k l : ℕ) → k < l → l < length job.script → splits_op x (history.line plan k) ≡ true → splits_op x (history.line plan l) ≡ true → (history.line plan k).window ≡ (history.line plan l).window → ⊥
  once_before x k l earlier h s t same =
      let within : k < length job.script = omega arith in
      let one = splitting x k within s in
      let two = splitting x l h t in
      let named = named_at l h in
      let w = windowed (take l job.script) (get_or job.script l nothing).act named.0 named.2 in
      let reasons : split_reason job (take l job.script) named.0 two.0 two.1 two.2 ≡ None = subst (λ (a : Act). act_reason job (take l job.script) named.0 a ≡ None) two.3 w.2 in
      let none = (split_of (take l job.script) named.0 two.0 two.1 two.2 reasons).4 in
      let names : one.2 ≡ two.2 = one.5 ∙ sym two.5 in
      let times : one.0 ≡ two.0 = one.4 ∙ same ∙ sym two.4 in
      let here : get_or (take l job.script) k nothing ≡ get_or job.script k nothing = get_or-take l job.script k nothing earlier in
      let found_one : splits_at two.2 two.0 (get_or (take l job.script) k nothing).act ≡ true =
      ap (λ (q : Line). splits_at two.2 two.0 q.act) here ∙ ap (λ (a : Act). splits_at two.2 two.0 a) one.3 ∙ all_true ((bytes_eq-Decides one.2 two.2).1 names) (equal_by one.0 two.0 times) in
      clash (list_any_at (λ line. splits_at two.2 two.0 line.act) (take l job.script) k nothing (let m = length-take-le l job.script (omega arith) in omega arith) found_one) none

  once_at : (x k l : ℕ) → k < length job.script → l < length job.script → splits_op x (history.line plan k) ≡ true → splits_op x (history.line plan l) ≡ true → (history.line plan k).window ≡ (history.line plan l).window → k ≡ l
  once_at x k l h i s t same =
      let first : k < l → ⊥ = λ before. once_before x k l before i s t same in
      let second : l < k → ⊥ = λ before. once_before x l k before h t s (sym same) in
      omega (arith, first, second)

  -- no repartition gives more than 8 partitions
  count_of : (earlier : List Line) (act : Act) (x : ℕ) → act_reason job earlier x act ≡ None → count_or 0 (act_in act) ≤ 8
  count_of earlier (Kill point window part name) x h = omega arith
  count_of earlier (Repartition window count name) x h = (split_of earlier x window count name h).2

  pub counted : (l : ℕ) → l < length plan.lines → count_or 0 (history.line plan l).act ≤ 8
  counted l h =
      let m : l < length job.script = (let e = long in omega arith) in
      let line = get_or job.script l nothing in
      let named = named_at l m in
      let w = windowed (take l job.script) line.act named.0 named.2 in
      subst (λ (c : commands.Line). count_or 0 c.act ≤ 8) (sym (line_is l m)) (count_of (take l job.script) line.act named.0 w.2)

  pub as_long : length plan.lines ≡ length job.script
  as_long = long

  pub is-plan : IsPlan plan
  is-plan = record {
    every = every;
    sink = (let f = found.0 in omega (arith, ops));
    single = ap (λ (q : history.Operator). q.first) (op_there (sink_of nodes) found.0) ∙ ((graph.each (sink_of nodes) found.0).alone (subst IsEndpoint (sym (sink_role (node_at nodes (sink_of nodes)).role (found.1 _))) tt)).0;
    some = λ x h. (let l : x < length nodes = (let e = ops in omega arith) in let p = (graph.each x l).partitions.0 in let e = ap (λ (q : history.Operator). q.first) (op_there x l) in omega arith);
    there = λ x s h. (let r = reads_at x s h in let t = graphs.read_there nodes order o x s r.0 r.1 in let e = ops in (let a = r.0 in omega arith, omega arith));
    under = λ s x h. (let b = below_at s x h in let e = ops in (let a = b.0 in omega arith, let c = b.1 in omega arith));
    direct = λ x s h. (let r = reads_at x s h in below_by s x (graphs.read_there nodes order o x s r.0 r.1) r.0 (graphs.direct nodes order o x s r.0 r.1));
    further = λ s t x h k. (let a = below_at s t h in let b = below_at t x k in below_by s x a.0 b.1 (graphs.further nodes order o s t x b.1 a.2 b.2));
    only = λ s x h. (let b = below_at s x h in elim (graphs.only nodes order o s x b.1 b.2) [
      | inl r ↦ inl (reads_by x s b.1 r)
      | inr t ↦ inr (t.0, reads_by t.0 s t.3 t.1, below_by t.0 x t.3 b.1 t.2)
    ]);
    acyclic = λ x. not_true (below plan x x) (λ h. let b = below_at x x h in graphs.acyclic nodes order o x b.0 b.2);
    op = λ l h. (let m : l < length job.script = (let e = long in omega arith) in let a = op_named l m in let b = there l m in let e = ops in omega arith);
    window = λ l h. window_at l (let e = long in omega arith);
    act = λ l h. act_at l (let e = long in omega arith);
    once = λ x k l h i s t same. once_at x k l (let e = long in omega arith) (let e = long in omega arith) s t same;
  }
