-- How many partitions an operator of an accepted job has: an input and the sink one, and another 1 to 8.
use Rattle.std.specs.Prelude.{⊤}
use Rattle.std.proofs.Common.{◌≡◌, ℕ, ◌≤◌, ◌<◌, ◌==◌, ◌&&◌, ◌||◌, not, nat_le, Bool, true, false, cond, List, [], ◌∷◌, ◌++◌, length, map, Option, Some, None, refl, sym, ap, subst, ◌∙◌, arith}
use Rattle.std.specs.Option.{option_map, option_map_or, option_or, unwrap_or}
use Rattle.std.proofs.lemmas.Bool.Decides.{nat_tests}
use borrow.Author.Tests.{eqb-true}
use Rattle.apx_dag.specs.Valid.{IsGraph, IsNode, IsEndpoint}
use Rattle.apx_history.specs.Plan.{number_in, splits, count_or}
use Rattle.apx_pass.specs.Job.{Job}
use Rattle.apx_job.specs.Job.{IsJob, operator_of, window_of, number_of, command_in, act_in, boundary_of, in_force, split_reason, act_reason, named_reason, reason, first_refused_behind, refused_line}
use Rattle.apx_pass.specs.Graph.{Role, Input, Inner, Sink, Node, node_at, is_input, is_sink}
use Rattle.apx_pass.specs.Script.{Act, Kill, Repartition, Line, RefusedLine}
use Rattle.apx_shares.specs.Laws.{HasParts}

-- a choice that gives nothing
none-else : {X : Type 0} (b : Bool) (n : X) (x : Option X) → cond b (Some n) x ≡ None → (b ≡ false) × (x ≡ None)
none-else true n x h = absurd (cc h)
none-else false n x h = (refl, h)

none-first : {X : Type 0} (a b : Option X) → option_or a b ≡ None → a ≡ None
none-first None b h = refl
none-first (Some x) b h = absurd (cc h)

none-second : {X : Type 0} (a b : Option X) → option_or a b ≡ None → b ≡ None
none-second None b h = h
none-second (Some x) b h = absurd (cc h)

none-mapped : {X Y : Type 0} (f : X → Y) (a : Option X) → option_map f a ≡ None → a ≡ None
none-mapped f None h = refl
none-mapped f (Some x) h = absurd (cc h)

module _ (nodes : List Node) (o : ℕ) (P : ℕ → Type 0) where
  -- a command that repartitions the operator gives a number with P
  abbrev pub Fits : Act → Type 0
  Fits (Kill point window part operator) = ⊤
  Fits (Repartition window count operator) = number_of nodes operator ≡ Some o → P count

  abbrev pub AllFit : List Line → Type 0
  AllFit [] = ⊤
  AllFit (line ∷ lines) = Fits line.act × AllFit lines

  -- one command more
  one : (b n rest : ℕ) → o < length nodes → (act : Act) (found : Option ℕ) → number_of nodes (operator_of act) ≡ found → Fits act → P rest →
      P (cond ((splits (act_in act) && unwrap_or found (length nodes) == o) && window_of act == b) (count_or n (act_in act)) rest)
  one b n rest l (Kill point window part operator) found e fit p = p
  one b n rest l (Repartition window count operator) None e fit p = by (length nodes == o) refl
    where
      by : (t : Bool) → (length nodes == o) ≡ t → P (cond (t && window == b) count rest)
      by true h = absurd (grind (arith, nat_tests))
      by false h = p
  one b n rest l (Repartition window count operator) (Some m) e fit p = by (m == o) refl (window == b)
    where
      by : (t : Bool) → (m == o) ≡ t → (u : Bool) → P (cond (t && u) count rest)
      by true h true = fit (e ∙ ap Some (eqb-true m o h))
      by true h false = p
      by false h u = p

  pub number-keeps : (b n : ℕ) → o < length nodes → P n → (lines : List Line) → AllFit lines → P (number_in (map (command_in nodes) lines) o b n)
  unfolding number_in
  number-keeps b n l p [] all = p
  number-keeps b n l p (line ∷ lines) all = one b n (number_in (map (command_in nodes) lines) o b n) l line.act (number_of nodes (operator_of line.act)) refl all.0 (number-keeps b n l p lines all.1)

  -- where no line is refused
  accepted : (why : List Line → Line → Option ℕ) → ((earlier : List Line) (line : Line) → why earlier line ≡ None → Fits line.act) →
      (earlier lines : List Line) → first_refused_behind why earlier lines ≡ None → AllFit lines
  unfolding first_refused_behind
  accepted why fit earlier [] h = tt
  accepted why fit earlier (line ∷ lines) h = (
    fit earlier line (none-mapped (λ r. record { line = line.number; why = r }) (why earlier line) (none-first (option_map (λ r. record { line = line.number; why = r }) (why earlier line)) (first_refused_behind why (earlier ++ line ∷ []) lines) h)),
    accepted why fit (earlier ++ line ∷ []) lines (none-second (option_map (λ r. record { line = line.number; why = r }) (why earlier line)) (first_refused_behind why (earlier ++ line ∷ []) lines) h),
  )

-- what is asked of a number of partitions
abbrev pub IsForce : Role → ℕ → Type 0
IsForce role n = HasParts role n × (n ≤ 8)

-- an operator that may be repartitioned
split-force : (role : Role) (count : ℕ) → not (nat_le 1 count && nat_le count 8) ≡ false → (is_input role || is_sink role) ≡ false → IsForce role count
unfolding HasParts
split-force (Input kind file per_window) count c r = absurd (cc r)
split-force (Inner kind) count c r = by (nat_le 1 count) (nat_le count 8) refl refl c
  where
    by : (a b : Bool) → nat_le 1 count ≡ a → nat_le count 8 ≡ b → not (a && b) ≡ false → (1 ≤ count) × (count ≤ 8)
    by true true e f h = (grind (arith, nat_tests), grind (arith, nat_tests))
    by true false e f h = absurd (cc h)
    by false b e f h = absurd (cc h)
split-force Sink count c r = absurd (cc r)

first-force : (role : Role) (n : ℕ) → 1 ≤ n → n ≤ 8 → (IsEndpoint role → n ≡ 1) → IsForce role n
unfolding HasParts
first-force (Input kind file per_window) n l h e = (e tt, h)
first-force (Inner kind) n l h e = (l, h)
first-force Sink n l h e = (e tt, h)

split-fits : (job : Job) (earlier : List Line) (o window count : ℕ) (name : List ℕ) → split_reason job earlier o window count name ≡ None → IsForce (node_at job.flow.nodes o).role count
unfolding split_reason
split-fits job earlier o window count name h =
    let a = none-else _ _ _ h in
    let b = none-else _ _ _ a.1 in
    let c = none-else _ _ _ b.1 in
    split-force (node_at job.flow.nodes o).role count b.0 c.0

named-fits : (job : Job) (earlier : List Line) (act : Act) (o : ℕ) → named_reason job earlier act o ≡ None → act_reason job earlier o act ≡ None
unfolding named_reason
named-fits job earlier act o h = (none-else _ _ _ h).1

reason-fits : (job : Job) (o : ℕ) (earlier : List Line) (line : Line) → reason job earlier line ≡ None → Fits job.flow.nodes o (IsForce (node_at job.flow.nodes o).role) line.act
unfolding reason
reason-fits job o earlier line h = by line.act h
  where
    by : (act : Act) → option_map_or (named_reason job earlier act) (number_of job.flow.nodes (operator_of act)) (Some 3) ≡ None → Fits job.flow.nodes o (IsForce (node_at job.flow.nodes o).role) act
    by (Kill point window part operator) r = tt
    by (Repartition window count operator) r = λ e.
        split-fits job earlier o window count operator
        (named-fits job earlier (Repartition window count operator) o
        (sym (ap (λ (f : Option ℕ). option_map_or (named_reason job earlier (Repartition window count operator)) f (Some 3)) e) ∙ r))

none-refused : (job : Job) → refused_line job ≡ None → first_refused_behind (reason job) [] job.script ≡ None
unfolding refused_line
none-refused job h = none-first _ _ h

pub in-force : (job : Job) → IsJob job → IsGraph job.flow.nodes → (o w : ℕ) → o < length job.flow.nodes → IsForce (node_at job.flow.nodes o).role (in_force job o w)
in-force job j g o w l =
    let node = g.each o l in
    number-keeps job.flow.nodes o (IsForce (node_at job.flow.nodes o).role) (boundary_of job o w) (node_at job.flow.nodes o).partitions l
    (first-force (node_at job.flow.nodes o).role (node_at job.flow.nodes o).partitions node.partitions.0 node.partitions.1 (λ e. (node.alone e).0))
    job.script (accepted job.flow.nodes o (IsForce (node_at job.flow.nodes o).role) (reason job) (reason-fits job o) [] job.script (none-refused job j.script))
