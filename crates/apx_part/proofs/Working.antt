-- What is made of a window, by the role of the operator.
use Rattle.std.specs.Prelude.{⊤}
use Rattle.std.proofs.Common.{◌≡◌, ℕ, Bool, true, false, cond, List, [], Option, refl, sym, ap, subst, ◌∙◌, ◌⊎◌, inl, inr}
use Rattle.std.specs.Bool.{MatchBool}
use Rattle.apx_pass.specs.Job.{Job}
use Rattle.apx_job.specs.Job.{in_force}
use Rattle.apx_list.specs.declared.block.Block.{Block}
use Rattle.apx_list.specs.Cut.{blocks_of}
use Rattle.apx_list.specs.Window.{SpellWindow}
use Rattle.apx_tuple.specs.declared.kind.InputKind.{InputKind}
use Rattle.apx_tuple.specs.declared.kind.Kind.{Kind}
use Rattle.apx_tuple.specs.declared.progress.Progress.{Progress}
use Rattle.apx_tuple.specs.declared.tuple.Tuple.{Tuple}
use Rattle.apx_tuple.specs.Kind.{has_right}
use Rattle.apx_tuple.specs.Size.{IsLarge}
use Rattle.apx_tuple.specs.Tuple.{tuple_key}
use Rattle.apx_pass.specs.Graph.{Role, Input, Inner, Sink, Node, node_at}
use Rattle.apx_pass.specs.Groups as groups
use Rattle.apx_pass.specs.Order.{OfPorts}
use Rattle.apx_pass.specs.Pass.{Passed, at_start, gather, input_at, rows_of_input}
use Rattle.apx_rules.specs.Parts.{cut_bag, merge_bags}
use Rattle.apx_shares.specs.Given.{unify_of, pass_part}
use Rattle.apx_part.specs.Fed.{plan_in}
use Rattle.apx_part.specs.Made.{made_by, made_of, inner_of, HasBlocks, IsMade, IsLargePort, IsLargeMade, IsLargePart}

-- the ports of an inner operator, and that of the sink
pub inner-ports : (A B : Type 0) (role : Role) (kind : Kind) → role ≡ Inner kind → OfPorts role A B → A × MatchBool (has_right kind) B ⊤
unfolding OfPorts
inner-ports A B role kind e h = subst (λ (r : Role). OfPorts r A B) e h

pub sink-port : (A B : Type 0) (role : Role) → role ≡ Sink → OfPorts role A B → A
unfolding OfPorts
sink-port A B role e h = subst (λ (r : Role). OfPorts r A B) e h

pub match-true : (b : Bool) (A B : Type 0) → b ≡ true → MatchBool b A B → A
match-true true A B e h = h
match-true false A B e h = absurd (cc e)

-- the role of an operator, from what the code sees of it
pub role-is : (nodes dag : List Node) (o : ℕ) (value view : Node) (role : Role) → dag ≡ nodes → value ≡ node_at dag o → view ≡ value → view.role ≡ role → (node_at nodes o).role ≡ role
role-is nodes dag o value view role d v s r = ap (λ (ns : List Node). (node_at ns o).role) (sym d) ∙ (ap (λ (x : Node). x.role) (sym v) ∙ (ap (λ (x : Node). x.role) (sym s) ∙ r))

-- what is too large, from what the code sees of an operator
pub large-seen : (kind : Kind) (nodes dag : List Node) (value node : Node) (m n i w : ℕ) (progress : Progress) (lefts rights : List (List Tuple)) → dag ≡ nodes → value ≡ node → m ≡ n →
    IsLargeMade dag value m i progress lefts rights (inner_of kind dag value m i w progress lefts rights) → IsLargeMade nodes node n i progress lefts rights (inner_of kind nodes node n i w progress lefts rights)
large-seen kind nodes dag value node m n i w progress lefts rights d v e h =
    subst (λ (k : ℕ). IsLargeMade nodes node k i progress lefts rights (inner_of kind nodes node k i w progress lefts rights)) e
    (subst (λ (x : Node). IsLargeMade nodes x m i progress lefts rights (inner_of kind nodes x m i w progress lefts rights)) v
    (subst (λ (ns : List Node). IsLargeMade ns value m i progress lefts rights (inner_of kind ns value m i w progress lefts rights)) d h))

module _ (job : Job) (o i w : ℕ) (progress : Progress) (lefts rights : List (List Tuple)) where
  abbrev node : Node
  node = node_at job.flow.nodes o

  abbrev n : ℕ
  n = in_force job o w

  -- what is made by an operator of a role
  abbrev by_role : Role → Passed
  by_role role = pass_part n i role node.app_windows (input_at job.flow o) w progress (unify_of (node_at job.flow.nodes node.left).role lefts) (unify_of (node_at job.flow.nodes node.right).role rights)

  module _ (state : Progress) (rows : List Tuple) (blocks : List Block) where
    of-role : (role : Role) → node.role ≡ role → (passed : Passed) → by_role role ≡ passed → state ≡ passed.progress → rows ≡ passed.rows → HasBlocks (plan_in job) role w rows blocks →
        IsMade job o w (made_of job o i w progress lefts rights) state rows blocks
    of-role role e passed p s r b =
        let same : made_of job o i w progress lefts rights ≡ passed = ap by_role e ∙ p in
        record {
          progress_is = s ∙ ap (λ (x : Passed). x.progress) (sym same);
          rows_are = r ∙ ap (λ (x : Passed). x.rows) (sym same);
          blocks_are = subst (λ (q : Role). HasBlocks (plan_in job) q w rows blocks) (sym e) b;
        }

    pub input-made : (kind : InputKind) (file : List ℕ) (per_window : ℕ) → node.role ≡ Input kind file per_window → state ≡ at_start → rows ≡ rows_of_input (input_at job.flow o) w →
        (blocks ≡ blocks_of (plan_in job) w rows) × SpellWindow (plan_in job) w blocks rows → IsMade job o w (made_of job o i w progress lefts rights) state rows blocks
    unfolding pass_part
    input-made kind file per_window e s r b = of-role (Input kind file per_window) e (record { progress = at_start; rows = rows_of_input (input_at job.flow o) w }) refl s r b

    pub inner-made : (kind : Kind) → node.role ≡ Inner kind → state ≡ (inner_of kind job.flow.nodes node n i w progress lefts rights).progress → rows ≡ (inner_of kind job.flow.nodes node n i w progress lefts rights).rows →
        (blocks ≡ blocks_of (plan_in job) w rows) × SpellWindow (plan_in job) w blocks rows → IsMade job o w (made_of job o i w progress lefts rights) state rows blocks
    unfolding pass_part
    inner-made kind e s r b = of-role (Inner kind) e (inner_of kind job.flow.nodes node n i w progress lefts rights) refl s r b

    pub sink-made : node.role ≡ Sink → state ≡ at_start → rows ≡ unify_of (node_at job.flow.nodes node.left).role lefts → blocks ≡ [] → IsMade job o w (made_of job o i w progress lefts rights) state rows blocks
    unfolding pass_part
    sink-made e s r b = of-role Sink e (record { progress = at_start; rows = unify_of (node_at job.flow.nodes node.left).role lefts }) refl s r b

  pub inner-large : (kind : Kind) → node.role ≡ Inner kind → IsLargeMade job.flow.nodes node n i progress lefts rights (inner_of kind job.flow.nodes node n i w progress lefts rights) → IsLargePart job o i w progress lefts rights
  unfolding pass_part
  inner-large kind e large = subst (λ (q : Role). IsLargeMade job.flow.nodes node n i progress lefts rights (by_role q)) (sym e) large

  pub sink-large : IsLarge tuple_key (merge_bags lefts) ⊎ IsLarge tuple_key (unify_of (node_at job.flow.nodes node.left).role lefts) → IsLargePart job o i w progress lefts rights
  sink-large (inl large) = record { is = inl (record { is = inl large }) }
  sink-large (inr large) = record { is = inl (record { is = inr (inl large) }) }
