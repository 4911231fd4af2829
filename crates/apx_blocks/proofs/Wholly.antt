-- What is too large for a partition is too large for the whole operator.
use Rattle.std.proofs.Common.{◌≡◌, ℕ, zero, suc, ◌+◌, ◌-◌, ◌≤◌, ◌<◌, ◌%◌, ◌==◌, Bool, true, false, cond, List, [], ◌∷◌, ◌++◌, length, map, take, refl, sym, ap, subst, ◌∙◌, ◌⊎◌, inl, inr, arith}
use Rattle.std.specs.List.{AllByRecursion, range_with_len}
use Rattle.std.proofs.lemmas.List.FromFn.{length-map-range_with_len}
use Rattle.apx_codec.specs.KeyNumber.{owner_of}
use Rattle.apx_dag.specs.Valid.{IsGraph, IsRole}
use Rattle.apx_job.specs.Job.{IsJob, in_force}
use Rattle.apx_pass.specs.Job.{Job}
use Rattle.apx_keys.specs.Keys.{HaveKeys, IsShort, InputsHave}
use Rattle.apx_keys.proofs.Flows.{carried-keys, given-keys}
use Rattle.apx_keys.proofs.Members.{each-append, each-filter, each-take, each-sorted}
use Rattle.apx_keys.proofs.Short.{short-kept}
use Rattle.apx_part.specs.Fed.{given_in}
use Rattle.apx_part.specs.Made.{IsLargePort, made_of}
use Rattle.apx_part.proofs.Forces.{in-force}
use Rattle.apx_part.proofs.Parting.{pass_part-ports, sources-there}
use Rattle.apx_order.specs.Sorted.{sorted}
use Rattle.apx_pass.specs.Graph.{Role, Input, Inner, Sink, Node, node_at}
use Rattle.apx_pass.specs.Large.{IsLargePassed, right_came, IsLargeDataflow}
use Rattle.apx_pass.specs.Order.{IsOrder}
use Rattle.apx_pass.specs.Pass.{Dataflow, Passed, gather, input_at, progress_after, rows_at, pass_window, windows}
use Rattle.apx_rules.specs.Parts.{cut_bag, merge_bags, unify}
use Rattle.apx_rules.specs.Step.{step, top_of, rank_order}
use Rattle.apx_shares.specs.Given.{unify_of, pass_part, part_progress, part_passed, part_rows}
use Rattle.apx_shares.proofs.Flows.{parts-carry-on, parts-give-all}
use Rattle.apx_tuple.specs.declared.kind.Kind.TheVariants.{Keep, Scale, Words, Prefix, Count, Sum, Peak, First, Tumble, Match, Enrich, Top}
use Rattle.apx_tuple.specs.declared.progress.Progress.{Progress}
use Rattle.apx_tuple.specs.declared.tuple.Tuple.{Tuple}
use Rattle.apx_tuple.specs.Kind.{has_right}
use Rattle.apx_tuple.specs.Progress.{IsLargeProgress}
use Rattle.apx_tuple.specs.Size.{IsLarge}
use Rattle.apx_tuple.specs.Tuple.{bag_of, tuple_key, tuple_order}
use Rattle.apx_tuple.proofs.Sizes.{size_by-bag_of}
use Rattle.apx_blocks.specs.Came.{reads_left, reads_right, came_left, came_right}
use Rattle.apx_blocks.specs.Large.{IsLargeWork, IsLargeAt}
use Rattle.apx_blocks.proofs.Feeding.{ports-of, ports-by}
use Rattle.apx_blocks.proofs.Sizing.{size, IsSmall, size-cut, size-cut-progress, size-joined, size-part, size-few, size-top, size-short}

-- an operator keeps all that its partitions give, or the best of it
all-kept : (role : Role) (bags : List (List Tuple)) → (unify_of role bags ≡ merge_bags bags) ⊎ ((k : ℕ) × (role ≡ Inner (Top k)))
unfolding unify_of unify
all-kept (Input kind file per_window) bags = inl refl
all-kept (Inner (Top k)) bags = inr (k, refl)
all-kept (Inner (Keep min max)) bags = inl refl
all-kept (Inner (Scale factor)) bags = inl refl
all-kept (Inner Words) bags = inl refl
all-kept (Inner (Prefix len)) bags = inl refl
all-kept (Inner Count) bags = inl refl
all-kept (Inner Sum) bags = inl refl
all-kept (Inner Peak) bags = inl refl
all-kept (Inner First) bags = inl refl
all-kept (Inner (Tumble every)) bags = inl refl
all-kept (Inner Match) bags = inl refl
all-kept (Inner Enrich) bags = inl refl
all-kept Sink bags = inl refl

-- what is kept is no larger than all
top-size : (k : ℕ) (bags : List (List Tuple)) → size (unify_of (Inner (Top k)) bags) ≤ size (merge_bags bags)
unfolding unify_of unify
top-size k bags = size-top k (merge_bags bags)

kept-size : (role : Role) (bags : List (List Tuple)) → size (unify_of role bags) ≤ size (merge_bags bags)
kept-size role bags = by (all-kept role bags)
  where
    by : (unify_of role bags ≡ merge_bags bags) ⊎ ((k : ℕ) × (role ≡ Inner (Top k))) → size (unify_of role bags) ≤ size (merge_bags bags)
    by (inl e) = let same : size (unify_of role bags) ≡ size (merge_bags bags) = ap size e in omega (arith, same)
    by (inr t) = subst (λ (r : Role). size (unify_of r bags) ≤ size (merge_bags bags)) (sym t.1) (top-size t.0 bags)

-- ---- what is kept of the best is small

take-most : {X : Type 0} (k : ℕ) (xs : List X) → length (take k xs) ≤ k
take-most zero [] = omega arith
take-most zero (x ∷ xs) = omega arith
take-most (suc k) [] = omega arith
take-most (suc k) (x ∷ xs) = let l = take-most k xs in omega (arith, l)

small-top : (k : ℕ) → k ≤ 1000 → (tuples : List Tuple) → HaveKeys IsShort tuples → IsSmall (top_of k tuples)
small-top k few tuples h =
    let best = take k (sorted rank_order tuples) in
    let keys = each-take (λ t. IsShort t.key) k (sorted rank_order tuples) (each-sorted (λ t. IsShort t.key) rank_order tuples h) in
    omega (arith, few, size_by-bag_of best, size-short best keys, take-most k (sorted rank_order tuples))

small-gathered : (k : ℕ) → k ≤ 1000 → (app_windows w : ℕ) (progress : Progress) (left right : List Tuple) → HaveKeys IsShort progress.left → HaveKeys IsShort left → IsSmall (gather (Top k) app_windows w progress left right).rows
unfolding gather step
small-gathered k few app_windows w progress left right p l = by (w % app_windows == 0)
  where
    by : (b : Bool) → IsSmall (cond {A = Passed} b
        (record { progress = record { state = []; left = []; right = [] }; rows = top_of k (bag_of (progress.left ++ left)) })
        (record { progress = record { state = progress.state; left = bag_of (progress.left ++ left); right = bag_of (progress.right ++ right) }; rows = [] })).rows
    by true = small-top k few (bag_of (progress.left ++ left)) (each-sorted (λ t. IsShort t.key) tuple_order (progress.left ++ left) (each-append (λ t. IsShort t.key) progress.left left p l))
    by false = omega arith

module _ (flow : Dataflow) (short : InputsHave IsShort flow) where
  cut-short : (n i : ℕ) (tuples : List Tuple) → HaveKeys IsShort tuples → HaveKeys IsShort (cut_bag n i tuples)
  cut-short n i tuples h = each-filter (λ t. IsShort t.key) (λ t. owner_of n t.key == i) tuples h

  small-part : (n i v o k : ℕ) → k ≤ 1000 → (node_at flow.nodes o).role ≡ Inner (Top k) → IsSmall (part_rows flow n i (suc v) o)
  unfolding part_rows pass_part
  small-part n i v o k few e =
      let node = node_at flow.nodes o in
      let before = progress_after flow v o in
      let left = rows_at flow (suc v) node.left in
      let right = rows_at flow (suc v) node.right in
      subst (λ (r : Role). IsSmall (pass_part n i r node.app_windows (input_at flow o) (suc v) (part_progress flow n i v o) left right).rows) (sym e)
      (small-gathered k few node.app_windows (suc v) (part_progress flow n i v o) (cut_bag n i left) (cut_bag n i (cond (has_right (Top k)) right []))
      (cut-short n i before.left (carried-keys IsShort short-kept flow short v o).left) (cut-short n i left (given-keys IsShort short-kept flow short (suc v) node.left)))

all-small : (n a : ℕ) (f : ℕ → List Tuple) → ((i : ℕ) → IsSmall (f i)) → AllByRecursion IsSmall (map f (range_with_len a n))
all-small zero a f h = tt
all-small (suc n) a f h = (h a, all-small n (a + 1) f h)

-- ---- a partition's window

module _ (job : Job) (accepted : IsJob job) (graph : IsGraph job.flow.nodes) (order : List ℕ) (ordered : IsOrder job.flow.nodes order) (short : InputsHave IsShort job.flow) (v : ℕ) where
  abbrev w : ℕ
  w = suc v

  abbrev role : ℕ → Role
  role o = (node_at job.flow.nodes o).role

  gives-all : (s : ℕ) → s < length job.flow.nodes → unify_of (role s) (given_in job w s) ≡ rows_at job.flow w s
  gives-all s there = parts-give-all job.flow order ordered (in_force job s w) w s there (in-force job accepted graph s w there).0

  few-best : (s k : ℕ) → s < length job.flow.nodes → role s ≡ Inner (Top k) → k ≤ 1000
  few-best s k there e = let is : IsRole (Inner (Top k)) = subst (λ (r : Role). IsRole r) e (graph.each s there).role in is.1

  -- all that the partitions of an operator give is too large only where what it gives is
  all-given : (s : ℕ) → s < length job.flow.nodes → IsLarge tuple_key (merge_bags (given_in job w s)) → IsLarge tuple_key (rows_at job.flow w s)
  all-given s there h = by (all-kept (role s) (given_in job w s))
    where
      by : (unify_of (role s) (given_in job w s) ≡ merge_bags (given_in job w s)) ⊎ ((k : ℕ) × (role s ≡ Inner (Top k))) → IsLarge tuple_key (rows_at job.flow w s)
      by (inl e) = subst (λ (bag : List Tuple). IsLarge tuple_key bag) (sym e ∙ gives-all s there) h
      by (inr t) =
          let each = all-small (in_force job s w) 0 (λ i. part_rows job.flow (in_force job s w) i w s) (λ i. small-part job.flow short (in_force job s w) i v s t.0 (few-best s t.0 there t.1) t.1) in
          let eight : length (given_in job w s) ≤ 8 = (let l = length-map-range_with_len (λ i. part_rows job.flow (in_force job s w) i w s) 0 (in_force job s w) in omega (arith, l, (in-force job accepted graph s w there).1)) in
          absurd (omega (arith, h, size-few (given_in job w s) each eight))

  -- a port, which there is or isn't
  port : (n i : ℕ) (s : ℕ) (b : Bool) → (b ≡ true → s < length job.flow.nodes) → (before : List Tuple) → IsLargePort (role s) n i (cut_bag n i before) (cond b (given_in job w s) []) →
      IsLarge tuple_key (bag_of (before ++ cond b (rows_at job.flow w s) []))
  port n i s true there before large = by large.is
    where
      more : IsLarge tuple_key (rows_at job.flow w s) → IsLarge tuple_key (bag_of (before ++ rows_at job.flow w s))
      more h = omega (arith, h, size-joined before (rows_at job.flow w s))

      by : IsLarge tuple_key (merge_bags (given_in job w s)) ⊎ (IsLarge tuple_key (unify_of (role s) (given_in job w s)) ⊎ IsLarge tuple_key (bag_of (cut_bag n i before ++ cut_bag n i (unify_of (role s) (given_in job w s))))) →
          IsLarge tuple_key (bag_of (before ++ rows_at job.flow w s))
      by (inl h) = more (all-given s (there refl) h)
      by (inr (inl h)) = more (subst (λ (bag : List Tuple). IsLarge tuple_key bag) (gives-all s (there refl)) h)
      by (inr (inr h)) =
          let same : size (unify_of (role s) (given_in job w s)) ≡ size (rows_at job.flow w s) = ap size (gives-all s (there refl)) in
          omega (arith, h, size-joined (cut_bag n i before) (cut_bag n i (unify_of (role s) (given_in job w s))), size-cut n i before, size-cut n i (unify_of (role s) (given_in job w s)), same, size-joined before (rows_at job.flow w s))
  port n i s false there before large = by large.is
    where
      none : size (merge_bags []) ≡ 0
      none = size_by-bag_of []

      by : IsLarge tuple_key (merge_bags []) ⊎ (IsLarge tuple_key (unify_of (role s) []) ⊎ IsLarge tuple_key (bag_of (cut_bag n i before ++ cut_bag n i (unify_of (role s) [])))) → IsLarge tuple_key (bag_of (before ++ []))
      by (inl h) = absurd (omega (arith, h, none))
      by (inr (inl h)) = absurd (omega (arith, h, none, kept-size (role s) []))
      by (inr (inr h)) =
          omega (arith, h, size-joined (cut_bag n i before) (cut_bag n i (unify_of (role s) [])), size-cut n i before, size-cut n i (unify_of (role s) []), none, kept-size (role s) [], size-joined before [])

  module _ (o : ℕ) (there : o < length job.flow.nodes) where
    abbrev node : Node
    node = node_at job.flow.nodes o

    abbrev n : ℕ
    n = in_force job o w

    abbrev before : Progress
    before = progress_after job.flow v o

    sources : (reads_left node.role ≡ true → node.left < length job.flow.nodes) × (reads_right node.role ≡ true → node.right < length job.flow.nodes)
    sources = ports-of node.role (node.left < length job.flow.nodes) (node.right < length job.flow.nodes) (sources-there job.flow.nodes order ordered o there)

    comes : (s : ℕ) (b : Bool) → (b ≡ true → s < length job.flow.nodes) → b ≡ true → unify_of (role s) (cond b (given_in job w s) []) ≡ rows_at job.flow w s
    comes s b known e = ap (λ (c : Bool). unify_of (role s) (cond c (given_in job w s) [])) e ∙ gives-all s (known e)

    -- what a partition makes is what it makes in the one pass
    made-is : (i : ℕ) → made_of job o i w (part_progress job.flow n i v o) (came_left job w o) (came_right job w o) ≡ part_passed job.flow n i w (part_progress job.flow n i v o) o
    made-is i =
        pass_part-ports n i node.role node.app_windows (input_at job.flow o) w (part_progress job.flow n i v o)
        (unify_of (role node.left) (came_left job w o)) (rows_at job.flow w node.left) (unify_of (role node.right) (came_right job w o)) (rows_at job.flow w node.right)
        (ports-by node.role _ _ (comes node.left (reads_left node.role) sources.0) (comes node.right (reads_right node.role) sources.1))

    whole-progress : IsLargeProgress (progress_after job.flow w o) → IsLargeProgress (pass_window job.flow w (progress_after job.flow v) o).progress
    unfolding progress_after
    whole-progress h = h

    whole-rows : IsLarge tuple_key (rows_at job.flow w o) → IsLarge tuple_key (pass_window job.flow w (progress_after job.flow v) o).rows
    unfolding rows_at
    whole-rows h = h

    part-rows : (i : ℕ) → (part_passed job.flow n i w (part_progress job.flow n i v o) o).rows ≡ part_rows job.flow n i w o
    unfolding part_rows
    part-rows i = refl

    rows-large : (i : ℕ) → i < n → IsLarge tuple_key (part_rows job.flow n i w o) → IsLarge tuple_key (rows_at job.flow w o)
    rows-large i within h = by (all-kept (role o) (given_in job w o))
      where
        by : (unify_of (role o) (given_in job w o) ≡ merge_bags (given_in job w o)) ⊎ ((k : ℕ) × (role o ≡ Inner (Top k))) → IsLarge tuple_key (rows_at job.flow w o)
        by (inl e) =
            let all : size (merge_bags (given_in job w o)) ≡ size (rows_at job.flow w o) = ap size (sym e ∙ gives-all o there) in
            omega (arith, h, size-part n i (λ j. part_rows job.flow n j w o) within, all)
        by (inr t) = let small : IsSmall (part_rows job.flow n i w o) = small-part job.flow short n i v o t.0 (few-best o t.0 there t.1) t.1 in absurd (omega (arith, h, small))

    wide : (b : Bool) (came : List Tuple) → IsLarge tuple_key (bag_of (before.left ++ cond b came [])) → IsLarge tuple_key (bag_of (before.left ++ came))
    wide true came h = h
    wide false came h = omega (arith, h, size-joined before.left [], size-joined before.left came)

    right-is : (r : Role) (came : List Tuple) → cond (reads_right r) came [] ≡ right_came r came
    unfolding right_came
    right-is (Input kind file per_window) came = refl
    right-is (Inner kind) came = refl
    right-is Sink came = refl

    -- so the operator names what is too large
    pub large-work : IsLargeWork job w o → IsLargePassed before (rows_at job.flow w node.left) (right_came node.role (rows_at job.flow w node.right)) (pass_window job.flow w (progress_after job.flow v) o)
    large-work large = record { is = by large.is.is }
      where
        now : w - 1 ≡ v
        now = omega arith

        by : IsLargePort (role node.left) n large.part (cut_bag n large.part (progress_after job.flow (w - 1) o).left) (came_left job w o)
            ⊎ (IsLargePort (role node.right) n large.part (cut_bag n large.part (progress_after job.flow (w - 1) o).right) (came_right job w o)
            ⊎ (IsLargeProgress (made_of job o large.part w (part_progress job.flow n large.part (w - 1) o) (came_left job w o) (came_right job w o)).progress
            ⊎ IsLarge tuple_key (made_of job o large.part w (part_progress job.flow n large.part (w - 1) o) (came_left job w o) (came_right job w o)).rows)) →
            IsLarge tuple_key (bag_of (before.left ++ rows_at job.flow w node.left))
            ⊎ (IsLarge tuple_key (bag_of (before.right ++ right_came node.role (rows_at job.flow w node.right)))
            ⊎ (IsLargeProgress (pass_window job.flow w (progress_after job.flow v) o).progress ⊎ IsLarge tuple_key (pass_window job.flow w (progress_after job.flow v) o).rows))
        by (inl h) =
            inl (wide (reads_left node.role) (rows_at job.flow w node.left)
            (port n large.part node.left (reads_left node.role) sources.0 before.left (subst (λ (u : ℕ). IsLargePort (role node.left) n large.part (cut_bag n large.part (progress_after job.flow u o).left) (came_left job w o)) now h)))
        by (inr (inl h)) =
            inr (inl (subst (λ (came : List Tuple). IsLarge tuple_key (bag_of (before.right ++ came))) (right-is node.role (rows_at job.flow w node.right))
            (port n large.part node.right (reads_right node.role) sources.1 before.right (subst (λ (u : ℕ). IsLargePort (role node.right) n large.part (cut_bag n large.part (progress_after job.flow u o).right) (came_right job w o)) now h))))
        by (inr (inr (inl h))) =
            let at : IsLargeProgress (made_of job o large.part w (part_progress job.flow n large.part v o) (came_left job w o) (came_right job w o)).progress =
            subst (λ (u : ℕ). IsLargeProgress (made_of job o large.part w (part_progress job.flow n large.part u o) (came_left job w o) (came_right job w o)).progress) now h in
            let cut : IsLargeProgress (part_progress job.flow n large.part w o) = subst (λ (p : Progress). IsLargeProgress p) (ap (λ (x : Passed). x.progress) (made-is large.part) ∙ parts-carry-on job.flow order ordered n large.part v o there) at in
            inr (inr (inl (whole-progress (size-cut-progress n large.part (progress_after job.flow w o) cut))))
        by (inr (inr (inr h))) =
            let at : IsLarge tuple_key (made_of job o large.part w (part_progress job.flow n large.part v o) (came_left job w o) (came_right job w o)).rows =
            subst (λ (u : ℕ). IsLarge tuple_key (made_of job o large.part w (part_progress job.flow n large.part u o) (came_left job w o) (came_right job w o)).rows) now h in
            let part : IsLarge tuple_key (part_rows job.flow n large.part w o) = subst (λ (bag : List Tuple). IsLarge tuple_key bag) (ap (λ (x : Passed). x.rows) (made-is large.part) ∙ part-rows large.part) at in
            inr (inr (inr (whole-rows (rows-large large.part large.there part))))

-- ---- a window of the run

module _ (job : Job) (accepted : IsJob job) (graph : IsGraph job.flow.nodes) (order : List ℕ) (ordered : IsOrder job.flow.nodes order) (short : InputsHave IsShort job.flow) where
  -- what an operator carries from a window is carried on from it
  carried-large : (v o : ℕ) → v < windows job.flow → o < length job.flow.nodes → IsLargeProgress (progress_after job.flow v o) → IsLargeDataflow job.flow
  unfolding progress_after
  carried-large zero o within there h = absurd (omega (arith, h))
  carried-large (suc u) o within there h = record { passed = u; within = omega arith; operator = o; there = there; is = record { is = inr (inr (inl h)) } }

  -- an operator is too large in a window only where the dataflow is
  pub at-window : (w o : ℕ) → 1 ≤ w → w ≤ windows job.flow → o < length job.flow.nodes → IsLargeAt job w o → IsLargeDataflow job.flow
  at-window zero o low high there h = absurd (omega arith)
  at-window (suc v) o low high there (inl h) =
      let now : suc v - 1 ≡ v = omega arith in
      carried-large v o (omega arith) there (subst (λ (u : ℕ). IsLargeProgress (progress_after job.flow u o)) now h)
  at-window (suc v) o low high there (inr h) =
      record { passed = v; within = omega arith; operator = o; there = there; is = large-work job accepted graph order ordered short v o there h }
