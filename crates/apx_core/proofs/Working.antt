-- A claim's work, from what is so of the claim.
use Rattle.std.proofs.Common.{◌≡◌, ℕ, ◌-◌, ◌<◌, ◌≤◌, inr, Bool, true, false, cond, List, [], length, Option, Some, Result, Ok, Err, IfOk, IfSome, refl, sym, ap, subst, ◌∙◌}
use Rattle.std.specs.Prelude.{unwrap_or}
use Rattle.apx_tuple.specs.declared.progress.Progress.{Progress}
use Rattle.apx_tuple.specs.declared.tuple.Tuple.{Tuple}
use Rattle.apx_tuple.specs.declared.refusal.Short.{Short}
use Rattle.apx_tuple.specs.declared.refusal.Short.TheVariants.{Large}
use Rattle.apx_tuple.specs.Progress.{progress_size}
use Rattle.apx_list.specs.declared.block.Block.{Block}
use Rattle.apx_list.specs.declared.plan.CutPlan.{CutPlan}
use Rattle.apx_pass.specs.Graph.{Role, Input, Inner, Sink, node_at}
use Rattle.apx_pass.specs.Large.{IsLargeDataflow}
use Rattle.apx_pass.specs.Pass.{windows}
use Rattle.apx_pass.specs.Job.{Job}
use Rattle.apx_job.specs.Job.{in_force}
use Rattle.apx_shares.specs.Given.{part_progress}
use Rattle.apx_part.specs.declared.window.Done.{Done}
use Rattle.apx_part.specs.Fed.{plan_in, AreWindows, given_in, IsFed, IsFedAll}
use Rattle.apx_part.specs.Made.{HasBlocks, made_of, IsMade, IsPart, IsLargePart}
use Rattle.apx_blocks.specs.Came as blocks
use Rattle.apx_blocks.specs.Came.{came_left, came_right}
use Rattle.apx_blocks.specs.Large.{IsLargeAt}
use Rattle.apx_blocks.proofs.Feeding.{ports-of}
use Rattle.apx_course.specs.Run.{Run}
use Rattle.apx_stores.specs.Caused.{IsTooLarge}
use Rattle.apx_core.specs.Claim.{Claimed, IsClaim, IsWork}
use Rattle.apx_core.specs.Ports.{reads_left, reads_right}

-- which ports an operator has
same_left : (role : Role) → blocks.reads_left role ≡ reads_left role
same_left (Input kind file per_window) = refl
same_left (Inner kind) = refl
same_left Sink = refl

same_right : (role : Role) → blocks.reads_right role ≡ reads_right role
same_right (Input kind file per_window) = refl
same_right (Inner kind) = refl
same_right Sink = refl

-- what comes on a port that is there, and nothing on another
comes : (plan : CutPlan) (w : ℕ) (b : Bool) (lists : List (List Block)) (bags : List (List Tuple)) → (b ≡ true → AreWindows plan w lists bags) → (b ≡ false → lists ≡ []) → AreWindows plan w lists (cond b bags [])
comes plan w true lists bags there none = there refl
comes plan w false lists bags there none = subst (λ (ls : List (List Block)). AreWindows plan w ls []) (sym (none refl)) tt

module _ (run : Run) (job : Job) (same : job ≡ run.job) (c : Claimed) where
  -- what a claim's work gives
  pub work_is : (is : IsClaim run c) (g : Progress) (r : Result Done Short) (s : Option Progress) (left right : List (List Block)) → c.state ≡ Some g
      → ((lefts rights : List (List Tuple)) → AreWindows (plan_in job) c.window c.left lefts → AreWindows (plan_in job) c.window c.right rights
      → IfOk r (λ done. IsMade job c.op c.window (made_of job c.op c.part c.window g lefts rights) done.state done.rows done.blocks.items))
      → (g ≡ part_progress job.flow (in_force job c.op c.window) c.part (c.window - 1) c.op → IsFedAll job c.op c.window c.left c.right
      → IfOk r (λ done. IsPart job c.op c.part c.window done.state done.rows done.blocks.items))
      → IfOk r (λ done. progress_size done.state < 4294967232)
      → IfOk r (λ done. IsWork run (record { op = c.op; part = c.part; window = c.window; worker = c.worker; state = s; left = left; right = right }) done)
  work_is is g (Ok done) s l r carries made part small =
      let left = subst (λ (j : Job). (bags : List (List Tuple)) × AreWindows (plan_in j) c.window c.left bags) (sym same) is.left_whole in
      let right = subst (λ (j : Job). (bags : List (List Tuple)) × AreWindows (plan_in j) c.window c.right bags) (sym same) is.right_whole in
      record {
        blocks = subst (λ (j : Job). HasBlocks (plan_in j) (node_at j.flow.nodes c.op).role c.window done.rows done.blocks.items) same
            (made left.0 right.0 left.1 right.1).blocks_are;
        small = small;
        part = λ t. subst (λ (j : Job). IsPart j c.op c.part c.window done.state done.rows done.blocks.items) same
            (part
            (subst (λ (j : Job). g ≡ part_progress j.flow (in_force j c.op c.window) c.part (c.window - 1) c.op) (sym same)
            (subst (λ (s : Option Progress). IfSome s (λ h. h ≡ part_progress run.job.flow (in_force run.job c.op c.window) c.part (c.window - 1) c.op)) carries (is.carried t)))
            (subst (λ (j : Job). IsFedAll j c.op c.window c.left c.right) (sym same) (is.fed t)));
      }
  work_is is g (Err short) s l r carries made part small = tt

  -- what is said of the tuples that a claim's blocks spell, of what it carries
  pub said : (P : Job → Claimed → Progress → List (List Tuple) → List (List Tuple) → Type 0) (d : Claimed) → c ≡ d → (g : Progress) → c.state ≡ Some g
      → ((lefts rights : List (List Tuple)) → AreWindows (plan_in job) c.window c.left lefts → AreWindows (plan_in job) c.window c.right rights → P job c g lefts rights)
      → (h : Progress) (lefts rights : List (List Tuple)) → d.state ≡ Some h
      → AreWindows (plan_in run.job) d.window d.left lefts → AreWindows (plan_in run.job) d.window d.right rights → P run.job d h lefts rights
  said P d e g carries by =
      subst (λ (d : Claimed). (h : Progress) (lefts rights : List (List Tuple)) → d.state ≡ Some h
      → AreWindows (plan_in run.job) d.window d.left lefts → AreWindows (plan_in run.job) d.window d.right rights → P run.job d h lefts rights) e
      (λ h lefts rights state left right.
      let same_state : g ≡ h = ap (λ (s : Option Progress). unwrap_or s g) (sym carries ∙ state) in
      subst (λ (x : Progress). P run.job c x lefts rights) same_state
      (subst (λ (j : Job). AreWindows (plan_in j) c.window c.left lefts → AreWindows (plan_in j) c.window c.right rights → P j c g lefts rights) same (by lefts rights) left right))

  -- where the checkpoint store and the spools tell, a claim's work is too large only where the dataflow is
  pub large_here : (is : IsClaim run c) (g : Progress) (r : Result Done Short) → c.state ≡ Some g
      → ((lefts rights : List (List Tuple)) → AreWindows (plan_in job) c.window c.left lefts → AreWindows (plan_in job) c.window c.right rights
      → r ≡ Err Large → IsLargePart job c.op c.part c.window g lefts rights)
      → ((w o : ℕ) → 1 ≤ w → w ≤ windows job.flow → o < length job.flow.nodes → IsLargeAt job w o → IsLargeDataflow job.flow)
      → r ≡ Err Large → IsTooLarge run.job.flow run.told
  large_here is g r carries large law refused t =
      let o = c.op in
      let w = c.window in
      let node = node_at run.job.flow.nodes o in
      let fed = ports-of node.role (IsFed run.job w c.left node.left) (IsFed run.job w c.right node.right) (is.fed t) in
      let left = comes (plan_in run.job) w (blocks.reads_left node.role) c.left (given_in run.job w node.left) fed.0 (λ e. is.left_none (sym (same_left node.role) ∙ e)) in
      let right = comes (plan_in run.job) w (blocks.reads_right node.role) c.right (given_in run.job w node.right) fed.1 (λ e. is.right_none (sym (same_right node.role) ∙ e)) in
      let lefts = came_left run.job w o in
      let rights = came_right run.job w o in
      let it : IsLargePart run.job o c.part w g lefts rights =
      subst (λ (j : Job). (xs ys : List (List Tuple)) → AreWindows (plan_in j) w c.left xs → AreWindows (plan_in j) w c.right ys → r ≡ Err Large → IsLargePart j o c.part w g xs ys) same large lefts rights left right refused in
      let carried = part_progress run.job.flow (in_force run.job o w) c.part (w - 1) o in
      let state : g ≡ carried = subst (λ (s : Option Progress). IfSome s (λ h. h ≡ carried)) carries (is.carried t) in
      subst (λ (j : Job). (v p : ℕ) → 1 ≤ v → v ≤ windows j.flow → p < length j.flow.nodes → IsLargeAt j v p → IsLargeDataflow j.flow) same law w o is.low is.high is.there
      (inr (record { part = c.part; there = is.in_epoch; is = subst (λ (x : Progress). IsLargePart run.job o c.part w x lefts rights) state it }))
