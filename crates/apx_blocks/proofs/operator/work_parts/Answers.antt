use Rattle.std.proofs.Common.{◌≡◌, ℕ, ◌+◌, ◌-◌, [], ◌∷◌, ◌++◌, length, map, refl, sym, ap, subst, ◌∙◌, inr, arith, rules, length-append}
use Rattle.std.specs.Prelude.{Err}
use Rattle.std.proofs.lemmas.Iterator.Adapters.{YieldsList-from_vec}
use Rattle.std.proofs.lemmas.Iterator.Consumers.{YieldsList-turn, YieldsList-end}
use Rattle.apx_job.specs.Job.{in_force}
use Rattle.apx_part.specs.Fed.{plan_in, AreWindows}
use Rattle.apx_part.specs.Made.{IsLargePart}
use Rattle.apx_pass.specs.Graph.{node_at}
use Rattle.apx_rules.specs.Parts.{of_parts}
use Rattle.apx_shares.specs.Given.{part_progress, part_rows}
use Rattle.apx_tuple.specs.declared.progress.Progress.{Progress}
use Rattle.apx_tuple.specs.declared.refusal.Short.{Short}
use Rattle.apx_blocks.specs.Came.{came_left, came_right}
use Rattle.apx_blocks.proofs.Feeding.{fed-all}
use Rattle.apx_blocks.proofs.Cutting.{after-is}
use Rattle.apx_blocks.proofs.Working.{parts-more, part-at, parts-all, lists-more, sends}
use Rattle.apx_blocks.proofs.operator.work_parts.Goals as goal

pub loop-before-preserved : goal.loop-before-preserved
loop-before-preserved c =
    let job = c.args.job.now in
    let o = c.args.op in
    let w = c.args.window in
    let n = in_force job o w in
    let i = c.loop-before.part in
    let len : c.into_iter-before-iterator.result.rest.len ≡ length c.args.parts.items = search rules in
    let road = YieldsList-from_vec c.args.parts.items (c.into_iter-before-iterator.ensures.into_iter_gives.0) len in
    let t = YieldsList-turn road c.loop-before.yielded _ c.loop-before.yielded_by _ c.next.new.self c.in-Some.before c.in-Some.is c.next.ensures.steps in
    let at = part-at (λ (k : ℕ). part_progress job.flow n k (w - 1) o) n i (length c.loop-before.yielded) c.args.parts.items _ c.in-Some.before c.loop-before.invariant.part c.requires.parts t.0 t.1 in
    let is = c.in_ok-done.ensures.part at.1 (fed-all job w o _ _ c.requires.left c.requires.right) in
    let more : length (c.loop-before.yielded ++ c.in-Some.before ∷ []) ≡ length c.loop-before.yielded + 1 = omega (arith, length-append c.loop-before.yielded (c.in-Some.before ∷ [])) in
    record {
      part = omega (arith, more, c.loop-before.invariant.part);
      carried = parts-more (λ (k : ℕ). part_progress job.flow n k w o) i (i + 1) c.in_ok-done.done.state c.loop-before.carried.items _ refl c.loop-before.invariant.carried is.progress_is c.in_ok-push.ensures.items;
      lists = λ e. lists-more (plan_in job) w (λ (k : ℕ). part_rows job.flow n k w o) i c.loop-before.lists.items _ c.in_ok-done.done.blocks c.in_ok-done.done.rows (c.loop-before.invariant.lists e) is.rows_are
          (sends job (node_at job.flow.nodes o).role w _ _ is.blocks_are e) c.in_ok-push-2.ensures.items;
      rows = λ e _. is.whole e;
    }

pub work_window_of-requires-clause-part : goal.work_window_of-requires-clause-part
work_window_of-requires-clause-part c =
    let job = c.args.job.now in
    let o = c.args.op in
    let w = c.args.window in
    let n = in_force job o w in
    let i = c.loop-before.part in
    let len : c.into_iter-before-iterator.result.rest.len ≡ length c.args.parts.items = search rules in
    let road = YieldsList-from_vec c.args.parts.items (c.into_iter-before-iterator.ensures.into_iter_gives.0) len in
    let t = YieldsList-turn road c.loop-before.yielded _ c.loop-before.yielded_by _ c.next.new.self c.in-Some.before c.in-Some.is c.next.ensures.steps in
    let at = part-at (λ (k : ℕ). part_progress job.flow n k (w - 1) o) n i (length c.loop-before.yielded) c.args.parts.items _ c.in-Some.before c.loop-before.invariant.part c.requires.parts t.0 t.1 in
    at.0

pub overflow_add-part : goal.overflow_add-part
overflow_add-part c =
    let job = c.args.job.now in
    let o = c.args.op in
    let w = c.args.window in
    let n = in_force job o w in
    let i = c.loop-before.part in
    let len : c.into_iter-before-iterator.result.rest.len ≡ length c.args.parts.items = search rules in
    let road = YieldsList-from_vec c.args.parts.items (c.into_iter-before-iterator.ensures.into_iter_gives.0) len in
    let t = YieldsList-turn road c.loop-before.yielded _ c.loop-before.yielded_by _ c.next.new.self c.in-Some.before c.in-Some.is c.next.ensures.steps in
    let at = part-at (λ (k : ℕ). part_progress job.flow n k (w - 1) o) n i (length c.loop-before.yielded) c.args.parts.items _ c.in-Some.before c.loop-before.invariant.part c.requires.parts t.0 t.1 in
    omega (arith, at.0, c.parts_in.ensures.force, c.parts_in.ensures.few)

pub returns-in_err-done-clause-large : goal.returns-in_err-done-clause-large
returns-in_err-done-clause-large c = λ refused.
    let job = c.args.job.now in
    let o = c.args.op in
    let w = c.args.window in
    let n = in_force job o w in
    let i = c.loop-before.part in
    let len : c.into_iter-before-iterator.result.rest.len ≡ length c.args.parts.items = search rules in
    let road = YieldsList-from_vec c.args.parts.items (c.into_iter-before-iterator.ensures.into_iter_gives.0) len in
    let t = YieldsList-turn road c.loop-before.yielded _ c.loop-before.yielded_by _ c.next.new.self c.in-Some.before c.in-Some.is c.next.ensures.steps in
    let at = part-at (λ (k : ℕ). part_progress job.flow n k (w - 1) o) n i (length c.loop-before.yielded) c.args.parts.items _ c.in-Some.before c.loop-before.invariant.part c.requires.parts t.0 t.1 in
    let q = rw refused at c.from_residual.ensures.1 in
    let is = ap (λ (e : Short). Err e) (sym q) in
    let large = c.in_err-done.ensures.large (came_left job w o) (came_right job w o) c.requires.left c.requires.right is in
    inr (record { part = i; there = at.0; is = subst (λ (g : Progress). IsLargePart job o i w g (came_left job w o) (came_right job w o)) at.1 large })

pub returns-clause-ok : goal.returns-clause-ok
returns-clause-ok c =
    let job = c.args.job.now in
    let o = c.args.op in
    let w = c.args.window in
    let n = in_force job o w in
    let len : c.into_iter-before-iterator.result.rest.len ≡ length c.args.parts.items = search rules in
    let road = YieldsList-from_vec c.args.parts.items (c.into_iter-before-iterator.ensures.into_iter_gives.0) len in
    let end = YieldsList-end road c.loop-before.yielded _ c.loop-before.yielded_by _ c.next.new.self c.in-None.is c.next.ensures.steps in
    let all : c.loop-before.part ≡ n = parts-all (λ (k : ℕ). part_progress job.flow n k (w - 1) o) n c.loop-before.part (length c.loop-before.yielded) c.args.parts.items c.loop-before.invariant.part c.requires.parts end.1 in
    record {
      parts_are = c.loop-before.invariant.carried ∙ ap (λ (k : ℕ). of_parts k (λ (j : ℕ). part_progress job.flow n j w o)) all ∙ after-is job w o c.requires.low;
      sent_are = λ e. subst (λ (k : ℕ). AreWindows (plan_in job) w (map (λ list. list.items) c.loop-before.lists.items) (of_parts k (λ (j : ℕ). part_rows job.flow n j w o))) all (c.loop-before.invariant.lists e);
      rows_are = λ e. c.loop-before.invariant.rows e (omega (arith, all, c.parts_in.ensures.force, c.parts_in.ensures.some));
    }
